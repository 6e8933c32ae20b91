-- Each instruction that does not end the run lowers the number of those that can still be begun.
use Rattle.std.proofs.Common.{◌≡◌, ◌≢◌, ℕ, zero, suc, ◌+◌, ◌-◌, ◌*◌, ◌<◌, ◌≤◌, Bool, true, false, ◌&&◌, if◌then◌else◌, List, [], ◌∷◌, ◌++◌, length, take, slice_index, Option, Some, None, refl, sym, ◌∙◌, ap, subst, arith, inl, inr, ◌⊎◌, eqb, leb}
use Rattle.std.specs.Prelude.{◌==◌, ◌||◌, ◌^◌, not}
use Rattle.std.specs.List.{slice_get}
use Rattle.std.proofs.lemmas.Bool.{cases_lt, cases_eq, cases_Bool, le-leb, lt-leb, eq-eqb, ne_eqb, and_parts, leb-true, eqb-true}
use Rattle.std.proofs.lemmas.Bool.Decides.{nat_tests}
use Rattle.std.proofs.lemmas.List.{length-map}
use Rattle.cstar_base.specs.declared.operators.Place.{Place}
use Rattle.cstar_base.specs.declared.faults.RunFault.{RunFault}
use Rattle.cstar_base.specs.declared.faults.RunFault.TheVariants.{Index, DivZero}
use Rattle.paris_code.specs.declared.instr.Instr.{Instr}
use Rattle.paris_code.specs.declared.instr.Instr.TheVariants as I
use Rattle.paris_code.specs.declared.program.Image.{Image}
use Rattle.paris_code.specs.declared.program.Reply.{Reply}
use Rattle.paris_code.specs.declared.program.Reply.TheVariants as R
use Rattle.paris_code.specs.Code.{CodeState, Mark, End, Broken, Next, Goes, Ends, Stopped, step, begun, begun_at, applied, controlled, set_or, with_register, with_printed, onward, jumped, called, returned, checked, given, replied, stored, arguments_at}
use Rattle.paris_code.specs.Kinds.{is_parallel}
use Rattle.paris_code.specs.Meaning.{after, reply_of}
use Rattle.cstar_base.specs.Numerals.{word_text}
use Rattle.paris_code.specs.Operands.{result_of}
use Rattle.paris_code.specs.Scalar.{computed, any_register_outside}
use Rattle.paris_code.specs.Shapes.{SetShape, shapes_of, extents_at}
use Rattle.paris_code.specs.RuleBackEdge.{IsBehindTurn, IsNoTarget, GoesBackToTurn}
use Rattle.paris_code.specs.RuleTarget.{GoesOn, AreStarts, KeepsTarget}
use Rattle.paris_code.specs.Sound.{IsSound, KeepsRules}
use Rattle.paris_code.specs.Units.{unit_of, started, starts_of, start_at, IsAt, IsInUnitOf, Path}
use Rattle.front_end.specs.Fit.{IsBehindCall, IsChain, IsPlace}
use Rattle.front_end.proofs.FitLemmas.{chain_returned, start_of_unit}
use Rattle.paris_machine.specs.Bound.{is_turn, is_behind, is_ahead, one_if, count_below, most_from, most_left}

-- counts
one_if_le : (a b : Bool) → (a ≡ true → b ≡ true) → one_if a ≤ one_if b
one_if_le true true h = omega arith
one_if_le true false h = cc (h refl)
one_if_le false true h = omega arith
one_if_le false false h = omega arith

count_le : (f g : ℕ → Bool) (n : ℕ) → ((p : ℕ) → p < n → f p ≡ true → g p ≡ true) → count_below f n ≤ count_below g n
unfolding count_below
count_le f g zero h = omega arith
count_le f g (suc n) h =
    let rest : count_below f n ≤ count_below g n = count_le f g n (λ p b. h p (omega arith)) in
    let last : one_if (f n) ≤ one_if (g n) = one_if_le (f n) (g n) (h n (omega arith)) in
    omega arith

-- one that passes is lost
count_less : (f g : ℕ → Bool) (n k : ℕ) → k < n → f k ≡ false → g k ≡ true → ((p : ℕ) → p < n → f p ≡ true → g p ≡ true) → count_below f n + 1 ≤ count_below g n
unfolding count_below
count_less f g zero k b off on h = absurd (omega arith)
count_less f g (suc n) k b off on h = elim (cases_eq k n) [
  | inl e ↦
      let rest : count_below f n ≤ count_below g n = count_le f g n (λ p b. h p (omega arith)) in
      let lost : one_if (f n) ≡ 0 = ap (λ j. one_if (f j)) (sym e) ∙ ap one_if off in
      let kept : one_if (g n) ≡ 1 = ap (λ j. one_if (g j)) (sym e) ∙ ap one_if on in
      omega arith
  | inr e ↦
      let rest : count_below f n + 1 ≤ count_below g n = count_less f g n k (omega arith) off on (λ p b. h p (omega arith)) in
      let last : one_if (f n) ≤ one_if (g n) = one_if_le (f n) (g n) (h n (omega arith)) in
      omega arith
]

-- at most all pass
count_all : (f : ℕ → Bool) (n : ℕ) → count_below f n ≤ n
unfolding count_below
count_all f zero = omega arith
count_all f (suc n) =
    let rest : count_below f n ≤ n = count_all f n in
    let last : one_if (f n) ≤ 1 = one_if_le (f n) true (λ _. refl) in
    omega arith

none : ℕ → Bool
none p = false

only : ℕ → ℕ → Bool
only j p = eqb p j

count_one : (f : ℕ → Bool) (n k : ℕ) → k < n → f k ≡ true → 1 ≤ count_below f n
unfolding none
count_one f n k b on = omega (arith, count_less none f n k b refl on (λ p b e. cc))

count_two : (f : ℕ → Bool) (n j k : ℕ) → j < n → k < n → j ≢ k → f j ≡ true → f k ≡ true → 2 ≤ count_below f n
unfolding only
count_two f n j k bj bk apart fj fk =
    let one = count_one (only j) n j bj (eq-eqb j j refl) in
    let two = count_less (only j) f n k bk (ne_eqb k j (λ e. apart (sym e))) fk (λ p b e. ap f (eqb-true p j e) ∙ fj) in
    omega (arith, one, two)

-- what is behind a place
or_cases : (a b : Bool) → (a || b) ≡ true → (a ≡ true) ⊎ (b ≡ true)
or_cases true b h = inl refl
or_cases false b h = inr h

or_left : (a b : Bool) → a ≡ true → (a || b) ≡ true
or_left true b h = refl
or_left false b h = cc

or_right : (a b : Bool) → b ≡ true → (a || b) ≡ true
or_right true b h = refl
or_right false b h = h

-- a place stands at or behind x, in its unit
abbrev Behind : Image → ℕ → ℕ → Type 0
Behind image x p = (unit_of image x ≡ unit_of image p) × (x ≤ p)

-- one of a list, at which a fact holds
abbrev Some_of : (ℕ → Type 0) → List ℕ → Type 0
Some_of P [] = ⊥
Some_of P (x ∷ xs) = P x ⊎ Some_of P xs

behind_some : (image : Image) (xs : List ℕ) (p : ℕ) → is_behind image xs p ≡ true → Some_of (λ x. Behind image x p) xs
unfolding is_behind
behind_some image [] p h = cc
behind_some image (x ∷ xs) p h = elim (or_cases (eqb (unit_of image x) (unit_of image p) && leb x p) (is_behind image xs p) h) [
  | inl here ↦ let parts = and_parts (eqb (unit_of image x) (unit_of image p)) (leb x p) here in inl (eqb-true (unit_of image x) (unit_of image p) parts.0, leb-true x p parts.1)
  | inr later ↦ inr (behind_some image xs p later)
]

some_behind : (image : Image) (xs : List ℕ) (p : ℕ) → Some_of (λ x. Behind image x p) xs → is_behind image xs p ≡ true
unfolding is_behind
some_behind image [] p h = absurd h
some_behind image (x ∷ xs) p h = elim h [
  | inl here ↦ or_left (eqb (unit_of image x) (unit_of image p) && leb x p) (is_behind image xs p) (ap (λ b. b && leb x p) (eq-eqb (unit_of image x) (unit_of image p) here.0) ∙ le-leb x p here.1)
  | inr later ↦ or_right (eqb (unit_of image x) (unit_of image p) && leb x p) (is_behind image xs p) (some_behind image xs p later)
]

some_more : (P Q : ℕ → Type 0) (xs : List ℕ) → ((x : ℕ) → P x → Q x) → Some_of P xs → Some_of Q xs
some_more P Q [] f h = absurd h
some_more P Q (x ∷ xs) f h = elim h [ inl here ↦ inl (f x here) | inr later ↦ inr (some_more P Q xs f later) ]

some_front : (P : ℕ → Type 0) (xs ys : List ℕ) → Some_of P xs → Some_of P (xs ++ ys)
some_front P [] ys h = absurd h
some_front P (x ∷ xs) ys h = elim h [ inl here ↦ inl here | inr later ↦ inr (some_front P xs ys later) ]

some_back : (P : ℕ → Type 0) (xs ys : List ℕ) → Some_of P ys → Some_of P (xs ++ ys)
some_back P [] ys h = h
some_back P (x ∷ xs) ys h = inr (some_back P xs ys h)

some_split : (P : ℕ → Type 0) (xs ys : List ℕ) → Some_of P (xs ++ ys) → Some_of P xs ⊎ Some_of P ys
some_split P [] ys h = inr h
some_split P (x ∷ xs) ys h = elim h [
  | inl here ↦ inl (inl here)
  | inr later ↦ elim (some_split P xs ys later) [ inl a ↦ inl (inr a) | inr b ↦ inr b ]
]

-- a chain of calls leads from the unit of each open place, by a call, to the unit of the last place
path_from : (image : Image) (from unit calls : ℕ) (places : List ℕ) (at : ℕ) → Path image calls from unit → IsChain image unit places at → Path image (calls + length places) from (unit_of image at)
path_from image from unit calls [] at p h =
    let family : ℕ → Type 0 = λ u. Path image (calls + 0) from u in
    let counted : ℕ → Type 0 = λ n. Path image n from unit in
    subst family (sym h) (subst counted (omega arith) p)
path_from image from unit calls (place ∷ places) at p h =
    let behind = h.1.1 in
    let family : ℕ → Type 0 = λ u. Path image calls from u in
    let counted : ℕ → Type 0 = λ n. Path image n from (unit_of image at) in
    let next : Path image (suc calls) from h.1.0 = (behind.0, behind.2, subst family (sym h.0 ∙ behind.3.1) p) in
    subst counted (omega arith) (path_from image from h.1.0 (suc calls) places at next h.1.2)

-- so no open place is in the unit of the last place, since no call lies on a cycle
apart_from : (image : Image) (sound : IsSound image) (unit : ℕ) (places : List ℕ) (at : ℕ) → IsChain image unit places at → Some_of (λ x. unit_of image x ≡ unit_of image at) places → ⊥
apart_from image sound unit [] at chain h = h
apart_from image sound unit (place ∷ places) at chain h = elim h [
  | inl same ↦
      let call = chain.1.1 in
      let path : Path image (0 + length places) chain.1.0 (unit_of image at) = path_from image chain.1.0 chain.1.0 0 places at refl chain.1.2 in
      let keeps : KeepsRules image call.0 (I.FrontCall chain.1.0) = sound.each call.0 (I.FrontCall chain.1.0) call.2 in
      keeps.stack.0 (0 + length places) (subst (λ u. Path image (0 + length places) chain.1.0 u) (sym same ∙ call.3.1) path)
  | inr later ↦ apart_from image sound chain.1.0 places at chain.1.2 later
]

-- what a code's instruction is
abbrev pub is_call : Option Instr → Bool
is_call (Some (I.FrontCall unit)) = true
is_call _ = false

most_plain : (o : Option Instr) (turns all ahead : ℕ) → is_turn o ≡ false → is_call o ≡ false → most_from o turns all ahead ≡ turns * all + ahead
most_plain (Some I.FrontTurn) turns all ahead t c = cc
most_plain (Some (I.FrontCall unit)) turns all ahead t c = cc
most_plain _ turns all ahead t c = refl

-- an instruction that is no call
most_no_call : (o : Option Instr) (turns all ahead : ℕ) → is_call o ≡ false → 1 ≤ ahead → most_from o turns all ahead ≤ turns * all + ahead
most_no_call (Some I.FrontTurn) turns all ahead c h = omega arith
most_no_call (Some (I.FrontCall unit)) turns all ahead c h = cc
most_no_call _ turns all ahead c h = omega arith

most_any : (o : Option Instr) (turns all ahead : ℕ) → 1 ≤ all → ahead ≤ all → most_from o turns all ahead ≤ turns * all + all
most_any (Some I.FrontTurn) turns all ahead some h = omega arith
most_any (Some (I.FrontCall unit)) turns all ahead some h = omega arith
most_any _ turns all ahead some h = omega arith

most_some : (o : Option Instr) (turns all ahead : ℕ) → 1 ≤ all → 1 ≤ ahead → 1 ≤ most_from o turns all ahead
most_some (Some I.FrontTurn) turns all ahead a h = omega arith
most_some (Some (I.FrontCall unit)) turns all ahead a h = omega arith
most_some _ turns all ahead a h = omega arith

call_there : (o : Option Instr) → is_call o ≡ true → (unit : ℕ) × (o ≡ Some (I.FrontCall unit))
call_there (Some (I.FrontCall unit)) h = (unit, refl)
call_there _ h = cc

no_call : (o : Option Instr) → ((unit : ℕ) → o ≡ Some (I.FrontCall unit) → ⊥) → is_call o ≡ false
no_call o h = elim (cases_Bool (is_call o)) [
  | inl on ↦ absurd (h (call_there o on).0 (call_there o on).1)
  | inr off ↦ off
]

-- what is ahead of a place with its open calls
Ahead : Image → ℕ → List ℕ → ℕ → Bool
Ahead image at returns p = is_ahead image (at ∷ returns) p

left_by : (image : Image) (at : ℕ) (returns : List ℕ) (turns : ℕ) → most_left image at returns turns ≡ most_from (slice_get image.code.items at) turns (length image.code.items) (count_below (Ahead image at returns) (length image.code.items))
unfolding most_left Ahead
left_by image at returns turns = refl

ahead_some : (image : Image) (at : ℕ) (returns : List ℕ) (p : ℕ) → is_turn (slice_get image.code.items p) ≡ false → Ahead image at returns p ≡ true → Some_of (λ x. Behind image x p) (at ∷ returns)
unfolding Ahead is_ahead
ahead_some image at returns p off h = elim (or_cases (is_turn (slice_get image.code.items p)) (is_behind image (at ∷ returns) p) h) [
  | inl turn ↦ cc
  | inr behind ↦ behind_some image (at ∷ returns) p behind
]

some_ahead : (image : Image) (at : ℕ) (returns : List ℕ) (p : ℕ) → Some_of (λ x. Behind image x p) (at ∷ returns) → Ahead image at returns p ≡ true
unfolding Ahead is_ahead
some_ahead image at returns p h = or_right (is_turn (slice_get image.code.items p)) (is_behind image (at ∷ returns) p) (some_behind image (at ∷ returns) p h)

ahead_here : (image : Image) (at : ℕ) (returns : List ℕ) → Ahead image at returns at ≡ true
ahead_here image at returns = some_ahead image at returns at (inl (refl, omega arith))

ahead_turn : (image : Image) (at : ℕ) (returns : List ℕ) (p : ℕ) → IsAt image p I.FrontTurn → Ahead image at returns p ≡ true
unfolding Ahead is_ahead
ahead_turn image at returns p h = or_left (is_turn (slice_get image.code.items p)) (is_behind image (at ∷ returns) p) (ap is_turn h)

-- all that is ahead of the new place was ahead of the old one
ahead_still : (image : Image) (at to : ℕ) (returns later : List ℕ) → ((p : ℕ) → Some_of (λ x. Behind image x p) (to ∷ later) → Some_of (λ x. Behind image x p) (at ∷ returns)) → (p : ℕ) → Ahead image to later p ≡ true → Ahead image at returns p ≡ true
unfolding Ahead is_ahead
ahead_still image at to returns later sub p h = elim (or_cases (is_turn (slice_get image.code.items p)) (is_behind image (to ∷ later) p) h) [
  | inl turn ↦ or_left (is_turn (slice_get image.code.items p)) (is_behind image (at ∷ returns) p) turn
  | inr behind ↦ some_ahead image at returns p (sub p (behind_some image (to ∷ later) p behind))
]

not_ahead : (image : Image) (at : ℕ) (returns : List ℕ) (p : ℕ) → is_turn (slice_get image.code.items p) ≡ false → (Some_of (λ x. Behind image x p) (at ∷ returns) → ⊥) → Ahead image at returns p ≡ false
not_ahead image at returns p off h = elim (cases_Bool (Ahead image at returns p)) [
  | inl on ↦ absurd (h (ahead_some image at returns p off on))
  | inr none ↦ none
]

-- from a plain instruction to a later place, or back behind a call
lower : (image : Image) (at to : ℕ) (returns later : List ℕ) (turns : ℕ) → at < length image.code.items → to < length image.code.items
    → is_turn (slice_get image.code.items at) ≡ false → is_call (slice_get image.code.items at) ≡ false → is_call (slice_get image.code.items to) ≡ false
    → ((p : ℕ) → Some_of (λ x. Behind image x p) (to ∷ later) → Some_of (λ x. Behind image x p) (at ∷ returns))
    → (Some_of (λ x. Behind image x at) (to ∷ later) → ⊥)
    → most_left image to later turns + 1 ≤ most_left image at returns turns
lower image at to returns later turns b bt off plain free sub lost =
    let all : ℕ = length image.code.items in
    let old : ℕ = count_below (Ahead image at returns) all in
    let new : ℕ = count_below (Ahead image to later) all in
    let less : new + 1 ≤ old = count_less (Ahead image to later) (Ahead image at returns) all at b (not_ahead image to later at off lost) (ahead_here image at returns) (λ p _. ahead_still image at to returns later sub p) in
    let some : 1 ≤ new = count_one (Ahead image to later) all to bt (ahead_here image to later) in
    let was : most_left image at returns turns ≡ turns * all + old = left_by image at returns turns ∙ most_plain (slice_get image.code.items at) turns all old off plain in
    let is : most_left image to later turns ≤ turns * all + new = omega (arith, left_by image to later turns, most_no_call (slice_get image.code.items to) turns all new free some) in
    omega (arith, was, is, less)

-- an open call cannot be met again at or before the place where it stands
lost_here : (image : Image) (sound : IsSound image) (at : ℕ) (returns : List ℕ) → IsPlace image at returns → Some_of (λ x. Behind image x at) returns → ⊥
lost_here image sound at returns place h =
    apart_from image sound 0 returns at place.1 (some_more (λ x. Behind image x at) (λ x. unit_of image x ≡ unit_of image at) returns (λ x b. b.0) h)

pub falls_forward : (image : Image) (sound : IsSound image) (at to : ℕ) (returns : List ℕ) (turns : ℕ) → IsPlace image at returns → IsInUnitOf image to at → at < to
    → is_turn (slice_get image.code.items at) ≡ false → is_call (slice_get image.code.items at) ≡ false → is_call (slice_get image.code.items to) ≡ false
    → most_left image to returns turns + 1 ≤ most_left image at returns turns
falls_forward image sound at to returns turns place inside further off plain free =
    lower image at to returns returns turns place.0 inside.0 off plain free
    (λ p h. elim h [
      | inl here ↦ inl (sym inside.1 ∙ here.0, omega (arith, further, here.1))
      | inr older ↦ inr older
    ])
    (λ h. elim h [
      | inl here ↦ omega (arith, further, here.1)
      | inr older ↦ lost_here image sound at returns place older
    ])

-- a call stands directly behind a turn, so nothing else leads to it
behind_turn : (image : Image) (sound : IsSound image) (place unit : ℕ) → IsAt image place (I.FrontCall unit) → IsBehindTurn image place × IsNoTarget image place
behind_turn image sound place unit here = let keeps : KeepsRules image place (I.FrontCall unit) = sound.each place (I.FrontCall unit) here in keeps.back_edge

next_free : (image : Image) (sound : IsSound image) (at : ℕ) → is_turn (slice_get image.code.items at) ≡ false → is_call (slice_get image.code.items (at + 1)) ≡ false
next_free image sound at off = no_call (slice_get image.code.items (at + 1)) (λ unit here.
    let turn = (behind_turn image sound (at + 1) unit here).0 in
    let same : turn.0 ≡ at = omega (arith, turn.1) in
    let is : is_turn (slice_get image.code.items at) ≡ true = ap (λ p. is_turn (slice_get image.code.items p)) (sym same) ∙ ap is_turn turn.2 in
    cc)

target_free : (image : Image) (sound : IsSound image) (at to : ℕ) (jump : Instr) → IsAt image at jump → (IsNoTarget image to → ⊥) → is_call (slice_get image.code.items to) ≡ false
target_free image sound at to jump here aims = no_call (slice_get image.code.items to) (λ unit call. aims (behind_turn image sound to unit call).1)

-- back to a turn
pub falls_back : (image : Image) (at to : ℕ) (returns : List ℕ) (turns : ℕ) → at < length image.code.items → to < length image.code.items → IsAt image to I.FrontTurn
    → is_turn (slice_get image.code.items at) ≡ false → is_call (slice_get image.code.items at) ≡ false
    → most_left image to returns turns + 1 ≤ most_left image at returns turns
falls_back image at to returns turns b bt turn off plain =
    let all : ℕ = length image.code.items in
    let old : ℕ = count_below (Ahead image at returns) all in
    let apart : at ≢ to = λ e. (let on : is_turn (slice_get image.code.items at) ≡ true = ap (λ p. is_turn (slice_get image.code.items p)) e ∙ ap is_turn turn in cc) in
    let two : 2 ≤ old = count_two (Ahead image at returns) all at to b bt apart (ahead_here image at returns) (ahead_turn image at returns to turn) in
    let was : most_left image at returns turns ≡ turns * all + old = left_by image at returns turns ∙ most_plain (slice_get image.code.items at) turns all old off plain in
    let is : most_left image to returns turns ≡ turns * all + 1 = left_by image to returns turns ∙ ap (λ o. most_from o turns all (count_below (Ahead image to returns) all)) turn in
    omega (arith, was, is, two)

-- a turn is spent
pub falls_turn : (image : Image) (at to : ℕ) (returns : List ℕ) (turns : ℕ) → at < length image.code.items → IsAt image at I.FrontTurn → 1 ≤ turns
    → most_left image to returns (turns - 1) + 1 ≤ most_left image at returns turns
falls_turn image at to returns turns b here some =
    let all : ℕ = length image.code.items in
    let was : most_left image at returns turns ≡ turns * all + 1 = left_by image at returns turns ∙ ap (λ o. most_from o turns all (count_below (Ahead image at returns) all)) here in
    let is : most_left image to returns (turns - 1) ≤ (turns - 1) * all + all = omega (arith, left_by image to returns (turns - 1), most_any (slice_get image.code.items to) (turns - 1) all (count_below (Ahead image to returns) all) (omega arith) (count_all (Ahead image to returns) all)) in
    let one : (turns - 1) * all + all ≡ turns * all = spent turns all some in
    omega (arith, was, is, one)
  where
    spent : (turns all : ℕ) → 1 ≤ turns → (turns - 1) * all + all ≡ turns * all
    spent zero all h = absurd (omega arith)
    spent (suc t) all h = let e : suc t - 1 ≡ t = omega arith in ap (λ n. n * all + all) e ∙ grind arith

-- a unit's start is directly behind no place of its unit
started_below : (starts : List ℕ) (place unit : ℕ) → place < slice_index starts unit → unit < length starts → started starts place ≤ unit
unfolding started
started_below [] place unit below within = absurd (omega arith)
started_below (first ∷ starts) place zero below within = let off : leb first place ≡ false = lt-leb first place below in rw off (omega arith)
started_below (first ∷ starts) place (suc unit) below within = elim (cases_Bool (leb first place)) [
  | inl on ↦ let rest : started starts place ≤ unit = started_below starts place unit below (omega arith) in rw on (omega arith)
  | inr off ↦ rw off (omega arith)
]

start_zero : (starts : List ℕ) (end : ℕ) → AreStarts starts end → slice_index starts 0 ≡ 0
start_zero [] end h = absurd h
start_zero (first ∷ starts) end h = h.0

start_free : (image : Image) (sound : IsSound image) (unit : ℕ) → unit < length image.units.items → is_call (slice_get image.code.items (start_at image unit)) ≡ false
start_free image sound unit within = no_call (slice_get image.code.items (start_at image unit)) (λ other here.
    let turn = (behind_turn image sound (start_at image unit) other here).0 in
    let count : unit < length (starts_of image) = rw length-map within in
    let below : started (starts_of image) turn.0 ≤ unit = started_below (starts_of image) turn.0 unit (omega (arith, turn.1)) count in
    let there : unit_of image (start_at image unit) ≡ unit = (start_of_unit image unit sound.units within).0 in
    let same : started (starts_of image) turn.0 - 1 ≡ unit = turn.3 ∙ there in
    let first : slice_index (starts_of image) 0 ≡ 0 = start_zero (starts_of image) (length image.code.items) sound.units in
    let zeroth : unit ≡ 0 = omega (arith, below, same) in
    let low : start_at image unit ≡ 0 = ap (λ u. start_at image u) zeroth ∙ first in
    omega (arith, low, turn.1))

count_always : (n : ℕ) → count_below (λ p. true) n ≡ n
unfolding count_below
count_always zero = refl
count_always (suc n) = let rest : count_below (λ p. true) n ≡ n = count_always n in omega arith

-- a call leads into a unit in which nothing is open
pub falls_call : (image : Image) (sound : IsSound image) (at unit : ℕ) (returns : List ℕ) (turns : ℕ) → IsPlace image at returns → IsAt image at (I.FrontCall unit)
    → most_left image (start_at image unit) (returns ++ (at + 1) ∷ []) turns + 1 ≤ most_left image at returns turns
falls_call image sound at unit returns turns place here =
    let all : ℕ = length image.code.items in
    let to : ℕ = start_at image unit in
    let later : List ℕ = returns ++ (at + 1) ∷ [] in
    let keeps : KeepsRules image at (I.FrontCall unit) = sound.each at (I.FrontCall unit) here in
    let start = start_of_unit image unit sound.units keeps.target.0 in
    let new : ℕ = count_below (Ahead image to later) all in
    let lost : Some_of (λ x. Behind image x at) (to ∷ later) → ⊥ = λ h. elim h [
      | inl begins ↦ keeps.stack.0 0 (sym start.0 ∙ begins.0)
      | inr held ↦ elim (some_split (λ x. Behind image x at) returns ((at + 1) ∷ []) held) [
        | inl older ↦ lost_here image sound at returns place older
        | inr newest ↦ elim newest [ inl behind ↦ omega (arith, behind.1) | inr nothing ↦ nothing ]
      ]
    ] in
    let off : is_turn (slice_get image.code.items at) ≡ false = ap is_turn here in
    let less : new + 1 ≤ count_below (λ p. true) all = count_less (Ahead image to later) (λ p. true) all at place.0 (not_ahead image to later at off lost) refl (λ p _ _. refl) in
    let some : 1 ≤ new = count_one (Ahead image to later) all to start.1 (ahead_here image to later) in
    let was : most_left image at returns turns ≡ turns * all + all = left_by image at returns turns ∙ ap (λ o. most_from o turns all (count_below (Ahead image at returns) all)) here in
    let is : most_left image to later turns ≤ turns * all + new = omega (arith, left_by image to later turns, most_no_call (slice_get image.code.items to) turns all new (start_free image sound unit keeps.target.0) some) in
    omega (arith, was, is, less, count_always all)

-- the last open place stands behind a call
last_call : (image : Image) (unit : ℕ) (places : List ℕ) (at to : ℕ) → IsChain image unit (places ++ to ∷ []) at → (called : ℕ) × IsBehindCall image to called
last_call image unit [] at to h = (h.1.0, h.1.1)
last_call image unit (place ∷ places) at to h = last_call image h.1.0 places at to h.1.2

pub falls_return : (image : Image) (sound : IsSound image) (at to : ℕ) (returns rest : List ℕ) (turns : ℕ) → IsPlace image at returns → IsAt image at I.FrontReturn → returns ≡ rest ++ to ∷ []
    → most_left image to rest turns + 1 ≤ most_left image at returns turns
falls_return image sound at to returns rest turns place here split =
    let chain : IsChain image 0 (rest ++ to ∷ []) at = subst (λ (places : List ℕ). IsChain image 0 places at) split place.1 in
    let call = (last_call image 0 rest at to chain).1 in
    let inside : to < length image.code.items = (chain_returned image 0 rest at to chain).1 in
    let free : is_call (slice_get image.code.items to) ≡ false = no_call (slice_get image.code.items to) (λ unit there.
    let turn = (behind_turn image sound to unit there).0 in
    let same : turn.0 ≡ call.0 = omega (arith, turn.1, call.1) in
    let one : slice_get image.code.items call.0 ≡ Some I.FrontTurn = ap (λ p. slice_get image.code.items p) (sym same) ∙ turn.2 in
    let other : slice_get image.code.items call.0 ≡ Some (I.FrontCall (last_call image 0 rest at to chain).0) = call.2 in
    let clash : is_turn (Some I.FrontTurn) ≡ is_turn (Some (I.FrontCall (last_call image 0 rest at to chain).0)) = ap is_turn (sym one ∙ other) in
    cc) in
    let moved : (P : ℕ → Type 0) → Some_of P (to ∷ rest) → Some_of P returns = λ P h. subst (λ (places : List ℕ). Some_of P places) (sym split) (elim h [
      | inl last ↦ some_back P rest (to ∷ []) (inl last)
      | inr older ↦ some_front P rest (to ∷ []) older
    ]) in
    lower image at to returns rest turns place.0 inside (ap is_turn here) (ap is_call here) free
    (λ p h. inr (moved (λ x. Behind image x p) h))
    (λ h. lost_here image sound at returns place (moved (λ x. Behind image x at) h))

-- What one instruction of the code does to the place, the open calls and the turns.
pub record Onward (s t : CodeState) : Type 0 where
  pub at : t.at ≡ s.at + 1
  pub returns : t.returns ≡ s.returns
  pub turns : t.turns ≡ s.turns

-- an instruction that leads on to the next one
abbrev pub is_steady : Instr → Bool
is_steady (I.FrontJump target) = false
is_steady (I.FrontJumpZero x target) = false
is_steady (I.FrontJumpNonzero x target) = false
is_steady I.FrontTurn = false
is_steady (I.FrontCall unit) = false
is_steady I.FrontReturn = false
is_steady _ = true

goes_same : (u t : CodeState) → Goes u ≡ Goes t → u ≡ t
goes_same u t e = cc

onward_if : (s u t : CodeState) → u.at ≡ s.at + 1 → u.returns ≡ s.returns → u.turns ≡ s.turns → Goes u ≡ Goes t → Onward s t
onward_if s u t at returns turns e =
    let same : u ≡ t = goes_same u t e in
    record { at = sym (ap (λ (x : CodeState). x.at) same) ∙ at; returns = sym (ap (λ (x : CodeState). x.returns) same) ∙ returns; turns = sym (ap (λ (x : CodeState). x.turns) same) ∙ turns }

replied_onward : (instr : Instr) (s u t : CodeState) (reply : Reply) → u.at ≡ s.at + 1 → u.returns ≡ s.returns → u.turns ≡ s.turns → replied instr u reply ≡ Goes t → Onward s t
replied_onward instr s u t R.Nothing at returns turns e = onward_if s u t at returns turns e
replied_onward instr s u t (R.Value v) at returns turns e = onward_if s (record u { registers = stored (result_of instr) v u.registers }) t at returns turns e
replied_onward instr s u t (R.Bad position) at returns turns e = cc
replied_onward instr s u t R.Memory at returns turns e = cc

applied_onward : (shapes : List SetShape) (instr : Instr) (s t : CodeState) → applied shapes instr s ≡ Goes t → Onward s t
unfolding applied
applied_onward shapes instr s t e =
    replied_onward instr s (record s { at = s.at + 1; memory = after shapes instr (arguments_at instr s.registers) s.memory }) t (reply_of shapes instr (arguments_at instr s.registers) s.memory) refl refl refl e

checked_onward : (fails : Bool) (fault : RunFault) (place : Place) (s t : CodeState) → checked fails fault place s ≡ Goes t → Onward s t
checked_onward true fault place s t e = cc
checked_onward false fault place s t e = onward_if s (onward s) t refl refl refl e

given_onward : (r : ℕ) (s t : CodeState) (bytes : List ℕ) (mark : Mark) → given r s bytes mark ≡ Goes t → Onward s t
given_onward r s t (byte ∷ bytes) mark e = onward_if s (record (with_register r byte s) { input = record { bytes = bytes; mark = mark } }) t refl refl refl e
given_onward r s t [] End e = onward_if s (with_register r (2 ^ 32 - 1) s) t refl refl refl e
given_onward r s t [] Broken e = cc

controlled_onward : (image : Image) (instr : Instr) (s t : CodeState) → is_steady instr ≡ true → controlled image instr s ≡ Goes t → Onward s t
controlled_onward image (I.FrontCheckTarget set place coordinates) s t h e = checked_onward (any_register_outside (extents_at (shapes_of image) set) coordinates.items s.registers) Index place s t e
controlled_onward image (I.FrontCheckDivisor place x) s t h e = checked_onward (slice_index s.registers x == 0) DivZero place s t e
controlled_onward image (I.FrontPutBytes bytes) s t h e = onward_if s (with_printed bytes s) t refl refl refl e
controlled_onward image (I.FrontPut format x) s t h e = onward_if s (with_printed (word_text format (slice_index s.registers x)) s) t refl refl refl e
controlled_onward image (I.FrontGetByte r) s t h e = given_onward r s t s.input.bytes s.input.mark e
controlled_onward image (I.FrontJump target) s t h e = cc
controlled_onward image (I.FrontJumpZero x target) s t h e = cc
controlled_onward image (I.FrontJumpNonzero x target) s t h e = cc
controlled_onward image I.FrontTurn s t h e = cc
controlled_onward image (I.FrontCall unit) s t h e = cc
controlled_onward image I.FrontReturn s t h e = cc
controlled_onward image _ s t h e = cc

set_onward : (set : Option (ℕ × ℕ)) (s t : CodeState) (other : Next) → set_or set s other ≡ Goes t → (other ≡ Goes t → Onward s t) → Onward s t
set_onward None s t other e f = f e
set_onward (Some set) s t other e f = onward_if s (with_register set.0 set.1 s) t refl refl refl e

begun_onward : (image : Image) (instr : Instr) (s t : CodeState) → is_steady instr ≡ true → begun image instr s ≡ Goes t → Onward s t
unfolding begun
begun_onward image instr s t steady e = elim (cases_Bool (is_parallel instr)) [
  | inl on ↦ applied_onward (shapes_of image) instr s t (sym (ap (λ b. if b then applied (shapes_of image) instr s else set_or (computed (shapes_of image) instr s.registers) s (controlled image instr s)) on) ∙ e)
  | inr off ↦ set_onward (computed (shapes_of image) instr s.registers) s t (controlled image instr s) (sym (ap (λ b. if b then applied (shapes_of image) instr s else set_or (computed (shapes_of image) instr s.registers) s (controlled image instr s)) off) ∙ e) (controlled_onward image instr s t steady)
]

-- the number that is left, by the state
abbrev pub left_at : Image → CodeState → ℕ
left_at image s = most_left image s.at s.returns s.turns

steady_plain : (instr : Instr) → is_steady instr ≡ true → (is_turn (Some instr) ≡ false) × (is_call (Some instr) ≡ false)
steady_plain (I.FrontJump target) h = cc
steady_plain (I.FrontJumpZero x target) h = cc
steady_plain (I.FrontJumpNonzero x target) h = cc
steady_plain I.FrontTurn h = cc
steady_plain (I.FrontCall unit) h = cc
steady_plain I.FrontReturn h = cc
steady_plain _ h = (refl, refl)

falls_steady : (image : Image) (sound : IsSound image) (s t : CodeState) (instr : Instr) → IsPlace image s.at s.returns → IsAt image s.at instr → is_steady instr ≡ true → GoesOn image s.at → begun image instr s ≡ Goes t → left_at image t + 1 ≤ left_at image s
falls_steady image sound s t instr place here steady goes e =
    let on : Onward s t = begun_onward image instr s t steady e in
    let plain = steady_plain instr steady in
    let off : is_turn (slice_get image.code.items s.at) ≡ false = ap is_turn here ∙ plain.0 in
    let lower : most_left image (s.at + 1) s.returns s.turns + 1 ≤ left_at image s = falls_forward image sound s.at (s.at + 1) s.returns s.turns place goes (omega arith) off (ap is_call here ∙ plain.1) (next_free image sound s.at off) in
    let same : left_at image t ≡ most_left image (s.at + 1) s.returns s.turns = ap (λ at. most_left image at t.returns t.turns) on.at ∙ ap (λ returns. most_left image (s.at + 1) returns t.turns) on.returns ∙ ap (λ turns. most_left image (s.at + 1) s.returns turns) on.turns in
    omega (arith, lower, same)

-- a jump, taken or not
falls_jump : (image : Image) (sound : IsSound image) (s t : CodeState) (jump : Instr) (taken : Bool) (target : ℕ) → IsPlace image s.at s.returns → IsAt image s.at jump
    → is_turn (Some jump) ≡ false → is_call (Some jump) ≡ false → IsInUnitOf image target s.at → (taken ≡ false → GoesOn image s.at) → GoesBackToTurn image s.at target → (IsNoTarget image target → ⊥)
    → Goes (jumped taken target s) ≡ Goes t → left_at image t + 1 ≤ left_at image s
falls_jump image sound s t jump true target place here turn call inside goes back aims e =
    let same : left_at image t ≡ most_left image target s.returns s.turns = sym (ap (λ (x : CodeState). left_at image x) (goes_same (jumped true target s) t e)) in
    let off : is_turn (slice_get image.code.items s.at) ≡ false = ap is_turn here ∙ turn in
    let plain : is_call (slice_get image.code.items s.at) ≡ false = ap is_call here ∙ call in
    elim (cases_lt s.at target) [
      | inl further ↦ omega (arith, same, falls_forward image sound s.at target s.returns s.turns place inside further off plain (target_free image sound s.at target jump here aims))
      | inr behind ↦ omega (arith, same, falls_back image s.at target s.returns s.turns place.0 inside.0 (back behind) off plain)
    ]
falls_jump image sound s t jump false target place here turn call inside goes back aims e =
    let same : left_at image t ≡ most_left image (s.at + 1) s.returns s.turns = sym (ap (λ (x : CodeState). left_at image x) (goes_same (jumped false target s) t e)) in
    let off : is_turn (slice_get image.code.items s.at) ≡ false = ap is_turn here ∙ turn in
    let plain : is_call (slice_get image.code.items s.at) ≡ false = ap is_call here ∙ call in
    omega (arith, same, falls_forward image sound s.at (s.at + 1) s.returns s.turns place (goes refl) (omega arith) off plain (next_free image sound s.at off))

turned_falls : (image : Image) (s t : CodeState) (none : Bool) → s.turns == 0 ≡ none → IsPlace image s.at s.returns → IsAt image s.at I.FrontTurn → (if none then Ends Stopped s else Goes (record s { at = s.at + 1; turns = s.turns - 1 })) ≡ Goes t → left_at image t + 1 ≤ left_at image s
turned_falls image s t true is place here e = cc
turned_falls image s t false is place here e =
    let same : left_at image t ≡ most_left image (s.at + 1) s.returns (s.turns - 1) = sym (ap (λ (x : CodeState). left_at image x) (goes_same (record s { at = s.at + 1; turns = s.turns - 1 }) t e)) in
    let some : 1 ≤ s.turns = grind (arith, nat_tests) in
    omega (arith, same, falls_turn image s.at (s.at + 1) s.returns s.turns place.0 here some)

-- a list that is not empty is all but the last, and the last
split_at : (x : ℕ) (xs : List ℕ) → x ∷ xs ≡ take (length xs) (x ∷ xs) ++ slice_index (x ∷ xs) (length xs) ∷ []
split_at x [] = refl
split_at x (y ∷ ys) = ap (λ (l : List ℕ). x ∷ l) (split_at y ys)

last_split : (xs : List ℕ) → 1 ≤ length xs → xs ≡ take (length xs - 1) xs ++ slice_index xs (length xs - 1) ∷ []
last_split [] h = absurd (omega arith)
last_split (x ∷ xs) h =
    let count : length xs ≡ length (x ∷ xs) - 1 = omega arith in
    subst (λ (n : ℕ). x ∷ xs ≡ take n (x ∷ xs) ++ slice_index (x ∷ xs) n ∷ []) count (split_at x xs)

returns_some : (image : Image) (at : ℕ) (returns : List ℕ) → IsPlace image at returns → unit_of image at ≢ 0 → 1 ≤ length returns
returns_some image at [] place inner = absurd (inner place.1)
returns_some image at (x ∷ xs) place inner = omega arith

falls_at : (image : Image) (sound : IsSound image) (s t : CodeState) (instr : Instr) → IsPlace image s.at s.returns → IsAt image s.at instr → KeepsRules image s.at instr → begun image instr s ≡ Goes t → left_at image t + 1 ≤ left_at image s
unfolding begun
falls_at image sound s t (I.FrontJump target) place here keeps e =
    falls_jump image sound s t (I.FrontJump target) true target place here refl refl keeps.target (λ h. cc) keeps.back_edge (λ free. free s.at (I.FrontJump target) here refl) e
falls_at image sound s t (I.FrontJumpZero x target) place here keeps e =
    falls_jump image sound s t (I.FrontJumpZero x target) (slice_index s.registers x == 0) target place here refl refl keeps.target.0 (λ h. keeps.target.1) keeps.back_edge (λ free. free s.at (I.FrontJumpZero x target) here refl) e
falls_at image sound s t (I.FrontJumpNonzero x target) place here keeps e =
    falls_jump image sound s t (I.FrontJumpNonzero x target) (not (slice_index s.registers x == 0)) target place here refl refl keeps.target.0 (λ h. keeps.target.1) keeps.back_edge (λ free. free s.at (I.FrontJumpNonzero x target) here refl) e
falls_at image sound s t I.FrontTurn place here keeps e = turned_falls image s t (s.turns == 0) refl place here e
falls_at image sound s t (I.FrontCall unit) place here keeps e =
    omega (arith, sym (ap (λ (x : CodeState). left_at image x) (goes_same (called image unit s) t e)), falls_call image sound s.at unit s.returns s.turns place here)
falls_at image sound s t I.FrontReturn place here keeps e =
    let split = last_split s.returns (returns_some image s.at s.returns place keeps.target) in
    omega (arith, sym (ap (λ (x : CodeState). left_at image x) (goes_same (returned s) t e)), falls_return image sound s.at (slice_index s.returns (length s.returns - 1)) s.returns (take (length s.returns - 1) s.returns) s.turns place here split)
falls_at image sound s t I.FrontHalt place here keeps e = cc
falls_at image sound s t instr place here keeps e = falls_steady image sound s t instr place here refl keeps.target e

-- an instruction stands at each place of the code
there_is : (xs : List Instr) (k : ℕ) → k < length xs → (x : Instr) × (slice_get xs k ≡ Some x)
there_is [] k b = absurd (omega arith)
there_is (x ∷ xs) zero b = (x, refl)
there_is (x ∷ xs) (suc k) b = there_is xs k (omega arith)

instr_there : (image : Image) (at : ℕ) → at < length image.code.items → (instr : Instr) × IsAt image at instr
instr_there image at b = there_is image.code.items at b

-- each instruction of the code that does not end the run lowers the number of those that are left
pub falls : (image : Image) (sound : IsSound image) (s t : CodeState) → IsPlace image s.at s.returns → step image s ≡ Goes t → left_at image t + 1 ≤ left_at image s
unfolding step
falls image sound s t place e =
    let here = instr_there image s.at place.0 in
    falls_at image sound s t here.0 place here.1 (sound.each s.at here.0 here.1) (sym (ap (begun_at image s) here.1) ∙ e)

-- one more can be begun always, and never more than the turns allow
pub some_left : (image : Image) (at : ℕ) (returns : List ℕ) (turns : ℕ) → at < length image.code.items → 1 ≤ most_left image at returns turns
some_left image at returns turns b =
    omega (arith, left_by image at returns turns, most_some (slice_get image.code.items at) turns (length image.code.items) (count_below (Ahead image at returns) (length image.code.items)) (omega arith) (count_one (Ahead image at returns) (length image.code.items) at b (ahead_here image at returns)))

pub left_most : (image : Image) (at : ℕ) (returns : List ℕ) (turns : ℕ) → at < length image.code.items → most_left image at returns turns ≤ (turns + 1) * length image.code.items
left_most image at returns turns b =
    omega (arith, left_by image at returns turns, most_any (slice_get image.code.items at) turns (length image.code.items) (count_below (Ahead image at returns) (length image.code.items)) (omega arith) (count_all (Ahead image at returns) (length image.code.items)))

parallel_steady : (instr : Instr) → is_parallel instr ≡ true → is_steady instr ≡ true
parallel_steady (I.FrontJump target) h = cc
parallel_steady (I.FrontJumpZero x target) h = cc
parallel_steady (I.FrontJumpNonzero x target) h = cc
parallel_steady I.FrontTurn h = cc
parallel_steady (I.FrontCall unit) h = cc
parallel_steady I.FrontReturn h = cc
parallel_steady _ h = refl

parallel_goes : (image : Image) (place : ℕ) (instr : Instr) → is_parallel instr ≡ true → KeepsTarget image place instr → GoesOn image place
parallel_goes image place (I.FrontJump target) h k = cc
parallel_goes image place (I.FrontJumpZero x target) h k = cc
parallel_goes image place (I.FrontJumpNonzero x target) h k = cc
parallel_goes image place (I.FrontCall unit) h k = cc
parallel_goes image place I.FrontReturn h k = cc
parallel_goes image place I.FrontHalt h k = cc
parallel_goes image place _ h k = k

pub falls_parallel : (image : Image) (sound : IsSound image) (at : ℕ) (returns : List ℕ) (turns : ℕ) (instr : Instr) → IsPlace image at returns → IsAt image at instr → is_parallel instr ≡ true
    → most_left image (at + 1) returns turns + 1 ≤ most_left image at returns turns
falls_parallel image sound at returns turns instr place here parallel =
    let plain = steady_plain instr (parallel_steady instr parallel) in
    let off : is_turn (slice_get image.code.items at) ≡ false = ap is_turn here ∙ plain.0 in
    let keeps : KeepsRules image at instr = sound.each at instr here in
    falls_forward image sound at (at + 1) returns turns place (parallel_goes image at instr parallel keeps.target) (omega arith) off (ap is_call here ∙ plain.1) (next_free image sound at off)
