-- How a place with its open calls changes by jumps, calls and returns.
use Rattle.std.proofs.Common.{◌≡◌, ℕ, zero, suc, ◌+◌, ◌-◌, ◌<◌, ◌≤◌, List, [], ◌∷◌, ◌++◌, length, refl, sym, ◌∙◌, ap, subst, arith, slice_index, get_or, drop, nat_le, true, false, ◌↔◌, inl, inr}
use Rattle.std.proofs.Math.Seq.{drop-cons}
use Rattle.std.proofs.lemmas.List.{length-map}
use Rattle.std.proofs.lemmas.Bool.{le-leb, cases_lt}
use Rattle.std.proofs.lemmas.Bool.Decides.{nat_tests}
use Rattle.paris_code.specs.declared.instr.Instr.{Instr}
use Rattle.paris_code.specs.declared.instr.Instr.TheVariants as I
use Rattle.paris_code.specs.declared.program.Image.{Image}
use Rattle.paris_code.specs.Units.{unit_of, start_of, started, starts_of, start_at, IsAt, IsInUnitOf, Path}
use Rattle.paris_code.specs.RuleTarget.{AreOrdered, AreStarts, HasUnits, KeepsTarget}
use Rattle.paris_code.specs.Sound.{KeepsRules}
use Rattle.paris_code.specs.RuleStack.{KeepsStack}
use Rattle.front_end.specs.Fit.{IsBehindCall, IsChain, IsPlace}

-- a chain of calls is the same at each place of a unit
pub chain_moved : (image : Image) (unit : ℕ) (places : List ℕ) (at to : ℕ) → IsChain image unit places at → unit_of image to ≡ unit_of image at → IsChain image unit places to
chain_moved image unit [] at to h e = e ∙ h
chain_moved image unit (place ∷ places) at to h e =
    (h.0, (h.1.0, h.1.1, chain_moved image h.1.0 places at to h.1.2 e))

pub place_moved : (image : Image) (at to : ℕ) (returns : List ℕ) → IsPlace image at returns → IsInUnitOf image to at → IsPlace image to returns
place_moved image at to returns h i = (i.0, chain_moved image 0 returns at to h.1 i.1)

-- a call makes the chain longer
pub chain_called : (image : Image) (unit : ℕ) (places : List ℕ) (at called to : ℕ) → IsChain image unit places at → IsAt image at (I.FrontCall called) → IsInUnitOf image (at + 1) at → unit_of image to ≡ called → IsChain image unit (places ++ (at + 1) ∷ []) to
chain_called image unit [] at called to h is goes e = (goes.1 ∙ h, (called, (at, refl, is, goes), e))
chain_called image unit (place ∷ places) at called to h is goes e =
    (h.0, (h.1.0, h.1.1, chain_called image h.1.0 places at called to h.1.2 is goes e))

-- a return leads to the last place
pub chain_returned : (image : Image) (unit : ℕ) (places : List ℕ) (at to : ℕ) → IsChain image unit (places ++ to ∷ []) at → IsChain image unit places to × (to < length image.code.items)
chain_returned image unit [] at to h = (h.0, h.1.1.3.0)
chain_returned image unit (place ∷ places) at to h =
    let later = chain_returned image h.1.0 places at to h.1.2 in
    ((h.0, (h.1.0, h.1.1, later.0)), later.1)

-- the open calls are a chain of calls
pub path_of_chain : (image : Image) (unit calls : ℕ) (places : List ℕ) (at : ℕ) → Path image calls 0 unit → IsChain image unit places at → Path image (calls + length places) 0 (unit_of image at)
path_of_chain image unit calls [] at p h =
    let family : ℕ → Type 0 = λ u. Path image (calls + 0) 0 u in
    let counted : ℕ → Type 0 = λ n. Path image n 0 unit in
    subst family (sym h) (subst counted (omega arith) p)
path_of_chain image unit calls (place ∷ places) at p h =
    let behind = h.1.1 in
    let family : ℕ → Type 0 = λ u. Path image calls 0 u in
    let counted : ℕ → Type 0 = λ n. Path image n 0 (unit_of image at) in
    let next : Path image (suc calls) 0 h.1.0 = (behind.0, behind.2, subst family (sym h.0 ∙ behind.3.1) p) in
    subst counted (omega arith) (path_of_chain image h.1.0 (suc calls) places at next h.1.2)

started_more : (first : ℕ) (starts : List ℕ) (place : ℕ) → first ≤ place → started (first ∷ starts) place ≡ suc (started starts place)
unfolding started
started_more first starts place le = let e : nat_le first place ≡ true = le-leb first place le in rw e

started_none : (first : ℕ) (starts : List ℕ) (place : ℕ) → place < first → started (first ∷ starts) place ≡ 0
unfolding started
started_none first starts place lt = let e : nat_le first place ≡ false = grind (arith, nat_tests) in rw e

started_before : (first : ℕ) (starts : List ℕ) (end : ℕ) → AreOrdered first starts end → started starts first ≡ 0
unfolding started
started_before first [] end h = refl
started_before first (next ∷ starts) end h = started_none next starts first h.0

-- the unit at a start is that unit, and a start lies in the code
started_at : (first : ℕ) (starts : List ℕ) (end unit : ℕ) → AreOrdered first starts end → unit ≤ length starts → (started (first ∷ starts) (slice_index (first ∷ starts) unit) ≡ suc unit) × (slice_index (first ∷ starts) unit < end) × (first ≤ slice_index (first ∷ starts) unit)
started_at first [] end zero h within = (started_more first [] first (omega arith) ∙ ap suc (started_before first [] end h), h, omega arith)
started_at first (next ∷ starts) end zero h within =
    let later = started_at next starts end zero h.1 (omega arith) in
    (started_more first (next ∷ starts) first (omega arith) ∙ ap suc (started_before first (next ∷ starts) end h), omega (arith, h.0, later.1), omega arith)
started_at first [] end (suc unit) h within = absurd (omega arith)
started_at first (next ∷ starts) end (suc unit) h within =
    let later = started_at next starts end unit h.1 (omega arith) in
    let low : first ≤ slice_index (next ∷ starts) unit = omega (arith, h.0, later.2) in
    (started_more first (next ∷ starts) (slice_index (next ∷ starts) unit) low ∙ ap suc later.0, later.1, low)

unit_at_start : (starts : List ℕ) (end unit : ℕ) → AreStarts starts end → unit < length starts → (started starts (slice_index starts unit) - 1 ≡ unit) × (slice_index starts unit < end)
unit_at_start [] end unit h within = absurd h
unit_at_start (first ∷ starts) end unit h within =
    let at = started_at first starts end unit h.1 (omega arith) in
    (omega (arith, at.0), at.1)

pub start_of_unit : (image : Image) (unit : ℕ) → HasUnits image → unit < length image.units.items → (unit_of image (start_at image unit) ≡ unit) × (start_at image unit < length image.code.items)
start_of_unit image unit h within =
    unit_at_start (starts_of image) (length image.code.items) unit h (rw length-map within)

-- a return place that was popped: there was one, since the unit is not the first
pub place_returned : (image : Image) (at to : ℕ) (returns rest : List ℕ) → IsPlace image at returns → returns ≡ rest ++ to ∷ [] → IsPlace image to rest
place_returned image at to returns rest h e =
    let family : List ℕ → Type 0 = λ places. IsChain image 0 places at in
    let back = chain_returned image 0 rest at to (subst family e h.1) in
    (back.1, back.0)

-- there is room for one more call
pub room_for_call : (image : Image) (at unit : ℕ) (returns : List ℕ) → IsPlace image at returns → KeepsStack image at (I.FrontCall unit) → length returns < image.depth
room_for_call image at unit returns h keeps =
    let path = path_of_chain image 0 0 returns at refl h.1 in
    let counted : ℕ → Type 0 = λ n. Path image n 0 (unit_of image at) in
    keeps.1 (length returns) (subst counted (omega arith) path)

pub place_called : (image : Image) (at unit to : ℕ) (returns : List ℕ) → IsPlace image at returns → IsAt image at (I.FrontCall unit) → IsInUnitOf image (at + 1) at → (unit_of image to ≡ unit) × (to < length image.code.items) → IsPlace image to (returns ++ (at + 1) ∷ [])
place_called image at unit to returns h is goes start = (start.1, chain_called image 0 returns at unit to h.1 is goes start.0)

first_unit : (starts : List ℕ) (end : ℕ) → AreStarts starts end → (started starts 0 - 1 ≡ 0) × (0 < end)
first_unit [] end h = absurd h
first_unit (first ∷ starts) end h =
    let at = started_at first starts end 0 h.1 (omega arith) in
    let family : ℕ → Type 0 = λ place. started (first ∷ starts) place - 1 ≡ 0 in
    (subst family h.0 (omega (arith, at.0)), omega (arith, at.1))

-- the opening state stands in the first unit
pub place_opening : (image : Image) → HasUnits image → IsPlace image 0 []
place_opening image h = let first = first_unit (starts_of image) (length image.code.items) h in (first.1, first.0)

pub place_open : (image : Image) (returns : List ℕ) → HasUnits image → returns ≡ [] → IsPlace image 0 returns
place_open image returns h e =
    let family : List ℕ → Type 0 = λ places. IsPlace image 0 places in
    subst family (sym e) (place_opening image h)

started_empty : (place : ℕ) → started [] place ≡ 0
unfolding started
started_empty place = refl

before_end : (first : ℕ) (starts : List ℕ) (end : ℕ) → AreOrdered first starts end → first < end
before_end first [] end h = h
before_end first (next ∷ starts) end h = omega (arith, h.0, before_end next starts end h.1)

first_least : (first : ℕ) (starts : List ℕ) (end unit : ℕ) → AreOrdered first starts end → unit ≤ length starts → first ≤ slice_index (first ∷ starts) unit
first_least first starts end zero h within = omega arith
first_least first [] end (suc unit) h within = absurd (omega arith)
first_least first (next ∷ starts) end (suc unit) h within = omega (arith, h.0, first_least next starts end unit h.1 (omega arith))

-- from the start of the unit to the next one, or to the end of the code
abbrev pub IsBetween : List ℕ → ℕ → ℕ → ℕ → Type 0
IsBetween starts unit end place = (slice_index starts unit ≤ place) × (place < get_or starts (suc unit) end)

-- the unit has so many starts before the place, behind the first
abbrev IsCounted : List ℕ → ℕ → ℕ → ℕ → Type 0
IsCounted starts unit end place = (place < end) × (started starts place ≡ unit)

counted : (first : ℕ) (starts : List ℕ) (end unit place : ℕ) → AreOrdered first starts end → unit ≤ length starts → first ≤ place → IsCounted starts unit end place → (slice_index (first ∷ starts) unit ≤ place) × (place < get_or starts unit end)
counted first [] end zero place h within low is = (low, is.0)
counted first [] end (suc unit) place h within low is = absurd (omega arith)
counted first (next ∷ starts) end zero place h within low is = elim (cases_lt place next) [
  | inl lt ↦ (low, lt)
  | inr le ↦ absurd (omega (arith, is.1, started_more next starts place le))
]
counted first (next ∷ starts) end (suc unit) place h within low is = elim (cases_lt place next) [
  | inl lt ↦ absurd (omega (arith, is.1, started_none next starts place lt))
  | inr le ↦ counted next starts end unit place h.1 (omega arith) le (is.0, omega (arith, is.1, started_more next starts place le))
]

between : (first : ℕ) (starts : List ℕ) (end unit place : ℕ) → AreOrdered first starts end → unit ≤ length starts → slice_index (first ∷ starts) unit ≤ place → place < get_or starts unit end → IsCounted starts unit end place
between first [] end zero place h within low high = (high, started_empty place)
between first [] end (suc unit) place h within low high = absurd (omega arith)
between first (next ∷ starts) end zero place h within low high = (omega (arith, high, before_end next starts end h.1), started_none next starts place high)
between first (next ∷ starts) end (suc unit) place h within low high =
    let later = between next starts end unit place h.1 (omega arith) low high in
    let le : next ≤ place = omega (arith, low, first_least next starts end unit h.1 (omega arith)) in
    (later.0, started_more next starts place le ∙ ap suc later.1)

in_unit : (starts : List ℕ) (end unit place : ℕ) → AreStarts starts end → unit < length starts → ((place < end) × (started starts place - 1 ≡ unit)) ↔ IsBetween starts unit end place
in_unit [] end unit place h within = absurd h
in_unit (first ∷ starts) end unit place h within =
    let all : first ≤ place = omega (arith, h.0) in
    let more = started_more first starts place all in (
      λ is. counted first starts end unit place h.1 (omega arith) all (is.0, omega (arith, is.1, more)),
      λ is. (let c = between first starts end unit place h.1 (omega arith) is.0 is.1 in (c.0, omega (arith, c.1, more))),
    )

pub tells_unit : (image : Image) (unit place start end : ℕ) → HasUnits image → unit < length image.units.items → start ≡ start_at image unit → end ≡ get_or (starts_of image) (unit + 1) (length image.code.items)
    → ((start ≤ place) × (place < end)) ↔ ((place < length image.code.items) × (unit_of image place ≡ unit))
tells_unit image unit place start end h within starts ends =
    let both = in_unit (starts_of image) (length image.code.items) unit place h (rw length-map within) in
    let next : unit + 1 ≡ suc unit = omega arith in
    let last : end ≡ get_or (starts_of image) (suc unit) (length image.code.items) = ends ∙ ap (λ n. get_or (starts_of image) n (length image.code.items)) next in (
      λ is. both.1 (omega (arith, is.0, starts), omega (arith, is.1, last)),
      λ is. (omega (arith, (both.0 is).0, starts), omega (arith, (both.0 is).1, last)),
    )

-- a place behind a call is behind no other one
pub behind_call : (image : Image) (place before unit : ℕ) (instr : Instr) → before + 1 ≡ place → IsAt image before instr → KeepsRules image before instr → instr ≡ I.FrontCall unit → IsBehindCall image place unit × (unit < length image.units.items)
behind_call image place before unit instr next here keeps is =
    let at_call : IsAt image before (I.FrontCall unit) = subst (λ (i : Instr). IsAt image before i) is here in
    let target : KeepsTarget image before (I.FrontCall unit) = subst (λ (i : Instr). KeepsTarget image before i) is keeps.target in
    ((before, next, at_call, subst (λ (p : ℕ). IsInUnitOf image p before) next target.1), target.0)

call_here : (image : Image) (place before called : ℕ) → before + 1 ≡ place → IsBehindCall image place called → IsAt image before (I.FrontCall called)
call_here image place before called next behind =
    let same : behind.0 ≡ before = omega (arith, behind.1, next) in
    subst (λ (p : ℕ). IsAt image p (I.FrontCall called)) same behind.2

pub no_call : (image : Image) (place before : ℕ) (instr : Instr) → before + 1 ≡ place → IsAt image before instr → ((unit : ℕ) → instr ≡ I.FrontCall unit → ⊥) → (called : ℕ) → ¬ IsBehindCall image place called
no_call image place before instr next here other called = λ behind.
    let there : IsAt image before (I.FrontCall called) = call_here image place before called next behind in
    let same : instr ≡ I.FrontCall called = cc in
    other called same

one_call : (image : Image) (place one other : ℕ) → IsBehindCall image place one → IsBehindCall image place other → one ≡ other
one_call image place one other first second =
    let here : IsAt image second.0 (I.FrontCall one) = call_here image place second.0 one second.1 first in
    let there = second.2 in
    let same : I.FrontCall one ≡ I.FrontCall other = cc in
    cc

dropped : (places : List ℕ) (index : ℕ) → index < length places → drop index places ≡ get_or places index 0 ∷ drop (index + 1) places
dropped places index within =
    let next : suc index ≡ index + 1 = omega arith in
    drop-cons places index 0 within ∙ ap (λ n. get_or places index 0 ∷ drop n places) next

-- the first place of a chain stands in the unit and behind a call
pub chain_onward : (image : Image) (unit : ℕ) (places : List ℕ) (index at called : ℕ) → index < length places → unit_of image (get_or places index 0) ≡ unit → IsBehindCall image (get_or places index 0) called
    → IsChain image unit (drop index places) at ↔ IsChain image called (drop (index + 1) places) at
chain_onward image unit places index at called within inside behind =
    subst (λ (list : List ℕ). IsChain image unit list at ↔ IsChain image called (drop (index + 1) places) at) (sym (dropped places index within)) (
      λ chain. subst (λ (u : ℕ). IsChain image u (drop (index + 1) places) at) (one_call image (get_or places index 0) chain.1.0 called chain.1.1 behind) chain.1.2,
      λ chain. (inside, (called, behind, chain)),
    )

pub chain_first : (image : Image) (unit : ℕ) (places : List ℕ) (index at : ℕ) → index < length places → IsChain image unit (drop index places) at
    → (unit_of image (get_or places index 0) ≡ unit) × ((called : ℕ) × IsBehindCall image (get_or places index 0) called)
chain_first image unit places index at within chain =
    let first : IsChain image unit (get_or places index 0 ∷ drop (index + 1) places) at = subst (λ (list : List ℕ). IsChain image unit list at) (dropped places index within) chain in
    (first.0, (first.1.0, first.1.1))

some_start : (starts : List ℕ) (end : ℕ) → AreStarts starts end → 0 < length starts
some_start [] end h = absurd h
some_start (first ∷ starts) end h = omega arith

pub some_unit : (image : Image) → HasUnits image → 0 < length image.units.items
some_unit image h =
    let some = some_start (starts_of image) (length image.code.items) h in
    let all : length (starts_of image) ≡ length image.units.items = length-map image.units.items start_of in
    omega (arith, some, all)
