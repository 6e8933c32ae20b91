-- A run of the code that stopped goes on from there as with more turns from the start.
use Rattle.std.proofs.Common.{◌≡◌, ℕ, zero, suc, ◌+◌, ◌-◌, ◌<◌, Bool, true, false, if◌then◌else◌, List, [], ◌∷◌, ◌++◌, Option, Some, None, refl, sym, ◌∙◌, ap, subst, arith}
use Rattle.std.specs.Prelude.{◌==◌}
use Rattle.std.specs.List.{slice_get}
use Rattle.std.proofs.lemmas.Bool.Decides.{nat_tests}
use Rattle.std.proofs.lemmas.List.{append_assoc, append-nil}
use Rattle.cstar_base.specs.declared.operators.Place.{Place}
use Rattle.cstar_base.specs.declared.faults.RunFault.{RunFault}
use Rattle.paris_code.specs.declared.instr.Instr.{Instr}
use Rattle.paris_code.specs.declared.instr.Instr.TheVariants as I
use Rattle.paris_code.specs.declared.program.Image.{Image}
use Rattle.paris_code.specs.declared.program.Reply.{Reply}
use Rattle.paris_code.specs.declared.program.Reply.TheVariants as R
use Rattle.paris_code.specs.Code.{CodeState, Mark, End, Broken, Next, Goes, Ends, CodeEnd, Stopped, Reached, code, go_on, one_more, step, begun, begun_at, applied, controlled, set_or, checked, given, replied, arguments_at, fault_at, turned}
use Rattle.paris_code.specs.Kinds.{is_parallel}
use Rattle.paris_code.specs.Meaning.{after, reply_of}
use Rattle.paris_code.specs.Scalar.{computed}
use Rattle.paris_code.specs.Shapes.{SetShape, shapes_of}
use Rattle.paris_code.specs.Units.{IsAt}
use Rattle.paris_machine.specs.Cut.{with_more, printed_behind, next_behind, behind, CodeInTwo}

-- what an instruction does with more turns, where it does not stop
abbrev pub MoreTurns : ℕ → Next → Next → Type 0
MoreTurns m (Goes t) other = other ≡ Goes (with_more m t)
MoreTurns m (Ends Stopped t) other = Unit {0}
MoreTurns m (Ends end t) other = other ≡ Ends end (with_more m t)

checked_turns : (m : ℕ) (s : CodeState) (fails : Bool) (fault : RunFault) (place : Place) → MoreTurns m (checked fails fault place s) (checked fails fault place (with_more m s))
checked_turns m s true fault place = refl
checked_turns m s false fault place = refl

turned_turns : (m : ℕ) (s : CodeState) (none : Bool) → (s.turns == 0) ≡ none → MoreTurns m (if none then Ends Stopped s else Goes (record s { at = s.at + 1; turns = s.turns - 1 })) (turned (with_more m s))
turned_turns m s true e = tt
turned_turns m s false e =
    let some : 0 < s.turns = grind (arith, nat_tests) in
    let other : ((s.turns + m) == 0) ≡ false = grind (arith, nat_tests) in
    let left : (s.turns + m) - 1 ≡ (s.turns - 1) + m = omega arith in
    ap (λ b. if b then Ends Stopped (with_more m s) else Goes (record s { at = s.at + 1; turns = (s.turns + m) - 1 })) other
    ∙ ap (λ t. Goes (record s { at = s.at + 1; turns = t })) left

given_turns : (m r : ℕ) (s : CodeState) (bytes : List ℕ) (mark : Mark) → MoreTurns m (given r s bytes mark) (given r (with_more m s) bytes mark)
given_turns m r s (byte ∷ bytes) mark = refl
given_turns m r s [] End = refl
given_turns m r s [] Broken = refl

controlled_turns : (image : Image) (m : ℕ) (instr : Instr) (s : CodeState) → MoreTurns m (controlled image instr s) (controlled image instr (with_more m s))
controlled_turns image m (I.FrontCheckTarget set place coordinates) s = checked_turns m s _ _ place
controlled_turns image m (I.FrontCheckDivisor place x) s = checked_turns m s _ _ place
controlled_turns image m (I.FrontJump target) s = refl
controlled_turns image m (I.FrontJumpZero x target) s = refl
controlled_turns image m (I.FrontJumpNonzero x target) s = refl
controlled_turns image m I.FrontTurn s = turned_turns m s (s.turns == 0) refl
controlled_turns image m (I.FrontCall unit) s = refl
controlled_turns image m I.FrontReturn s = refl
controlled_turns image m (I.FrontPutBytes bytes) s = refl
controlled_turns image m (I.FrontPut format x) s = refl
controlled_turns image m (I.FrontGetByte r) s = given_turns m r s s.input.bytes s.input.mark
controlled_turns image m _ s = refl

set_turns : (image : Image) (m : ℕ) (set : Option (ℕ × ℕ)) (instr : Instr) (s : CodeState) → MoreTurns m (set_or set s (controlled image instr s)) (set_or set (with_more m s) (controlled image instr (with_more m s)))
set_turns image m None instr s = controlled_turns image m instr s
set_turns image m (Some set) instr s = refl

fault_turns : (m : ℕ) (instr : Instr) (s : CodeState) (position : ℕ) → MoreTurns m (Ends (fault_at instr position) s) (Ends (fault_at instr position) (with_more m s))
fault_turns m (I.CheckTarget set place coordinates) s position = refl
fault_turns m (I.CheckGrid set place steps) s position = refl
fault_turns m (I.CheckDivisor place a) s position = refl
fault_turns m _ s position = refl

replied_turns : (m : ℕ) (instr : Instr) (s : CodeState) (reply : Reply) → MoreTurns m (replied instr s reply) (replied instr (with_more m s) reply)
replied_turns m instr s R.Nothing = refl
replied_turns m instr s (R.Value v) = refl
replied_turns m instr s (R.Bad position) = fault_turns m instr s position
replied_turns m instr s R.Memory = refl

applied_turns : (shapes : List SetShape) (m : ℕ) (instr : Instr) (s : CodeState) → MoreTurns m (applied shapes instr s) (applied shapes instr (with_more m s))
unfolding applied
applied_turns shapes m instr s =
    replied_turns m instr (record s { at = s.at + 1; memory = after shapes instr (arguments_at instr s.registers) s.memory }) (reply_of shapes instr (arguments_at instr s.registers) s.memory)

begun_turns : (image : Image) (m : ℕ) (instr : Instr) (s : CodeState) → MoreTurns m (begun image instr s) (begun image instr (with_more m s))
unfolding begun
begun_turns image m instr s = by_kind (is_parallel instr)
  where
    by_kind : (parallel : Bool) → MoreTurns m (if parallel then applied (shapes_of image) instr s else set_or (computed (shapes_of image) instr s.registers) s (controlled image instr s)) (if parallel then applied (shapes_of image) instr (with_more m s) else set_or (computed (shapes_of image) instr s.registers) (with_more m s) (controlled image instr (with_more m s)))
    by_kind true = applied_turns (shapes_of image) m instr s
    by_kind false = set_turns image m (computed (shapes_of image) instr s.registers) instr s

begun_at_turns : (image : Image) (m : ℕ) (s : CodeState) (o : Option Instr) → MoreTurns m (begun_at image s o) (begun_at image (with_more m s) o)
begun_at_turns image m s None = refl
begun_at_turns image m s (Some instr) = begun_turns image m instr s

pub step_turns : (image : Image) (m : ℕ) (s : CodeState) → MoreTurns m (step image s) (step image (with_more m s))
unfolding step
step_turns image m s = begun_at_turns image m s (slice_get image.code.items s.at)

-- what an instruction does behind what was printed before
checked_behind : (p : List ℕ) (s : CodeState) (fails : Bool) (fault : RunFault) (place : Place) → checked fails fault place (printed_behind p s) ≡ next_behind p (checked fails fault place s)
checked_behind p s true fault place = refl
checked_behind p s false fault place = refl

turned_behind : (p : List ℕ) (s : CodeState) (none : Bool) → (if none then Ends Stopped (printed_behind p s) else Goes (record (printed_behind p s) { at = s.at + 1; turns = s.turns - 1 })) ≡ next_behind p (if none then Ends Stopped s else Goes (record s { at = s.at + 1; turns = s.turns - 1 }))
turned_behind p s true = refl
turned_behind p s false = refl

given_behind : (p : List ℕ) (r : ℕ) (s : CodeState) (bytes : List ℕ) (mark : Mark) → given r (printed_behind p s) bytes mark ≡ next_behind p (given r s bytes mark)
given_behind p r s (byte ∷ bytes) mark = refl
given_behind p r s [] End = refl
given_behind p r s [] Broken = refl

put_behind : (p : List ℕ) (s : CodeState) (bytes : List ℕ) → Goes (record s { at = s.at + 1; output = (p ++ s.output) ++ bytes }) ≡ Goes (record s { at = s.at + 1; output = p ++ (s.output ++ bytes) })
put_behind p s bytes = ap (λ (o : List ℕ). Goes (record s { at = s.at + 1; output = o })) (append_assoc p s.output bytes)

controlled_behind : (image : Image) (p : List ℕ) (instr : Instr) (s : CodeState) → controlled image instr (printed_behind p s) ≡ next_behind p (controlled image instr s)
controlled_behind image p (I.FrontCheckTarget set place coordinates) s = checked_behind p s _ _ place
controlled_behind image p (I.FrontCheckDivisor place x) s = checked_behind p s _ _ place
controlled_behind image p (I.FrontJump target) s = refl
controlled_behind image p (I.FrontJumpZero x target) s = refl
controlled_behind image p (I.FrontJumpNonzero x target) s = refl
controlled_behind image p I.FrontTurn s = turned_behind p s (s.turns == 0)
controlled_behind image p (I.FrontCall unit) s = refl
controlled_behind image p I.FrontReturn s = refl
controlled_behind image p (I.FrontPutBytes bytes) s = put_behind p s _
controlled_behind image p (I.FrontPut format x) s = put_behind p s _
controlled_behind image p (I.FrontGetByte r) s = given_behind p r s s.input.bytes s.input.mark
controlled_behind image p _ s = refl

set_behind : (image : Image) (p : List ℕ) (set : Option (ℕ × ℕ)) (instr : Instr) (s : CodeState) → set_or set (printed_behind p s) (controlled image instr (printed_behind p s)) ≡ next_behind p (set_or set s (controlled image instr s))
set_behind image p None instr s = controlled_behind image p instr s
set_behind image p (Some set) instr s = refl

replied_behind : (p : List ℕ) (instr : Instr) (s : CodeState) (reply : Reply) → replied instr (printed_behind p s) reply ≡ next_behind p (replied instr s reply)
replied_behind p instr s R.Nothing = refl
replied_behind p instr s (R.Value v) = refl
replied_behind p instr s (R.Bad position) = refl
replied_behind p instr s R.Memory = refl

applied_behind : (shapes : List SetShape) (p : List ℕ) (instr : Instr) (s : CodeState) → applied shapes instr (printed_behind p s) ≡ next_behind p (applied shapes instr s)
unfolding applied
applied_behind shapes p instr s =
    replied_behind p instr (record s { at = s.at + 1; memory = after shapes instr (arguments_at instr s.registers) s.memory }) (reply_of shapes instr (arguments_at instr s.registers) s.memory)

begun_behind : (image : Image) (p : List ℕ) (instr : Instr) (s : CodeState) → begun image instr (printed_behind p s) ≡ next_behind p (begun image instr s)
unfolding begun
begun_behind image p instr s = by_kind (is_parallel instr)
  where
    by_kind : (parallel : Bool) → (if parallel then applied (shapes_of image) instr (printed_behind p s) else set_or (computed (shapes_of image) instr s.registers) (printed_behind p s) (controlled image instr (printed_behind p s))) ≡ next_behind p (if parallel then applied (shapes_of image) instr s else set_or (computed (shapes_of image) instr s.registers) s (controlled image instr s))
    by_kind true = applied_behind (shapes_of image) p instr s
    by_kind false = set_behind image p (computed (shapes_of image) instr s.registers) instr s

begun_at_behind : (image : Image) (p : List ℕ) (s : CodeState) (o : Option Instr) → begun_at image (printed_behind p s) o ≡ next_behind p (begun_at image s o)
begun_at_behind image p s None = refl
begun_at_behind image p s (Some instr) = begun_behind image p instr s

pub step_behind : (image : Image) (p : List ℕ) (s : CodeState) → step image (printed_behind p s) ≡ next_behind p (step image s)
unfolding step
step_behind image p s = begun_at_behind image p s (slice_get image.code.items s.at)

go_on_behind : (p : List ℕ) (f g : CodeState → Reached) → ((t : CodeState) → f (printed_behind p t) ≡ behind 0 p (g t)) → (next : Next) → go_on f (next_behind p next) ≡ behind 0 p (go_on g next)
go_on_behind p f g same (Goes t) = ap one_more (same t) ∙ ap (λ n. record { next = next_behind p (g t).next; steps = n }) (omega arith)
go_on_behind p f g same (Ends end t) = refl

pub code_behind : (image : Image) (n : ℕ) (p : List ℕ) (s : CodeState) → code image n (printed_behind p s) ≡ behind 0 p (code image n s)
unfolding code
code_behind image zero p s = refl
code_behind image (suc n) p s =
    ap (go_on (λ t. code image n t)) (step_behind image p s) ∙ go_on_behind p (λ t. code image n t) (λ t. code image n t) (λ t. code_behind image n p t) (step image s)

-- a state that stopped is one at a turn with none left
abbrev HasStopped : Image → CodeState → Next → Type 0
HasStopped image s (Ends Stopped t) = (t ≡ s) × (s.turns ≡ 0) × IsAt image s.at I.FrontTurn
HasStopped image s _ = Unit {0}

checked_stops : (image : Image) (s : CodeState) (fails : Bool) (fault : RunFault) (place : Place) → HasStopped image s (checked fails fault place s)
checked_stops image s true fault place = tt
checked_stops image s false fault place = tt

turned_stops : (image : Image) (s : CodeState) (none : Bool) → (s.turns == 0) ≡ none → IsAt image s.at I.FrontTurn → HasStopped image s (if none then Ends Stopped s else Goes (record s { at = s.at + 1; turns = s.turns - 1 }))
turned_stops image s true e here = (refl, grind (arith, nat_tests), here)
turned_stops image s false e here = tt

given_stops : (image : Image) (r : ℕ) (s : CodeState) (bytes : List ℕ) (mark : Mark) → HasStopped image s (given r s bytes mark)
given_stops image r s (byte ∷ bytes) mark = tt
given_stops image r s [] End = tt
given_stops image r s [] Broken = tt

controlled_stops : (image : Image) (instr : Instr) (s : CodeState) → IsAt image s.at instr → HasStopped image s (controlled image instr s)
controlled_stops image (I.FrontCheckTarget set place coordinates) s here = checked_stops image s _ _ place
controlled_stops image (I.FrontCheckDivisor place x) s here = checked_stops image s _ _ place
controlled_stops image (I.FrontJump target) s here = tt
controlled_stops image (I.FrontJumpZero x target) s here = tt
controlled_stops image (I.FrontJumpNonzero x target) s here = tt
controlled_stops image I.FrontTurn s here = turned_stops image s (s.turns == 0) refl here
controlled_stops image (I.FrontCall unit) s here = tt
controlled_stops image I.FrontReturn s here = tt
controlled_stops image (I.FrontPutBytes bytes) s here = tt
controlled_stops image (I.FrontPut format x) s here = tt
controlled_stops image (I.FrontGetByte r) s here = given_stops image r s s.input.bytes s.input.mark
controlled_stops image _ s here = tt

set_stops : (image : Image) (set : Option (ℕ × ℕ)) (instr : Instr) (s : CodeState) → IsAt image s.at instr → HasStopped image s (set_or set s (controlled image instr s))
set_stops image None instr s here = controlled_stops image instr s here
set_stops image (Some set) instr s here = tt

fault_stops : (image : Image) (s t : CodeState) (instr : Instr) (position : ℕ) → HasStopped image s (Ends (fault_at instr position) t)
fault_stops image s t (I.CheckTarget set place coordinates) position = tt
fault_stops image s t (I.CheckGrid set place steps) position = tt
fault_stops image s t (I.CheckDivisor place a) position = tt
fault_stops image s t _ position = tt

replied_stops : (image : Image) (s t : CodeState) (instr : Instr) (reply : Reply) → HasStopped image s (replied instr t reply)
replied_stops image s t instr R.Nothing = tt
replied_stops image s t instr (R.Value v) = tt
replied_stops image s t instr (R.Bad position) = fault_stops image s t instr position
replied_stops image s t instr R.Memory = tt

applied_stops : (image : Image) (instr : Instr) (s : CodeState) → HasStopped image s (applied (shapes_of image) instr s)
unfolding applied
applied_stops image instr s = replied_stops image s _ instr _

begun_stops : (image : Image) (instr : Instr) (s : CodeState) → IsAt image s.at instr → HasStopped image s (begun image instr s)
unfolding begun
begun_stops image instr s here = by_kind (is_parallel instr)
  where
    by_kind : (parallel : Bool) → HasStopped image s (if parallel then applied (shapes_of image) instr s else set_or (computed (shapes_of image) instr s.registers) s (controlled image instr s))
    by_kind true = applied_stops image instr s
    by_kind false = set_stops image (computed (shapes_of image) instr s.registers) instr s here

begun_at_stops : (image : Image) (s : CodeState) (o : Option Instr) → slice_get image.code.items s.at ≡ o → HasStopped image s (begun_at image s o)
begun_at_stops image s None here = tt
begun_at_stops image s (Some instr) here = begun_stops image instr s here

step_stops : (image : Image) (s : CodeState) → HasStopped image s (step image s)
unfolding step
step_stops image s = begun_at_stops image s (slice_get image.code.items s.at) refl

-- a run stops where it is, at a turn with none left
pub where_stopped : (image : Image) (s t : CodeState) → step image s ≡ Ends Stopped t → (t ≡ s) × (s.turns ≡ 0) × IsAt image s.at I.FrontTurn
where_stopped image s t e = subst (λ (next : Next). HasStopped image s next) e (step_stops image s)

-- the code goes from one state to another by just so many instructions
abbrev pub Goes_by : Image → ℕ → CodeState → CodeState → Type 0
Goes_by image n s t = code image n s ≡ record { next = Goes t; steps = n }

abbrev pub Ends_by : Image → ℕ → CodeState → CodeEnd → CodeState → Type 0
Ends_by image n s end t = code image n s ≡ record { next = Ends end t; steps = n }

abbrev pub counted : ℕ → Next → Reached
counted steps next = record { next = next; steps = steps }

reached_is : (r : Reached) (next : Next) (steps : ℕ) → r.next ≡ next → r.steps ≡ steps → r ≡ counted steps next
reached_is r next steps a b = ap (λ (x : Next). record { next = x; steps = r.steps }) a ∙ ap (λ (k : ℕ). record { next = next; steps = k }) b

one_less : (r : Reached) (next : Next) (n : ℕ) → one_more r ≡ counted (suc n) next → r ≡ counted n next
one_less r next n e = reached_is r next n (ap (λ (x : Reached). x.next) e) (omega (arith, ap (λ (x : Reached). x.steps) e))

one_again : (r : Reached) (next : Next) (n : ℕ) → r ≡ counted n next → one_more r ≡ counted (suc n) next
one_again r next n e = ap one_more e ∙ ap (λ (k : ℕ). counted k next) (omega arith)

-- the first instruction, and the others
pub first_of_goes : (image : Image) (n : ℕ) (s t : CodeState) (x : Next) → step image s ≡ x → Goes_by image (suc n) s t → (y : CodeState) × (step image s ≡ Goes y) × Goes_by image n y t
unfolding code
first_of_goes image n s t (Goes y) e all = (y, e, one_less (code image n y) (Goes t) n (sym (ap (go_on (λ z. code image n z)) e) ∙ all))
first_of_goes image n s t (Ends end y) e all = let clash : Ends end y ≡ Goes t = ap (λ (r : Reached). r.next) (sym (ap (go_on (λ z. code image n z)) e) ∙ all) in cc

pub onward_by : (image : Image) (n : ℕ) (s y : CodeState) (next : Next) → step image s ≡ Goes y → code image n y ≡ counted n next → code image (suc n) s ≡ counted (suc n) next
unfolding code
onward_by image n s y next e rest = ap (go_on (λ z. code image n z)) e ∙ one_again (code image n y) next n rest

pub same_start : (s t : CodeState) (n : ℕ) → counted n (Goes s) ≡ counted n (Goes t) → s ≡ t
same_start s t n e = let goes : Goes s ≡ Goes t = ap (λ (r : Reached). r.next) e in cc

-- with more turns
pub code_turns : (image : Image) (n m : ℕ) (s t : CodeState) → Goes_by image n s t → Goes_by image n (with_more m s) (with_more m t)
unfolding code
code_turns image zero m s t goes = ap (λ (x : CodeState). counted 0 (Goes (with_more m x))) (same_start s t 0 goes)
code_turns image (suc n) m s t goes =
    let first = first_of_goes image n s t (step image s) refl goes in
    let more : step image (with_more m s) ≡ Goes (with_more m first.0) = subst (λ (next : Next). MoreTurns m next (step image (with_more m s))) first.1 (step_turns image m s) in
    onward_by image n (with_more m s) (with_more m first.0) (Goes (with_more m t)) more (code_turns image n m first.0 t first.2)

-- one run behind another
abbrev pub later_by : ℕ → Reached → Reached
later_by n r = record { next = r.next; steps = n + r.steps }

pub code_append : (image : Image) (n k : ℕ) (s t : CodeState) → Goes_by image n s t → code image (n + k) s ≡ later_by n (code image k t)
unfolding code
code_append image zero k s t goes =
    let count : zero + k ≡ k = omega arith in
    ap (λ (c : ℕ). code image c s) count ∙ ap (λ (x : CodeState). code image k x) (same_start s t 0 goes) ∙ reached_is (code image k t) (code image k t).next (0 + (code image k t).steps) refl (omega arith)
code_append image (suc n) k s t goes =
    let first = first_of_goes image n s t (step image s) refl goes in
    let count : suc n + k ≡ suc (n + k) = omega arith in
    let steps : n + (code image k t).steps + 1 ≡ suc n + (code image k t).steps = omega arith in
    ap (λ (c : ℕ). code image c s) count
    ∙ ap (go_on (λ z. code image (n + k) z)) first.1
    ∙ ap one_more (code_append image n k first.0 t first.2)
    ∙ ap (λ (c : ℕ). counted c (code image k t).next) steps

-- the last instruction of a run that ended
pub last_of : (image : Image) (n : ℕ) (s t : CodeState) (end : CodeEnd) → Ends_by image (suc n) s end t → (mid : CodeState) × Goes_by image n s mid × (step image mid ≡ Ends end t)
unfolding code
last_of image n s t end all = by_first n s (step image s) refl all
  where
    by_first : (n : ℕ) (s : CodeState) (x : Next) → step image s ≡ x → Ends_by image (suc n) s end t → (mid : CodeState) × Goes_by image n s mid × (step image mid ≡ Ends end t)
    by_first zero s (Ends e y) is all =
        (s, refl, is ∙ ap (λ (r : Reached). r.next) (sym (ap (go_on (λ z. code image 0 z)) is) ∙ all))
    by_first zero s (Goes y) is all = let clash : Goes y ≡ Ends end t = ap (λ (r : Reached). r.next) (sym (ap (go_on (λ z. code image 0 z)) is) ∙ all) in cc
    by_first (suc n) s (Ends e y) is all = absurd (omega (arith, ap (λ (r : Reached). r.steps) (sym (ap (go_on (λ z. code image (suc n) z)) is) ∙ all)))
    by_first (suc n) s (Goes y) is all =
        let rest = by_first n y (step image y) refl (one_less (code image (suc n) y) (Ends end t) (suc n) (sym (ap (go_on (λ z. code image (suc n) z)) is) ∙ all)) in
        (rest.0, onward_by image n s y (Goes rest.0) is rest.1, rest.2)

pub two_codes : (image : Image) → CodeInTwo image
two_codes image s t before turns after stopped =
    let one_more_is : suc before ≡ before + 1 = omega arith in
    let last = last_of image before s t Stopped (subst (λ (c : ℕ). code image c s ≡ counted c (Ends Stopped t)) (sym one_more_is) stopped) in
    let stands = where_stopped image last.0 t last.2 in
    let left : last.0.turns + turns ≡ turns = omega (arith, stands.1) in
    let rest : CodeState = record t { turns = turns; output = [] } in
    let again : with_more turns last.0 ≡ printed_behind t.output rest =
    ap (λ (c : ℕ). record last.0 { turns = c }) left ∙ ap (λ (x : CodeState). record x { turns = turns }) (sym stands.0) ∙ ap (λ (o : List ℕ). record t { turns = turns; output = o }) (sym (append-nil t.output)) in
    let steps : before + (0 + (code image after rest).steps) ≡ before + (code image after rest).steps = omega arith in
    code_append image before after (with_more turns s) (with_more turns last.0) (code_turns image before turns s last.0 last.1)
    ∙ ap (λ (x : CodeState). later_by before (code image after x)) again
    ∙ ap (λ (r : Reached). later_by before r) (code_behind image after t.output rest)
    ∙ ap (λ (c : ℕ). counted c (next_behind t.output (code image after rest).next)) steps
