-- How one step of the machine follows one instruction of the code.
use Rattle.std.proofs.Common.{◌≡◌, ℕ, suc, ◌+◌, ◌*◌, ◌≤◌, ◌<◌, Bool, true, false, List, [], ◌++◌, length, take, Option, Some, None, refl, sym, ◌∙◌, ap, subst, arith, zero}
use Rattle.std.specs.Prelude.{◌-◌, ◌^◌, IfNone, replicate, option_map}
use Rattle.std.proofs.lemmas.List.{append-nil, append_assoc}
use Rattle.std.proofs.Math.Seq.{take-append-add}
use Rattle.cstar_base.specs.declared.operators.Place.{Place}
use Rattle.cstar_base.specs.declared.faults.RunFault.{RunFault}
use Rattle.cstar_base.specs.Faults.{run_number_of}
use Rattle.paris_code.specs.declared.instr.Instr.{Instr}
use Rattle.paris_code.specs.declared.program.Image.{Image}
use Rattle.paris_code.specs.declared.program.Reply.{Reply}
use Rattle.paris_code.specs.declared.program.Reply.TheVariants as R
use Rattle.paris_code.specs.Code.{CodeState, Rest, End, Next, Goes, Ends, CodeEnd, Fault, code, step, replied, fault_at, opening}
use Rattle.paris_code.specs.Kinds.{is_parallel}
use Rattle.paris_code.specs.Meaning.{Means, after, reply_of}
use Rattle.paris_code.specs.Memory.{BitMemory, SameBits}
use Rattle.paris_code.specs.Shapes.{SetShape, shapes_of}
use Rattle.paris_code.specs.Sound.{IsSound}
use Rattle.paris_code.specs.Units.{IsAt}
use Rattle.cstar_io.specs.Input.{Took}
use Rattle.cstar_io.specs.Output.{Takes}
use Rattle.front_end.specs.declared.ask.Ask.TheVariants as A
use Rattle.front_end.specs.declared.kept.Kept.{Kept}
use Rattle.front_end.specs.Fit.{IsPlace}
use Rattle.front_end.specs.Front.{State, RunsWhole, AsksFor, Begins, joined, answered}
use Rattle.paris_machine.specs.declared.outcome.End.{End as RunEnd}
use Rattle.paris_machine.specs.declared.outcome.End.TheVariants as E
use Rattle.paris_machine.specs.Bound.{most_left}
use Rattle.paris_machine.specs.Ends.{IsNumbered, input_broke_in, output_broke_in}
use Rattle.paris_machine.specs.Runs.{SameState, SameNext, ComesTo, before, IsLeft, Puts, StaysOver, Advances, AdvancesBy, Runs, RepliesTo, IsPutEnd, Reads, Stays, kept_state}
use Rattle.paris_machine.proofs.Bound.{falls, falls_parallel, some_left}

-- so many instructions of the code lead from one state to another, each but for bits that no set has
abbrev pub Reaches : Image → CodeState → ℕ → CodeState → Type 0
Reaches image s zero t = s ≡ t
Reaches image s (suc n) t = (mid : CodeState) × Reaches image s n mid × SameNext (shapes_of image) (step image mid) (Goes t)

-- a run by such a chain
abbrev pub Chains : Image → (Rest → CodeState) → RunEnd → ℕ → (Rest → CodeState) → Bool → List ℕ → Type 0
Chains image from end steps to ended taken =
    (later : Rest) → IsLeft ended (Some end) later
    → (n : ℕ) × (steps ≡ n + 1) × ((mid : CodeState) × Reaches image (from (before taken later)) n mid × ComesTo image mid (Some end) (to later))

bits_self : (shapes : List SetShape) (m : BitMemory) → SameBits shapes m m
bits_self shapes m = record { bits = λ s p i a b c. refl; winner = refl }

same_self : (shapes : List SetShape) (s : CodeState) → SameState shapes s s
same_self shapes s = record { bits = bits_self shapes s.memory; rest = refl }

pub exact_goes : (shapes : List SetShape) (next : Next) (t : CodeState) → next ≡ Goes t → SameNext shapes next (Goes t)
exact_goes shapes next t e = subst (λ (x : Next). SameNext shapes x (Goes t)) (sym e) (same_self shapes t)

pub exact_ends : (shapes : List SetShape) (next : Next) (end : CodeEnd) (t : CodeState) → next ≡ Ends end t → SameNext shapes next (Ends end t)
exact_ends shapes next end t e = subst (λ (x : Next). SameNext shapes x (Ends end t)) (sym e) (refl, same_self shapes t)

pub replies_bad : (image : Image) (instr : Instr) (s : State) (m n : BitMemory) (position kind : ℕ) (fault : RunFault) (place : Place) → run_number_of fault ≡ kind → fault_at instr position ≡ Fault fault place (Some position) → Means (shapes_of image) instr s.args m n (R.Bad position)
    → RepliesTo image instr s m (Some (E.Fault kind place (Some position))) s n
replies_bad image instr s m n position kind fault place number is means = (
  fault,
  number,
  λ input output.
      subst (λ (r : Reply). SameNext (shapes_of image) (replied instr (joined s (after (shapes_of image) instr s.args m) input output) r) (Ends (Fault fault place (Some position)) (joined s n input output))) means.0
      (is, record { bits = means.1; rest = refl }),
)

-- nothing is read or printed
pub took_none : (left : Option (List ℕ)) → Took left [] left
took_none None = refl
took_none (Some rest) = refl

pub takes_none : {S : Type 0} (agrees : S → List ℕ → Type 0) (s : S) → Takes agrees s s []
takes_none agrees s = λ list h. subst (λ (l : List ℕ). agrees s l) (sym (append-nil list)) h

quiet : (image : Image) (old : State) (m : BitMemory) (result : Option RunEnd) (new : State) (n : BitMemory) (ended : Bool) → ((later : Rest) (output : List ℕ) → ComesTo image (joined old m later output) result (joined new n later output)) → Advances image old m result new n ended [] []
quiet image old m result new n ended h = λ later left output.
    subst (λ (o : List ℕ). ComesTo image (joined old m later output) result (joined new n later o)) (sym (append-nil output)) (h later output)

pub ran_advances : (image : Image) (old new : State) (m : BitMemory) (ended : Bool) → AsksFor image old A.Ran new → Advances image old m None new m ended [] []
ran_advances image old new m ended asks = quiet image old m None new m ended (λ later output. exact_goes (shapes_of image) _ _ (asks.1 m later output))

pub fault_advances : (image : Image) (old new : State) (m : BitMemory) (ended : Bool) (kind : ℕ) (place : Place) → AsksFor image old (A.Fault kind place) new → Advances image old m (Some (E.Fault kind place None)) new m ended [] []
fault_advances image old new m ended kind place asks = quiet image old m (Some (E.Fault kind place None)) new m ended (λ later output. (asks.0, asks.1, exact_ends (shapes_of image) _ _ _ (asks.3 m later output)))

pub stopped_advances : (image : Image) (old new : State) (m : BitMemory) (ended : Bool) → AsksFor image old A.Stopped new → Advances image old m (Some E.Stopped) new m ended [] []
stopped_advances image old new m ended asks = quiet image old m (Some E.Stopped) new m ended (λ later output. exact_ends (shapes_of image) _ _ _ (asks.1 m later output))

pub halted_advances : (image : Image) (old new : State) (m : BitMemory) (ended : Bool) → AsksFor image old A.Halted new → Advances image old m (Some E.Done) new m ended [] []
halted_advances image old new m ended asks = quiet image old m (Some E.Done) new m ended (λ later output. exact_ends (shapes_of image) _ _ _ (asks.1 m later output))

-- what a parallel instruction that was asked for comes to
abbrev pub IsApplied : Image → State → Instr → State → Type 0
IsApplied image old instr new =
    IsAt image old.at instr × Begins image old (λ m i o. replied instr (joined new (after (shapes_of image) instr new.args m) i o) (reply_of (shapes_of image) instr new.args m))

pub applied_advances : (image : Image) (old between new : State) (instr : Instr) (m n : BitMemory) (result : Option RunEnd) (ended : Bool) → IsApplied image old instr between → RepliesTo image instr between m result new n → Advances image old m result new n ended [] []
applied_advances image old between new instr m n None ended is replies = quiet image old m None new n ended (λ later output.
    subst (λ (next : Next). SameNext (shapes_of image) next (Goes (joined new n later output))) (sym (is.1 m later output)) (replies later output))
applied_advances image old between new instr m n (Some (E.Fault kind place position)) ended is replies = quiet image old m (Some (E.Fault kind place position)) new n ended (λ later output. (
  replies.0,
  replies.1,
  subst (λ (next : Next). SameNext (shapes_of image) next (Ends (Fault replies.0 place position) (joined new n later output))) (sym (is.1 m later output)) (replies.2 later output),
))
applied_advances image old between new instr m n (Some E.Memory) ended is replies = quiet image old m (Some E.Memory) new n ended (λ later output. ((instr, is.0, replies), refl))
applied_advances image old between new instr m n (Some E.Done) ended is replies = absurd replies
applied_advances image old between new instr m n (Some E.Stopped) ended is replies = absurd replies
applied_advances image old between new instr m n (Some E.InputBroken) ended is replies = absurd replies
applied_advances image old between new instr m n (Some E.OutputBroken) ended is replies = absurd replies

pub puts_none : (result : Option RunEnd) {S : Type 0} (agrees : S → List ℕ → Type 0) (s : S) → output_broke_in result ≡ false → Puts result agrees s s []
puts_none None agrees s h = takes_none agrees s
puts_none (Some (E.Fault kind place position)) agrees s h = takes_none agrees s
puts_none (Some E.Memory) agrees s h = takes_none agrees s
puts_none (Some E.Done) agrees s h = takes_none agrees s
puts_none (Some E.Stopped) agrees s h = takes_none agrees s
puts_none (Some E.InputBroken) agrees s h = takes_none agrees s
puts_none (Some E.OutputBroken) agrees s h = cc

-- bytes that are printed
pub put_advances : (image : Image) (old new : State) (m : BitMemory) (result : Option RunEnd) (ended : Bool) (bytes : List ℕ) → IsPutEnd result → Begins image old (λ m i o. Goes (joined new m i (o ++ bytes))) → Advances image old m result new m ended [] bytes
put_advances image old new m None ended bytes is begins = λ later left output. exact_goes (shapes_of image) _ _ (begins m later output)
put_advances image old new m (Some E.OutputBroken) ended bytes is begins = λ later left output. exact_goes (shapes_of image) _ _ (begins m later output)
put_advances image old new m (Some (E.Fault kind place position)) ended bytes is begins = absurd is
put_advances image old new m (Some E.Memory) ended bytes is begins = absurd is
put_advances image old new m (Some E.Done) ended bytes is begins = absurd is
put_advances image old new m (Some E.Stopped) ended bytes is begins = absurd is
put_advances image old new m (Some E.InputBroken) ended bytes is begins = absurd is

-- a byte that is read
pub read_advances : (image : Image) (old between new : State) (m : BitMemory) (result : Option RunEnd) (ended : Bool) (taken : List ℕ) → AsksFor image old A.Byte between → Reads between result new ended taken → Advances image old m result new m ended taken []
read_advances image old between new m None ended taken asks reads = λ later left output.
    subst (λ (o : List ℕ). ComesTo image (joined old m (before taken later) output) None (joined new m later o)) (sym (append-nil output))
    (exact_goes (shapes_of image) _ _ (asks.1 m (before taken later) output ∙ reads later left m output))
read_advances image old between new m (Some E.InputBroken) ended taken asks reads = λ later left output.
    subst (λ (o : List ℕ). ComesTo image (joined old m (before taken later) output) (Some E.InputBroken) (joined new m later o)) (sym (append-nil output))
    (exact_ends (shapes_of image) _ _ _ (asks.1 m (before taken later) output ∙ reads later left m output))
read_advances image old between new m (Some (E.Fault kind place position)) ended taken asks reads = λ later left output. absurd (reads later left m output)
read_advances image old between new m (Some E.Memory) ended taken asks reads = λ later left output. absurd (reads later left m output)
read_advances image old between new m (Some E.Done) ended taken asks reads = λ later left output. absurd (reads later left m output)
read_advances image old between new m (Some E.Stopped) ended taken asks reads = λ later left output. absurd (reads later left m output)
read_advances image old between new m (Some E.OutputBroken) ended taken asks reads = λ later left output. absurd (reads later left m output)

-- what an end of a read lets be left
pub left_before : (ended now : Bool) (result : Option RunEnd) (taken : List ℕ) (later : Rest) → StaysOver ended result now taken → IsLeft now result later → IsLeft ended None (before taken later)
left_before false now result taken later over left = tt
left_before true now result taken later over left =
    let stays = over refl in
    let over_still : IsLeft true result later = subst (λ (b : Bool). IsLeft b result later) stays.0 left in
    ap (λ (l : List ℕ). before l later) stays.1 ∙ over_left result later stays.2 over_still
  where
    over_left : (result : Option RunEnd) (later : Rest) → input_broke_in result ≡ false → IsLeft true result later → later ≡ record { bytes = []; mark = End }
    over_left None later h left = left
    over_left (Some E.InputBroken) later h left = cc
    over_left (Some E.Done) later h left = left
    over_left (Some (E.Fault kind place position)) later h left = left
    over_left (Some E.Stopped) later h left = left
    over_left (Some E.OutputBroken) later h left = left
    over_left (Some E.Memory) later h left = left

-- instructions that are done whole
whole_reaches : (image : Image) (s : CodeState) (old last : State) (m : BitMemory) (begun whole : ℕ) (later : Rest) (printed : List ℕ)
    → Reaches image s begun (joined old m later printed) → RunsWhole image old whole last → Reaches image s (begun + whole) (joined last m later printed)
whole_reaches image s old last m begun zero later printed reaches runs =
    let none : begun ≡ begun + zero = omega arith in
    subst (λ (k : ℕ). Reaches image s k (joined last m later printed)) none (subst (λ (t : State). Reaches image s begun (joined t m later printed)) runs reaches)
whole_reaches image s old last m begun (suc whole) later printed reaches runs =
    let more : suc (begun + whole) ≡ begun + suc whole = omega arith in
    subst (λ (k : ℕ). Reaches image s k (joined last m later printed)) more
    (joined runs.0 m later printed, whole_reaches image s old runs.0 m begun whole later printed reaches runs.1, exact_goes (shapes_of image) _ _ (runs.3.1 m later printed))

-- so many instructions more
pub reaches_more : (image : Image) (start old new : State) (m0 m n : BitMemory) (begun count : ℕ) (ended now : Bool) (taken more printed text : List ℕ)
    → ((later : Rest) → IsLeft ended None later → Reaches image (joined start m0 (before taken later) []) begun (joined old m later printed))
    → StaysOver ended None now more → AdvancesBy image count old m None new n now more text
    → (later : Rest) → IsLeft now None later → Reaches image (joined start m0 (before (taken ++ more) later) []) (begun + count) (joined new n later (printed ++ text))
reaches_more image start old new m0 m n begun count ended now taken more printed text reaches over advances later left =
    let steps : suc (begun + advances.0) ≡ begun + count = omega (arith, advances.1) in
    let first = whole_reaches image (joined start m0 (before taken (before more later)) []) old advances.2.0 m begun advances.0 (before more later) printed (reaches (before more later) (left_before ended now None more later over left)) advances.2.1 in
    subst (λ (k : ℕ). Reaches image (joined start m0 (before (taken ++ more) later) []) k (joined new n later (printed ++ text))) steps (
      joined advances.2.0 m (before more later) printed,
      subst (λ (bytes : List ℕ). Reaches image (joined start m0 (record { bytes = bytes; mark = later.mark }) []) (begun + advances.0) (joined advances.2.0 m (before more later) printed)) (sym (append_assoc taken more later.bytes)) first,
      advances.2.2 later left printed,
    )

pub runs_end : (image : Image) (start old new : State) (m0 m n : BitMemory) (begun count : ℕ) (ended now : Bool) (end : RunEnd) (taken more printed text : List ℕ)
    → ((later : Rest) → IsLeft ended None later → Reaches image (joined start m0 (before taken later) []) begun (joined old m later printed))
    → StaysOver ended (Some end) now more → AdvancesBy image count old m (Some end) new n now more text
    → Chains image (λ rest. joined start m0 rest []) end (begun + count) (λ rest. joined new n rest (printed ++ text)) now (taken ++ more)
runs_end image start old new m0 m n begun count ended now end taken more printed text reaches over advances = λ later left.
    let steps : begun + count ≡ (begun + advances.0) + 1 = omega (arith, advances.1) in
    let first = whole_reaches image (joined start m0 (before taken (before more later)) []) old advances.2.0 m begun advances.0 (before more later) printed (reaches (before more later) (left_before ended now (Some end) more later over left)) advances.2.1 in (
      begun + advances.0,
      steps,
      (
        joined advances.2.0 m (before more later) printed,
        subst (λ (bytes : List ℕ). Reaches image (joined start m0 (record { bytes = bytes; mark = later.mark }) []) (begun + advances.0) (joined advances.2.0 m (before more later) printed)) (sym (append_assoc taken more later.bytes)) first,
        advances.2.2 later left printed,
      ),
    )

-- bytes taken one after another
pub took_more : (left between now : Option (List ℕ)) (taken more : List ℕ) → Took left taken between → Took between more now → Took left (taken ++ more) now
took_more left between now taken more first second =
    first ∙ ap (λ (o : Option (List ℕ)). option_map (λ rest. taken ++ rest) o) second ∙ joined_map now
  where
    joined_map : (o : Option (List ℕ)) → option_map (λ rest. taken ++ rest) (option_map (λ rest. more ++ rest) o) ≡ option_map (λ rest. (taken ++ more) ++ rest) o
    joined_map None = refl
    joined_map (Some rest) = ap (λ (l : List ℕ). Some l) (sym (append_assoc taken more rest))

pub takes_more : {S : Type 0} (agrees : S → List ℕ → Type 0) (first between last : S) (printed text : List ℕ) → Takes agrees first between printed → Takes agrees between last text → Takes agrees first last (printed ++ text)
takes_more agrees first between last printed text one two = λ list h.
    subst (λ (l : List ℕ). agrees last l) (append_assoc list printed text) (two (list ++ printed) (one list h))

pub puts_more : (end : RunEnd) {S : Type 0} (agrees : S → List ℕ → Type 0) (first between last : S) (printed text : List ℕ) → Takes agrees first between printed → Puts (Some end) agrees between last text → Puts (Some end) agrees first last (printed ++ text)
puts_more E.OutputBroken agrees first between last printed text one two =
    (length printed + two.0, subst (λ (l : List ℕ). Takes agrees first last l) (sym (take-append-add printed text two.0)) (takes_more agrees first between last printed (take two.0 text) one two.1))
puts_more E.Done agrees first between last printed text one two = takes_more agrees first between last printed text one two
puts_more (E.Fault kind place position) agrees first between last printed text one two = takes_more agrees first between last printed text one two
puts_more E.Stopped agrees first between last printed text one two = takes_more agrees first between last printed text one two
puts_more E.InputBroken agrees first between last printed text one two = takes_more agrees first between last printed text one two
puts_more E.Memory agrees first between last printed text one two = takes_more agrees first between last printed text one two

-- each step that ends nothing lowers the number of instructions that are left
nothing_left : Rest
nothing_left = record { bytes = []; mark = End }

pub ran_falls : (image : Image) (sound : IsSound image) (old new : State) (m : BitMemory) → IsPlace image old.at old.returns → AsksFor image old A.Ran new → most_left image new.at new.returns new.turns + 1 ≤ most_left image old.at old.returns old.turns
ran_falls image sound old new m place asks = falls image sound (joined old m nothing_left []) (joined new m nothing_left []) place (asks.1 m nothing_left [])

pub put_falls : (image : Image) (sound : IsSound image) (old new : State) (m : BitMemory) (bytes : List ℕ) → IsPlace image old.at old.returns → Begins image old (λ m i o. Goes (joined new m i (o ++ bytes))) → most_left image new.at new.returns new.turns + 1 ≤ most_left image old.at old.returns old.turns
put_falls image sound old new m bytes place begins = falls image sound (joined old m nothing_left []) (joined new m nothing_left bytes) place (begins m nothing_left [])

pub stays_left : (image : Image) (old new : State) → Stays old new → most_left image new.at new.returns new.turns ≡ most_left image old.at old.returns old.turns
stays_left image old new stays = ap (λ at. most_left image at new.returns new.turns) stays.0 ∙ ap (λ (returns : List ℕ). most_left image old.at returns new.turns) stays.1 ∙ ap (λ turns. most_left image old.at old.returns turns) stays.2

pub read_falls : (image : Image) (sound : IsSound image) (old between new : State) (m : BitMemory) → IsPlace image old.at old.returns → AsksFor image old A.Byte between → Stays between new → most_left image new.at new.returns new.turns + 1 ≤ most_left image old.at old.returns old.turns
unfolding nothing_left
read_falls image sound old between new m place asks stays =
    omega (arith, stays_left image between new stays, falls image sound (joined old m nothing_left []) (joined (answered between (2 ^ 32 - 1)) m nothing_left []) place (asks.1 m nothing_left []))

pub applied_falls : (image : Image) (sound : IsSound image) (old between new : State) (instr : Instr) → IsPlace image old.at old.returns → IsAt image old.at instr → is_parallel instr ≡ true
    → (between.at ≡ old.at + 1) → (between.returns ≡ old.returns) → (between.turns ≡ old.turns) → Stays between new → most_left image new.at new.returns new.turns + 1 ≤ most_left image old.at old.returns old.turns
applied_falls image sound old between new instr place here parallel at returns turns stays =
    let fell = falls_parallel image sound old.at old.returns old.turns instr place here parallel in
    let same : most_left image between.at between.returns between.turns ≡ most_left image (old.at + 1) old.returns old.turns =
    ap (λ at. most_left image at between.returns between.turns) at ∙ ap (λ (returns : List ℕ). most_left image (old.at + 1) returns between.turns) returns ∙ ap (λ turns. most_left image (old.at + 1) old.returns turns) turns in
    omega (arith, stays_left image between new stays, fell, same)

-- instructions that are done whole, and one more
whole_falls : (image : Image) (sound : IsSound image) (old last : State) (m : BitMemory) (whole : ℕ) → RunsWhole image old whole last → most_left image last.at last.returns last.turns + whole ≤ most_left image old.at old.returns old.turns
whole_falls image sound old last m zero runs =
    let same : most_left image last.at last.returns last.turns ≡ most_left image old.at old.returns old.turns = ap (λ (s : State). most_left image s.at s.returns s.turns) (sym runs) in
    omega (arith, same)
whole_falls image sound old last m (suc whole) runs =
    omega (arith, whole_falls image sound old runs.0 m whole runs.1, ran_falls image sound runs.0 last m runs.2 runs.3)

pub falls_behind : (image : Image) (sound : IsSound image) (old last new : State) (m : BitMemory) (whole begun : ℕ) → RunsWhole image old whole last → begun ≡ whole + 1
    → most_left image new.at new.returns new.turns + 1 ≤ most_left image last.at last.returns last.turns → most_left image new.at new.returns new.turns + begun ≤ most_left image old.at old.returns old.turns
falls_behind image sound old last new m whole begun runs count fell = omega (arith, whole_falls image sound old last m whole runs, count, fell)

-- the same of what was asked for
pub apply_falls : (image : Image) (sound : IsSound image) (old between new : State) (at : ℕ) → IsPlace image old.at old.returns → AsksFor image old (A.Apply at) between → Stays between new → most_left image new.at new.returns new.turns + 1 ≤ most_left image old.at old.returns old.turns
apply_falls image sound old between new at place asks stays =
    applied_falls image sound old between new asks.0 place (subst (λ (p : ℕ). IsAt image p asks.0) asks.1 asks.2) asks.3
    (ap (λ (s : State). s.at) asks.4) (ap (λ (s : State). s.returns) asks.4) (ap (λ (s : State). s.turns) asks.4) stays

pub apply_advances : (image : Image) (old between new : State) (at : ℕ) (m n : BitMemory) (result : Option RunEnd) (ended : Bool) (asks : AsksFor image old (A.Apply at) between) → RepliesTo image asks.0 between m result new n → Advances image old m result new n ended [] []
apply_advances image old between new at m n result ended asks replies =
    applied_advances image old between new asks.0 m n result ended (subst (λ (p : ℕ). IsAt image p asks.0) asks.1 asks.2, asks.5) replies

pub for_none : {A : Type 0} (o : Option A) (P : Type 0) → P → IfNone o P
for_none None P h = h
for_none (Some x) P h = tt

-- where the input has ended now, it had before or ended here
pub empty_more : (first between now : Bool) (P Q : Type 0) → (first ≡ false → between ≡ true → P) → (between ≡ true → P → Q) → (between ≡ false → now ≡ true → Q) → first ≡ false → now ≡ true → Q
empty_more first true now P Q before still here f n = still refl (before f refl)
empty_more first false now P Q before still here f n = here refl n

-- an input that had ended before is read by neither of two stretches
pub stays_more : (first between now : Bool) (result : Option RunEnd) (taken more : List ℕ) → StaysOver first None between taken → StaysOver between result now more → StaysOver first result now (taken ++ more)
stays_more first between now result taken more one two = λ e.
    let before = one e in
    let behind = two before.0 in
    (behind.0, ap (λ (l : List ℕ). l ++ more) before.1 ∙ behind.1, behind.2)

-- runs between the same states
runs_same : (image : Image) (from from' : Rest → CodeState) (end : RunEnd) (steps : ℕ) (to to' : Rest → CodeState) (ended : Bool) (taken : List ℕ) → ((rest : Rest) → from rest ≡ from' rest) → ((rest : Rest) → to rest ≡ to' rest)
    → Runs image from end steps to ended taken → Runs image from' end steps to' ended taken
runs_same image from from' end steps to to' ended taken first last runs = λ later left.
    let run = runs later left in (
      run.0,
      run.1,
      (
        run.2.0,
        subst (λ (s : CodeState). code image run.0 s ≡ record { next = Goes run.2.0; steps = run.0 }) (first (before taken later)) run.2.1,
        subst (λ (s : CodeState). ComesTo image run.2.0 (Some end) s) (last later) run.2.2,
      ),
    )

-- a state by its parts
abbrev stands : ℕ → List ℕ → List ℕ → ℕ → BitMemory → Rest → List ℕ → CodeState
stands at registers returns turns memory input output = record { at = at; registers = registers; returns = returns; memory = memory; turns = turns; input = input; output = output }

joined_is : (at at' : ℕ) (registers registers' returns returns' : List ℕ) (turns turns' : ℕ) (m : BitMemory) (input : Rest) (output : List ℕ) → at ≡ at' → registers ≡ registers' → returns ≡ returns' → turns ≡ turns'
    → stands at registers returns turns m input output ≡ stands at' registers' returns' turns' m input output
joined_is at at' registers registers' returns returns' turns turns' m input output a b c d =
    ap (λ x. stands x registers returns turns m input output) a ∙ ap (λ x. stands at' x returns turns m input output) b ∙ ap (λ x. stands at' registers' x turns m input output) c ∙ ap (λ x. stands at' registers' returns' x m input output) d

pub runs_kept : (image : Image) (s t : State) (kept stopped : Kept) (turns left : ℕ) (m n : BitMemory) (end : RunEnd) (steps : ℕ) (printed : List ℕ) (ended : Bool) (taken : List ℕ)
    → s.at ≡ kept.at → s.registers ≡ kept.regs → s.returns ≡ kept.returns → s.turns ≡ turns → t.at ≡ stopped.at → t.registers ≡ stopped.regs → t.returns ≡ stopped.returns → t.turns ≡ left
    → Runs image (λ rest. joined s m rest []) end steps (λ rest. joined t n rest printed) ended taken
    → Runs image (λ rest. kept_state kept turns m rest []) end steps (λ rest. kept_state stopped left n rest printed) ended taken
runs_kept image s t kept stopped turns left m n end steps printed ended taken a b c d e f g h runs =
    runs_same image (λ rest. joined s m rest []) (λ rest. kept_state kept turns m rest []) end steps (λ rest. joined t n rest printed) (λ rest. kept_state stopped left n rest printed) ended taken
    (λ rest. joined_is s.at kept.at s.registers kept.regs s.returns kept.returns s.turns turns m rest [] a b c d)
    (λ rest. joined_is t.at stopped.at t.registers stopped.regs t.returns stopped.returns t.turns left n rest printed e f g h) runs

pub runs_open : (image : Image) (kept : Kept) (turns : ℕ) (m : BitMemory) (end : RunEnd) (steps : ℕ) (to : Rest → CodeState) (ended : Bool) (taken : List ℕ) → kept.at ≡ 0 → kept.regs ≡ replicate image.slots 0 → kept.returns ≡ []
    → Runs image (λ rest. kept_state kept turns m rest []) end steps to ended taken → Runs image (λ rest. opening image m turns rest) end steps to ended taken
runs_open image kept turns m end steps to ended taken a b c runs =
    runs_same image (λ rest. kept_state kept turns m rest []) (λ rest. opening image m turns rest) end steps to to ended taken
    (λ rest. joined_is kept.at 0 kept.regs (replicate image.slots 0) kept.returns [] turns turns m rest [] a b c refl) (λ rest. refl) runs

-- a run does not come to its last instruction and go on
pub exhausted : (image : Image) (at : ℕ) (returns : List ℕ) (turns begun first left most : ℕ) → at < length image.code.items → begun + most_left image at returns turns ≤ (first + 1) * length image.code.items
    → left ≡ first → most ≡ (left + 1) * length image.code.items → most ≤ begun → ⊥
exhausted image at returns turns begun first left most b bound same all over =
    omega (arith, some_left image at returns turns b, bound, all ∙ ap (λ t. (t + 1) * length image.code.items) same, over)

-- an advance, at the end that it came to
abbrev pub Moves : {I O : Type 0} → (I → Option (List ℕ)) → (O → List ℕ → Type 0) → Image → I → I → O → O → ℕ → State → BitMemory → Bool → Option RunEnd → State → BitMemory → Bool → Type 0
Moves left agrees image input input' out out' count old m ended result new n now =
    (taken : List ℕ) × ((printed : List ℕ)
    × Took (left input) taken (left input') × Puts result agrees out out' printed × StaysOver ended result now taken
    × AdvancesBy image count old m result new n now taken printed)

-- the end of an instruction that is a fault has the number of one of a run
pub numbered_end : (image : Image) (old : State) (m : BitMemory) (end : RunEnd) (new : State) (n : BitMemory) (ended : Bool) (taken printed : List ℕ) → Advances image old m (Some end) new n ended taken printed → IsNumbered end
numbered_end image old m E.Done new n ended taken printed advances = tt
numbered_end image old m (E.Fault kind place position) new n true taken printed advances =
    let told = advances (record { bytes = []; mark = End }) refl [] in
    (told.0, told.1)
numbered_end image old m (E.Fault kind place position) new n false taken printed advances =
    let told = advances (record { bytes = []; mark = End }) tt [] in
    (told.0, told.1)
numbered_end image old m E.Stopped new n ended taken printed advances = tt
numbered_end image old m E.InputBroken new n ended taken printed advances = tt
numbered_end image old m E.OutputBroken new n ended taken printed advances = tt
numbered_end image old m E.Memory new n ended taken printed advances = tt
