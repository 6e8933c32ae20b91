-- How a run of the machine follows the meaning of the code.
use Rattle.std.specs.Prelude.{◌≡◌, ℕ, ◌+◌, Bool, true, false, List, [], ◌++◌, Option, Some, None}
use Rattle.cstar_base.specs.declared.faults.RunFault.{RunFault}
use Rattle.cstar_base.specs.Faults.{run_number_of}
use Rattle.paris_code.specs.declared.instr.Instr.{Instr}
use Rattle.paris_code.specs.declared.program.Image.{Image}
use Rattle.paris_code.specs.Code.{CodeState, Rest, End, Broken, Next, Goes, Ends, Done, Fault, Stopped, InputBroken, code, step, replied}
use Rattle.paris_code.specs.Meaning.{after, reply_of}
use Rattle.paris_code.specs.Memory.{BitMemory, SameBits}
use Rattle.paris_code.specs.Shapes.{SetShape, shapes_of}
use Rattle.paris_code.specs.Units.{IsAt}
use Rattle.cstar_io.specs.Output.{Takes, TakesPrefix}
use Rattle.phase_meaning.specs.Apply.{is_send}
use Rattle.front_end.specs.declared.kept.Kept.{Kept}
use Rattle.front_end.specs.Front.{State, RunsWhole, joined, answered_from}
use Rattle.paris_machine.specs.Ends.{input_broke_in}
use Rattle.paris_machine.specs.declared.outcome.End.{End as RunEnd}
use Rattle.paris_machine.specs.declared.outcome.End.TheVariants as E

-- the second state is the first but for bits that no set has
pub record SameState (shapes : List SetShape) (s t : CodeState) : Type 0 where
  pub bits : SameBits shapes t.memory s.memory
  pub rest : t ≡ record s { memory = t.memory }

abbrev pub SameNext : List SetShape → Next → Next → Type 0
SameNext shapes (Goes s) (Goes t) = SameState shapes s t
SameNext shapes (Ends end s) (Ends other t) = (end ≡ other) × SameState shapes s t
SameNext shapes next other = ⊥

-- a send stands where the code does
abbrev pub IsAtSend : Image → CodeState → Type 0
IsAtSend image s = (instr : Instr) × IsAt image s.at instr × (is_send instr ≡ true)

-- one more instruction comes to this, where nothing of the outside failed; a put that failed is a
-- put of the code, and memory is wanted at a send alone
abbrev pub ComesTo : Image → CodeState → Option RunEnd → CodeState → Type 0
ComesTo image s None t = SameNext (shapes_of image) (step image s) (Goes t)
ComesTo image s (Some E.Done) t = SameNext (shapes_of image) (step image s) (Ends Done t)
ComesTo image s (Some (E.Fault kind place position)) t =
    (fault : RunFault) × (run_number_of fault ≡ kind) × SameNext (shapes_of image) (step image s) (Ends (Fault fault place position) t)
ComesTo image s (Some E.Stopped) t = SameNext (shapes_of image) (step image s) (Ends Stopped t)
ComesTo image s (Some E.InputBroken) t = SameNext (shapes_of image) (step image s) (Ends InputBroken t)
ComesTo image s (Some E.OutputBroken) t = SameNext (shapes_of image) (step image s) (Goes t)
ComesTo image s (Some E.Memory) t = IsAtSend image s × (t.output ≡ s.output)

-- bytes before the rest of an input
abbrev pub before : List ℕ → Rest → Rest
before bytes later = record { bytes = bytes ++ later.bytes; mark = later.mark }

-- what an input may have left: nothing where it failed or has ended, else anything
abbrev pub IsLeft : Bool → Option RunEnd → Rest → Type 0
IsLeft ended (Some E.InputBroken) later = later ≡ record { bytes = []; mark = Broken }
IsLeft true result later = later ≡ record { bytes = []; mark = End }
IsLeft false result later = Unit {0}

-- the sink took these bytes, or the first of them where it failed
abbrev pub Puts : Option RunEnd → {S : Type 0} → (S → List ℕ → Type 0) → S → S → List ℕ → Type 0
Puts (Some E.OutputBroken) agrees old new bytes = TakesPrefix agrees old new bytes
Puts result agrees old new bytes = Takes agrees old new bytes

-- an input that has ended is not read
abbrev pub StaysOver : Bool → Option RunEnd → Bool → List ℕ → Type 0
StaysOver ended result now taken = ended ≡ true → (now ≡ true) × (taken ≡ []) × (input_broke_in result ≡ false)

-- The bytes taken, followed by whatever may be left, lead by one instruction from one state to the
-- other, which has printed these bytes more.
abbrev pub Advances : Image → State → BitMemory → Option RunEnd → State → BitMemory → Bool → List ℕ → List ℕ → Type 0
Advances image old m result new n ended taken printed =
    (later : Rest) → IsLeft ended result later → (output : List ℕ) → ComesTo image (joined old m (before taken later) output) result (joined new n later (output ++ printed))

-- So many instructions are begun: all but the last are done whole, and the last comes to this.
abbrev pub AdvancesBy : Image → ℕ → State → BitMemory → Option RunEnd → State → BitMemory → Bool → List ℕ → List ℕ → Type 0
AdvancesBy image begun old m result new n ended taken printed =
    (whole : ℕ) × (begun ≡ whole + 1) × ((last : State) × RunsWhole image old whole last × Advances image last m result new n ended taken printed)

-- The bytes taken, followed by whatever may be left, lead the code by so many instructions, but for
-- the last, to a state at which this one comes to the end.
abbrev pub Runs : Image → (Rest → CodeState) → RunEnd → ℕ → (Rest → CodeState) → Bool → List ℕ → Type 0
Runs image from end steps to ended taken =
    (later : Rest) → IsLeft ended (Some end) later
    → (n : ℕ) × (steps ≡ n + 1) × ((mid : CodeState) × (code image n (from (before taken later)) ≡ record { next = Goes mid; steps = n }) × ComesTo image mid (Some end) (to later))

-- what a reply comes to, from the state behind the instruction
abbrev pub RepliesTo : Image → Instr → State → BitMemory → Option RunEnd → State → BitMemory → Type 0
RepliesTo image instr s m (Some E.Memory) t n = is_send instr ≡ true
RepliesTo image instr s m None t n =
    (input : Rest) (output : List ℕ)
    → SameNext (shapes_of image) (replied instr (joined s (after (shapes_of image) instr s.args m) input output) (reply_of (shapes_of image) instr s.args m)) (Goes (joined t n input output))
RepliesTo image instr s m (Some (E.Fault kind place position)) t n =
    (fault : RunFault) × (run_number_of fault ≡ kind) × ((input : Rest) (output : List ℕ)
    → SameNext (shapes_of image) (replied instr (joined s (after (shapes_of image) instr s.args m) input output) (reply_of (shapes_of image) instr s.args m)) (Ends (Fault fault place position) (joined t n input output)))
RepliesTo image instr s m result t n = ⊥

-- a put ends nothing, or fails
abbrev pub IsPutEnd : Option RunEnd → Type 0
IsPutEnd None = Unit {0}
IsPutEnd (Some E.OutputBroken) = Unit {0}
IsPutEnd result = ⊥

-- a read gives its byte, or fails
abbrev pub ReadsTo : Option RunEnd → Next → CodeState → Type 0
ReadsTo None next t = next ≡ Goes t
ReadsTo (Some E.InputBroken) next t = next ≡ Ends InputBroken t
ReadsTo result next t = ⊥

abbrev pub Reads : State → Option RunEnd → State → Bool → List ℕ → Type 0
Reads old result new ended taken =
    (later : Rest) → IsLeft ended result later → (memory : BitMemory) (output : List ℕ) → ReadsTo result (answered_from old memory (taken ++ later.bytes) later.mark output) (joined new memory later output)

-- an answer changes neither the place nor the open calls nor the turns
abbrev pub Stays : State → State → Type 0
Stays old new = (new.at ≡ old.at) × (new.returns ≡ old.returns) × (new.turns ≡ old.turns)

-- the state of the code that was kept
abbrev pub kept_state : Kept → ℕ → BitMemory → Rest → List ℕ → CodeState
kept_state kept turns memory input output = record {
  at = kept.at;
  registers = kept.regs;
  returns = kept.returns;
  memory = memory;
  turns = turns;
  input = input;
  output = output;
}
