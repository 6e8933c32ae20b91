-- What contracts see of the front end, and when it fits an image.
use Rattle.std.specs.Prelude.{◌≡◌, ℕ, zero, suc, ◌<◌, ◌≤◌, ◌+◌, ◌-◌, ◌^◌, List, [], ◌∷◌, ◌++◌, length, take, All, Option, None, IfSome, IsSome, true}
use Rattle.cstar_base.specs.declared.faults.RunFault.{RunFault}
use Rattle.cstar_base.specs.Faults.{run_number_of}
use Rattle.paris_code.specs.declared.instr.Instr.{Instr}
use Rattle.paris_code.specs.declared.instr.Instr.TheVariants as I
use Rattle.paris_code.specs.declared.program.Image.{Image}
use Rattle.paris_code.specs.Code.{CodeState, Rest, Mark, End, Broken, Next, Goes, Ends, Fault, Stopped, Done, InputBroken, step, arguments_at, stored, replied}
use Rattle.paris_code.specs.Kinds.{is_parallel}
use Rattle.paris_code.specs.Meaning.{after, reply_of}
use Rattle.paris_code.specs.Memory.{BitMemory}
use Rattle.paris_code.specs.Operands.{result_of}
use Rattle.paris_code.specs.Shapes.{shapes_of}
use Rattle.paris_code.specs.Units.{IsAt}
use Rattle.front_end.specs.declared.ask.Ask.{Ask}
use Rattle.front_end.specs.declared.ask.Ask.TheVariants as A
use Rattle.front_end.specs.declared.front.Front.{Front}
use Rattle.front_end.specs.Fit.{IsPlace}

-- where it stands, the registers, the places behind the open calls, the turns that are left, the
-- register that an answer goes to, the arguments of the last parallel instruction, and for how
-- many calls and arguments there is room
pub record State : Type 0 where
  pub at : ℕ
  pub registers : List ℕ
  pub returns : List ℕ
  pub turns : ℕ
  pub wanted : Option ℕ
  pub args : List ℕ
  pub call_room : ℕ
  pub argument_room : ℕ

abbrev pub state_of : Front → State
state_of f = record {
  at = f.at;
  registers = f.registers.items;
  returns = f.returns.items;
  turns = f.turns;
  wanted = f.wanted;
  args = f.args.items;
  call_room = f.call_room;
  argument_room = f.argument_room;
}

-- at most how many registers an instruction of the phases reads
abbrev pub argument_limit : Instr → ℕ
argument_limit (I.MakeAddress d set coordinates) = length coordinates.items
argument_limit (I.CheckTarget set place coordinates) = length coordinates.items
argument_limit (I.CheckGrid set place steps) = length steps.items
argument_limit _ = 2

-- the state stands in the image's code, has its registers, and has room for its calls and for the
-- arguments of its instructions
pub record Fits (image : Image) (s : State) : Type 0 where
  pub place : IsPlace image s.at s.returns
  pub registers : length s.registers ≡ image.slots
  pub calls : image.depth ≤ s.call_room
  pub some : 2 ≤ s.argument_room
  pub arguments : All (λ i. argument_limit i ≤ s.argument_room) image.code.items
  pub wanted : IfSome s.wanted (λ r. r < image.slots)

-- the state of the code at which the front end stands, with the bits of the processors, the input
-- that is left and what was printed
abbrev pub joined : State → BitMemory → Rest → List ℕ → CodeState
joined s memory input output = record {
  at = s.at;
  registers = s.registers;
  returns = s.returns;
  memory = memory;
  turns = s.turns;
  input = input;
  output = output;
}

-- one instruction of the code leads from the state to this, whatever the bits, the input and what
-- was printed are
abbrev pub Begins : Image → State → (BitMemory → Rest → List ℕ → Next) → Type 0
Begins image s next = (memory : BitMemory) (input : Rest) (output : List ℕ) → step image (joined s memory input output) ≡ next memory input output

-- the wanted register, if any, takes the answer
abbrev pub answered : State → ℕ → State
answered s v = record s { registers = stored s.wanted v s.registers; wanted = None }

-- the next byte is answered, and 4294967295 at the end
abbrev pub answered_from : State → BitMemory → List ℕ → Mark → List ℕ → Next
answered_from s memory (byte ∷ bytes) mark output = Goes (joined (answered s byte) memory (record { bytes = bytes; mark = mark }) output)
answered_from s memory [] End output = Goes (joined (answered s (2 ^ 32 - 1)) memory (record { bytes = []; mark = End }) output)
answered_from s memory [] Broken output = Ends InputBroken (joined s memory (record { bytes = []; mark = Broken }) output)

-- what the front end asks for is the rest of one instruction of the code: at a parallel instruction
-- its effect on the bits, with the values of the registers that it reads, and an answer for its
-- result; at bytes that they are printed; at a read of the input an answer; and else nothing
abbrev pub AsksFor : Image → State → Ask → State → Type 0
AsksFor image old A.Ran new = (new.wanted ≡ None) × Begins image old (λ m i o. Goes (joined new m i o))
AsksFor image old (A.Apply at) new =
    (instr : Instr) × (at ≡ old.at) × IsAt image at instr × (is_parallel instr ≡ true)
    × (new ≡ record old { at = old.at + 1; args = arguments_at instr old.registers; wanted = result_of instr })
    × Begins image old (λ m i o. replied instr (joined new (after (shapes_of image) instr new.args m) i o) (reply_of (shapes_of image) instr new.args m))
AsksFor image old (A.Literal at) new =
    (bytes : List ℕ) × (at ≡ old.at) × IsAt image at (I.FrontPutBytes bytes) × (new.wanted ≡ None)
    × Begins image old (λ m i o. Goes (joined new m i (o ++ bytes)))
AsksFor image old (A.Digits text len) new = (len ≤ 11) × (new.wanted ≡ None) × Begins image old (λ m i o. Goes (joined new m i (o ++ take len text)))
AsksFor image old A.Byte new = IsSome new.wanted × Begins image old (λ m i o. answered_from new m i.bytes i.mark o)
AsksFor image old (A.Fault kind place) new =
    (fault : RunFault) × (run_number_of fault ≡ kind) × (new.wanted ≡ None)
    × Begins image old (λ m i o. Ends (Fault fault place None) (joined new m i o))
AsksFor image old A.Stopped new = (new.wanted ≡ None) × Begins image old (λ m i o. Ends Stopped (joined new m i o))
AsksFor image old A.Halted new = (new.wanted ≡ None) × Begins image old (λ m i o. Ends Done (joined new m i o))

-- so many instructions, each done whole, lead from one state to the other
abbrev pub RunsWhole : Image → State → ℕ → State → Type 0
RunsWhole image s zero t = s ≡ t
RunsWhole image s (suc n) t =
    (last : State) × RunsWhole image s n last × IsPlace image last.at last.returns × AsksFor image last A.Ran t

-- all of so many instructions but for the last are done whole, and the last comes to this ask
abbrev pub AsksAfter : Image → State → Ask → ℕ → State → Type 0
AsksAfter image old ask begun new =
    (whole : ℕ) × (begun ≡ whole + 1)
    × ((last : State) × RunsWhole image old whole last × IsPlace image last.at last.returns × AsksFor image last ask new)

-- the first bytes of the digits are this text
abbrev pub Prints : Ask → List ℕ → Type 0
Prints (A.Digits text len) printed = (len ≤ 11) × (take len text ≡ printed)
Prints ask printed = ⊥
