-- What the code of an image means: one instruction from a state to the next, and a run of many.
use Rattle.std.specs.Prelude.{ℕ, zero, suc, Bool, true, ◌+◌, ◌-◌, ◌^◌, ◌==◌, not, if◌then◌else◌, List, [], ◌∷◌, ◌++◌, length, map, take, replicate, slice_index, slice_set, Option, Some, None}
use Rattle.std.specs.List.{slice_get}
use Rattle.cstar_base.specs.declared.faults.RunFault.{RunFault}
use Rattle.cstar_base.specs.declared.faults.RunFault.TheVariants.{Index, DivZero}
use Rattle.cstar_base.specs.declared.operators.Place.{Place}
use Rattle.paris_code.specs.declared.instr.Instr.{Instr}
use Rattle.paris_code.specs.declared.instr.Instr.TheVariants as I
use Rattle.paris_code.specs.declared.program.Image.{Image}
use Rattle.paris_code.specs.declared.program.Reply.{Reply}
use Rattle.paris_code.specs.declared.program.Reply.TheVariants as R
use Rattle.paris_code.specs.Kinds.{is_parallel}
use Rattle.paris_code.specs.Meaning.{after, reply_of}
use Rattle.paris_code.specs.Memory.{BitMemory}
use Rattle.cstar_base.specs.Numerals.{word_text}
use Rattle.paris_code.specs.Operands.{arguments_of, result_of}
use Rattle.paris_code.specs.Scalar.{computed, any_register_outside}
use Rattle.paris_code.specs.Shapes.{SetShape, shapes_of, extents_at}
use Rattle.paris_code.specs.Units.{start_at}

-- what comes behind the bytes of an input: its end, or a call that fails
pub data Mark : Type 0 where
  End : Mark
  Broken : Mark

-- the rest of an input
pub record Rest : Type 0 where
  pub bytes : List ℕ
  pub mark : Mark

-- where the code stands, its registers, the places behind the open calls, the outermost first, the
-- bits of all processors, the turns and the input that are left, and what was printed
pub record CodeState : Type 0 where
  pub at : ℕ
  pub registers : List ℕ
  pub returns : List ℕ
  pub memory : BitMemory
  pub turns : ℕ
  pub input : Rest
  pub output : List ℕ

-- how a run ends; a fault has a place of the source and, where a parallel check failed, the least
-- position
pub data CodeEnd : Type 0 where
  Done : CodeEnd
  Fault : RunFault → Place → Option ℕ → CodeEnd
  Stopped : CodeEnd
  InputBroken : CodeEnd

-- an instruction leads to a state, or ends the run in one
pub data Next : Type 0 where
  Goes : CodeState → Next
  Ends : CodeEnd → CodeState → Next

-- the next instruction
abbrev pub onward : CodeState → CodeState
onward s = record s { at = s.at + 1 }

-- a register takes a value
abbrev pub with_register : ℕ → ℕ → CodeState → CodeState
with_register r value s = record s { at = s.at + 1; registers = slice_set s.registers r value }

-- bytes are printed
abbrev pub with_printed : List ℕ → CodeState → CodeState
with_printed bytes s = record s { at = s.at + 1; output = s.output ++ bytes }

-- a jump, where it is taken
abbrev pub jumped : Bool → ℕ → CodeState → CodeState
jumped taken target s = record s { at = if taken then target else s.at + 1 }

-- a call keeps the place behind it, and a return goes to the last such place
abbrev pub called : Image → ℕ → CodeState → CodeState
called image unit s = record s { at = start_at image unit; returns = s.returns ++ (s.at + 1) ∷ [] }

abbrev pub returned : CodeState → CodeState
returned s = record s { at = slice_index s.returns (length s.returns - 1); returns = take (length s.returns - 1) s.returns }

-- a turn ends the run where none is left, else spends one
abbrev pub turned : CodeState → Next
turned s = if s.turns == 0 then Ends Stopped s else Goes (record s { at = s.at + 1; turns = s.turns - 1 })

-- a check that fails ends the run in a fault
abbrev pub checked : Bool → RunFault → Place → CodeState → Next
checked fails fault place s = if fails then Ends (Fault fault place None) (onward s) else Goes (onward s)

-- a read gives the next byte, and 4294967295 at the end
abbrev pub given : ℕ → CodeState → List ℕ → Mark → Next
given r s (byte ∷ bytes) mark = Goes (record (with_register r byte s) { input = record { bytes = bytes; mark = mark } })
given r s [] End = Goes (with_register r (2 ^ 32 - 1) s)
given r s [] Broken = Ends InputBroken (onward s)

-- the front end's instructions that do more than set a register
abbrev pub controlled : Image → Instr → CodeState → Next
controlled image (I.FrontCheckTarget set place coordinates) s = checked (any_register_outside (extents_at (shapes_of image) set) coordinates.items s.registers) Index place s
controlled image (I.FrontCheckDivisor place x) s = checked (slice_index s.registers x == 0) DivZero place s
controlled image (I.FrontJump target) s = Goes (jumped true target s)
controlled image (I.FrontJumpZero x target) s = Goes (jumped (slice_index s.registers x == 0) target s)
controlled image (I.FrontJumpNonzero x target) s = Goes (jumped (not (slice_index s.registers x == 0)) target s)
controlled image I.FrontTurn s = turned s
controlled image (I.FrontCall unit) s = Goes (called image unit s)
controlled image I.FrontReturn s = Goes (returned s)
controlled image (I.FrontPutBytes bytes) s = Goes (with_printed bytes s)
controlled image (I.FrontPut format x) s = Goes (with_printed (word_text format (slice_index s.registers x)) s)
controlled image (I.FrontGetByte r) s = given r s s.input.bytes s.input.mark
controlled image _ s = Ends Done s

-- the values of the registers that a parallel instruction reads, in the order of its operands
abbrev pub arguments_at : Instr → List ℕ → List ℕ
arguments_at instr registers = map (λ r. slice_index registers r) (arguments_of instr)

-- the register, if there is one, takes the value
abbrev pub stored : Option ℕ → ℕ → List ℕ → List ℕ
stored None value registers = registers
stored (Some r) value registers = slice_set registers r value

-- the fault of a parallel check
abbrev pub fault_at : Instr → ℕ → CodeEnd
fault_at (I.CheckTarget set place coordinates) position = Fault Index place (Some position)
fault_at (I.CheckGrid set place steps) position = Fault Index place (Some position)
fault_at (I.CheckDivisor place a) position = Fault DivZero place (Some position)
fault_at _ position = Done

-- what follows from the reply to a parallel instruction, from the state behind it
abbrev pub replied : Instr → CodeState → Reply → Next
replied instr s R.Nothing = Goes s
replied instr s (R.Value v) = Goes (record s { registers = stored (result_of instr) v s.registers })
replied instr s (R.Bad position) = Ends (fault_at instr position) s
replied instr s R.Memory = Ends Done s

-- a parallel instruction
unfoldable pub applied : List SetShape → Instr → CodeState → Next
applied shapes instr s =
    let args = arguments_at instr s.registers in
    replied instr (record s { at = s.at + 1; memory = after shapes instr args s.memory }) (reply_of shapes instr args s.memory)

-- a scalar instruction sets its register, or else is one of the others
abbrev pub set_or : Option (ℕ × ℕ) → CodeState → Next → Next
set_or None s other = other
set_or (Some set) s other = Goes (with_register set.0 set.1 s)

-- one instruction
unfoldable pub begun : Image → Instr → CodeState → Next
begun image instr s =
    if is_parallel instr then applied (shapes_of image) instr s
    else set_or (computed (shapes_of image) instr s.registers) s (controlled image instr s)

abbrev pub begun_at : Image → CodeState → Option Instr → Next
begun_at image s None = Ends Done s
begun_at image s (Some instr) = begun image instr s

-- the instruction at which the state stands
unfoldable pub step : Image → CodeState → Next
step image s = begun_at image s (slice_get image.code.items s.at)

-- what a run has come to, and how many instructions it began
pub record Reached : Type 0 where
  pub next : Next
  pub steps : ℕ

abbrev pub one_more : Reached → Reached
one_more r = record r { steps = r.steps + 1 }

abbrev pub go_on : (CodeState → Reached) → Next → Reached
go_on rest (Goes s) = one_more (rest s)
go_on rest (Ends end s) = record { next = Ends end s; steps = 1 }

-- the code, from a state, for at most so many instructions
unfoldable pub code : Image → ℕ → CodeState → Reached
code image zero s = record { next = Goes s; steps = 0 }
code image (suc n) s = go_on (λ t. code image n t) (step image s)

-- the start of a run: the first instruction, all registers 0, no open call, nothing printed
abbrev pub opening : Image → BitMemory → ℕ → Rest → CodeState
opening image memory turns input = record {
  at = 0;
  registers = replicate image.slots 0;
  returns = [];
  memory = memory;
  turns = turns;
  input = input;
  output = [];
}
