-- Small computed cases of the instructions' meaning.
use Rattle.std.specs.Prelude.{◌≡◌, ℕ, true, false, ◌^◌, ◌-◌, ◌+◌, ◌*◌, List, [], ◌∷◌, slice_index, Some, None}
use Rattle.std.specs.Int.{bit_at}
use Rattle.cstar_base.specs.declared.operators.Op.TheVariants as O
use Rattle.cstar_base.specs.declared.operators.Direction.TheVariants as D
use Rattle.cstar_base.specs.declared.operators.Inclusion.TheVariants as N
use Rattle.cstar_base.specs.declared.operators.SegmentMode.TheVariants as M
use Rattle.cstar_base.specs.declared.operators.Winner.{Winner}
use Rattle.cstar_base.specs.declared.operators.Winner.TheVariants as W
use Rattle.cstar_base.specs.Operators.{outcome}
use Rattle.paris_code.specs.declared.operands.Field.{Field}
use Rattle.paris_code.specs.declared.operands.Reduction.TheVariants as F
use Rattle.paris_code.specs.declared.instr.Instr.TheVariants as I
use Rattle.paris_code.specs.declared.program.Image.{Image}
use Rattle.paris_code.specs.Code.{CodeState, Mark, End, Broken, Stopped, InputBroken, Goes, Ends, begun, called, onward}
use Rattle.paris_code.specs.Fetching.{of_named, global_fold}
use Rattle.paris_code.specs.Memory.{BitMemory, is_active}
use Rattle.cstar_base.specs.Orders.{least_below}
use Rattle.paris_code.specs.Scanning.{ScanOf, scanned}
use Rattle.paris_code.specs.Sending.{winning_sender}
use Rattle.paris_code.specs.Shapes.{SetShape}

-- one set of four processors in a line, of 5 bits each
abbrev pub line : List SetShape
line = record { extents = 4 ∷ []; bits = 5 } ∷ []

-- a memory by the number that each processor's bits are
unfoldable pub memory_by : List ℕ → Winner → BitMemory
memory_by rows winner = record { bit = λ set position index. bit_at (slice_index rows position) index; winner = winner }

-- a processor's bits: a number of 4 bits, then a bit, then the context flag
unfoldable pub row : ℕ → ℕ → ℕ → ℕ
row number mark context = number + 2 ^ 4 * mark + 2 ^ 5 * context

abbrev pub number_field : Field
number_field = record { set = 0; offset = 0; len = 4 }

abbrev pub mark_field : Field
mark_field = record { set = 0; offset = 4; len = 1 }

-- processors 0, 2 and 3 hold 1, 3 and 4 and are active; processor 1 holds 2, is not, and has a mark
abbrev pub marked_line : Winner → BitMemory
marked_line winner = memory_by (row 1 0 1 ∷ row 2 1 0 ∷ row 3 0 1 ∷ row 4 0 1 ∷ []) winner

-- processors 0 and 1 hold 15 and are active; the others are not
abbrev pub two_of_ones : BitMemory
two_of_ones = memory_by (row 15 0 1 ∷ row 15 0 1 ∷ []) W.High

-- all four name processor 2, and processor 2 alone is not active
abbrev pub colliding : Winner → BitMemory
colliding winner = memory_by (row 2 0 1 ∷ row 2 0 1 ∷ row 2 0 0 ∷ row 2 0 1 ∷ []) winner

abbrev pub sum_scan : ScanOf
sum_scan = record { combiner = F.SAdd; source = number_field; axis = 0; direction = D.Upward; mode = M.SegmentBit; bit = Some mark_field; inclusion = N.Inclusive }

-- arithmetic on four bits: -7 and 2, 7 and -2
pub record Remainders : Type 0 where
  pub rem_of_negative : outcome O.Rem 4 false 9 2 ≡ 15
  pub rem_by_negative : outcome O.Rem 4 false 7 14 ≡ 1
  pub mod_of_negative : outcome O.Mod 4 false 9 2 ≡ 1
  pub mod_by_negative : outcome O.Mod 4 false 7 14 ≡ 15
  pub quotient_of_negative : outcome O.Div 4 false 9 2 ≡ 13
  pub by_zero : outcome O.Div 4 false 9 0 ≡ 0

-- shifts of -7 on four bits, past the width
pub record WideShifts : Type 0 where
  pub left : outcome O.Shl 4 true 9 4 ≡ 0
  pub unsigned_right : outcome O.Shr 4 true 9 5 ≡ 0
  pub signed_right : outcome O.Shr 4 false 9 5 ≡ 15

pub record Communication : Type 0 where
  pub segment_at_inactive : scanned line (marked_line W.High) sum_scan 3 ≡ 7
  pub before_segment : scanned line (marked_line W.High) sum_scan 0 ≡ 1
  pub last_wins : winning_sender line (colliding W.High) number_field 2 ≡ Some 3
  pub first_wins : winning_sender line (colliding W.Low) number_field 2 ≡ Some 0
  pub nobody_wins : winning_sender line (colliding W.Low) number_field 1 ≡ None
  pub no_processor : of_named line (memory_by (row 4 0 1 ∷ row 0 0 1 ∷ []) W.High) number_field number_field 0 ≡ 0
  pub sum_with_a_sign : global_fold line two_of_ones F.SAdd number_field ≡ 2 ^ 32 - 2
  pub greatest_with_a_sign : global_fold line two_of_ones F.SMax number_field ≡ 2 ^ 32 - 1
  pub greatest_without_a_sign : global_fold line two_of_ones F.UMax number_field ≡ 15
  pub ones_of_all : global_fold line two_of_ones F.Logand number_field ≡ 15
  pub minimum_of_nothing : global_fold line (memory_by [] W.High) F.SMin number_field ≡ 2 ^ 31 - 1
  pub least_of_two : least_below (λ p. is_active line (marked_line W.High) 0 p) 4 ≡ Some 0

-- code at place 4 with two registers, no turn and no input left
abbrev pub at_four : BitMemory → Mark → CodeState
at_four memory mark = record {
  at = 4;
  registers = 7 ∷ 8 ∷ [];
  returns = [];
  memory = memory;
  turns = 0;
  input = record { bytes = []; mark = mark };
  output = [];
}

-- of the code: a turn with none left, a call and its return, and reads behind the last byte
pub record FrontSteps (image : Image) (memory : BitMemory) : Type 0 where
  pub no_turn_left : begun image I.FrontTurn (at_four memory End) ≡ Ends Stopped (at_four memory End)
  pub call_and_return : begun image I.FrontReturn (called image 3 (at_four memory End)) ≡ Goes (onward (at_four memory End))
  pub read_at_end : begun image (I.FrontGetByte 1) (at_four memory End) ≡ Goes (record (at_four memory End) { at = 5; registers = 7 ∷ 4294967295 ∷ [] })
  pub read_of_broken : begun image (I.FrontGetByte 1) (at_four memory Broken) ≡ Ends InputBroken (onward (at_four memory Broken))
