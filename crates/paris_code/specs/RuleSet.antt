-- Image rule 5, set: the sets and axes that are named exist, and the shapes are grids.
use Rattle.std.specs.Prelude.{◌≡◌, ◌≢◌, ℕ, ◌<◌, Bool, true, false, List, filter, length, All, Option, Some, None}
use Rattle.std.specs.List.{slice_get}
use Rattle.cstar_base.specs.declared.operators.SegmentMode.{SegmentMode}
use Rattle.cstar_base.specs.declared.operators.SegmentMode.TheVariants as M
use Rattle.paris_code.specs.declared.operands.Field.{Field}
use Rattle.paris_code.specs.declared.operands.Coordinate.{Coordinate}
use Rattle.paris_code.specs.declared.operands.Coordinate.TheVariants as C
use Rattle.paris_code.specs.declared.operands.GridStep.{GridStep}
use Rattle.paris_code.specs.declared.instr.Instr.{Instr}
use Rattle.paris_code.specs.Rows.{Each, Operand, row_of}
use Rattle.paris_code.specs.Rows as O
use Rattle.paris_code.specs.Shapes.{SetShape, rank_at}
use Rattle.paris_code.specs.Operands.{coordinate_of}

abbrev pub SetExists : List SetShape → ℕ → Type 0
SetExists shapes set = set < length shapes

abbrev pub FieldExists : List SetShape → Field → Type 0
FieldExists shapes f = SetExists shapes f.set

abbrev pub CoordinateExists : List SetShape → Coordinate → Type 0
CoordinateExists shapes (C.Field f) = FieldExists shapes f
CoordinateExists shapes (C.Reg r) = Unit {0}

-- the bit of a scan is looked at in the modes that have segments
abbrev pub BitExists : List SetShape → SegmentMode → Option Field → Type 0
BitExists shapes M.NoSegments bit = Unit {0}
BitExists shapes mode None = Unit {0}
BitExists shapes mode (Some f) = FieldExists shapes f

-- the axis is one of the set's grid
abbrev pub IsAxis : List SetShape → ℕ → ℕ → Type 0
IsAxis shapes set axis = axis < rank_at shapes set

abbrev pub axis_of : GridStep → ℕ
axis_of s = s.axis

-- the steps name axes of the grid, and each at most once
abbrev pub AreSteps : List SetShape → ℕ → List GridStep → Type 0
AreSteps shapes set steps =
    All (λ s. IsAxis shapes set (axis_of s)) steps
    × ((j k : ℕ) (a b : GridStep) → j < k → k < length steps → slice_get steps j ≡ Some a → slice_get steps k ≡ Some b → axis_of a ≢ axis_of b)

-- the set or axis that an operand names exists; a list has a coordinate for each axis of its set
abbrev pub OperandExists : List SetShape → Operand → Type 0
OperandExists shapes (O.Bits f length) = FieldExists shapes f
OperandExists shapes (O.Bit mode bit) = BitExists shapes mode bit
OperandExists shapes (O.Set set) = SetExists shapes set
OperandExists shapes (O.Axis set axis) = IsAxis shapes set axis
OperandExists shapes (O.Coordinates set list) = All (CoordinateExists shapes) list × (length list ≡ rank_at shapes set)
OperandExists shapes (O.Checked set list) =
    All (λ c. CoordinateExists shapes (coordinate_of c)) list × (length list ≡ rank_at shapes set)
OperandExists shapes (O.Steps set list) = AreSteps shapes set list
OperandExists shapes (O.Registers set list) = length list ≡ rank_at shapes set
OperandExists shapes (O.CheckedRegisters set list) = length list ≡ rank_at shapes set
OperandExists shapes _ = Unit {0}

-- the operands that the rule is about: fields, sets, axes and the lists of a set's grid
abbrev pub is_of_set : Operand → Bool
is_of_set (O.Bits f length) = true
is_of_set (O.Bit mode bit) = true
is_of_set (O.Set set) = true
is_of_set (O.Axis set axis) = true
is_of_set (O.Coordinates set list) = true
is_of_set (O.Checked set list) = true
is_of_set (O.Steps set list) = true
is_of_set (O.Registers set list) = true
is_of_set (O.CheckedRegisters set list) = true
is_of_set _ = false

-- the sets, axes and coordinates of an instruction exist
abbrev pub KeepsSet : List SetShape → Instr → Type 0
KeepsSet shapes instr = Each (OperandExists shapes) (filter is_of_set (row_of instr))
