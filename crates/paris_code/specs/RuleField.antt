-- Image rule 2, field: lengths, ends of fields and registers.
use Rattle.std.specs.Prelude.{◌≡◌, ℕ, ◌+◌, ◌<◌, ◌≤◌, Bool, true, false, List, filter, length, Option, Some, None, All}
use Rattle.cstar_base.specs.declared.operators.SegmentMode.{SegmentMode}
use Rattle.cstar_base.specs.declared.operators.SegmentMode.TheVariants as M
use Rattle.paris_code.specs.declared.operands.Field.{Field}
use Rattle.paris_code.specs.declared.operands.Konst.{Konst}
use Rattle.paris_code.specs.declared.operands.Konst.TheVariants as K
use Rattle.paris_code.specs.declared.operands.Coordinate.{Coordinate}
use Rattle.paris_code.specs.declared.operands.Coordinate.TheVariants as C
use Rattle.paris_code.specs.declared.instr.Instr.{Instr}
use Rattle.paris_code.specs.declared.rows.Length.TheVariants as L
use Rattle.paris_code.specs.Rows.{Each, Operand, row_of}
use Rattle.paris_code.specs.Rows as O
use Rattle.paris_code.specs.Shapes.{SetShape, bits_at}
use Rattle.paris_code.specs.Operands.{coordinate_of, konst_of, register_of}

-- the rule speaks of fields whose set exists
abbrev pub HasSet : List SetShape → Field → Type 0
HasSet shapes f = f.set < length shapes

-- 1 to 32 bits that end within those of the set
abbrev pub Fits : List SetShape → Field → Type 0
Fits shapes f = HasSet shapes f → (1 ≤ f.len) × (f.len ≤ 32) × (f.offset + f.len ≤ bits_at shapes f.set)

-- a field that fits and has a given length
abbrev pub FitsAt : List SetShape → ℕ → Field → Type 0
FitsAt shapes len f = Fits shapes f × (HasSet shapes f → f.len ≡ len)

-- a field that fits and is as long as another
abbrev pub FitsLike : List SetShape → Field → Field → Type 0
FitsLike shapes other f = Fits shapes f × (HasSet shapes f → HasSet shapes other → f.len ≡ other.len)

abbrev pub IsSlot : ℕ → ℕ → Type 0
IsSlot slots register = register < slots

-- the bit of a scan is looked at in the modes that have segments
abbrev pub ScanBitFits : List SetShape → SegmentMode → Option Field → Type 0
ScanBitFits shapes M.NoSegments bit = Unit {0}
ScanBitFits shapes mode None = Unit {0}
ScanBitFits shapes mode (Some f) = FitsAt shapes 1 f

abbrev pub KonstFits : ℕ → Konst → Type 0
KonstFits slots (K.Imm n) = Unit {0}
KonstFits slots (K.Reg r) = r < slots

abbrev pub CoordinateFits : List SetShape → ℕ → Coordinate → Type 0
CoordinateFits shapes slots (C.Field f) = Fits shapes f
CoordinateFits shapes slots (C.Reg r) = r < slots

-- a coordinate that is a register is one of so many
abbrev pub IsRegisterAt : ℕ → Coordinate → Type 0
IsRegisterAt slots (C.Field f) = Unit {0}
IsRegisterAt slots (C.Reg r) = r < slots

-- an operand is as its row in the table of instructions asks
abbrev pub OperandFits : List SetShape → ℕ → Operand → Type 0
OperandFits shapes slots (O.Bits f L.Any) = Fits shapes f
OperandFits shapes slots (O.Bits f (L.Exactly len)) = FitsAt shapes len f
OperandFits shapes slots (O.Bits f (L.Like other)) = FitsLike shapes other f
OperandFits shapes slots (O.Bit mode bit) = ScanBitFits shapes mode bit
OperandFits shapes slots (O.Register r) = r < slots
OperandFits shapes slots (O.Result r) = r < slots
OperandFits shapes slots (O.Constant k) = KonstFits slots k
OperandFits shapes slots (O.Coordinates set list) = All (CoordinateFits shapes slots) list
OperandFits shapes slots (O.Checked set list) = All (λ c. CoordinateFits shapes slots (coordinate_of c)) list
OperandFits shapes slots (O.Steps set list) = All (λ s. KonstFits slots (konst_of s)) list
OperandFits shapes slots (O.Registers set list) = All (IsSlot slots) list
OperandFits shapes slots (O.CheckedRegisters set list) = All (λ c. register_of c < slots) list
OperandFits shapes slots _ = Unit {0}

-- the operands that the rule is about: fields, registers, constants and their lists
abbrev pub is_measured : Operand → Bool
is_measured (O.Bits f length) = true
is_measured (O.Bit mode bit) = true
is_measured (O.Register r) = true
is_measured (O.Result r) = true
is_measured (O.Constant k) = true
is_measured (O.Coordinates set list) = true
is_measured (O.Checked set list) = true
is_measured (O.Steps set list) = true
is_measured (O.Registers set list) = true
is_measured (O.CheckedRegisters set list) = true
is_measured _ = false

-- the fields and registers of an instruction are as its row asks
abbrev pub KeepsField : List SetShape → ℕ → Instr → Type 0
KeepsField shapes slots instr = Each (OperandFits shapes slots) (filter is_measured (row_of instr))
