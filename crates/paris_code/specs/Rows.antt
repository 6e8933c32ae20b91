-- The table of instructions: the row of each has its operands in the order of the listing, and says
-- how long its fields are, of which sets its axes and coordinates are, and which register it writes.
use Rattle.std.specs.Prelude.{ℕ, List, [], ◌∷◌, Option, Some, None, map, take}
use Rattle.cstar_base.specs.declared.elem.Elem.{Elem}
use Rattle.cstar_base.specs.declared.operators.Direction.{Direction}
use Rattle.cstar_base.specs.declared.operators.Inclusion.{Inclusion}
use Rattle.cstar_base.specs.declared.operators.Place.{Place}
use Rattle.cstar_base.specs.declared.operators.SegmentMode.{SegmentMode}
use Rattle.paris_code.specs.declared.instr.Instr.{Instr}
use Rattle.paris_code.specs.declared.instr.Instr.TheVariants as I
use Rattle.paris_code.specs.declared.operands.Coordinate.{Coordinate}
use Rattle.paris_code.specs.declared.operands.Field.{Field}
use Rattle.paris_code.specs.declared.operands.GridStep.{GridStep}
use Rattle.paris_code.specs.declared.operands.Konst.{Konst}
use Rattle.paris_code.specs.declared.operands.RegisterCoordinate.{RegisterCoordinate}
use Rattle.paris_code.specs.declared.operands.SignedCoordinate.{SignedCoordinate}
use Rattle.paris_code.specs.declared.rows.Length.{Length}
use Rattle.paris_code.specs.declared.rows.Length.TheVariants as L
use Rattle.paris_code.specs.declared.rows.Operand.{Operand as Shown}
use Rattle.paris_code.specs.declared.rows.Operand.TheVariants as S
use Rattle.paris_code.specs.declared.rows.Row.{Row}

-- An operand: a field, the bit of a scan and the mode that looks at it, a register that is read, one
-- that is written, a constant, a set, an axis of a set, numbers and words of the listing alone, and the
-- lists: coordinates in a set's grid, steps along its axes, and the bytes that are printed.
pub data Operand : Type 0 where
  Bits : Field → Length → Operand
  Bit : SegmentMode → Option Field → Operand
  Register : ℕ → Operand
  Result : ℕ → Operand
  Constant : Konst → Operand
  Set : ℕ → Operand
  Axis : ℕ → ℕ → Operand
  Immediate : ℕ → Operand
  Target : ℕ → Operand
  Callee : ℕ → Operand
  At : Place → Operand
  Kind : Elem → Operand
  Way : Direction → Operand
  Mode : SegmentMode → Operand
  Bound : Inclusion → Operand
  Coordinates : ℕ → List Coordinate → Operand
  Checked : ℕ → List SignedCoordinate → Operand
  Steps : ℕ → List GridStep → Operand
  Registers : ℕ → List ℕ → Operand
  CheckedRegisters : ℕ → List RegisterCoordinate → Operand
  Bytes : List ℕ → Operand

-- a field of any length, of one bit, of a word, and one as long as another
abbrev pub any : Field → Operand
any f = Bits f L.Any

abbrev pub flag : Field → Operand
flag f = Bits f (L.Exactly 1)

abbrev pub word : Field → Operand
word f = Bits f (L.Exactly 32)

abbrev pub like : Field → Field → Operand
like other f = Bits f (L.Like other)

abbrev pub row_of : Instr → List Operand
row_of (I.Move signed d a) = any d ∷ (any a ∷ [])
row_of (I.MoveConstant d k) = any d ∷ (Constant k ∷ [])
row_of (I.MoveZeroAlways d) = any d ∷ []
row_of (I.MoveAlways d a) = any d ∷ (like d a ∷ [])
row_of (I.MyNewsCoordinate d axis) = any d ∷ (Axis d.set axis ∷ [])
row_of (I.MakeAddress d set coordinates) = any d ∷ (Set set ∷ (Coordinates set coordinates.items ∷ []))
row_of (I.Operate op d a b) = any d ∷ (like d a ∷ (like d b ∷ []))
row_of (I.OperateConstant op d a k) = any d ∷ (like d a ∷ (Constant k ∷ []))
row_of (I.Negate d a) = any d ∷ (like d a ∷ [])
row_of (I.Lognot d a) = any d ∷ (like d a ∷ [])
row_of (I.Compare relation a b) = any a ∷ (like a b ∷ [])
row_of (I.EqZero a) = any a ∷ []
row_of (I.NeZero a) = any a ∷ []
row_of (I.LoadTest a) = flag a ∷ []
row_of (I.StoreTest d) = flag d ∷ []
row_of (I.LoadContext a) = flag a ∷ []
row_of (I.StoreContext d) = flag d ∷ []
row_of (I.SetContext set) = Set set ∷ []
row_of (I.LogandContextWithTest set) = Set set ∷ []
row_of (I.LogandcContextWithTest set) = Set set ∷ []
row_of (I.CheckTarget set place coordinates) = Set set ∷ (At place ∷ (Checked set coordinates.items ∷ []))
row_of (I.CheckGrid set place steps) = Set set ∷ (At place ∷ (Steps set steps.items ∷ []))
row_of (I.CheckDivisor place a) = At place ∷ (any a ∷ [])
row_of (I.GetFromNews d a axis k) = any d ∷ (like d a ∷ (Axis d.set axis ∷ (Constant k ∷ [])))
row_of (I.GetFromNewsAlways d a axis k) = any d ∷ (like d a ∷ (Axis d.set axis ∷ (Constant k ∷ [])))
row_of (I.Get d address a) = any d ∷ (any address ∷ (like d a ∷ []))
row_of (I.SendWithOverwrite d kind address a) = Bits d (L.Exactly kind.bits) ∷ (Kind kind ∷ (any address ∷ (like d a ∷ [])))
row_of (I.SendWithCombiner c d kind address a) = Bits d (L.Exactly kind.bits) ∷ (Kind kind ∷ (any address ∷ (word a ∷ [])))
row_of (I.Global c r a) = Result r ∷ (any a ∷ [])
row_of (I.Scan c d a axis direction mode bit inclusion) =
    word d ∷ (word a ∷ (Axis d.set axis ∷ (Way direction ∷ (Mode mode ∷ (Bit mode bit ∷ (Bound inclusion ∷ []))))))
row_of (I.ReadFromProcessor signed r processor a) = Result r ∷ (Register processor ∷ (any a ∷ []))
row_of (I.WriteToProcessor d processor k) = any d ∷ (Register processor ∷ (Constant k ∷ []))
row_of (I.FrontConst r n) = Result r ∷ (Immediate n ∷ [])
row_of (I.FrontMove r x) = Result r ∷ (Register x ∷ [])
row_of (I.FrontOperate op r x y) = Result r ∷ (Register x ∷ (Register y ∷ []))
row_of (I.FrontCompare relation r x y) = Result r ∷ (Register x ∷ (Register y ∷ []))
row_of (I.FrontNegate r x) = Result r ∷ (Register x ∷ [])
row_of (I.FrontLognot r x) = Result r ∷ (Register x ∷ [])
row_of (I.FrontConvert r x kind) = Result r ∷ (Register x ∷ (Kind kind ∷ []))
row_of (I.FrontMakeAddress r set registers) = Result r ∷ (Set set ∷ (Registers set registers.items ∷ []))
row_of (I.FrontCheckTarget set place registers) = Set set ∷ (At place ∷ (CheckedRegisters set registers.items ∷ []))
row_of (I.FrontCheckDivisor place x) = At place ∷ (Register x ∷ [])
row_of (I.FrontJump target) = Target target ∷ []
row_of (I.FrontJumpZero x target) = Register x ∷ (Target target ∷ [])
row_of (I.FrontJumpNonzero x target) = Register x ∷ (Target target ∷ [])
row_of I.FrontTurn = []
row_of (I.FrontCall unit) = Callee unit ∷ []
row_of I.FrontReturn = []
row_of (I.FrontPutBytes bytes) = Bytes bytes ∷ []
row_of (I.FrontPut format x) = Register x ∷ []
row_of (I.FrontGetByte r) = Result r ∷ []
row_of I.FrontHalt = []

-- what holds of each operand of a short list
abbrev pub Each : (Operand → Type 0) → List Operand → Type 0
Each P [] = Unit {0}
Each P (a ∷ []) = P a
Each P (a ∷ (b ∷ [])) = P a × P b
Each P (a ∷ (b ∷ (c ∷ []))) = P a × P b × P c
Each P (a ∷ (b ∷ (c ∷ (d ∷ rest)))) = P a × P b × P c × Each P (d ∷ rest)

-- the instruction to which an operand leads, and to which the first of them does that leads anywhere
abbrev pub target_at : Operand → Option ℕ
target_at (Target place) = Some place
target_at _ = None

abbrev pub or_later : Option ℕ → Option ℕ → Option ℕ
or_later None later = later
or_later (Some place) later = Some place

abbrev pub target_among : List Operand → Option ℕ
target_among [] = None
target_among (operand ∷ rest) = or_later (target_at operand) (target_among rest)

-- where a jump leads
abbrev pub target_of : Instr → Option ℕ
target_of instr = target_among (row_of instr)

-- the operand that the code shows
abbrev pub shown : Shown → Operand
shown (S.Bits f length) = Bits f length
shown (S.Bit mode bit) = Bit mode bit
shown (S.Register r) = Register r
shown (S.Result r) = Result r
shown (S.Constant k) = Constant k
shown (S.Set set) = Set set
shown (S.Axis set axis) = Axis set axis
shown (S.Immediate n) = Immediate n
shown (S.Target place) = Target place
shown (S.Callee unit) = Callee unit
shown (S.At place) = At place
shown (S.Kind kind) = Kind kind
shown (S.Way direction) = Way direction
shown (S.Mode mode) = Mode mode
shown (S.Bound inclusion) = Bound inclusion
shown (S.Coordinates set list) = Coordinates set list.now
shown (S.Checked set list) = Checked set list.now
shown (S.Steps set list) = Steps set list.now
shown (S.Registers set list) = Registers set list.now
shown (S.CheckedRegisters set list) = CheckedRegisters set list.now
shown (S.Bytes bytes) = Bytes bytes.now

abbrev pub operands_in : Row → List Shown
operands_in row = take row.count row.items

abbrev pub row_shown : Row → List Operand
row_shown row = map shown (operands_in row)
