-- What an image holds, wherever its lists are kept, its instructions as steps; and that its listing
-- determines it.
use Rattle.std.specs.Prelude.{◌≡◌, ℕ, ◌<◌, ◌^◌, List, map, length, All, Option, Some, None}
use Rattle.cstar_base.specs.declared.operators.Place.{Place}
use Rattle.paris_code.specs.declared.operands.Field.{Field}
use Rattle.paris_code.specs.declared.operands.Konst.{Konst}
use Rattle.paris_code.specs.declared.operands.Konst.TheVariants as K
use Rattle.paris_code.specs.declared.operands.Coordinate.{Coordinate}
use Rattle.paris_code.specs.declared.operands.Coordinate.TheVariants as C
use Rattle.paris_code.specs.declared.operands.SignedCoordinate.{SignedCoordinate}
use Rattle.paris_code.specs.declared.operands.RegisterCoordinate.{RegisterCoordinate}
use Rattle.paris_code.specs.declared.operands.GridStep.{GridStep}
use Rattle.paris_code.specs.declared.instr.Instr.{Instr}
use Rattle.paris_code.specs.declared.instr.Instr.TheVariants as I
use Rattle.paris_code.specs.declared.program.Entry.{Entry}
use Rattle.paris_code.specs.declared.program.Final.{Final}
use Rattle.paris_code.specs.declared.program.Image.{Image}
use Rattle.paris_code.specs.declared.program.ShapeBits.{ShapeBits}
use Rattle.paris_code.specs.Listing.{listing}
use Rattle.paris_code.specs.Plain.{IsPlain}
use Rattle.paris_code.specs.Shapes.{shapes_of}
use Rattle.lower_base.specs.Drafts.{step}

-- two images hold the same, item by item
pub record SameImage (one other : Image) : Type 0 where
  pub shapes : shapes_of one ≡ shapes_of other
  pub slots : one.slots ≡ other.slots
  pub depth : one.depth ≡ other.depth
  pub finals : one.finals.items ≡ other.finals.items
  pub units : one.units.items ≡ other.units.items
  pub code : map step one.code.items ≡ map step other.code.items

-- a number of 32 bits, as every number of an image is
abbrev pub IsWord : ℕ → Type 0
IsWord n = n < 2 ^ 32

-- the numbers of an operand
abbrev pub FieldHasWords : Field → Type 0
FieldHasWords f = IsWord f.set × IsWord f.offset × IsWord f.len

abbrev pub PlaceHasWords : Place → Type 0
PlaceHasWords p = IsWord p.line × IsWord p.col

abbrev pub KonstHasWords : Konst → Type 0
KonstHasWords (K.Imm n) = IsWord n
KonstHasWords (K.Reg r) = IsWord r

abbrev pub CoordinateHasWords : Coordinate → Type 0
CoordinateHasWords (C.Field f) = FieldHasWords f
CoordinateHasWords (C.Reg r) = IsWord r

abbrev pub CheckedHasWords : SignedCoordinate → Type 0
CheckedHasWords c = CoordinateHasWords c.coordinate

abbrev pub RegisterHasWords : RegisterCoordinate → Type 0
RegisterHasWords c = IsWord c.register

abbrev pub StepHasWords : GridStep → Type 0
StepHasWords s = IsWord s.axis × KonstHasWords s.step

abbrev pub BitHasWords : Option Field → Type 0
BitHasWords None = Unit {0}
BitHasWords (Some f) = FieldHasWords f

-- the numbers of an instruction; the bytes of a text are bytes
unfoldable pub InstrHasWords : Instr → Type 0
InstrHasWords (I.Move signed d a) = FieldHasWords d × FieldHasWords a
InstrHasWords (I.MoveConstant d k) = FieldHasWords d × KonstHasWords k
InstrHasWords (I.MoveZeroAlways d) = FieldHasWords d
InstrHasWords (I.MoveAlways d a) = FieldHasWords d × FieldHasWords a
InstrHasWords (I.MyNewsCoordinate d axis) = FieldHasWords d × IsWord axis
InstrHasWords (I.MakeAddress d set coordinates) = FieldHasWords d × IsWord set × All CoordinateHasWords coordinates.items
InstrHasWords (I.Operate op d a b) = FieldHasWords d × FieldHasWords a × FieldHasWords b
InstrHasWords (I.OperateConstant op d a k) = FieldHasWords d × FieldHasWords a × KonstHasWords k
InstrHasWords (I.Negate d a) = FieldHasWords d × FieldHasWords a
InstrHasWords (I.Lognot d a) = FieldHasWords d × FieldHasWords a
InstrHasWords (I.Compare relation a b) = FieldHasWords a × FieldHasWords b
InstrHasWords (I.EqZero a) = FieldHasWords a
InstrHasWords (I.NeZero a) = FieldHasWords a
InstrHasWords (I.LoadTest a) = FieldHasWords a
InstrHasWords (I.StoreTest d) = FieldHasWords d
InstrHasWords (I.LoadContext a) = FieldHasWords a
InstrHasWords (I.StoreContext d) = FieldHasWords d
InstrHasWords (I.SetContext set) = IsWord set
InstrHasWords (I.LogandContextWithTest set) = IsWord set
InstrHasWords (I.LogandcContextWithTest set) = IsWord set
InstrHasWords (I.CheckTarget set place coordinates) = IsWord set × PlaceHasWords place × All CheckedHasWords coordinates.items
InstrHasWords (I.CheckGrid set place steps) = IsWord set × PlaceHasWords place × All StepHasWords steps.items
InstrHasWords (I.CheckDivisor place a) = PlaceHasWords place × FieldHasWords a
InstrHasWords (I.GetFromNews d a axis k) = FieldHasWords d × FieldHasWords a × IsWord axis × KonstHasWords k
InstrHasWords (I.GetFromNewsAlways d a axis k) = FieldHasWords d × FieldHasWords a × IsWord axis × KonstHasWords k
InstrHasWords (I.Get d address a) = FieldHasWords d × FieldHasWords address × FieldHasWords a
InstrHasWords (I.SendWithOverwrite d kind address a) = FieldHasWords d × FieldHasWords address × FieldHasWords a
InstrHasWords (I.SendWithCombiner combiner d kind address a) = FieldHasWords d × FieldHasWords address × FieldHasWords a
InstrHasWords (I.Global combiner r a) = IsWord r × FieldHasWords a
InstrHasWords (I.Scan combiner d a axis direction mode bit within) = FieldHasWords d × FieldHasWords a × IsWord axis × BitHasWords bit
InstrHasWords (I.ReadFromProcessor signed r processor a) = IsWord r × IsWord processor × FieldHasWords a
InstrHasWords (I.WriteToProcessor d processor k) = FieldHasWords d × IsWord processor × KonstHasWords k
InstrHasWords (I.FrontConst r n) = IsWord r × IsWord n
InstrHasWords (I.FrontMove r x) = IsWord r × IsWord x
InstrHasWords (I.FrontOperate op r x y) = IsWord r × IsWord x × IsWord y
InstrHasWords (I.FrontCompare relation r x y) = IsWord r × IsWord x × IsWord y
InstrHasWords (I.FrontNegate r x) = IsWord r × IsWord x
InstrHasWords (I.FrontLognot r x) = IsWord r × IsWord x
InstrHasWords (I.FrontConvert r x kind) = IsWord r × IsWord x
InstrHasWords (I.FrontMakeAddress r set registers) = IsWord r × IsWord set × All IsWord registers.items
InstrHasWords (I.FrontCheckTarget set place registers) = IsWord set × PlaceHasWords place × All RegisterHasWords registers.items
InstrHasWords (I.FrontCheckDivisor place x) = PlaceHasWords place × IsWord x
InstrHasWords (I.FrontJump target) = IsWord target
InstrHasWords (I.FrontJumpZero x target) = IsWord x × IsWord target
InstrHasWords (I.FrontJumpNonzero x target) = IsWord x × IsWord target
InstrHasWords I.FrontTurn = Unit {0}
InstrHasWords (I.FrontCall unit) = IsWord unit
InstrHasWords I.FrontReturn = Unit {0}
InstrHasWords (I.FrontPutBytes bytes) = All (λ byte. byte < 256) bytes
InstrHasWords (I.FrontPut format x) = IsWord x
InstrHasWords (I.FrontGetByte r) = IsWord r
InstrHasWords I.FrontHalt = Unit {0}

abbrev pub ShapeHasWords : ShapeBits → Type 0
ShapeHasWords shape = All IsWord shape.extents.items × IsWord shape.bits

abbrev pub FinalHasWords : Final → Type 0
FinalHasWords last = FieldHasWords last.field

abbrev pub EntryHasWords : Entry → Type 0
EntryHasWords entry = IsWord entry.start

-- the numbers of an image are words, and its shapes, units and instructions can be numbered by words
pub record HasWords (image : Image) : Type 0 where
  pub numbered : IsWord (length image.shapes.items) × IsWord (length image.units.items) × IsWord (length image.code.items)
  pub shapes : All ShapeHasWords image.shapes.items
  pub slots : IsWord image.slots
  pub depth : IsWord image.depth
  pub finals : All FinalHasWords image.finals.items
  pub units : All EntryHasWords image.units.items
  pub code : All InstrHasWords image.code.items

-- the listing of a plain image determines it
abbrev pub DeterminesImage : Image → Image → Type 0
DeterminesImage one other =
    IsPlain one → IsPlain other → HasWords one → HasWords other → listing one ≡ listing other → SameImage one other
