-- The listing of an image: one line for each part, its words joined by one space.
use Rattle.std.specs.Prelude.{ℕ, ◌+◌, ◌/◌, ◌%◌, Bool, ◌==◌, if◌then◌else◌, List, [], ◌∷◌, ◌++◌, map, flat_map, Option, Some, None, codes, decimal}
use Rattle.std.specs.List.{slice_index, concat}
use Rattle.cstar_base.specs.declared.elem.Elem.{Elem}
use Rattle.cstar_base.specs.declared.operators.Place.{Place}
use Rattle.cstar_base.specs.declared.operators.Direction.{Direction}
use Rattle.cstar_base.specs.declared.operators.Direction.TheVariants as D
use Rattle.cstar_base.specs.declared.operators.SegmentMode.{SegmentMode}
use Rattle.cstar_base.specs.declared.operators.SegmentMode.TheVariants as M
use Rattle.cstar_base.specs.declared.operators.Inclusion.{Inclusion}
use Rattle.cstar_base.specs.declared.operators.Inclusion.TheVariants as W
use Rattle.paris_code.specs.declared.operands.Field.{Field}
use Rattle.paris_code.specs.declared.operands.Konst.{Konst}
use Rattle.paris_code.specs.declared.operands.Konst.TheVariants as K
use Rattle.paris_code.specs.declared.operands.Coordinate.{Coordinate}
use Rattle.paris_code.specs.declared.operands.Coordinate.TheVariants as C
use Rattle.paris_code.specs.declared.operands.SignedCoordinate.{SignedCoordinate}
use Rattle.paris_code.specs.declared.operands.RegisterCoordinate.{RegisterCoordinate}
use Rattle.paris_code.specs.declared.operands.GridStep.{GridStep}
use Rattle.paris_code.specs.declared.instr.Instr.{Instr}
use Rattle.paris_code.specs.declared.instr.Instr.TheVariants as I
use Rattle.paris_code.specs.declared.program.ShapeBits.{ShapeBits}
use Rattle.paris_code.specs.declared.program.Final.{Final}
use Rattle.paris_code.specs.declared.program.Entry.{Entry}
use Rattle.paris_code.specs.declared.program.Image.{Image}
use Rattle.paris_code.specs.Mnemonics.{sign_name, mnemonic_of}

-- one operand: a mark and a number
abbrev pub register_text : ℕ → List ℕ
register_text r = concat (codes "r" ∷ decimal r ∷ [])

abbrev pub immediate_text : ℕ → List ℕ
immediate_text n = concat (codes "#" ∷ decimal n ∷ [])

abbrev pub target_text : ℕ → List ℕ
target_text n = concat (codes "@" ∷ decimal n ∷ [])

abbrev pub unit_text : ℕ → List ℕ
unit_text n = concat (codes "u" ∷ decimal n ∷ [])

abbrev pub set_text : ℕ → List ℕ
set_text n = concat (codes "s" ∷ decimal n ∷ [])

abbrev pub axis_text : ℕ → List ℕ
axis_text n = concat (codes "a" ∷ decimal n ∷ [])

-- `SET:OFFSET:LEN`
abbrev pub field_text : Field → List ℕ
field_text f = concat (decimal f.set ∷ codes ":" ∷ decimal f.offset ∷ codes ":" ∷ decimal f.len ∷ [])

abbrev pub konst_text : Konst → List ℕ
konst_text (K.Imm n) = immediate_text n
konst_text (K.Reg r) = register_text r

-- `LINE,COL`
abbrev pub place_text : Place → List ℕ
place_text p = concat (decimal p.line ∷ codes "," ∷ decimal p.col ∷ [])

-- `b1`, or the sign and the width
abbrev pub kind_text : Elem → List ℕ
kind_text e = concat ((if e.bits == 1 then codes "b" else sign_name e.signed) ∷ decimal e.bits ∷ [])

abbrev pub coordinate_text : Coordinate → List ℕ
coordinate_text (C.Field f) = field_text f
coordinate_text (C.Reg r) = register_text r

-- a coordinate that is checked says how it is read
abbrev pub read_text : Bool → List ℕ
read_text signed = codes "/" ++ sign_name signed

abbrev pub checked_text : SignedCoordinate → List ℕ
checked_text c = coordinate_text c.coordinate ++ read_text c.signed

abbrev pub checked_register_text : RegisterCoordinate → List ℕ
checked_register_text c = register_text c.register ++ read_text c.signed

-- `aN=K`
abbrev pub step_text : GridStep → List ℕ
step_text s = concat (axis_text s.axis ∷ codes "=" ∷ konst_text s.step ∷ [])

abbrev pub direction_text : Direction → List ℕ
direction_text D.Upward = codes "up"
direction_text D.Downward = codes "down"

abbrev pub mode_text : SegmentMode → List ℕ
mode_text M.NoSegments = codes "none"
mode_text M.StartBit = codes "start"
mode_text M.SegmentBit = codes "segment"

abbrev pub bit_text : Option Field → List ℕ
bit_text None = codes "-"
bit_text (Some f) = field_text f

abbrev pub inclusion_text : Inclusion → List ℕ
inclusion_text W.Inclusive = codes "in"
inclusion_text W.Exclusive = codes "ex"

-- two lower-case hexadecimal digits
abbrev pub hex_digit : ℕ → ℕ
hex_digit n = slice_index (codes "0123456789abcdef") n

abbrev pub hex_text : ℕ → List ℕ
hex_text byte = hex_digit (byte / 16) ∷ hex_digit (byte % 16) ∷ []

abbrev pub bytes_text : List ℕ → List ℕ
bytes_text bytes = codes "x" ++ flat_map hex_text bytes

-- the operands of an instruction, in the order of its row in the table of instructions
unfoldable pub operands_of : Instr → List (List ℕ)
operands_of (I.Move signed d a) = field_text d ∷ field_text a ∷ []
operands_of (I.MoveConstant d k) = field_text d ∷ konst_text k ∷ []
operands_of (I.MoveZeroAlways d) = field_text d ∷ []
operands_of (I.MoveAlways d a) = field_text d ∷ field_text a ∷ []
operands_of (I.MyNewsCoordinate d axis) = field_text d ∷ axis_text axis ∷ []
operands_of (I.MakeAddress d set coordinates) = field_text d ∷ set_text set ∷ map coordinate_text coordinates.items
operands_of (I.Operate op d a b) = field_text d ∷ field_text a ∷ field_text b ∷ []
operands_of (I.OperateConstant op d a k) = field_text d ∷ field_text a ∷ konst_text k ∷ []
operands_of (I.Negate d a) = field_text d ∷ field_text a ∷ []
operands_of (I.Lognot d a) = field_text d ∷ field_text a ∷ []
operands_of (I.Compare relation a b) = field_text a ∷ field_text b ∷ []
operands_of (I.EqZero a) = field_text a ∷ []
operands_of (I.NeZero a) = field_text a ∷ []
operands_of (I.LoadTest a) = field_text a ∷ []
operands_of (I.StoreTest d) = field_text d ∷ []
operands_of (I.LoadContext a) = field_text a ∷ []
operands_of (I.StoreContext d) = field_text d ∷ []
operands_of (I.SetContext set) = set_text set ∷ []
operands_of (I.LogandContextWithTest set) = set_text set ∷ []
operands_of (I.LogandcContextWithTest set) = set_text set ∷ []
operands_of (I.CheckTarget set place coordinates) =
    set_text set ∷ place_text place ∷ map checked_text coordinates.items
operands_of (I.CheckGrid set place steps) = set_text set ∷ place_text place ∷ map step_text steps.items
operands_of (I.CheckDivisor place a) = place_text place ∷ field_text a ∷ []
operands_of (I.GetFromNews d a axis k) = field_text d ∷ field_text a ∷ axis_text axis ∷ konst_text k ∷ []
operands_of (I.GetFromNewsAlways d a axis k) = field_text d ∷ field_text a ∷ axis_text axis ∷ konst_text k ∷ []
operands_of (I.Get d address a) = field_text d ∷ field_text address ∷ field_text a ∷ []
operands_of (I.SendWithOverwrite d kind address a) =
    field_text d ∷ kind_text kind ∷ field_text address ∷ field_text a ∷ []
operands_of (I.SendWithCombiner combiner d kind address a) =
    field_text d ∷ kind_text kind ∷ field_text address ∷ field_text a ∷ []
operands_of (I.Global combiner r a) = register_text r ∷ field_text a ∷ []
operands_of (I.Scan combiner d a axis direction mode bit within) =
    field_text d ∷ field_text a ∷ axis_text axis ∷ direction_text direction ∷ mode_text mode ∷ bit_text bit
    ∷ inclusion_text within ∷ []
operands_of (I.ReadFromProcessor signed r processor a) =
    register_text r ∷ register_text processor ∷ field_text a ∷ []
operands_of (I.WriteToProcessor d processor k) = field_text d ∷ register_text processor ∷ konst_text k ∷ []
operands_of (I.FrontConst r n) = register_text r ∷ immediate_text n ∷ []
operands_of (I.FrontMove r x) = register_text r ∷ register_text x ∷ []
operands_of (I.FrontOperate op r x y) = register_text r ∷ register_text x ∷ register_text y ∷ []
operands_of (I.FrontCompare relation r x y) = register_text r ∷ register_text x ∷ register_text y ∷ []
operands_of (I.FrontNegate r x) = register_text r ∷ register_text x ∷ []
operands_of (I.FrontLognot r x) = register_text r ∷ register_text x ∷ []
operands_of (I.FrontConvert r x kind) = register_text r ∷ register_text x ∷ kind_text kind ∷ []
operands_of (I.FrontMakeAddress r set registers) =
    register_text r ∷ set_text set ∷ map register_text registers.items
operands_of (I.FrontCheckTarget set place registers) =
    set_text set ∷ place_text place ∷ map checked_register_text registers.items
operands_of (I.FrontCheckDivisor place x) = place_text place ∷ register_text x ∷ []
operands_of (I.FrontJump target) = target_text target ∷ []
operands_of (I.FrontJumpZero x target) = register_text x ∷ target_text target ∷ []
operands_of (I.FrontJumpNonzero x target) = register_text x ∷ target_text target ∷ []
operands_of I.FrontTurn = []
operands_of (I.FrontCall unit) = unit_text unit ∷ []
operands_of I.FrontReturn = []
operands_of (I.FrontPutBytes bytes) = bytes_text bytes ∷ []
operands_of (I.FrontPut format x) = register_text x ∷ []
operands_of (I.FrontGetByte r) = register_text r ∷ []
operands_of I.FrontHalt = []

-- a word with the space before it
abbrev pub spaced : List ℕ → List ℕ
spaced word = codes " " ++ word

-- `INDEX MNEMONIC OPERANDS`
abbrev pub instruction_line : ℕ → Instr → List ℕ
instruction_line index instr =
    concat (decimal index ∷ spaced (mnemonic_of instr) ∷ flat_map spaced (operands_of instr) ∷ codes "\n" ∷ [])

abbrev pub extent_text : ℕ → List ℕ
extent_text extent = concat (codes "[" ∷ decimal extent ∷ codes "]" ∷ [])

-- `.shape NUMBER EXTENTS BITS`
abbrev pub shape_line : ℕ → ShapeBits → List ℕ
shape_line number s =
    concat (codes ".shape " ∷ decimal number ∷ codes " " ∷ flat_map extent_text s.extents.items ∷ codes " " ∷ decimal s.bits ∷ codes "\n" ∷ [])

-- `.final NAME KIND FIELD`
abbrev pub final_line : Final → List ℕ
final_line f =
    concat (codes ".final " ∷ f.name ∷ spaced (kind_text f.elem) ∷ spaced (field_text f.field) ∷ codes "\n" ∷ [])

-- `.unit NUMBER NAME START`
abbrev pub unit_line : ℕ → Entry → List ℕ
unit_line number u =
    concat (codes ".unit " ∷ decimal number ∷ spaced u.name ∷ codes " " ∷ decimal u.start ∷ codes "\n" ∷ [])

abbrev pub slots_line : ℕ → List ℕ
slots_line n = concat (codes ".slots " ∷ decimal n ∷ codes "\n" ∷ [])

abbrev pub depth_line : ℕ → List ℕ
depth_line n = concat (codes ".depth " ∷ decimal n ∷ codes "\n" ∷ [])

-- the lines of a list's items, which are numbered from a first number on
unfoldable pub numbered : {A : Type 0} → (ℕ → A → List ℕ) → ℕ → List A → List ℕ
numbered line first [] = []
numbered line first (x ∷ xs) = line first x ++ numbered line (first + 1) xs

-- the listing of an image
unfoldable pub listing : Image → List ℕ
listing image =
    numbered shape_line 0 image.shapes.items
    ++ (slots_line image.slots
    ++ (depth_line image.depth
    ++ (flat_map final_line image.finals.items
    ++ (numbered unit_line 0 image.units.items ++ numbered instruction_line 0 image.code.items))))
