-- Instructions with their fields moved: the offset of a field is the number of a place in a list, and
-- becomes that place. All else is as it was.
use Rattle.std.specs.Prelude.{◌≡◌, ℕ, List, map, Option, Some, None}
use Rattle.std.specs.List.{slice_index}
use Rattle.paris_code.specs.declared.operands.Coordinate.{Coordinate}
use Rattle.paris_code.specs.declared.operands.Coordinate.TheVariants as C
use Rattle.paris_code.specs.declared.operands.Field.{Field}
use Rattle.paris_code.specs.declared.operands.SignedCoordinate.{SignedCoordinate}
use Rattle.paris_code.specs.declared.instr.Instr.{Instr}
use Rattle.paris_code.specs.declared.instr.Instr.TheVariants as I

abbrev pub moved : List ℕ → Field → Field
moved places f = record { set = f.set; offset = slice_index places f.offset; len = f.len }

abbrev pub moved_coordinate : List ℕ → Coordinate → Coordinate
moved_coordinate places (C.Field f) = C.Field (moved places f)
moved_coordinate places (C.Reg r) = C.Reg r

abbrev pub moved_signed : List ℕ → SignedCoordinate → SignedCoordinate
moved_signed places c = record { coordinate = moved_coordinate places c.coordinate; signed = c.signed }

abbrev pub moved_bit : List ℕ → Option Field → Option Field
moved_bit places None = None
moved_bit places (Some f) = Some (moved places f)

-- an instruction without a list of coordinates
abbrev pub moved_instr : List ℕ → Instr → Instr
moved_instr p (I.Move signed d a) = I.Move signed (moved p d) (moved p a)
moved_instr p (I.MoveConstant d k) = I.MoveConstant (moved p d) k
moved_instr p (I.MoveZeroAlways d) = I.MoveZeroAlways (moved p d)
moved_instr p (I.MoveAlways d a) = I.MoveAlways (moved p d) (moved p a)
moved_instr p (I.MyNewsCoordinate d axis) = I.MyNewsCoordinate (moved p d) axis
moved_instr p (I.Operate op d a b) = I.Operate op (moved p d) (moved p a) (moved p b)
moved_instr p (I.OperateConstant op d a k) = I.OperateConstant op (moved p d) (moved p a) k
moved_instr p (I.Negate d a) = I.Negate (moved p d) (moved p a)
moved_instr p (I.Lognot d a) = I.Lognot (moved p d) (moved p a)
moved_instr p (I.Compare relation a b) = I.Compare relation (moved p a) (moved p b)
moved_instr p (I.EqZero a) = I.EqZero (moved p a)
moved_instr p (I.NeZero a) = I.NeZero (moved p a)
moved_instr p (I.LoadTest a) = I.LoadTest (moved p a)
moved_instr p (I.StoreTest d) = I.StoreTest (moved p d)
moved_instr p (I.LoadContext a) = I.LoadContext (moved p a)
moved_instr p (I.StoreContext d) = I.StoreContext (moved p d)
moved_instr p (I.CheckDivisor place a) = I.CheckDivisor place (moved p a)
moved_instr p (I.GetFromNews d a axis k) = I.GetFromNews (moved p d) (moved p a) axis k
moved_instr p (I.GetFromNewsAlways d a axis k) = I.GetFromNewsAlways (moved p d) (moved p a) axis k
moved_instr p (I.Get d address a) = I.Get (moved p d) (moved p address) (moved p a)
moved_instr p (I.SendWithOverwrite d kind address a) = I.SendWithOverwrite (moved p d) kind (moved p address) (moved p a)
moved_instr p (I.SendWithCombiner c d kind address a) = I.SendWithCombiner c (moved p d) kind (moved p address) (moved p a)
moved_instr p (I.Global c r a) = I.Global c r (moved p a)
moved_instr p (I.Scan c d a axis direction mode bit inclusion) = I.Scan c (moved p d) (moved p a) axis direction mode (moved_bit p bit) inclusion
moved_instr p (I.ReadFromProcessor signed r processor a) = I.ReadFromProcessor signed r processor (moved p a)
moved_instr p (I.WriteToProcessor d processor k) = I.WriteToProcessor (moved p d) processor k
moved_instr p instr = instr

-- an instruction, and the same with its fields moved
abbrev pub IsMoved : List ℕ → Instr → Instr → Type 0
IsMoved p (I.MakeAddress d set coordinates) (I.MakeAddress e t over) =
    (e ≡ moved p d) × (t ≡ set) × (over.items ≡ map (moved_coordinate p) coordinates.items)
IsMoved p (I.MakeAddress d set coordinates) over = ⊥
IsMoved p (I.CheckTarget set place coordinates) (I.CheckTarget t at over) =
    (t ≡ set) × (at ≡ place) × (over.items ≡ map (moved_signed p) coordinates.items)
IsMoved p (I.CheckTarget set place coordinates) over = ⊥
IsMoved p instr over = over ≡ moved_instr p instr
