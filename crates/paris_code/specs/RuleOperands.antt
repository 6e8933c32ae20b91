-- Image rule 6, operands: which fields of an instruction are of one set.
use Rattle.std.specs.Prelude.{◌≡◌, List, All, Option, Some, None}
use Rattle.cstar_base.specs.declared.operators.SegmentMode.{SegmentMode}
use Rattle.cstar_base.specs.declared.operators.SegmentMode.TheVariants as M
use Rattle.paris_code.specs.declared.operands.Field.{Field}
use Rattle.paris_code.specs.declared.operands.Coordinate.{Coordinate}
use Rattle.paris_code.specs.declared.operands.Coordinate.TheVariants as C
use Rattle.paris_code.specs.declared.instr.Instr.{Instr}
use Rattle.paris_code.specs.declared.instr.Instr.TheVariants as I
use Rattle.paris_code.specs.Shapes.{SetShape}
use Rattle.paris_code.specs.RuleField.{HasSet}
use Rattle.paris_code.specs.Operands.{coordinate_of}

-- the rule speaks of fields whose set exists
abbrev pub IsWith : List SetShape → Field → Field → Type 0
IsWith shapes f other = HasSet shapes f → HasSet shapes other → f.set ≡ other.set

abbrev pub CoordinateIsWith : List SetShape → Field → Coordinate → Type 0
CoordinateIsWith shapes f (C.Field other) = IsWith shapes f other
CoordinateIsWith shapes f (C.Reg r) = Unit {0}

abbrev pub AreTogether : List SetShape → Coordinate → Coordinate → Type 0
AreTogether shapes (C.Field f) coordinate = CoordinateIsWith shapes f coordinate
AreTogether shapes (C.Reg r) coordinate = Unit {0}

-- a scan in segments has a bit, and that is of the scan's set where it is looked at
abbrev pub BitIsWith : List SetShape → Field → SegmentMode → Option Field → Type 0
BitIsWith shapes d M.NoSegments bit = Unit {0}
BitIsWith shapes d mode None = ⊥
BitIsWith shapes d mode (Some f) = IsWith shapes d f

-- the fields of an instruction are of one set, but for the source of a get and the target of a send
abbrev pub KeepsOperands : List SetShape → Instr → Type 0
KeepsOperands shapes (I.Move signed d a) = IsWith shapes d a
KeepsOperands shapes (I.MoveAlways d a) = IsWith shapes d a
KeepsOperands shapes (I.MakeAddress d set coordinates) = All (CoordinateIsWith shapes d) coordinates.items
KeepsOperands shapes (I.Operate op d a b) = IsWith shapes d a × IsWith shapes d b × IsWith shapes a b
KeepsOperands shapes (I.OperateConstant op d a k) = IsWith shapes d a
KeepsOperands shapes (I.Negate d a) = IsWith shapes d a
KeepsOperands shapes (I.Lognot d a) = IsWith shapes d a
KeepsOperands shapes (I.Compare relation a b) = IsWith shapes a b
KeepsOperands shapes (I.CheckTarget set place coordinates) =
    All (λ c. All (λ e. AreTogether shapes (coordinate_of c) (coordinate_of e)) coordinates.items) coordinates.items
KeepsOperands shapes (I.GetFromNews d a axis k) = IsWith shapes d a
KeepsOperands shapes (I.GetFromNewsAlways d a axis k) = IsWith shapes d a
KeepsOperands shapes (I.Get d address a) = IsWith shapes d address
KeepsOperands shapes (I.SendWithOverwrite d kind address a) = IsWith shapes address a
KeepsOperands shapes (I.SendWithCombiner combiner d kind address a) = IsWith shapes address a
KeepsOperands shapes (I.Scan combiner d a axis direction mode bit within) =
    IsWith shapes d a × BitIsWith shapes d mode bit
KeepsOperands shapes _ = Unit {0}
