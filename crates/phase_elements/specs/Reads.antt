-- Coordinates whose fields are of sets that can be read.
use Rattle.std.specs.Prelude.{ℕ, List}
use Rattle.paris_code.specs.declared.operands.Coordinate.{Coordinate}
use Rattle.paris_code.specs.declared.operands.Coordinate.TheVariants as C
use Rattle.paris_code.specs.Shapes.{SetShape}
use Rattle.phase_meaning.specs.Apply.{LiesIn}

-- a coordinate that is a register, or a field that lies in its set, which can be read
abbrev pub IsCoordinateIn : List SetShape → (ℕ → Type 0) → Coordinate → Type 0
IsCoordinateIn shapes reads (C.Reg r) = Unit {0}
IsCoordinateIn shapes reads (C.Field f) = LiesIn shapes f × reads f.set
