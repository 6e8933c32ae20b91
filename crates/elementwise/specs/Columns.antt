-- Coordinates of the lanes of a block.
use Rattle.std.specs.Prelude.{◌≡◌, ℕ, ◌+◌, ◌-◌, ◌/◌, ◌%◌, ◌≤◌, List, length}
use Rattle.bit_planes.specs.declared.plane.Plane.{Plane}
use Rattle.paris_code.specs.declared.operands.Coordinate.{Coordinate}
use Rattle.paris_code.specs.declared.operands.Coordinate.TheVariants as C

-- a coordinate that is a register, or a field that lies in the planes
abbrev pub IsCoordinateWithin : List Plane → Coordinate → Type 0
IsCoordinateWithin planes (C.Reg r) = Unit {0}
IsCoordinateWithin planes (C.Field f) = (1 ≤ f.len) × (f.len ≤ 32) × (f.offset + f.len ≤ length planes)

-- the coordinate of position n along an axis, and how many positions from n on have it
pub record Counts (stride extent n own rest : ℕ) : Type 0 where
  pub is : own ≡ n / stride % extent
  pub until : rest ≡ stride - n % stride
