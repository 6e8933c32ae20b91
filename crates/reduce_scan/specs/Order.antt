-- The positions of a set line by line: place q is step q % extent of line q / extent, in the scan's direction.
use Rattle.std.specs.Prelude.{ℕ, suc, ◌+◌, ◌*◌, ◌/◌, ◌%◌, List, drop, slice_index}
use Rattle.vp_sets.specs.Lines.{steps_before}
use Rattle.vp_sets.specs.Positions.{position_count}
use Rattle.cstar_base.specs.declared.operators.Direction.{Direction}
use Rattle.paris_code.specs.Scanning.{ScanOf}

-- with so many steps a line, and neighbours so far apart
abbrev pub position_at : Direction → ℕ → ℕ → ℕ → ℕ
position_at d extent apart q = q / extent / apart * (extent * apart) + steps_before d extent (q % extent) * apart + q / extent % apart

abbrev pub place_at : Direction → ℕ → ℕ → ℕ → ℕ
place_at d extent apart p = (p / apart / extent * apart + p % apart) * extent + steps_before d extent (p / apart % extent)

abbrev pub apart_of : List ℕ → ScanOf → ℕ
apart_of extents scan = position_count (drop (suc scan.axis) extents)

-- the position of place q
abbrev pub ordered : List ℕ → ScanOf → ℕ → ℕ
ordered extents scan q = position_at scan.direction (slice_index extents scan.axis) (apart_of extents scan) q
