-- The neighbours on a line, and the fold of what stands before one of them.
use Rattle.std.specs.Prelude.{◌≡◌, ℕ, ◌+◌, ◌<◌, List, slice_index}
use Rattle.vp_sets.specs.Lines.{steps_before}
use Rattle.vp_sets.specs.Positions.{position_count}
use Rattle.paris_code.specs.Memory.{BitMemory}
use Rattle.paris_code.specs.Scanning.{ScanOf, own_step, on_line, fold_before}
use Rattle.paris_code.specs.Shapes.{SetShape, extents_at}

-- the fold of the positions before one
abbrev pub before_at : List SetShape → BitMemory → ScanOf → ℕ → ℕ
before_at shapes m scan p = fold_before shapes m scan p (own_step (extents_at shapes scan.source.set) scan p)

-- q stands one step before p on the same line, in the scan's direction: the steps of both lead to
-- them, and among all positions q comes first
pub record IsPrevious (extents : List ℕ) (scan : ScanOf) (p q : ℕ) : Type 0 where
  pub step : own_step extents scan p ≡ own_step extents scan q + 1
  pub inside : own_step extents scan p < slice_index extents scan.axis
  pub there : on_line extents scan p (own_step extents scan p) ≡ p
  pub here : on_line extents scan q (own_step extents scan q) ≡ q
  pub line : (k : ℕ) → k < slice_index extents scan.axis → on_line extents scan q k ≡ on_line extents scan p k
  pub before : steps_before scan.direction (position_count extents) q < steps_before scan.direction (position_count extents) p
