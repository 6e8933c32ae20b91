-- The scans: at each active position the fold of the active positions of its line and segment that
-- stand before it in the scan's direction, its own among them or not.
use Rattle.std.specs.Prelude.{ℕ, Bool, false, ◌+◌, ◌-◌, ◌==◌, ◌&&◌, not, List, slice_index, Option, Some, None}
use Rattle.vp_sets.specs.Lines.{steps_before}
use Rattle.vp_sets.specs.Positions.{coordinate, with_coordinate}
use Rattle.cstar_base.specs.declared.operators.Direction.{Direction}
use Rattle.cstar_base.specs.declared.operators.Direction.TheVariants as D
use Rattle.cstar_base.specs.declared.operators.Inclusion.{Inclusion}
use Rattle.cstar_base.specs.declared.operators.Inclusion.TheVariants as N
use Rattle.cstar_base.specs.declared.operators.SegmentMode.{SegmentMode}
use Rattle.cstar_base.specs.declared.operators.SegmentMode.TheVariants as M
use Rattle.cstar_base.specs.Folds.{fold_once, identity_of}
use Rattle.paris_code.specs.declared.operands.Field.{Field}
use Rattle.paris_code.specs.declared.operands.Reduction.{Reduction}
use Rattle.paris_code.specs.Memory.{BitMemory, field_number, is_active}
use Rattle.paris_code.specs.Operators.{combiner_of}
use Rattle.cstar_base.specs.Orders.{fold_below, any_of}
use Rattle.paris_code.specs.Shapes.{SetShape, extents_at}

-- what a scan is of
pub record ScanOf : Type 0 where
  pub combiner : Reduction
  pub source : Field
  pub axis : ℕ
  pub direction : Direction
  pub mode : SegmentMode
  pub bit : Option Field
  pub inclusion : Inclusion

-- how many steps of its line lie before a position in the scan's direction, and the position of its
-- line with so many
unfoldable pub own_step : List ℕ → ScanOf → ℕ → ℕ
own_step extents scan p = steps_before scan.direction (slice_index extents scan.axis) (coordinate extents p scan.axis)

unfoldable pub on_line : List ℕ → ScanOf → ℕ → ℕ → ℕ
on_line extents scan p step =
    with_coordinate extents p scan.axis (steps_before scan.direction (slice_index extents scan.axis) step)

-- the bit that parts the segments is 1 at a position
abbrev pub bit_is_one : BitMemory → Option Field → ℕ → Bool
bit_is_one m None p = false
bit_is_one m (Some f) p = field_number m f p == 1

-- Between two neighbours of a line, in the scan's direction, a new segment begins: with start bits,
-- where the second is active and its bit is 1; with segment bits, active or not, where the bit of
-- the upper one is 1.
abbrev pub parts : SegmentMode → Direction → Bool → Bool → Bool → Bool
parts M.NoSegments direction first second second_active = false
parts M.StartBit direction first second second_active = second_active && second
parts M.SegmentBit D.Upward first second second_active = second
parts M.SegmentBit D.Downward first second second_active = first

unfoldable pub parts_behind : List SetShape → BitMemory → ScanOf → ℕ → ℕ → Bool
parts_behind shapes m scan p step =
    let extents = extents_at shapes scan.source.set in
    let first = on_line extents scan p step in
    let second = on_line extents scan p (step + 1) in
    parts scan.mode scan.direction (bit_is_one m scan.bit first) (bit_is_one m scan.bit second) (is_active shapes m scan.source.set second)

-- the fold before the own step: over the active positions of the line from which no segment begins
-- on the way to the own one
unfoldable pub fold_before : List SetShape → BitMemory → ScanOf → ℕ → ℕ → ℕ
fold_before shapes m scan p own =
    let extents = extents_at shapes scan.source.set in
    fold_below (λ total n. fold_once (combiner_of scan.combiner).0 (combiner_of scan.combiner).1 total n)
    (λ step. is_active shapes m scan.source.set (on_line extents scan p step) && not (any_of (λ k. parts_behind shapes m scan p k) step (own - step)))
    (λ step. field_number m scan.source (on_line extents scan p step))
    (identity_of (combiner_of scan.combiner).0 (combiner_of scan.combiner).1) own

abbrev pub with_own : Inclusion → (ℕ → ℕ) → ℕ → ℕ
with_own N.Inclusive next total = next total
with_own N.Exclusive next total = total

-- the scan at a position
unfoldable pub scanned : List SetShape → BitMemory → ScanOf → ℕ → ℕ
scanned shapes m scan p =
    with_own scan.inclusion (λ total. fold_once (combiner_of scan.combiner).0 (combiner_of scan.combiner).1 total (field_number m scan.source p))
    (fold_before shapes m scan p (own_step (extents_at shapes scan.source.set) scan p))
