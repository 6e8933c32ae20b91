-- Scans: at each active position the fold of the active positions of its line and segment, in the
-- scan's direction, up to its own or before it.
use Rattle.std.specs.Prelude.{ℕ, Bool, false, not, ◌+◌, ◌-◌, ◌==◌, ◌&&◌, List, slice_index, Option, Some, None}
use Rattle.vp_sets.specs.Lines.{steps_before}
use Rattle.vp_sets.specs.Positions.{coordinate, with_coordinate}
use Rattle.cstar_base.specs.declared.operators.Combiner.{Combiner}
use Rattle.cstar_base.specs.declared.operators.Direction.{Direction}
use Rattle.cstar_base.specs.declared.operators.Direction.TheVariants as D
use Rattle.cstar_base.specs.declared.operators.Inclusion.{Inclusion}
use Rattle.cstar_base.specs.declared.operators.Inclusion.TheVariants as N
use Rattle.cstar_base.specs.declared.operators.SegmentMode.{SegmentMode}
use Rattle.cstar_base.specs.declared.operators.SegmentMode.TheVariants as M
use Rattle.cstar_base.specs.Folds.{fold_once, identity_of}
use Rattle.cstar_tree.specs.declared.typed.Variable.{Variable}
use Rattle.cstar_base.specs.Orders.{fold_below, any_of}
use Rattle.source_meaning.specs.State.{State}

-- What a scan is of: the extents of its shape, which positions are active, the combiner at a type,
-- and how it goes along its lines.
pub record Scan : Type 0 where
  pub extents : List ℕ
  pub active : ℕ → Bool
  pub combiner : Combiner
  pub unsigned : Bool
  pub axis : ℕ
  pub direction : Direction
  pub mode : SegmentMode
  pub bit : ℕ → Bool
  pub inclusion : Inclusion

-- where the bit that begins segments is 1
unfoldable pub bit_at : State → Option Variable → ℕ → Bool
bit_at st None p = false
bit_at st (Some x) p = st.parallel x 0 p == 1

-- the position of the line of p that has a coordinate on the axis
abbrev pub on_line : Scan → ℕ → ℕ → ℕ
on_line scan p k = with_coordinate scan.extents p scan.axis k

-- Does a segment begin at a position: nowhere, or at each whose bit is 1, active or not, or at each
-- active one whose bit is 1.
unfoldable pub begins : Scan → ℕ → Bool
begins scan p = elim scan.mode [ M.NoSegments ↦ false | M.SegmentBit ↦ scan.bit p | M.StartBit ↦ scan.active p && scan.bit p ]

-- Does a segment begin on the way from a coordinate to the own one, which lies no earlier in the
-- scan's direction. A segment of segment bits lasts upward from its beginning, whatever the
-- direction, and one of start bits in the scan's direction.
unfoldable pub is_parted : SegmentMode → Direction → (ℕ → Bool) → ℕ → ℕ → Bool
is_parted mode D.Upward begins_at k own = any_of begins_at (k + 1) (own - k)
is_parted M.StartBit D.Downward begins_at k own = any_of begins_at own (k - own)
is_parted _ D.Downward begins_at k own = any_of begins_at (own + 1) (k - own)

-- does the coordinate at a step of the line of p count for the position p
unfoldable pub counts_for : Scan → ℕ → ℕ → Bool
counts_for scan p k =
    scan.active (on_line scan p k) && not (is_parted scan.mode scan.direction (λ j. begins scan (on_line scan p j)) k (coordinate scan.extents p scan.axis))

-- the fold over what counts before the own position, from the identity
unfoldable pub fold_before : Scan → (ℕ → ℕ) → ℕ → ℕ
fold_before scan value p =
    let extent = slice_index scan.extents scan.axis in
    let there : ℕ → ℕ = λ i. steps_before scan.direction extent i in
    fold_below (λ total w. fold_once scan.combiner scan.unsigned total w) (λ i. counts_for scan p (there i)) (λ i. value (on_line scan p (there i)))
    (identity_of scan.combiner scan.unsigned) (steps_before scan.direction extent (coordinate scan.extents p scan.axis))

-- the scan of values, at an active position
unfoldable pub scanned : Scan → (ℕ → ℕ) → ℕ → ℕ
scanned scan value p =
    let before = fold_before scan value p in
    elim scan.inclusion [ N.Inclusive ↦ fold_once scan.combiner scan.unsigned before (value p) | N.Exclusive ↦ before ]
