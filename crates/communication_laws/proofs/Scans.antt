-- The machine's scan is the language's.
use Rattle.std.proofs.Common.{◌≡◌, ℕ, ◌-◌, ◌<◌, Bool, true, false, ◌&&◌, not, List, length, Option, ◌∙◌, sym, ap, subst, refl, arith}
use Rattle.std.specs.Prelude.{slice_index, slice_set}
use Rattle.vp_sets.specs.Lines.{steps_before}
use Rattle.vp_sets.specs.Positions.{position_count, are_positive, coordinates, coordinate, with_coordinate}
use Rattle.vp_sets.proofs.PositionLaws.{number_below, coordinates_inside, inside_after_set, coordinate_by_stride, extent_positive}
use Rattle.cstar_base.specs.declared.operators.Combiner.{Combiner}
use Rattle.cstar_base.specs.declared.operators.Combiner.TheVariants as C
use Rattle.cstar_base.specs.declared.operators.Inclusion.{Inclusion}
use Rattle.cstar_base.specs.declared.operators.Inclusion.TheVariants as N
use Rattle.cstar_base.specs.declared.operators.SegmentMode.{SegmentMode}
use Rattle.cstar_base.specs.declared.operators.SegmentMode.TheVariants as M
use Rattle.cstar_base.specs.Folds.{fold_once, identity_of}
use Rattle.cstar_base.specs.Orders.{any_of}
use Rattle.cstar_base.proofs.OperatorLaws.{sum_by_residues}
use Rattle.lower_base.specs.Operators.{scan_fold_of}
use Rattle.paris_code.specs.declared.operands.Field.{Field}
use Rattle.paris_code.specs.Memory.{BitMemory, field_number, is_active, processors}
use Rattle.paris_code.specs.Operators.{combiner_of}
use Rattle.paris_code.specs.Scanning.{ScanOf, bit_is_one, with_own}
use Rattle.paris_code.specs.Scanning as Machine
use Rattle.paris_code.specs.Shapes.{SetShape, extents_at}
use Rattle.phase_meaning.proofs.Lines.{steps_below}
use Rattle.source_meaning.specs.Scans.{Scan, is_parted}
use Rattle.source_meaning.specs.Scans as Language
use Rattle.communication_laws.specs.Holding.{HasActive, HasNumbers}
use Rattle.communication_laws.specs.Scans.{ScansAreTheLanguages, HasBits, scan_of_field}
use Rattle.communication_laws.proofs.Orders.{fold_alike}
use Rattle.communication_laws.proofs.Segments.{begins_by, parted_alike}

pub sum_alike : (one other : Bool) (a b : ℕ) → fold_once C.Add one a b ≡ fold_once C.Add other a b
unfolding fold_once
sum_alike one other a b = sum_by_residues 32 one a b ∙ sym (sum_by_residues 32 other a b)

-- the combiner that the lowering takes for a scan's combines as that does
combines_alike : (c : Combiner) (unsigned : Bool) (a b : ℕ) → (c ≡ C.Last → ⊥) → fold_once (combiner_of (scan_fold_of c (not unsigned))).0 (combiner_of (scan_fold_of c (not unsigned))).1 a b ≡ fold_once c unsigned a b
unfolding scan_fold_of fold_once
combines_alike C.Add u a b apart = sum_alike false u a b
combines_alike C.And u a b apart = refl
combines_alike C.Or u a b apart = refl
combines_alike C.Xor u a b apart = refl
combines_alike C.Min true a b apart = refl
combines_alike C.Min false a b apart = refl
combines_alike C.Max true a b apart = refl
combines_alike C.Max false a b apart = refl
combines_alike C.Last u a b apart = absurd (apart refl)

same_identity : (c : Combiner) (unsigned : Bool) → (c ≡ C.Last → ⊥) → identity_of (combiner_of (scan_fold_of c (not unsigned))).0 (combiner_of (scan_fold_of c (not unsigned))).1 ≡ identity_of c unsigned
unfolding scan_fold_of identity_of
same_identity C.Add u apart = refl
same_identity C.And u apart = refl
same_identity C.Or u apart = refl
same_identity C.Xor u apart = refl
same_identity C.Min true apart = refl
same_identity C.Min false apart = refl
same_identity C.Max true apart = refl
same_identity C.Max false apart = refl
same_identity C.Last u apart = absurd (apart refl)

-- the coordinates of a line are those of positions
on_line_below : (extents : List ℕ) (p axis k : ℕ) → are_positive extents ≡ true → axis < length extents → k < slice_index extents axis → with_coordinate extents p axis k < position_count extents
on_line_below extents p axis k positive within b = number_below extents (slice_set (coordinates extents p) axis k) (inside_after_set extents (coordinates extents p) axis k (coordinates_inside extents p positive) within b)

own_below : (extents : List ℕ) (p axis : ℕ) → are_positive extents ≡ true → axis < length extents → coordinate extents p axis < slice_index extents axis
own_below extents p axis positive within = omega (arith, coordinate_by_stride extents p axis within, extent_positive extents axis positive within)

module _ (shapes : List SetShape) (m : BitMemory) (given : Scan) (source : Field) (bit : Option Field) (value : ℕ → ℕ) where
  -- the scan over the grid of the field
  abbrev scan : Scan
  scan = record given { extents = extents_at shapes source.set }

  abbrev of_field : ScanOf
  of_field = scan_of_field scan source bit

  module _ (positive : are_positive scan.extents ≡ true) (within : scan.axis < length scan.extents) (apart : scan.combiner ≡ C.Last → ⊥)
      (active : HasActive shapes m source.set scan.active) (numbers : HasNumbers shapes m source scan.active value) (bits : HasBits shapes m source.set scan bit) (p : ℕ) where
    abbrev extent : ℕ
    extent = slice_index scan.extents scan.axis

    abbrev own : ℕ
    own = coordinate scan.extents p scan.axis

    abbrev line : ℕ → ℕ
    line k = with_coordinate scan.extents p scan.axis k

    line_below : (k : ℕ) → k < extent → line k < processors shapes source.set
    line_below k b = on_line_below scan.extents p scan.axis k positive within b

    own_inside : own < extent
    own_inside = own_below scan.extents p scan.axis positive within

    begins_is : (k : ℕ) → Language.begins scan (line k) ≡ begins_by scan.mode (scan.active (line k)) (scan.bit (line k))
    unfolding Language.begins
    begins_is k = by scan.mode
      where
        by : (mode : SegmentMode) → Language.begins (record scan { mode = mode }) (line k) ≡ begins_by mode (scan.active (line k)) (scan.bit (line k))
        by M.NoSegments = refl
        by M.StartBit = refl
        by M.SegmentBit = refl

    there : ℕ → ℕ
    there step = steps_before scan.direction extent step

    before_below : (step : ℕ) → step < steps_before scan.direction extent own → there step < extent
    unfolding there
    before_below step b = steps_below scan.direction extent step (omega (arith, steps_below scan.direction extent own own_inside))

    parted_is : (step : ℕ) → step < steps_before scan.direction extent own
        → any_of (λ k. Machine.parts_behind shapes m of_field p k) step (steps_before scan.direction extent own - step) ≡ is_parted scan.mode scan.direction (λ k. Language.begins scan (line k)) (there step) own
    unfolding Machine.parts_behind Machine.on_line there
    parted_is step b =
        parted_alike extent (λ k. scan.active (line k)) (λ k. scan.bit (line k)) (λ k. is_active shapes m source.set (line k)) (λ k. bit_is_one m bit (line k)) (λ k h. active (line k) (line_below k h))
        scan.mode scan.direction own step own_inside b (λ k h on. bits (line k) (line_below k h) on)
        ∙ (λ i. is_parted scan.mode scan.direction (λ k. sym (begins_is k) i) (there step) own)

    before_same : Machine.fold_before shapes m of_field p (Machine.own_step scan.extents of_field p) ≡ Language.fold_before scan value p
    unfolding Machine.fold_before Machine.own_step Machine.on_line Language.fold_before Language.counts_for there
    before_same =
        fold_alike _ _ _ _ _ _ _ _ (steps_before scan.direction extent own) (same_identity scan.combiner scan.unsigned apart)
        (λ k b. ap (λ t. t && not (any_of (λ j. Machine.parts_behind shapes m of_field p j) k (steps_before scan.direction extent own - k))) (active (line (there k)) (line_below (there k) (before_below k b)))
        ∙ ap (λ t. scan.active (line (there k)) && not t) (parted_is k b))
        (λ i k b on. combines_alike scan.combiner scan.unsigned i (field_number m source (line (there k))) apart
        ∙ ap (fold_once scan.combiner scan.unsigned i) (numbers (line (there k)) (line_below (there k) (before_below k b)) (first_of _ _ on)))
      where
        first_of : (s t : Bool) → (s && t) ≡ true → s ≡ true
        first_of true t is = refl
        first_of false t is = is

    pub scanned_same : p < processors shapes source.set → scan.active p ≡ true → Machine.scanned shapes m of_field p ≡ Language.scanned scan value p
    unfolding Machine.scanned Language.scanned
    scanned_same b on = by scan.inclusion
      where
        by : (inclusion : Inclusion) → with_own inclusion (λ total. fold_once (combiner_of of_field.combiner).0 (combiner_of of_field.combiner).1 total (field_number m source p)) (Machine.fold_before shapes m of_field p (Machine.own_step scan.extents of_field p))
            ≡ (let before = Language.fold_before scan value p in elim inclusion [ N.Inclusive ↦ fold_once scan.combiner scan.unsigned before (value p) | N.Exclusive ↦ before ])
        by N.Inclusive =
            combines_alike scan.combiner scan.unsigned (Machine.fold_before shapes m of_field p (Machine.own_step scan.extents of_field p)) (field_number m source p) apart
            ∙ ap (λ n. fold_once scan.combiner scan.unsigned n (field_number m source p)) before_same
            ∙ ap (fold_once scan.combiner scan.unsigned (Language.fold_before scan value p)) (numbers p b on)
        by N.Exclusive = before_same

pub scans : ScansAreTheLanguages
scans shapes m scan source bit value grid =
    subst (λ (extents : List ℕ). are_positive extents ≡ true → scan.axis < length extents → (scan.combiner ≡ C.Last → ⊥)
    → HasActive shapes m source.set scan.active → HasNumbers shapes m source scan.active value → HasBits shapes m source.set scan bit
    → (p : ℕ) → p < processors shapes source.set → scan.active p ≡ true
    → Machine.scanned shapes m (scan_of_field scan source bit) p ≡ Language.scanned (record scan { extents = extents }) value p)
    grid (scanned_same shapes m scan source bit value)
