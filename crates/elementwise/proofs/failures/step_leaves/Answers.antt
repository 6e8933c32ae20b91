use Rattle.std.proofs.Common.{ℕ, ◌+◌, ◌-◌, ◌*◌, pos, cond, ltb, min, List, sym, ◌∙◌, ap, w32}
use Rattle.std.specs.Prelude.{int_lt, slice_index, unsigned_abs}
use Rattle.std.proofs.lemmas.Int.{to_z-of_z}
use Rattle.bit_planes.specs.Bits.{bit}
use Rattle.vp_sets.specs.Positions.{coordinate}
use Rattle.vp_sets.proofs.PositionLaws.{geometry_parts}
use Rattle.elementwise.proofs.Coordinates.{coordinate_inside}
use Rattle.elementwise.proofs.Outside.{step_on, step_back}
use Rattle.elementwise.proofs.failures.step_leaves.Goals as goal
use Rattle.elementwise.proofs.failures.step_leaves.Goals.{then-by-lt0, else-by-lt0}

pub returns : goal.returns
returns c = λ i b.
    let xs : List ℕ = c.args.geometry.now in
    let axis = c.args.axis in
    let own : ℕ = coordinate xs (512 * c.args.k + i) axis in
    let length = c.unsigned_abs-length.result in
    elim c.if-by-lt0.branch [
      | then-by-lt0 w ↦
          ap (λ v. bit v i) w.result-is ∙ w.opposite.ensures i b ∙ ap (λ n. 1 - n) (w.lanes_from.ensures i b)
          ∙ ap (λ n. 1 - cond (ltb own n) 0 1) (w.min.ensures ∙ ap (min length) c.extent-extent.ensures.value)
          ∙ step_back (slice_index xs axis) own c.args.by length (coordinate_inside xs (512 * c.args.k + i) axis (geometry_parts xs c.extent-extent.ensures.valid).2 c.requires.axis) (ap (λ z. int_lt z (pos 0)) (sym (to_z-of_z w32 c.args.by c.ranges.by)) ∙ w.if-by-lt0.true) (c.unsigned_abs-length.ensures.value ∙ ap unsigned_abs (to_z-of_z w32 c.args.by c.ranges.by))
      | else-by-lt0 w ↦
          ap (λ v. bit v i) w.result-is ∙ w.lanes_from-else-by-lt0.ensures i b
          ∙ ap (λ n. cond (ltb own n) 0 1) (w.saturating_sub.ensures ∙ ap (λ e. e - length) c.extent-extent.ensures.value)
          ∙ step_on (slice_index xs axis) own c.args.by length (ap (λ z. int_lt z (pos 0)) (sym (to_z-of_z w32 c.args.by c.ranges.by)) ∙ w.if-by-lt0.false) (c.unsigned_abs-length.ensures.value ∙ ap unsigned_abs (to_z-of_z w32 c.args.by c.ranges.by))
    ]
