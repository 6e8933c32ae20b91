use Rattle.std.proofs.Common.{◌≡◌, ℕ, suc, ◌+◌, ◌*◌, ◌/◌, ◌%◌, List, drop, sym, ◌∙◌, ap, arith}
use Rattle.vp_sets.specs.Blocks.{block_count}
use Rattle.vp_sets.specs.Positions.{position_count}
use Rattle.vp_sets.proofs.PositionLaws.{coordinate_by_stride, geometry_parts}
use Rattle.elementwise.proofs.columns.own_coordinates.Goals as goal

pub overflow_mul-start : goal.overflow_mul-start
unfolding block_count
overflow_mul-start c =
    let parts = geometry_parts c.args.geometry.now c.extent-extent.ensures.valid in
    record { fits = omega (arith, c.requires.block, parts.3) }

pub returns : goal.returns
returns c = λ i b.
    let xs : List ℕ = c.args.geometry.now in
    c.lanes.invariant.1 i (omega (arith, b, c.lanes-test.false))
    ∙ ap (λ n. n / c.stride-stride.result % c.extent-extent.result) (let e : c.args.k * 512 + i ≡ 512 * c.args.k + i = omega arith in e)
    ∙ ap (λ s. (512 * c.args.k + i) / s % c.extent-extent.result) c.stride-stride.ensures.value
    ∙ ap (λ e. (512 * c.args.k + i) / position_count (drop (suc c.args.axis) xs) % e) c.extent-extent.ensures.value
    ∙ sym (coordinate_by_stride xs (512 * c.args.k + i) c.args.axis c.requires.axis)
