use Rattle.std.proofs.Common.{arith, ap, drop, ◌+◌, ◌∙◌}
use Rattle.vp_sets.specs.Positions.{are_positive, position_count}
use Rattle.vp_sets.proofs.PositionLaws.{count_positive, later_positive, later_count, tail_of}
use Rattle.vp_sets.proofs.geometry.Geometry.stride.Goals as goal

pub product-requires-clause-positive : goal.product-requires-clause-positive
product-requires-clause-positive c =
    ap are_positive (tail_of (c.args.axis + 1) c.extents.result.now) ∙ later_positive (c.args.axis + 1) c.extents.result.now c.extents.ensures.positive

pub product-requires-clause-bound : goal.product-requires-clause-bound
product-requires-clause-bound c =
    omega (arith, c.extents.ensures.bound, ap position_count (tail_of (c.args.axis + 1) c.extents.result.now), later_count (c.args.axis + 1) c.extents.result.now c.extents.ensures.positive)

pub returns-clause-positive : goal.returns-clause-positive
returns-clause-positive c =
    omega (arith, c.product.ensures, ap position_count (tail_of (c.args.axis + 1) c.extents.result.now), count_positive (drop (c.args.axis + 1) c.extents.result.now) (later_positive (c.args.axis + 1) c.extents.result.now c.extents.ensures.positive))
