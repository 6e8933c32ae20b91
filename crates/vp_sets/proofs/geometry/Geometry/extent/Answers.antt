use Rattle.std.proofs.Common.{arith, ap, length}
use Rattle.vp_sets.proofs.PositionLaws.{extent_positive, extent_bound}
use Rattle.vp_sets.proofs.geometry.Geometry.extent.Goals as goal

pub returns-clause-positive : goal.returns-clause-positive
returns-clause-positive c =
    extent_positive c.extents.result.now c.args.axis c.extents.ensures.positive (omega (arith, c.requires, ap length c.extents.ensures.value))

pub returns-clause-bound : goal.returns-clause-bound
returns-clause-bound c =
    omega (arith, c.extents.ensures.bound, extent_bound c.extents.result.now c.args.axis c.extents.ensures.positive (omega (arith, c.requires, ap length c.extents.ensures.value)))
