use Rattle.std.proofs.Common.{arith}
use Rattle.vp_sets.proofs.PositionLaws.{count_positive}
use Rattle.vp_sets.proofs.geometry.Geometry.positions.Goals as goal

pub returns-clause-positive : goal.returns-clause-positive
returns-clause-positive c = omega (arith, c.product.ensures, count_positive c.extents.result.now c.extents.ensures.positive)

pub returns-clause-bound : goal.returns-clause-bound
returns-clause-bound c = omega (arith, c.product.ensures, c.extents.ensures.bound)
