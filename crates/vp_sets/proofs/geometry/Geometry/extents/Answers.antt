use Rattle.std.proofs.Common.{take}
use Rattle.vp_sets.proofs.PositionLaws.{geometry_parts}
use Rattle.vp_sets.proofs.geometry.Geometry.extents.Goals as goal

pub returns-clause-positive : goal.returns-clause-positive
returns-clause-positive c = (geometry_parts (take c.self.inside.rank c.self.inside.extents) c.self.invariant.3).2

pub returns-clause-bound : goal.returns-clause-bound
returns-clause-bound c = (geometry_parts (take c.self.inside.rank c.self.inside.extents) c.self.invariant.3).3
