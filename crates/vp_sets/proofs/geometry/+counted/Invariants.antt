use Rattle.std.proofs.Common.{length}
use Rattle.vp_sets.proofs.geometry.+counted.Given as goal

abbrev pub decreases-counted : goal.decreases-counted
decreases-counted l = length l.extents.now
