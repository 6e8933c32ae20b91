use Rattle.std.proofs.Common.{length}
use Rattle.vp_sets.proofs.geometry.+position.Given as goal

abbrev pub decreases-position : goal.decreases-position
decreases-position l = length l.extents.now
