use Rattle.std.proofs.Common.{length}
use Rattle.vp_sets.proofs.geometry.+product.Given as goal

abbrev pub decreases-product : goal.decreases-product
decreases-product l = length l.extents.now
