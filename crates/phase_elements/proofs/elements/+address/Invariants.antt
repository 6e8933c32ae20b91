use Rattle.std.proofs.Common.{length}
use Rattle.phase_elements.proofs.elements.+address.Given as goal

abbrev pub decreases-address : goal.decreases-address
decreases-address g l = length l.extents.now
