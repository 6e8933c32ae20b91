use Rattle.std.proofs.Common.{length}
use Rattle.front_end.proofs.front.Front.+address_from.Given as goal

abbrev pub decreases-address_from : goal.decreases-address_from
decreases-address_from l = length l.extents.now
