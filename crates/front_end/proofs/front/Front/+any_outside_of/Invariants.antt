use Rattle.std.proofs.Common.{length}
use Rattle.front_end.proofs.front.Front.+any_outside_of.Given as goal

abbrev pub decreases-any_outside_of : goal.decreases-any_outside_of
decreases-any_outside_of l = length l.extents.now
