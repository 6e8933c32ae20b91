use Rattle.std.proofs.Common.{length}
use Rattle.elementwise.proofs.failures.+any_outside.Given as goal

abbrev pub decreases-any_outside : goal.decreases-any_outside
decreases-any_outside l = length l.extents.now
