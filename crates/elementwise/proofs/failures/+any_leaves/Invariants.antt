use Rattle.std.proofs.Common.{length}
use Rattle.elementwise.proofs.failures.+any_leaves.Given as goal

abbrev pub decreases-any_leaves : goal.decreases-any_leaves
decreases-any_leaves l = length l.steps.now
