use Rattle.std.proofs.Common.{length}
use Rattle.phase_elements.proofs.checks.+checking_set.Given as goal

abbrev pub decreases-checking_set : goal.decreases-checking_set
decreases-checking_set l = length l.list.now
