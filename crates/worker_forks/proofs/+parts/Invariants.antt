use Rattle.std.proofs.Common.{◌+◌, ◌*◌, length}
use Rattle.worker_forks.proofs.+parts.Given as goal

abbrev pub decreases-from_place : goal.decreases-from_place
decreases-from_place g l = 4 * length l.s.now

abbrev pub decreases-part_and_rest : goal.decreases-part_and_rest
decreases-part_and_rest g l = 4 * length l.rest.now + 2

abbrev pub decreases-part_and_rest-others : goal.decreases-part_and_rest-others
decreases-part_and_rest-others g l = 4 * length l.rest.now + 1
