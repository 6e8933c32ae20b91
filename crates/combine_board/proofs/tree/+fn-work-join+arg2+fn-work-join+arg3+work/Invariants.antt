use Rattle.std.proofs.Common.{◌+◌, ◌*◌}
use Rattle.combine_board.proofs.tree.+fn-work-join+arg2+fn-work-join+arg3+work.Given as goal

abbrev pub decreases-join+arg2 : goal.decreases-join+arg2
decreases-join+arg2 g l = 2 * l.below + 1

abbrev pub decreases-join+arg3 : goal.decreases-join+arg3
decreases-join+arg3 g l = 2 * l.below + 1

abbrev pub decreases-work : goal.decreases-work
decreases-work g l = 2 * l.depth
