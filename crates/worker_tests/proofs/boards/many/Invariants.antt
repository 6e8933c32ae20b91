use Rattle.std.proofs.Common.{◌≡◌, ◌≤◌, length}
use Rattle.combine_core.specs.Cells.{RisesFrom, TargetsBelow}
use Rattle.combine_board.proofs.Rises.{low_after}
use Rattle.worker_tests.proofs.boards.many.Given as goal

abbrev pub invariant-loop-n : goal.invariant-loop-n
invariant-loop-n l = record {
  senders : RisesFrom 0 l.slots.items;
  low : low_after 0 l.slots.items ≤ l.n;
  targets : TargetsBelow l.targets l.slots.items;
  len : length l.slots.items ≡ l.n;
}
