use Rattle.std.proofs.Common.{◌≡◌, ◌+◌, ◌^◌, ◌<◌, ◌≤◌, length}
use Rattle.combine_core.specs.Machine.{held_by}
use Rattle.combine_board.specs.Tree.{AllDone}
use Rattle.combine_board.proofs.tree.take_claims.Given as goal

abbrev pub invariant-claims : goal.invariant-claims
invariant-claims g l = record {
  of : l.pass.board ≡ l.board;
  done : AllDone l.board.plan.slots (held_by l.pass.worker);
  none : l.pass.worker.misses ≡ 0;
  all : length (held_by l.pass.worker) + l.pass.worker.draws ≡ l.fn.pass.worker.draws;
  few : length (held_by l.pass.worker) < 2 ^ 32;
  enough : 2 ^ 32 ≤ l.fn.pass.worker.draws;
}

abbrev pub decreases-claims : goal.decreases-claims
decreases-claims g l = l.pass.worker.draws
