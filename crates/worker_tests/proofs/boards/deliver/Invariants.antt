use Rattle.std.proofs.Common.{◌≡◌}
use Rattle.worker_tests.proofs.boards.deliver.Given as goal

abbrev pub invariant-loop-slot : goal.invariant-loop-slot
invariant-loop-slot g l = record {
  of : l.pass.board ≡ l.board;
  same : l.pass.board ≡ l.fn.pass.board;
  draws : l.pass.worker.draws ≡ l.fn.pass.worker.draws;
}
