use Rattle.checkpoint.specs.Bytes.{Stand}
use Rattle.checkpoint.proofs.loading.first_wrong.Given as goal

abbrev pub invariant-loop-place : goal.invariant-loop-place
invariant-loop-place l = Stand l.bytes l.place
