use Rattle.reduce_scan.proofs.RunningSums.{Totalled}
use Rattle.reduce_scan.proofs.sums.totals.Given as goal

abbrev pub invariant-loop-row : goal.invariant-loop-row
invariant-loop-row l = Totalled l.rows l.row l.total
