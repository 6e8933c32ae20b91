use Rattle.reduce_scan.proofs.RunningSums.{Summing}
use Rattle.reduce_scan.proofs.sums.sum_within.Given as goal

abbrev pub invariant-loop-row : goal.invariant-loop-row
invariant-loop-row l = Summing l.initial.rows l.inclusion l.fn.before l.row l.rows l.total
