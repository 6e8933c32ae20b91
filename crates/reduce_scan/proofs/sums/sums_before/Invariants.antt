use Rattle.reduce_scan.proofs.RunningSums.{Before}
use Rattle.reduce_scan.proofs.sums.sums_before.Given as goal

abbrev pub invariant-loop-word : goal.invariant-loop-word
invariant-loop-word l = Before l.fn.totals l.start l.word l.before l.sum
