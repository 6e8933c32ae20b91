use Rattle.std.proofs.Common.{arith}
use Rattle.reduce_scan.proofs.RunningSums.{summing_more, summing_none}
use Rattle.reduce_scan.proofs.sums.sum_within.Goals as goal

pub loop-row-init : goal.loop-row-init
loop-row-init c = summing_none c.args.rows.now c.args.inclusion c.args.before c.requires

pub loop-row-preserved : goal.loop-row-preserved
loop-row-preserved c =
    summing_more c.args.rows.now c.args.inclusion c.args.before c.loop-row.row c.loop-row.rows c.loop-row.total c.sums-next.result c.loop-row-test.true c.loop-row.invariant c.sums-next.ensures c.own_of.result c.own_of.ensures

pub returns-clause-numbers : goal.returns-clause-numbers
returns-clause-numbers c = λ i b. c.loop-row.invariant.done i b (omega (arith, c.loop-row-test.false))
