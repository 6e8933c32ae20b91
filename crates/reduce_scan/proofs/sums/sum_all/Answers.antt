use Rattle.std.proofs.Common.{◌∙◌, arith}
use Rattle.reduce_scan.proofs.RunningSums.{all_summed, groups_before}
use Rattle.reduce_scan.proofs.sums.sum_all.Goals as goal

pub returns-clause-numbers : goal.returns-clause-numbers
returns-clause-numbers c =
    all_summed c.args.rows.now c.sum_within.new.rows c.args.inclusion c.totals.result c.sums_before-total.result.0 c.args.start c.totals.ensures c.sums_before-total.ensures.before c.sum_within.ensures.numbers

pub returns-clause-total : goal.returns-clause-total
returns-clause-total c = c.sums_before-total.ensures.all ∙ groups_before c.args.rows.now c.totals.result c.args.start c.totals.ensures 16 (omega arith)
