use Rattle.std.proofs.Common.{◌∙◌}
use Rattle.reduce_scan.proofs.RunningSums.{run_is_sum}
use Rattle.reduce_scan.proofs.words.Run.over_rows.Goals as goal

pub returns-then-is_plain_sum : goal.returns-then-is_plain_sum
returns-then-is_plain_sum c =
    let run = c.args.self.now in
    let sure = c.is_plain_sum.ensures c.if-is_plain_sum.true in
    run_is_sum run c.args.rows.now.planes c.sum_all.new.rows sure.0 sure.1 c.sum_all.ensures.fits c.sum_all.ensures.numbers c.sum_all.result c.sum_all.ensures.total

pub returns : goal.returns
returns c = record {
  words = c.values-words.result;
  are = c.values-words.ensures;
  given = λ i b. c.from_values.ensures i b ∙ c.over-total.ensures.words i b;
  ends = c.over-total.ensures.total;
}
