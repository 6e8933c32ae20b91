use Rattle.bit_planes.proofs.Numbers.{words_more}
use Rattle.bit_planes.proofs.rows.Rows.values.Goals as goal

pub loop-word-preserved : goal.loop-word-preserved
loop-word-preserved c = words_more c.loop-row.row c.loop-word.word c.loop-row-test.true c.loop-word-test.true c.args.self.now.planes c.loop-word.v c.low_half.result c.high_half.result c.loop-word.invariant c.low_half.ensures c.high_half.ensures
