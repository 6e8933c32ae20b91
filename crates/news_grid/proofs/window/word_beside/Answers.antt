use Rattle.std.proofs.Common.{arith}
use Rattle.news_grid.proofs.Windows.{word_low, word_high}
use Rattle.news_grid.proofs.window.word_beside.Goals as goal

pub returns-then-at-lt8 : goal.returns-then-at-lt8
returns-then-at-lt8 c = word_low c.args.low.now c.args.high.now c.args.at c.if-at-lt8.true

pub returns-else-at-lt8 : goal.returns-else-at-lt8
returns-else-at-lt8 c = word_high c.args.low.now c.args.high.now c.args.at (omega (arith, c.if-at-lt8.false))
