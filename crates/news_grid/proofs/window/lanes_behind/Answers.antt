use Rattle.news_grid.proofs.Windows.{lanes_shifted}
use Rattle.news_grid.proofs.window.lanes_behind.Goals as goal

pub returns : goal.returns
returns c =
    lanes_shifted c.args.low c.args.high c.words_beside-first.result c.words_beside-next.result c.moved_up.result c.moved_down.result c.either.result c.args.skip c.args.by c.requires.0 c.requires.1
    c.words_beside-first.ensures c.words_beside-next.ensures c.moved_down.ensures c.moved_up.ensures c.either.ensures
