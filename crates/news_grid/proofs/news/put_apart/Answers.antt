use Rattle.std.proofs.Common.{◌∙◌, ap, min}
use Rattle.bit_planes.specs.Bits.{bit}
use Rattle.news_grid.proofs.Windows.{both_put}
use Rattle.news_grid.proofs.news.put_apart.Goals as goal

pub returns : goal.returns
returns c =
    let to = c.args.to.now in
    both_put c.args.held.now c.args.turn.now to c.at-staying.result c.at-round.result c.args.planes.now c.put_window.new.planes c.put_window-2.new.planes
    c.at-staying.ensures.offset c.at-staying.ensures.len c.at-round.ensures.offset c.at-round.ensures.len
    (λ i ib. ap (λ p. bit p i) c.at-staying.ensures.lanes ∙ c.both-staying.ensures i ib ∙ ap (min (bit to.lanes i)) (c.opposite.ensures i ib))
    (λ i ib. ap (λ p. bit p i) c.at-round.ensures.lanes ∙ c.both.ensures i ib)
    c.put_window.ensures c.put_window-2.ensures
