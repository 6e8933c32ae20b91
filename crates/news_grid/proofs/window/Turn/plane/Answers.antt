use Rattle.std.proofs.Common.{◌∙◌, ap, cond, eqb}
use Rattle.bit_planes.specs.Bits.{bit}
use Rattle.bit_planes.proofs.Words.{bit-lt}
use Rattle.news_grid.specs.Steps.{seen_through}
use Rattle.news_grid.proofs.Windows.{chosen}
use Rattle.news_grid.proofs.window.Turn.plane.Goals as goal

pub returns : goal.returns
returns c = λ i ib.
    let turn = c.args.self.now in
    let held = c.args.held.now in
    let round = c.plane-round.result in
    let staying = c.plane-staying.result in
    chosen (bit turn.crossing i) (bit round i) (bit staying i) (bit c.both.result i) (bit c.opposite.result i) (bit c.both-2.result i) (bit c.either.result i)
    (bit-lt turn.crossing i) (bit-lt round i) (bit-lt staying i) (c.both.ensures i ib) (c.opposite.ensures i ib) (c.both-2.ensures i ib) (c.either.ensures i ib)
    ∙ ap (λ n. cond (eqb (bit turn.crossing i) 1) n (bit staying i)) (c.plane-round.ensures i ib)
    ∙ ap (λ n. cond (eqb (bit turn.crossing i) 1) (seen_through turn.round held c.args.len c.args.j i) n) (c.plane-staying.ensures i ib)
