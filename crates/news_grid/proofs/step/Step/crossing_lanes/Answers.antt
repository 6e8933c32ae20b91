use Rattle.std.proofs.Common.{◌∙◌, arith}
use Rattle.news_grid.proofs.Steps.{from_its_start, none_crosses, all_cross}
use Rattle.news_grid.proofs.step.Step.crossing_lanes.Goals as goal

pub returns-then-past-self : goal.returns-then-past-self
returns-then-past-self c = λ i b.
    let room = c.if-past-self.true in
    c.repeated.ensures i b ∙ none_crosses c.args.k c.args.self.turn c.args.self.ahead i b (omega (arith, room)) (omega (arith, room))

pub returns-then-self-past : goal.returns-then-self-past
returns-then-self-past c = λ i b. c.repeated-then-self-past.ensures i b ∙ all_cross c.args.k c.args.self.turn c.args.self.ahead i b (omega (arith, c.if-past-self-2.true)) (omega (arith, c.if-self-past.true))

pub returns : goal.returns
returns c = λ i b. c.lanes_crossing.ensures i b ∙ from_its_start c.args.k c.args.self.turn c.args.self.ahead i
