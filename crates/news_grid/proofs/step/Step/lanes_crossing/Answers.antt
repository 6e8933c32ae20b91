use Rattle.std.proofs.Common.{ℕ, ◌+◌, ◌-◌, ◌%◌, ◌<◌, cond, ltb, ap, ◌∙◌, arith}
use Rattle.std.proofs.Math.Nat.{mod-lt, mod-le}
use Rattle.news_grid.proofs.Steps.{lanes_between, first_lanes_cross, turns_alike}
use Rattle.news_grid.proofs.step.Step.lanes_crossing.Goals as goal

pub repeated_lanes-requires-clause-rest : goal.repeated_lanes-requires-clause-rest
repeated_lanes-requires-clause-rest c = λ i past ib.
    let turn : ℕ = c.args.self.turn in
    let over : ℕ = c.args.past in
    let last : ℕ = turn - c.args.self.ahead in
    (first_lanes_cross c.args.past turn c.args.self.ahead i c.both-in_this.result c.both-in_next.result c.either.result c.requires.past c.requires.step.0
    (lanes_between (turn - over) (last - over) i c.first_lanes.result c.first_lanes-2.result c.opposite.result c.both-in_this.result (c.first_lanes.ensures i ib)
    (c.first_lanes-2.ensures i ib ∙ ap (λ n. cond (ltb i n) 1 0) c.saturating_sub.ensures) (c.opposite.ensures i ib) (c.both-in_this.ensures i ib))
    (lanes_between turn (turn - over + last) i c.first_lanes-3.result c.first_lanes-4.result c.opposite-2.result c.both-in_next.result (c.first_lanes-3.ensures i ib) (c.first_lanes-4.ensures i ib) (c.opposite-2.ensures i ib) (c.both-in_next.ensures i ib))
    (c.either.ensures i ib)).1 past

pub returns : goal.returns
returns c = λ j jb.
    let turn : ℕ = c.args.self.turn in
    let over : ℕ = c.args.past in
    let last : ℕ = turn - c.args.self.ahead in
    let i : ℕ = j % turn in
    let ib : i < 512 = omega (arith, jb, mod-le j turn) in
    c.repeated_lanes.ensures j jb
    ∙ (first_lanes_cross c.args.past turn c.args.self.ahead i c.both-in_this.result c.both-in_next.result c.either.result c.requires.past c.requires.step.0
    (lanes_between (turn - over) (last - over) i c.first_lanes.result c.first_lanes-2.result c.opposite.result c.both-in_this.result (c.first_lanes.ensures i ib)
    (c.first_lanes-2.ensures i ib ∙ ap (λ n. cond (ltb i n) 1 0) c.saturating_sub.ensures) (c.opposite.ensures i ib) (c.both-in_this.ensures i ib))
    (lanes_between turn (turn - over + last) i c.first_lanes-3.result c.first_lanes-4.result c.opposite-2.result c.both-in_next.result (c.first_lanes-3.ensures i ib) (c.first_lanes-4.ensures i ib) (c.opposite-2.ensures i ib) (c.both-in_next.ensures i ib))
    (c.either.ensures i ib)).0 (mod-lt j (omega (arith, c.requires.step.0)))
    ∙ turns_alike c.args.past turn c.args.self.ahead j
