use Rattle.std.proofs.Common.{◌≡◌, ℕ, true, ◌+◌, ◌-◌, ◌*◌, ◌/◌, ◌<◌, ◌≤◌, length, sym, ap, ◌∙◌, arith}
use Rattle.vp_sets.specs.Blocks.{block_count}
use Rattle.vp_sets.specs.Positions.{position_count}
use Rattle.cstar_base.specs.Numbers.{number_of}
use Rattle.news_grid.specs.declared.news.Taking.{Taking}
use Rattle.news_grid.specs.Steps.{number_held, number_seen, number_taken}
use Rattle.news_grid.specs.Takings.{TakingFits}
use Rattle.news_grid.proofs.OwnTurns.{whole_turn, turn_in_set}
use Rattle.news_grid.proofs.Steps.{lane_taken}
use Rattle.news_grid.proofs.Windows.{block_held, seen_held, window_held}
use Rattle.news_grid.proofs.news.step_block.Goals as goal

pub crossing_lanes-requires-clause-step : goal.crossing_lanes-requires-clause-step
unfolding block_count
crossing_lanes-requires-clause-step c =
    let t = c.requires.taking in
    (t.leads.short, omega (arith, t.leads.within, t.blocks, t.few))

pub windows-requires-clause-step : goal.windows-requires-clause-step
unfolding block_count
windows-requires-clause-step c =
    let t = c.requires.taking in
    (t.leads.short, omega (arith, t.leads.within, t.blocks, t.few))

pub take_turn-requires-clause-staying : goal.take_turn-requires-clause-staying
take_turn-requires-clause-staying c =
    let t = c.requires.taking in
    window_held c.args.taking.now.held.now c.windows.result.0 (512 * c.args.k + c.args.taking.now.step.ahead) c.args.taking.now.blocks c.args.taking.now.shift.dest.len c.windows.ensures.stays
    (omega (arith, c.requires.block)) (omega (arith, t.len)) t.held

pub take_turn-requires-clause-round : goal.take_turn-requires-clause-round
take_turn-requires-clause-round c =
    let t = c.requires.taking in
    let taking = c.args.taking.now in
    window_held taking.held.now c.windows.result.1 (512 * c.args.k + taking.step.ahead + (512 * taking.blocks - taking.step.turn)) taking.blocks taking.shift.dest.len c.windows.ensures.crosses
    (omega (arith, c.requires.block)) (omega (arith, t.len)) t.held

-- what is held of a block in the turn of block k
own_block : (taking : Taking) (k m : ℕ) → TakingFits taking → 0 < taking.step.blocks → k < taking.blocks → m / taking.step.blocks ≡ k / taking.step.blocks → m * taking.shift.dest.len + taking.shift.dest.len ≤ length taking.held.now
unfolding block_count
own_block taking k m t some inside same =
    let step = taking.step in
    let count : ℕ = position_count taking.plan.now.geometry in
    let whole : step.turn ≡ 512 * step.blocks = whole_turn step.turn step.blocks t.leads.blocks some in
    let own : 512 * m < count = turn_in_set step.turn step.blocks count k m some whole t.leads.fills same (omega (arith, t.blocks, inside)) in
    block_held m taking.blocks taking.shift.dest.len (length taking.held.now) (omega (arith, t.blocks, own)) (omega (arith, t.len)) t.held

pub own_window-window-requires-clause-step : goal.own_window-window-requires-clause-step
own_window-window-requires-clause-step c =
    let step = c.args.taking.now.step in
    let t = c.requires.taking in
    let some : 0 < step.blocks = omega (arith, c.if-taking-gt0.true) in
    (some, whole_turn step.turn step.blocks t.leads.blocks some, t.leads.short)

pub take_window-requires-clause-held : goal.take_window-requires-clause-held
take_window-requires-clause-held c =
    let taking = c.args.taking.now in
    let window = c.own_window-window in
    let held : (m : ℕ) → m / taking.step.blocks ≡ c.args.k / taking.step.blocks → m * taking.shift.dest.len + taking.shift.dest.len ≤ length taking.held.now =
    λ m. own_block taking c.args.k m c.requires.taking (omega (arith, c.if-taking-gt0.true)) c.requires.block.0 in
    (held window.result.first window.ensures.own_turn.0, held window.result.next window.ensures.own_turn.1, window.ensures.from)

pub returns-then-taking-gt0 : goal.returns-then-taking-gt0
returns-then-taking-gt0 c =
    let taking = c.args.taking.now in
    let t = c.requires.taking in
    let held = taking.held.now in
    let d = taking.shift.dest in
    let window = c.own_window-window.result in
    record {
      mask = c.taking_lanes-lanes.result;
      lanes = c.taking_lanes-lanes.ensures;
      numbers = λ i. number_seen held window d.len i;
      written = c.take_window.ensures;
      there = λ i ib within.
          seen_held held window d.len i ib c.own_window-window.ensures.from
          ∙ ap (number_held held d.len) (c.own_window-window.ensures.shows i ib ∙ sym (t.leads.there (512 * c.args.k + i) within));
    }

pub returns : goal.returns
returns c =
    let taking = c.args.taking.now in
    let t = c.requires.taking in
    let held = taking.held.now in
    let d = taking.shift.dest in
    let crossing = c.crossing_lanes.result in
    let staying = c.windows.result.0 in
    let round = c.windows.result.1 in
    record {
      mask = c.taking_lanes-lanes.result;
      lanes = c.taking_lanes-lanes.ensures;
      numbers = λ i. number_taken held (record { staying = staying; round = round; crossing = crossing }) d.len i;
      written = c.take_turn.ensures;
      there = λ i ib within.
          lane_taken taking.plan.now.geometry taking.shift.axis (number_of 32 true taking.shift.by) taking.step held c.args.k taking.blocks d.len i crossing staying round t.leads t.blocks
          (c.crossing_lanes.ensures i ib) c.windows.ensures.stays c.windows.ensures.crosses ib within;
    }
