use Rattle.lane_kernels.proofs.Lifted.{same_change}
use Rattle.news_grid.specs.Steps.{number_seen, number_taken}
use Rattle.news_grid.proofs.Windows.{taken_staying, taken_round}
use Rattle.news_grid.proofs.news.put_turn.Goals as goal

pub returns-then-is_empty : goal.returns-then-is_empty
returns-then-is_empty c =
    let to = c.args.to.now in
    let held = c.args.held.now in
    let turn = c.args.turn.now in
    same_change to (λ i. number_seen held turn.staying to.len i) (λ i. number_taken held turn to.len i) c.args.planes.now c.put_window.new.planes
    (λ i ib. taken_staying held turn to.len i (c.is_empty.ensures c.if-is_empty.true i ib)) c.put_window.ensures

pub returns-then-is_full : goal.returns-then-is_full
returns-then-is_full c =
    let to = c.args.to.now in
    let held = c.args.held.now in
    let turn = c.args.turn.now in
    same_change to (λ i. number_seen held turn.round to.len i) (λ i. number_taken held turn to.len i) c.args.planes.now c.put_window-then-is_full.new.planes
    (λ i ib. taken_round held turn to.len i (c.is_full.ensures c.if-is_full.true i ib)) c.put_window-then-is_full.ensures
