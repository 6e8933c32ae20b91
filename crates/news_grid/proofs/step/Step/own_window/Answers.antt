use Rattle.std.proofs.Common.{◌+◌, ◌-◌, ◌%◌, refl, ap}
use Rattle.news_grid.specs.declared.window.Window.{Window}
use Rattle.news_grid.proofs.OwnTurns.{window_shows}
use Rattle.news_grid.proofs.step.Step.own_window.Goals as goal

pub returns-clause-shows : goal.returns-clause-shows
returns-clause-shows c =
    let step = c.args.self in
    let start = c.args.k - c.args.k % step.blocks in
    let window : Window = record { first = start + c.round.result; next = start + c.round-2.result; from = step.ahead % 512 } in
    window_shows step c.args.k c.requires.step.0 c.requires.step.1 c.requires.step.2 window refl (ap (λ n. start + n) c.round.ensures) (ap (λ n. start + n) c.round-2.ensures)
