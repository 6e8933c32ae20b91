use Rattle.std.proofs.Common.{◌∙◌, ap}
use Rattle.std.specs.Bool.{then_some}
use Rattle.phase_gate.proofs.row_phases.RowPhases.hold.Goals as goal

pub returns-clause-held : goal.returns-clause-held
returns-clause-held c = c.gather.ensures.held ∙ c.then_some-taken.ensures ∙ ap (λ b. then_some b c.args.word) c.takes.ensures
