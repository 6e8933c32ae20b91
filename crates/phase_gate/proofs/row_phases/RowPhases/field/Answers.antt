use Rattle.std.proofs.Common.{◌∙◌, ap}
use Rattle.paris_code.specs.Memory.{run_number, field_number}
use Rattle.phase_gate.proofs.row_phases.RowPhases.field.Goals as goal

pub returns-clause-value : goal.returns-clause-value
unfolding field_number
returns-clause-value c = c.number.ensures.value ∙ ap (λ bits. run_number (bits c.args.position) c.args.f.offset c.args.f.len) c.rows.ensures.cells
