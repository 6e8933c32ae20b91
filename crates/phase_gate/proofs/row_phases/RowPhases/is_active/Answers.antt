use Rattle.std.proofs.Common.{ℕ, ◌∙◌, eqb, ap}
use Rattle.paris_code.specs.Memory.{is_active}
use Rattle.phase_gate.specs.Rows.{memory_of}
use Rattle.phase_gate.proofs.row_phases.RowPhases.is_active.Goals as goal

pub returns : goal.returns
unfolding is_active
returns c =
    c.is_active.ensures
    ∙ ap (λ (bits : ℕ → ℕ → ℕ). eqb (bits c.args.position c.rows.result.now.bits) 1) c.rows.ensures.cells
    ∙ ap (λ i. eqb ((memory_of c.args.self.now).bit c.args.set c.args.position i) 1) c.rows.ensures.bits
