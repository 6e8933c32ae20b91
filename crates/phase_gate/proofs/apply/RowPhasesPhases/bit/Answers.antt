use Rattle.std.proofs.Common.{ℕ, ◌∙◌, eqb, ap}
use Rattle.phase_gate.specs.Rows.{row_bit}
use Rattle.phase_meaning.proofs.RunBits.{run_number_one}
use Rattle.phase_gate.proofs.apply.RowPhasesPhases.bit.Goals as goal

pub returns : goal.returns
returns c =
    ap (λ n. eqb n 1) (
    c.number.ensures.value ∙ run_number_one (row_bit c.rows.result.now c.args.position) c.args.index
    ∙ ap (λ (bits : ℕ → ℕ → ℕ). bits c.args.position c.args.index) c.rows.ensures.cells)
