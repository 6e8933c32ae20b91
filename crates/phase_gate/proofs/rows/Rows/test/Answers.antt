use Rattle.std.proofs.Common.{◌+◌, ◌∙◌, eqb, ap}
use Rattle.phase_gate.specs.Rows.{row_bit}
use Rattle.phase_meaning.proofs.RunBits.{run_number_one}
use Rattle.phase_gate.proofs.rows.Rows.test.Goals as goal

pub returns : goal.returns
returns c = ap (λ n. eqb n 1) (c.number.ensures.value ∙ run_number_one (row_bit c.args.self.now c.args.position) (c.args.self.now.bits + 1))
