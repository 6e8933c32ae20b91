use Rattle.std.proofs.Common.{arith}
use Rattle.std.proofs.lemmas.Bool.{ne_eqb}
use Rattle.paris_code.specs.Fetching.{at_one}
use Rattle.phase_gate.specs.Rows.{sets_of, memory_of}
use Rattle.phase_meaning.proofs.Partly.{none_written}
use Rattle.phase_gate.proofs.row_phases.RowPhases.write_one.Goals as goal

pub returns-else-processor-positions-clause-memory : goal.returns-else-processor-positions-clause-memory
returns-else-processor-positions-clause-memory c =
    none_written (sets_of c.args.self.now) (at_one c.args.dest c.args.processor c.args.word) (memory_of c.args.self.now)
    (λ p b. ne_eqb p c.args.processor (λ e. absurd (omega (arith, c.if-processor-positions.false, c.positions.ensures))))
