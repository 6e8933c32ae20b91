use Rattle.std.proofs.Common.{refl}
use Rattle.phase_gate.specs.Rows.{memory_of}
use Rattle.phase_gate.proofs.apply.RowPhasesPhases.choose.Goals as goal

pub returns-clause-memory : goal.returns-clause-memory
unfolding memory_of
returns-clause-memory c = record { bits = λ s p i a b d. refl; winner = refl }
