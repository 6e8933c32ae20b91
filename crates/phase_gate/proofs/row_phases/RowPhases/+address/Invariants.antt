use Rattle.std.proofs.Common.{length}
use Rattle.phase_gate.proofs.row_phases.RowPhases.+address.Given as goal

abbrev pub decreases-address : goal.decreases-address
decreases-address l = length l.extents.now
