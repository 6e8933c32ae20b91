use Rattle.std.proofs.Common.{◌≡◌}
use Rattle.paris_code.specs.Elementwise.{elementwise}
use Rattle.phase_gate.specs.Rows.{sets_of, memory_of}
use Rattle.phase_meaning.proofs.Partly.{PartlyWritten}
use Rattle.phase_gate.proofs.row_phases.RowPhases.do_elementwise.Given as goal

abbrev pub invariant-positions : goal.invariant-positions
invariant-positions l =
    (sets_of l.self ≡ sets_of l.initial.self)
    × PartlyWritten (sets_of l.initial.self) (elementwise (sets_of l.initial.self) l.instr l.args (memory_of l.initial.self)) (memory_of l.initial.self) l.position (memory_of l.self)
