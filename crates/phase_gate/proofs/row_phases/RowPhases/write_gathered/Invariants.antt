use Rattle.std.proofs.Common.{◌≡◌}
use Rattle.phase_meaning.specs.Gathered.{held}
use Rattle.phase_gate.specs.Rows.{sets_of, memory_of, room_of}
use Rattle.phase_meaning.proofs.Partly.{PartlyWritten}
use Rattle.phase_gate.proofs.row_phases.RowPhases.write_gathered.Given as goal

abbrev pub invariant-positions : goal.invariant-positions
invariant-positions l =
    (sets_of l.self ≡ sets_of l.initial.self) × (room_of l.self ≡ room_of l.initial.self)
    × PartlyWritten (sets_of l.initial.self) (held l.dest l.kind (room_of l.initial.self l.dest.set)) (memory_of l.initial.self) l.position (memory_of l.self)
