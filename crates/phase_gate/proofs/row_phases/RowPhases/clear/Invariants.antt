use Rattle.std.proofs.Common.{◌≡◌, ℕ, ◌<◌, None}
use Rattle.phase_gate.specs.Rows.{sets_of, memory_of, room_of}
use Rattle.phase_gate.proofs.row_phases.RowPhases.clear.Given as goal

abbrev pub invariant-positions : goal.invariant-positions
invariant-positions l =
    (sets_of l.self ≡ sets_of l.initial.self) × (memory_of l.self ≡ memory_of l.initial.self)
    × ((p : ℕ) → p < l.position → room_of l.self l.set p ≡ None)
