use Rattle.std.proofs.Common.{◌≡◌, ℕ, ◌<◌, false}
use Rattle.paris_code.specs.Fetching.{of_named}
use Rattle.phase_meaning.specs.Gathered.{word_if}
use Rattle.phase_gate.specs.Rows.{sets_of, memory_of, room_of}
use Rattle.phase_gate.proofs.row_phases.RowPhases.gather_named.Given as goal

abbrev pub invariant-positions : goal.invariant-positions
invariant-positions l =
    (sets_of l.self ≡ sets_of l.initial.self) × (memory_of l.self ≡ memory_of l.initial.self)
    × ((p : ℕ) → p < l.position → room_of l.self l.address.set p ≡ word_if (sets_of l.initial.self) (memory_of l.initial.self) l.address.set false p (of_named (sets_of l.initial.self) (memory_of l.initial.self) l.address l.source p))
