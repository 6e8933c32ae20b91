use Rattle.std.proofs.Common.{◌≡◌, ℕ, ◌<◌}
use Rattle.vp_sets.specs.Positions.{shifted}
use Rattle.paris_code.specs.Memory.{field_number}
use Rattle.paris_code.specs.Shapes.{extents_at}
use Rattle.phase_meaning.specs.Gathered.{word_if}
use Rattle.phase_gate.specs.Rows.{sets_of, memory_of, room_of}
use Rattle.phase_gate.proofs.row_phases.RowPhases.gather_shift.Given as goal

abbrev pub invariant-positions : goal.invariant-positions
invariant-positions l =
    (sets_of l.self ≡ sets_of l.initial.self) × (memory_of l.self ≡ memory_of l.initial.self)
    × ((p : ℕ) → p < l.position → room_of l.self l.source.set p ≡ word_if (sets_of l.initial.self) (memory_of l.initial.self) l.source.set l.always p (field_number (memory_of l.initial.self) l.source (shifted (extents_at (sets_of l.initial.self) l.source.set) p l.axis l.by)))
