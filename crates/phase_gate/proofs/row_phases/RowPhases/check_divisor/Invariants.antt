use Rattle.std.proofs.Common.{◌≡◌, ℕ, ◌<◌, ◌&&◌, eqb, false}
use Rattle.paris_code.specs.Memory.{is_active, field_number}
use Rattle.phase_gate.specs.Rows.{sets_of, memory_of}
use Rattle.phase_gate.proofs.row_phases.RowPhases.check_divisor.Given as goal

-- no position so far fails
abbrev pub invariant-positions : goal.invariant-positions
invariant-positions l = (k : ℕ) → k < l.position → (is_active (sets_of l.self) (memory_of l.self) l.source.set k && eqb (field_number (memory_of l.self) l.source k) 0) ≡ false
