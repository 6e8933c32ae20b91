use Rattle.std.proofs.Common.{◌≡◌, ℕ, ◌<◌, ◌&&◌, false}
use Rattle.paris_code.specs.Checking.{any_outside}
use Rattle.paris_code.specs.Memory.{is_active}
use Rattle.paris_code.specs.Shapes.{extents_at}
use Rattle.phase_gate.specs.Rows.{sets_of, memory_of}
use Rattle.phase_gate.proofs.row_phases.RowPhases.check_target.Given as goal

-- no position so far fails
abbrev pub invariant-positions : goal.invariant-positions
invariant-positions l =
    (k : ℕ) → k < l.position → (is_active (sets_of l.self) (memory_of l.self) l.own k && any_outside (memory_of l.self) (extents_at (sets_of l.self) l.fn.set) l.list l.args k) ≡ false
