use Rattle.std.proofs.Common.{◌≡◌, ℕ, ◌<◌, ◌&&◌, false}
use Rattle.paris_code.specs.Checking.{any_leaves}
use Rattle.paris_code.specs.Memory.{is_active}
use Rattle.paris_code.specs.Shapes.{extents_at}
use Rattle.phase_gate.specs.Rows.{sets_of, memory_of}
use Rattle.phase_gate.proofs.row_phases.RowPhases.check_grid.Given as goal

-- no position so far fails
abbrev pub invariant-positions : goal.invariant-positions
invariant-positions l =
    (k : ℕ) → k < l.position → (is_active (sets_of l.self) (memory_of l.self) l.set k && any_leaves (extents_at (sets_of l.self) l.set) l.steps l.args k) ≡ false
