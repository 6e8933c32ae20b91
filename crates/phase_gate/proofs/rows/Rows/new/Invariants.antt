use Rattle.std.proofs.Common.{◌≡◌, ℕ, ◌<◌, ◌+◌, ◌&&◌, ◌==◌, if◌then◌else◌, nat_lt}
use Rattle.phase_gate.specs.Rows.{shape_of_rows, row_bit}
use Rattle.phase_gate.proofs.rows.Rows.new.Given as goal

-- the flags below this position are 1, and every other bit is 0
abbrev pub invariant-contexts : goal.invariant-contexts
invariant-contexts l =
    (shape_of_rows l.rows ≡ shape_of_rows l.initial.rows)
    × ((p i : ℕ) → i < l.bits + 2 → row_bit l.rows p i ≡ (if nat_lt p l.position && i == l.bits then 1 else 0))
