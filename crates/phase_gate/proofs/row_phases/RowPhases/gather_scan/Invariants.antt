use Rattle.std.proofs.Common.{◌≡◌, ℕ, ◌<◌, ◌≤◌, false, Some}
use Rattle.paris_code.specs.Memory.{processors}
use Rattle.paris_code.specs.Scanning.{scanned}
use Rattle.phase_meaning.specs.Gathered.{word_if}
use Rattle.phase_gate.specs.Rows.{sets_of, memory_of, room_of}
use Rattle.phase_gate.specs.Scans.{scan_of}
use Rattle.phase_meaning.specs.Scans.{before_at}
use Rattle.phase_gate.proofs.row_phases.RowPhases.gather_scan.Given as goal

abbrev pub invariant-positions : goal.invariant-positions
invariant-positions l =
    let now = sets_of l.fn.self in
    let m = memory_of l.fn.self in
    let set = l.scan.source.set in
    (sets_of l.self ≡ now) × (memory_of l.self ≡ m)
    × ((p : ℕ) → p < l.position → room_of l.self set p ≡ word_if now m set false p (scanned now m (scan_of l.scan) p))
    × ((p : ℕ) → l.position ≤ p → p < processors now set → room_of l.self set p ≡ Some (before_at now m (scan_of l.scan) p))
