use Rattle.std.proofs.Common.{◌≡◌, ℕ, ◌<◌, Some}
use Rattle.paris_code.specs.Memory.{processors}
use Rattle.vp_sets.specs.Lines.{steps_before}
use Rattle.phase_gate.specs.Rows.{sets_of, memory_of, room_of}
use Rattle.phase_gate.specs.Scans.{scan_of}
use Rattle.phase_meaning.specs.Scans.{before_at}
use Rattle.phase_gate.proofs.row_phases.RowPhases.gather_folds.Given as goal

abbrev pub invariant-positions : goal.invariant-positions
invariant-positions l =
    let now = sets_of l.initial.self in
    let m = memory_of l.initial.self in
    let set = l.scan.source.set in
    (sets_of l.self ≡ now) × (memory_of l.self ≡ m)
    × ((p : ℕ) → p < processors now set → steps_before l.scan.direction (processors now set) p < l.n → room_of l.self set p ≡ Some (before_at now m (scan_of l.scan) p))
