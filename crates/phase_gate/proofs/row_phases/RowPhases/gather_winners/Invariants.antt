use Rattle.std.proofs.Common.{◌≡◌, ℕ, ◌<◌}
use Rattle.paris_code.specs.Memory.{processors}
use Rattle.paris_code.specs.Sending.{sends_to}
use Rattle.phase_gate.specs.Rows.{sets_of, memory_of, room_of}
use Rattle.phase_meaning.proofs.Senders.{mail}
use Rattle.phase_gate.proofs.row_phases.RowPhases.gather_winners.Given as goal

abbrev pub invariant-senders : goal.invariant-senders
invariant-senders l =
    let now = sets_of l.fn.self in
    let m = memory_of l.fn.self in
    (sets_of l.self ≡ now) × (memory_of l.self ≡ m)
    × ((p : ℕ) → p < processors now l.send.dest.set → room_of l.self l.send.dest.set p ≡ mail m l.send.source m.winner (λ s. sends_to now m l.send.address p s) l.sender)
