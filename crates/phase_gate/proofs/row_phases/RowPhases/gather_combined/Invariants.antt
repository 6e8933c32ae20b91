use Rattle.std.proofs.Common.{◌≡◌, ℕ, ◌<◌}
use Rattle.cstar_base.specs.Folds.{fold_once}
use Rattle.cstar_base.specs.Numbers.{residue}
use Rattle.paris_code.specs.Memory.{processors, field_number, whole_number}
use Rattle.paris_code.specs.Operators.{combiner_of}
use Rattle.paris_code.specs.Sending.{sends_to}
use Rattle.phase_gate.specs.Rows.{sets_of, memory_of, room_of}
use Rattle.phase_meaning.proofs.Senders.{folded}
use Rattle.phase_gate.proofs.row_phases.RowPhases.gather_combined.Given as goal

abbrev pub invariant-senders : goal.invariant-senders
invariant-senders l =
    let now = sets_of l.fn.self in
    let m = memory_of l.fn.self in
    let c = combiner_of l.fn.combiner in
    (sets_of l.self ≡ now) × (memory_of l.self ≡ m)
    × ((p : ℕ) → p < processors now l.send.dest.set → room_of l.self l.send.dest.set p
    ≡ folded (λ total n. fold_once c.0 c.1 total n) m.winner (λ s. sends_to now m l.send.address p s) (λ s. field_number m l.send.source s) (residue 32 (whole_number m l.send.kind.signed l.send.dest p)) l.sender)
