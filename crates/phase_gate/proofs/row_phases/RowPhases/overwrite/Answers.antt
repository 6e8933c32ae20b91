use Rattle.std.proofs.Common.{None, refl}
use Rattle.paris_code.specs.Sending.{winning_sender, message_or_zero, overwriting}
use Rattle.phase_gate.specs.Rows.{sets_of, memory_of, room_of}
use Rattle.phase_meaning.proofs.Stepwise.{held_words}
use Rattle.phase_gate.proofs.row_phases.RowPhases.overwrite.Goals as goal

pub returns-clause-memory : goal.returns-clause-memory
returns-clause-memory c =
    let now = sets_of c.args.self.now in
    let old = memory_of c.args.self.now in
    let s = c.args.send.now in
    let mid = c.gather_winners.new.self in
    held_words now (sets_of mid) old (memory_of mid) (memory_of c.write_gathered.new.self) (overwriting now old s.dest s.address s.source) None (room_of mid s.dest.set) (λ p. message_or_zero old s.source (winning_sender now old s.address p))
    c.gather_winners.ensures.sets c.gather_winners.ensures.memory (λ p. refl) c.gather_winners.ensures.words c.write_gathered.ensures.memory
