use Rattle.std.proofs.Common.{Some, refl}
use Rattle.paris_code.specs.Sending.{combined, combining}
use Rattle.phase_gate.specs.Rows.{sets_of, memory_of, room_of}
use Rattle.phase_meaning.proofs.Stepwise.{held_words}
use Rattle.phase_gate.proofs.row_phases.RowPhases.send.Goals as goal

pub returns-clause-memory : goal.returns-clause-memory
returns-clause-memory c =
    let now = sets_of c.args.self.now in
    let old = memory_of c.args.self.now in
    let s = c.args.send.now in
    let mid = c.gather_combined.new.self in
    held_words now (sets_of mid) old (memory_of mid) (memory_of c.write_gathered.new.self) (combining now old c.args.combiner s.dest s.kind s.address s.source) (Some s.kind) (room_of mid s.dest.set) (combined now old c.args.combiner s.dest s.kind.signed s.address s.source)
    c.gather_combined.ensures.sets c.gather_combined.ensures.memory (λ p. refl) c.gather_combined.ensures.words c.write_gathered.ensures.memory
