use Rattle.std.proofs.Common.{◌≡◌, ◌+◌, ◌∙◌, refl, sym, subst, ap, arith}
use Rattle.paris_code.specs.Fetching.{at_one}
use Rattle.paris_code.specs.Memory.{SameBits}
use Rattle.paris_code.specs.Writes.{written}
use Rattle.phase_gate.specs.declared.row_phases.RowPhases.{RowPhases}
use Rattle.phase_meaning.specs.Gathered.{held}
use Rattle.phase_gate.specs.Rows.{sets_of, memory_of, room_of}
use Rattle.phase_meaning.proofs.Stepwise.{held_more, held_skip}
use Rattle.phase_meaning.proofs.Partly.{PartlyWritten, part_none, part_all}
use Rattle.phase_gate.proofs.row_phases.RowPhases.write_gathered.Goals as goal
use Rattle.phase_gate.proofs.row_phases.RowPhases.write_gathered.Goals.{in-Some, in_default}

pub positions-init : goal.positions-init
positions-init c =
    let now = sets_of c.args.self.now in
    (refl, refl, part_none now (held c.args.dest c.args.kind (room_of c.args.self.now c.args.dest.set)) (memory_of c.args.self.now))

pub positions-preserved : goal.positions-preserved
positions-preserved c =
    let now = sets_of c.args.self.now in
    let old = memory_of c.args.self.now in
    let k = c.positions.position in
    let d = c.args.dest in
    let kind = c.args.kind in
    let words = room_of c.args.self.now d.set in
    let here = c.positions.invariant in
    let at : c.gathered.result ≡ words k = c.gathered.ensures ∙ ap (λ room. room d.set k) here.1 in
    elim c.match-gathered.branch [
      | in-Some w ↦ (
        ap sets_of w.self-is ∙ w.write.ensures.sets ∙ here.0,
        ap room_of w.self-is ∙ w.write.ensures.room ∙ here.1,
        subst (λ (p : RowPhases). PartlyWritten now (held d kind words) old (k + 1) (memory_of p)) (sym w.self-is)
            (held_more now (sets_of c.positions.self) d kind words old (memory_of c.positions.self) k here.0 here.2 (memory_of w.write.new.self) w.in-Some.word (sym at ∙ w.in-Some.is)
            (subst (λ n. SameBits (sets_of c.positions.self) (memory_of w.write.new.self) (written (at_one d k n) (memory_of c.positions.self))) w.in_kind.ensures w.write.ensures.bits)),
      )
      | in_default w ↦ (
        ap sets_of w.self-is ∙ here.0,
        ap room_of w.self-is ∙ here.1,
        subst (λ (p : RowPhases). PartlyWritten now (held d kind words) old (k + 1) (memory_of p)) (sym w.self-is)
            (held_skip now (sets_of c.positions.self) d kind words old (memory_of c.positions.self) k here.0 here.2 (sym at ∙ w.in_default.is)),
      )
    ]

pub returns-clause-memory : goal.returns-clause-memory
returns-clause-memory c =
    let now = sets_of c.args.self.now in
    part_all now (held c.args.dest c.args.kind (room_of c.args.self.now c.args.dest.set)) (memory_of c.args.self.now) (memory_of c.positions.self) c.positions.position
    (omega (arith, c.positions-test.false, c.positions-position-end.ensures)) c.positions.invariant.2
