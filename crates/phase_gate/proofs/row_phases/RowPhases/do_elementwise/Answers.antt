use Rattle.std.proofs.Common.{◌<◌, ◌+◌, ◌∙◌, refl, sym, subst, ap, arith}
use Rattle.paris_code.specs.Elementwise.{elementwise}
use Rattle.paris_code.specs.Memory.{processors}
use Rattle.phase_gate.specs.declared.row_phases.RowPhases.{RowPhases}
use Rattle.phase_gate.specs.Rows.{sets_of, memory_of}
use Rattle.phase_meaning.proofs.Stepwise.{wrote_more, skipped_more}
use Rattle.phase_meaning.proofs.Partly.{PartlyWritten, part_none, part_all}
use Rattle.phase_gate.proofs.row_phases.RowPhases.do_elementwise.Goals as goal
use Rattle.phase_gate.proofs.row_phases.RowPhases.do_elementwise.Goals.{then-takes, else-takes}

pub positions-init : goal.positions-init
positions-init c = (refl, part_none (sets_of c.args.self.now) (elementwise (sets_of c.args.self.now) c.args.instr.now c.args.args.now (memory_of c.args.self.now)) (memory_of c.args.self.now))

pub positions-preserved : goal.positions-preserved
positions-preserved c =
    let now = sets_of c.args.self.now in
    let old = memory_of c.args.self.now in
    let instr = c.args.instr.now in
    let args = c.args.args.now in
    let k = c.positions.position in
    let run = c.args.run in
    let bound : k < processors now run.set = omega (arith, c.positions-test.true, c.positions-position-end.ensures) in
    elim c.if-takes.branch [
      | then-takes w ↦ (
        ap sets_of w.self-is ∙ w.write.ensures.sets ∙ c.positions.invariant.0,
        subst (λ (p : RowPhases). PartlyWritten now (elementwise now instr args old) old (k + 1) (memory_of p)) (sym w.self-is)
            (wrote_more now (sets_of c.positions.self) instr args old (memory_of c.positions.self) (memory_of w.write.new.self) k w.element-word.result run c.args.always
            c.positions.invariant.0 c.requires.can c.requires.elementwise c.requires.run c.requires.always bound c.positions.invariant.1
            (sym c.takes.ensures ∙ w.if-takes.true, w.element-word.ensures, w.write.ensures.bits)),
      )
      | else-takes w ↦ (
        ap sets_of w.self-is ∙ c.positions.invariant.0,
        subst (λ (p : RowPhases). PartlyWritten now (elementwise now instr args old) old (k + 1) (memory_of p)) (sym w.self-is)
            (skipped_more now (sets_of c.positions.self) instr args old (memory_of c.positions.self) k run c.args.always
            c.positions.invariant.0 c.requires.can c.requires.elementwise c.requires.run c.requires.always bound c.positions.invariant.1
            (sym c.takes.ensures ∙ w.if-takes.false)),
      )
    ]

pub returns-clause-memory : goal.returns-clause-memory
returns-clause-memory c =
    let now = sets_of c.args.self.now in
    part_all now (elementwise now c.args.instr.now c.args.args.now (memory_of c.args.self.now)) (memory_of c.args.self.now) (memory_of c.positions.self) c.positions.position
    (omega (arith, c.positions-test.false, c.positions-position-end.ensures, ap (λ r. processors now r.set) c.requires.run)) c.positions.invariant.1
