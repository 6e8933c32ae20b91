use Rattle.std.proofs.Common.{sym, subst}
use Rattle.paris_code.specs.Memory.{BitMemory, SameBits}
use Rattle.phase_gate.specs.Rows.{sets_of, memory_of}
use Rattle.phase_meaning.proofs.Replies.{plain, answered, checked, quiet, same_bits}
use Rattle.phase_gate.proofs.apply.RowPhasesPhases.apply.Goals as goal

pub returns-in-Some-written_by-clause-meaning : goal.returns-in-Some-written_by-clause-meaning
returns-in-Some-written_by-clause-meaning c =
    let now = sets_of c.args.self.now in
    let old = memory_of c.args.self.now in
    let is = plain now c.args.instr.now c.args.args.now old c.in-Some-written_by.ensures.0 in (
      sym is.2,
      subst (λ (m : BitMemory). SameBits now (memory_of c.do_elementwise.new.self) m) (sym is.3) c.do_elementwise.ensures.memory,
    )

pub returns-in-Some-value_of-clause-meaning : goal.returns-in-Some-value_of-clause-meaning
returns-in-Some-value_of-clause-meaning c =
    let now = sets_of c.args.self.now in
    let old = memory_of c.args.self.now in (
      sym c.in-Some-value_of.ensures.1,
      subst (λ (m : BitMemory). SameBits now old m) (sym (answered now c.args.instr.now c.args.args.now old c.in-Some-value_of.ensures.0)) (same_bits now old),
    )

pub returns-in-Some-clause-meaning : goal.returns-in-Some-clause-meaning
returns-in-Some-clause-meaning c =
    let now = sets_of c.args.self.now in
    let old = memory_of c.args.self.now in
    quiet now c.args.instr.now c.args.args.now old c.in-Some.reply c.in-Some.ensures.least (checked now c.args.instr.now c.args.args.now old c.in-Some.ensures.checks)
