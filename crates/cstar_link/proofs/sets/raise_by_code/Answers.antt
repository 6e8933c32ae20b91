use Rattle.paris_code.specs.Spans.{fields_of}
use Rattle.cstar_link.proofs.Ends.{raised_step}
use Rattle.cstar_link.proofs.sets.raise_by_code.Goals as goal

pub loop-instr-preserved : goal.loop-instr-preserved
loop-instr-preserved c =
    let l = c.loop-instr in
    raised_step fields_of c.args.code.now l.instr-index c.instr-item.result c.args.ends.now l.ends c.raise_by_instr.new.ends c.instr-item.is c.loop-instr-test.true l.auto.ends l.invariant c.raise_by_instr.ensures
