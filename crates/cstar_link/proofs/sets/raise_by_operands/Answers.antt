use Rattle.paris_code.specs.declared.rows.Operand.{Operand}
use Rattle.paris_code.specs.Rows.{shown}
use Rattle.paris_code.specs.Spans.{fields_of_operand}
use Rattle.cstar_link.proofs.Ends.{raised_step}
use Rattle.cstar_link.proofs.sets.raise_by_operands.Goals as goal

pub loop-operand-preserved : goal.loop-operand-preserved
loop-operand-preserved c =
    let l = c.loop-operand in
    raised_step (λ (o : Operand). fields_of_operand (shown o)) c.args.operands.now l.operand-index c.operand-item.result c.args.ends.now l.ends c.raise_by_operand.new.ends c.operand-item.is c.loop-operand-test.true l.auto.ends l.invariant c.raise_by_operand.ensures
