use Rattle.cstar_tree.specs.ExpressionFaults as F
use Rattle.type_expressions.proofs.OnOperands.{reduction_types, shape_is, tells_or_memory}
use Rattle.type_expressions.proofs.operators.reduced.Goals as goal

pub returns-in-None : goal.returns-in-None
returns-in-None c program here operand h =
    tells_or_memory c.fault.result c.fault.ensures (F.scalar_reduced operand h (shape_is c.args.operand.value c.ty.ensures c.deref.ensures c.in-None.is))

pub returns-in_ok-reduction-in-Some : goal.returns-in_ok-reduction-in-Some
returns-in_ok-reduction-in-Some c program here operand h =
    reduction_types operand c.in_ok-reduction-in-Some.ensures (shape_is c.args.operand.value c.ty.ensures c.deref.ensures c.in-Some.is) h
