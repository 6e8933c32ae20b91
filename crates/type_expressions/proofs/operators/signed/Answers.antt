use Rattle.type_expressions.proofs.OnOperands.{unary_types}
use Rattle.type_expressions.proofs.operators.signed.Goals as goal

pub returns : goal.returns
returns c place program here operand h = unary_types c.args.op place c.args.operand _ operand c.in_ok-unary.ensures h
