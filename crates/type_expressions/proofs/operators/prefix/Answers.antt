use Rattle.cstar_tree.specs.declared.syntax.Expr as E
use Rattle.cstar_tree.specs.declared.syntax.PrefixOp.TheVariants as P
use Rattle.type_expressions.proofs.OnOperands.{answer_or_memory, of_prefix}
use Rattle.type_expressions.proofs.operators.prefix.Goals as goal

pub returns-in-Plus : goal.returns-in-Plus
returns-in-Plus c program here operand h = of_prefix c.args.place program here operand c.signed.result c.in-Plus.is (c.signed.ensures c.args.place program here operand h)

pub returns-in-Minus : goal.returns-in-Minus
returns-in-Minus c program here operand h = of_prefix c.args.place program here operand c.signed-in-Minus.result c.in-Minus.is (c.signed-in-Minus.ensures c.args.place program here operand h)

pub returns-in-Complement : goal.returns-in-Complement
returns-in-Complement c program here operand h = of_prefix c.args.place program here operand c.signed-in-Complement.result c.in-Complement.is (c.signed-in-Complement.ensures c.args.place program here operand h)

pub returns-in-Not : goal.returns-in-Not
returns-in-Not c program here operand h = of_prefix c.args.place program here operand c.signed-in-Not.result c.in-Not.is (c.signed-in-Not.ensures c.args.place program here operand h)

pub returns-in-Step : goal.returns-in-Step
returns-in-Step c program here operand h = of_prefix c.args.place program here operand c.stepped.result c.in-Step.is (answer_or_memory program here (E.Prefix c.args.place (P.Step c.in-Step.op) operand) c.stepped.result (c.stepped.ensures program here operand h))
