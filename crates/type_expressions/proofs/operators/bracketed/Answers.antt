use Rattle.type_expressions.proofs.OnOperands.{bracket_types}
use Rattle.type_expressions.proofs.operators.bracketed.Goals as goal

pub returns-in_default : goal.returns-in_default
returns-in_default c = rw c.in_default.is tt

pub returns : goal.returns
returns c = rw c.in-Some.is (λ program here place inner h. bracket_types inner c.in-Some.field-0.expr c.in_ok-new.ensures.ok c.ty-ty.ensures c.deref.ensures h)
