use Rattle.std.proofs.Common.{sym, ◌∙◌}
use Rattle.type_expressions.proofs.AtSites.{some_in}
use Rattle.type_statements.proofs.branches.scalar_test.Goals as goal

pub returns-then-is_some : goal.returns-then-is_some
returns-then-is_some c = (some_in _ (rw c.ty.ensures at (sym c.is_some.ensures ∙ c.if-is_some.true)), c.fault.ensures)
