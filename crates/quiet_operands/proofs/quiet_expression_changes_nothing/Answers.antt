use Rattle.quiet_operands.proofs.Unchanged.{expression}
use Rattle.quiet_operands.proofs.quiet_expression_changes_nothing.Goals as goal

pub returns : goal.returns
returns c = expression
