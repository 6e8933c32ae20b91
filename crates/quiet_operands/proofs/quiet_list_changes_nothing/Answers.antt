use Rattle.quiet_operands.proofs.Unchanged.{list}
use Rattle.quiet_operands.proofs.quiet_list_changes_nothing.Goals as goal

pub returns : goal.returns
returns c = list
