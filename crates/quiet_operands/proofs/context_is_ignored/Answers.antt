use Rattle.quiet_operands.proofs.Contexts.{ignored}
use Rattle.quiet_operands.proofs.context_is_ignored.Goals as goal

pub returns : goal.returns
returns c = ignored
