use Rattle.communication_laws.proofs.Steps.{sums_with_steps}
use Rattle.communication_laws.proofs.sums_with_steps_are_read.Goals as goal

pub returns : goal.returns
returns c = sums_with_steps
