use Rattle.communication_laws.proofs.Steps.{checks_of_steps}
use Rattle.communication_laws.proofs.checks_of_steps_are_the_languages.Goals as goal

pub returns : goal.returns
returns c = checks_of_steps
