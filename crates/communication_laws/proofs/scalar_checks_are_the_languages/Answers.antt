use Rattle.communication_laws.proofs.OnePosition.{scalar_checks}
use Rattle.communication_laws.proofs.scalar_checks_are_the_languages.Goals as goal

pub returns : goal.returns
returns c = scalar_checks
