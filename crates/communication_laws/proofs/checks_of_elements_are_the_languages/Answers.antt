use Rattle.communication_laws.proofs.Elements.{checks_of_elements}
use Rattle.communication_laws.proofs.checks_of_elements_are_the_languages.Goals as goal

pub returns : goal.returns
returns c = checks_of_elements
