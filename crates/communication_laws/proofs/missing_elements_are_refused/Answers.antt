use Rattle.communication_laws.proofs.Elements.{missing_elements}
use Rattle.communication_laws.proofs.missing_elements_are_refused.Goals as goal

pub returns : goal.returns
returns c = missing_elements
