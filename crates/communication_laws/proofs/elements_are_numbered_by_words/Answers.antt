use Rattle.communication_laws.proofs.Elements.{elements}
use Rattle.communication_laws.proofs.elements_are_numbered_by_words.Goals as goal

pub returns : goal.returns
returns c = elements
