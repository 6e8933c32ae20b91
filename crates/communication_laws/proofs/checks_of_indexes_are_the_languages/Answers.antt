use Rattle.communication_laws.proofs.Indexes.{checks_of_indexes}
use Rattle.communication_laws.proofs.checks_of_indexes_are_the_languages.Goals as goal

pub returns : goal.returns
returns c = checks_of_indexes
