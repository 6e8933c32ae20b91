use Rattle.communication_laws.proofs.Indexes.{addresses}
use Rattle.communication_laws.proofs.addresses_are_the_languages.Goals as goal

pub returns : goal.returns
returns c = addresses
