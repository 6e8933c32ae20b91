use Rattle.communication_laws.proofs.OnePosition.{scalar_addresses}
use Rattle.communication_laws.proofs.scalar_addresses_are_the_languages.Goals as goal

pub returns : goal.returns
returns c = scalar_addresses
