use Rattle.communication_laws.proofs.KnownPositions.{known_positions}
use Rattle.communication_laws.proofs.known_positions_are_the_languages.Goals as goal

pub returns : goal.returns
returns c = known_positions
