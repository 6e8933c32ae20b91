use Rattle.communication_laws.proofs.OnePosition.{reads_of_positions}
use Rattle.communication_laws.proofs.reads_of_positions_are_the_languages.Goals as goal

pub returns : goal.returns
returns c = reads_of_positions
