use Rattle.communication_laws.proofs.Steps.{steps_within_move}
use Rattle.communication_laws.proofs.steps_within_move.Goals as goal

pub returns : goal.returns
returns c = steps_within_move
