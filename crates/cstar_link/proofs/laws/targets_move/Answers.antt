use Rattle.cstar_link.proofs.Targets.{targets_move}
use Rattle.cstar_link.proofs.laws.targets_move.Goals as goal

pub returns : goal.returns
returns c = targets_move
