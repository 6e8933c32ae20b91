use Rattle.accepted_code.proofs.EveryUnit.{every_unit}
use Rattle.accepted_code.proofs.image_has_every_unit.Goals as goal

pub returns : goal.returns
returns c = every_unit
