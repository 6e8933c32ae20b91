use Rattle.accepted_code.proofs.EveryUnit.{keeps_ways}
use Rattle.accepted_code.proofs.accepted_image_keeps_ways.Goals as goal

pub returns : goal.returns
returns c = keeps_ways
