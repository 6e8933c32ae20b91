use Rattle.short_values.proofs.LowestBits.{negative}
use Rattle.short_values.proofs.negatives_agree.Goals as goal

pub returns : goal.returns
returns c = negative
