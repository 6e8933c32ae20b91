use Rattle.short_values.proofs.LowestBits.{complement}
use Rattle.short_values.proofs.complements_agree.Goals as goal

pub returns : goal.returns
returns c = complement
