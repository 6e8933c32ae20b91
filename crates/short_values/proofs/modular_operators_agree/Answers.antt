use Rattle.short_values.proofs.LowestBits.{modular}
use Rattle.short_values.proofs.modular_operators_agree.Goals as goal

pub returns : goal.returns
returns c = modular
