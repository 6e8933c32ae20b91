use Rattle.short_values.proofs.LowestBits.{fewer_bits}
use Rattle.short_values.proofs.fewer_bits_agree.Goals as goal

pub returns : goal.returns
returns c = fewer_bits
