use Rattle.short_values.proofs.LowestBits.{shift}
use Rattle.short_values.proofs.left_shifts_agree.Goals as goal

pub returns : goal.returns
returns c = shift
