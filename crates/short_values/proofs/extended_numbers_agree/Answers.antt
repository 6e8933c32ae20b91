use Rattle.short_values.proofs.NarrowTypes.{extended}
use Rattle.short_values.proofs.extended_numbers_agree.Goals as goal

pub returns : goal.returns
returns c = extended
