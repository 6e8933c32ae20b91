use Rattle.short_values.proofs.ShortFolds.{short_folds}
use Rattle.short_values.proofs.short_folds_agree.Goals as goal

pub returns : goal.returns
returns c = short_folds
