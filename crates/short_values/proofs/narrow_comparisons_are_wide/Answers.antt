use Rattle.short_values.proofs.Comparisons.{comparison}
use Rattle.short_values.proofs.narrow_comparisons_are_wide.Goals as goal

pub returns : goal.returns
returns c = comparison
