use Rattle.short_values.proofs.NarrowTypes.{negation}
use Rattle.short_values.proofs.negations_agree.Goals as goal

pub returns : goal.returns
returns c = negation
