use Rattle.expression_outcomes.proofs.Untold.{typed_or_untold}
use Rattle.expression_outcomes.proofs.faultless_constants_are_typed_or_untold.Goals as goal

pub returns : goal.returns
returns c = λ program here e. typed_or_untold program e here
