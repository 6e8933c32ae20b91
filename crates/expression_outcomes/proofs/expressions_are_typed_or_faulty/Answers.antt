use Rattle.expression_outcomes.proofs.Outcomes.{expression}
use Rattle.expression_outcomes.proofs.expressions_are_typed_or_faulty.Goals as goal

pub returns : goal.returns
returns c = λ program here e names calls. expression program e here names calls
