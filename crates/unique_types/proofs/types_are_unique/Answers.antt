use Rattle.unique_types.proofs.Unique.{same}
use Rattle.unique_types.proofs.types_are_unique.Goals as goal

pub returns : goal.returns
returns c = λ program here e t u b c. same e
