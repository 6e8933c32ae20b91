use Rattle.unique_types.proofs.Unique.{same_indexes}
use Rattle.unique_types.proofs.types_of_indexes_are_unique.Goals as goal

pub returns : goal.returns
returns c = λ program here n axis es ts us. same_indexes axis es
