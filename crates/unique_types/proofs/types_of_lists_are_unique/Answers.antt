use Rattle.unique_types.proofs.Unique.{same_each}
use Rattle.unique_types.proofs.types_of_lists_are_unique.Goals as goal

pub returns : goal.returns
returns c = λ program here es ts us. same_each es
