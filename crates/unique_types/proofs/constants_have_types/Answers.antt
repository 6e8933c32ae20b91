use Rattle.unique_types.proofs.Constants.{typed}
use Rattle.unique_types.proofs.constants_have_types.Goals as goal

pub returns : goal.returns
returns c = λ program here e k is. let x = typed program here e is in (x.tree, x.types, x.type_is)
