use Rattle.unique_types.proofs.Parts.{not_untold}
use Rattle.unique_types.proofs.typed_expressions_are_not_untold.Goals as goal

pub returns : goal.returns
returns c = λ program here e t b h untold. not_untold untold h
