use Rattle.shaped_trees.proofs.LowerableExpressions.{lowers}
use Rattle.shaped_trees.proofs.typed_expression_is_lowerable.Goals as goal

pub returns : goal.returns
returns c program typed here e t has_value sound inside names is = lowers program typed is sound inside names
