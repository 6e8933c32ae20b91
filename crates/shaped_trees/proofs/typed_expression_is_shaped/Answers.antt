use Rattle.shaped_trees.proofs.ExpressionShapes.{given}
use Rattle.shaped_trees.proofs.typed_expression_is_shaped.Goals as goal

pub returns : goal.returns
returns c program here e t has_value sound names typed = given program typed sound names
