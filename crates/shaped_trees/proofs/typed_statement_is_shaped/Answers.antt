use Rattle.shaped_trees.proofs.StatementShapes.{statement_shaped}
use Rattle.shaped_trees.proofs.typed_statement_is_shaped.Goals as goal

pub returns : goal.returns
returns c program gives here s t sound names typed = statement_shaped program gives typed sound names
