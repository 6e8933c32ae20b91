use Rattle.shaped_trees.proofs.StatementShapes.{declarations_shaped}
use Rattle.shaped_trees.proofs.typed_declarations_are_shaped.Goals as goal

pub returns : goal.returns
returns c program here list locals sound names typed = let d = declarations_shaped program typed sound names in (d.shaped, d.sound)
