use Rattle.shaped_trees.proofs.SpelledCasts.{spelled}
use Rattle.shaped_trees.proofs.spelled_tree_names_shapes.Goals as goal

pub returns : goal.returns
returns c = spelled
