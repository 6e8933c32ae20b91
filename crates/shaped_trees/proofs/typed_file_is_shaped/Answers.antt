use Rattle.shaped_trees.proofs.FileShapes.{file_shaped}
use Rattle.shaped_trees.proofs.typed_file_is_shaped.Goals as goal

pub returns : goal.returns
returns c = file_shaped
