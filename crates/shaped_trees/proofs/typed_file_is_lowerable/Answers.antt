use Rattle.shaped_trees.proofs.LowerableFiles.{file_lowerable}
use Rattle.shaped_trees.proofs.typed_file_is_lowerable.Goals as goal

pub returns : goal.returns
returns c = file_lowerable
