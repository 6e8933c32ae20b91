use Rattle.shaped_trees.proofs.NamedFiles.{file_code}
use Rattle.shaped_trees.proofs.typed_file_has_code.Goals as goal

pub returns : goal.returns
returns c = file_code
