use Rattle.scalar_texts.proofs.WholeFiles.{files_are_scalar}
use Rattle.scalar_texts.proofs.file_without_shapes_is_scalar.Goals as goal

pub returns : goal.returns
returns c = files_are_scalar
