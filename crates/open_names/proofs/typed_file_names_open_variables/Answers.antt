use Rattle.open_names.proofs.OpenFiles.{file_names}
use Rattle.open_names.proofs.typed_file_names_open_variables.Goals as goal

pub returns : goal.returns
returns c = file_names
