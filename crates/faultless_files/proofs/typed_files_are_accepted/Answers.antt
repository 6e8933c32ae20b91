use Rattle.faultless_files.proofs.Files.{files_accepted}
use Rattle.faultless_files.proofs.typed_files_are_accepted.Goals as goal

pub returns : goal.returns
returns c = files_accepted
