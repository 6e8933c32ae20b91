use Rattle.faultless_files.proofs.Files.{files_sound}
use Rattle.faultless_files.proofs.typed_files_have_no_fault.Goals as goal

pub returns : goal.returns
returns c = files_sound
