use Rattle.faultless_files.proofs.Files.{files_refused}
use Rattle.faultless_files.proofs.files_without_room_are_refused.Goals as goal

pub returns : goal.returns
returns c = files_refused
