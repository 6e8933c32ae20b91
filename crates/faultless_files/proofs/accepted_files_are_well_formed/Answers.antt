use Rattle.faultless_files.proofs.Accepted.{well_formed}
use Rattle.faultless_files.proofs.accepted_files_are_well_formed.Goals as goal

pub returns : goal.returns
returns c = well_formed
