use Rattle.proper_code.proofs.TypedLoops.{files_stay}
use Rattle.proper_code.proofs.typed_files_stay_in_loops.Goals as goal

pub returns : goal.returns
returns c = files_stay
