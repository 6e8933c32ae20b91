use Rattle.accepted_code.proofs.EveryUnit.{accepted}
use Rattle.accepted_code.proofs.accepted_program_has_code.Goals as goal

pub returns : goal.returns
returns c = accepted
