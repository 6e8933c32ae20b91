use Rattle.typed_calls.proofs.NoCycle.{no_cycle}
use Rattle.typed_calls.proofs.typed_programs_have_no_cycle.Goals as goal

pub returns : goal.returns
returns c = no_cycle
