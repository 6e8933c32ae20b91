use Rattle.program_laws.proofs.Bodies.{blocks_call}
use Rattle.program_laws.proofs.blocks_call_what_is_called.Goals as goal

pub returns : goal.returns
returns c = blocks_call
