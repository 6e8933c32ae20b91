use Rattle.program_laws.proofs.Bodies.{bodies_call}
use Rattle.program_laws.proofs.bodies_call_what_is_called.Goals as goal

pub returns : goal.returns
returns c = bodies_call
