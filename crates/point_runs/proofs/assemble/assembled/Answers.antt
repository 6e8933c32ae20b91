use Rattle.point_runs.proofs.Refusing.{sets_why}
use Rattle.point_runs.proofs.assemble.assembled.Goals as goal

pub returns-in-Err-clause-refused : goal.returns-in-Err-clause-refused
returns-in-Err-clause-refused c = sets_why c.args.text.now c.in-Err.no_image c.in-Err.ensures.refused
