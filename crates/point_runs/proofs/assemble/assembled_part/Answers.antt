use Rattle.point_runs.proofs.Refusing.{parts_why, sets_why_part}
use Rattle.point_runs.proofs.assemble.assembled_part.Goals as goal

pub returns-in-Ok-clause-refused : goal.returns-in-Ok-clause-refused
returns-in-Ok-clause-refused c =
    parts_why c.args.text.now c.in-Ok.image c.checked.result c.in-Ok.ensures.listed c.in-Ok.ensures.fits c.checked.ensures.refused

pub returns-in-Err-clause-refused : goal.returns-in-Err-clause-refused
returns-in-Err-clause-refused c = sets_why_part c.args.text.now c.in-Err.no_image c.in-Err.ensures.refused
