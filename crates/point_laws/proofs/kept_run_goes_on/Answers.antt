use Rattle.point_laws.proofs.Joining.{resumes_well}
use Rattle.point_laws.proofs.kept_run_goes_on.Goals as goal

pub returns : goal.returns
returns c = resumes_well
