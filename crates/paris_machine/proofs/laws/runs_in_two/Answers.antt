use Rattle.paris_machine.proofs.CutRuns.{two_runs}
use Rattle.paris_machine.proofs.laws.runs_in_two.Goals as goal

pub returns : goal.returns
returns c = two_runs
