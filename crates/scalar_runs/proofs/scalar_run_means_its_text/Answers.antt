use Rattle.scalar_runs.proofs.scalar_run_means_its_text.Goals as goal
use Rattle.scalar_runs.proofs.Runs.{scalar_runs}

pub returns : goal.returns
returns c = scalar_runs
