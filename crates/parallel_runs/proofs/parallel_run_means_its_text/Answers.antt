use Rattle.parallel_runs.proofs.parallel_run_means_its_text.Goals as goal
use Rattle.parallel_runs.proofs.Runs.{parallel_runs}

pub returns : goal.returns
returns c = parallel_runs
