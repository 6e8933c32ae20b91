use Rattle.parallel_runs.proofs.parallel_report_means_its_text.Goals as goal
use Rattle.parallel_runs.proofs.Runs.{parallel_reports}

pub returns : goal.returns
returns c = parallel_reports
