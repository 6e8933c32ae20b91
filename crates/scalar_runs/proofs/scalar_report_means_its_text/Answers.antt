use Rattle.scalar_runs.proofs.scalar_report_means_its_text.Goals as goal
use Rattle.scalar_runs.proofs.Reports.{scalar_reports}

pub returns : goal.returns
returns c = scalar_reports
