use Rattle.communication_laws.proofs.Scans.{scans}
use Rattle.communication_laws.proofs.scans_are_the_languages.Goals as goal

pub returns : goal.returns
returns c = scans
