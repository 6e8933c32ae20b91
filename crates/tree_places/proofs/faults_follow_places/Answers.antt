use Rattle.tree_places.proofs.Ordering.{faults}
use Rattle.tree_places.proofs.faults_follow_places.Goals as goal

pub returns : goal.returns
returns c = faults
