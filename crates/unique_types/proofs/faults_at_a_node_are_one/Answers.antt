use Rattle.unique_types.proofs.OneFault.{one_fault}
use Rattle.unique_types.proofs.faults_at_a_node_are_one.Goals as goal

pub returns : goal.returns
returns c = λ program here e f g p q few. one_fault program here e few
