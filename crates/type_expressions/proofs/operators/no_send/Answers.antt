use Rattle.cstar_tree.specs.ExpressionFaults as F
use Rattle.type_expressions.proofs.OnOperands.{target_is, tells}
use Rattle.type_expressions.proofs.operators.no_send.Goals as goal

pub returns-in-Some-Send : goal.returns-in-Some-Send
returns-in-Some-Send c op never program here p target value h =
    tells c.fault.result c.fault.ensures (F.send_operator target value h (target_is c.args.target.value (rw c.in-Some-Send.field-0-is at c.in-Some-Send.ensures) c.deref.ensures) never)
