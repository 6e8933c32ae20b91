use Rattle.std.proofs.Common.{sym, ◌∙◌}
use Rattle.cstar_tree.specs.ExpressionFaults as F
use Rattle.cstar_tree.specs.ExpressionTypes as X
use Rattle.type_expressions.proofs.OnOperands.{tells}
use Rattle.type_expressions.proofs.operators.is_place.Goals as goal

pub returns-in-None : goal.returns-in-None
returns-in-None c program here op t v x can i h k =
    tells c.fault.result c.fault.ensures (F.no_target t v h k (sym c.in-None.ensures))

pub returns-then-site : goal.returns-then-site
returns-then-site c program here op t v x can i h k =
    let is = sym (rw c.in-Some-Send.field-0-is at c.in-Some-Send.ensures) in X.targets is (i.whole ∙ c.if-site.true) (can _ is)

pub returns-else-site : goal.returns-else-site
returns-else-site c program here op t v x can i h k =
    let is = sym (rw c.in-Some-Send.field-0-is at c.in-Some-Send.ensures) in
    tells c.fault-else-site.result c.fault-else-site.ensures (F.send_inside t v h k is (can _ is) (i.whole ∙ c.if-site.false))
