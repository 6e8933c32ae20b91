use Rattle.std.proofs.lemmas.Result.{IfOk-weaker}
use Rattle.type_expressions.proofs.Walking.{axis_settled}
use Rattle.type_expressions.proofs.along.settled_axis.Goals as goal

pub returns-in-Some-clause-axis : goal.returns-in-Some-clause-axis
returns-in-Some-clause-axis c = IfOk-weaker c.settle.result _ _ (λ r m. axis_settled c.args.axis c.in-Some.axis c.args.rank c.args.place c.axis_of.result r c.in-Some.is (rw c.deref.ensures at c.axis_of.ensures) m) c.settle.ensures.part
