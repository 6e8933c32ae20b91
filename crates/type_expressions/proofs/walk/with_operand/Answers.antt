use Rattle.type_expressions.proofs.walk.with_operand.Goals as goal
use Rattle.std.proofs.lemmas.Result.{IfOk-weaker}
use Rattle.type_expressions.proofs.NodeFaults.{untyped_as}
use Rattle.type_expressions.proofs.NodeRecording.{node_outcome}
use Rattle.type_expressions.proofs.OtherKinds.{an_operator}

pub returns-in-ParallelCast-clause-typed : goal.returns-in-ParallelCast-clause-typed
returns-in-ParallelCast-clause-typed c = rw c.in-ParallelCast.is (c.cast_to.ensures.typed c.in-ParallelCast.operand)

pub returns-in-Element-clause-typed : goal.returns-in-Element-clause-typed
returns-in-Element-clause-typed c = rw c.in-Element.is (c.element_of.ensures.typed c.in-Element.index)

pub returns-in-ParallelCast-clause-faults : goal.returns-in-ParallelCast-clause-faults
returns-in-ParallelCast-clause-faults c = rw c.in-ParallelCast.is (c.cast_to.ensures.faults c.in-ParallelCast.operand)

pub returns-in-Element-clause-faults : goal.returns-in-Element-clause-faults
returns-in-Element-clause-faults c = rw c.in-Element.is (c.element_of.ensures.faults c.in-Element.index)

pub returns-in-Some-clause-faults : goal.returns-in-Some-clause-faults
returns-in-Some-clause-faults c =
    rw c.in-Some.is (IfOk-weaker c.outcome.result _ _ (λ r m program here a typed.
    node_outcome program here c.args.e.now _ c.on_operand.result r _ _ (untyped_as c.on_operand.result (λ f p h. h) (λ never. absurd never) (c.on_operand.ensures.refused program here (an_operator program here c.in-Some.operand c.args.e.now c.in_default.not-ParallelCast c.in_default.not-Element typed) typed)) m) c.outcome.ensures)
