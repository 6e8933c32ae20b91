use Rattle.std.proofs.Common.{◌∙◌, ap, Some}
use Rattle.cstar_base.specs.declared.faults.Fault.TheVariants as Faults
use Rattle.cstar_base.specs.declared.operators.Place.{Place}
use Rattle.cstar_tree.specs.ExpressionFaults as F
use Rattle.type_expressions.proofs.OnOperands.{is_step, step_types, target_is, tells}
use Rattle.type_expressions.proofs.operators.stepped.Goals as goal

pub returns-in-None : goal.returns-in-None
returns-in-None c program here operand h =
    tells c.fault.result c.fault.ensures (F.no_target_of_step (is_step c.args.order c.args.place c.args.op operand) h (target_is c.args.target.value c.in-None.ensures c.deref.ensures))

pub returns-in-Some-Send : goal.returns-in-Some-Send
returns-in-Some-Send c program here operand h =
    tells c.fault-in-Some-Send.result (c.fault-in-Some-Send.ensures ∙ ap (λ (p : Place). Some (Faults.SendOperator, p)) c.in-Some-Send.place-is) (F.send_step (is_step c.args.order c.args.place c.args.op operand) h (target_is c.args.target.value (rw c.in-Some-Send.field-0-is at c.in-Some-Send.ensures) c.deref.ensures))

pub returns-in-Some-Variable : goal.returns-in-Some-Variable
returns-in-Some-Variable c program here operand h =
    rw c.step.ensures (step_types c.args.order c.args.place c.args.op c.args.target operand (target_is c.args.target.value (rw c.in-Some-Variable.field-0-is at c.in-Some-Variable.ensures) c.deref.ensures) h)
