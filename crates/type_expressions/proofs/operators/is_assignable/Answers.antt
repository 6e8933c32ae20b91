use Rattle.std.proofs.Common.{sym, ◌∙◌}
use Rattle.std.proofs.lemmas.Result.{err_from_is_err_and}
use Rattle.cstar_tree.specs.ExpressionFaults as F
use Rattle.type_expressions.proofs.Assigned.{is_storable, not_storable, scalar_is_one}
use Rattle.type_expressions.proofs.OnOperands.{tells}
use Rattle.type_expressions.proofs.operators.is_assignable.Goals as goal

pub returns-in_err-is_place : goal.returns-in_err-is_place
returns-in_err-is_place c program here t v can i h k =
    let p = err_from_is_err_and c.from_residual.result c.from_residual.ensures.1 in
    rw (p.1, p.2) (c.in_err-is_place.ensures program here c.args.op t v c.args.value.now can i h k)

pub returns-then-stores : goal.returns-then-stores
returns-then-stores c program here t v can i h k =
    (c.in_ok-is_place.ensures program here c.args.op t v c.args.value.now can i h k, is_storable c.args.op _ _ (rw (c.ty.ensures, c.ty-2.ensures) at (sym c.stores.ensures ∙ c.if-stores.true)))

pub returns-else-stores : goal.returns-else-stores
returns-else-stores c program here t v can i h k =
    let place = c.in_ok-is_place.ensures program here c.args.op t v c.args.value.now can i h k in
    let n = not_storable c.args.op _ _ (rw (c.ty.ensures, c.ty-2.ensures) at (sym c.stores.ensures ∙ c.if-stores.false)) in
    tells c.fault.result c.fault.ensures (F.parallel_stored t v h k (scalar_is_one h place n.1) n.1 n.2 n.3)
