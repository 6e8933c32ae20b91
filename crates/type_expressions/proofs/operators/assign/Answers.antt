use Rattle.type_expressions.proofs.Assigned.{assign_types}
use Rattle.type_expressions.proofs.operators.assign.Goals as goal

pub returns : goal.returns
returns c can program here t v i h k =
    let stores = rw (c.deref.ensures, c.deref-2.ensures) at c.in_ok-is_assignable.ensures in
    let both = stores program here t v can i h k in
    assign_types c.args.target t v c.in_ok-assignment.ensures both.0 both.1 h k
