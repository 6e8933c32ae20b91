use Rattle.type_expressions.proofs.CalledFunctions.{call_inside, call_outside}
use Rattle.type_expressions.proofs.calls.call_tree.Goals as goal

pub returns-in_ok-fit_arguments-in-Some-clause-typed : goal.returns-in_ok-fit_arguments-in-Some-clause-typed
returns-in_ok-fit_arguments-in-Some-clause-typed c has_value known gives many none =
    rw c.in-Some.is (call_inside c.args.header.now c.args.arguments.items c.args.ty has_value c.in-Some.instance _ known (rw c.in-Some.is at gives) many none (rw c.as_slice.ensures.value at c.in_ok-fit_arguments-in-Some.ensures))

pub returns-in_ok-unboxed-in-None-clause-typed : goal.returns-in_ok-unboxed-in-None-clause-typed
returns-in_ok-unboxed-in-None-clause-typed c has_value known gives many none =
    rw c.in-None.is (call_outside c.args.header.now c.args.arguments.items c.args.ty has_value _ known (rw c.in-None.is at gives) many none c.in_ok-unboxed-in-None.ensures)
