use Rattle.std.proofs.Common.{sym, ◌∙◌}
use Rattle.type_expressions.proofs.CalledFunctions.{all_typed}
use Rattle.type_expressions.proofs.calls.call_node.Goals as goal
use Rattle.std.proofs.lemmas.Result.{err_from_is_err_and}
use Rattle.type_expressions.proofs.CallFaults.{untyped_parameter}
use Rattle.type_expressions.specs.Recorded as R

pub returns-clause-typed : goal.returns-clause-typed
returns-clause-typed c many none =
    let known = all_typed c.args.header.now.parameters.items (sym c.has_types.ensures ∙ c.if-not-has_types.false) in
    let given = rw (c.in-Some.is, c.is_some.ensures) at c.given.ensures.given in
    rw c.in_ok-new.ensures.ok (c.in_ok-expr.ensures.typed c.in-Some.has_value known given many none)

pub returns-then-not-has_types-clause-refused : goal.returns-then-not-has_types-clause-refused
returns-then-not-has_types-clause-refused c file around f place many none =
    let lacking = untyped_parameter c.args.header.now.parameters.items (sym c.has_types.ensures ∙ c.if-not-has_types.true) in
    R.parameter lacking.0 lacking.1

pub returns-in_err-expr-clause-refused : goal.returns-in_err-expr-clause-refused
returns-in_err-expr-clause-refused c file around f place many none =
    let p = err_from_is_err_and c.from_residual.result c.from_residual.ensures.1 in
    let known = all_typed c.args.header.now.parameters.items (sym c.has_types.ensures ∙ c.if-not-has_types.false) in
    rw (p.1, p.2, c.in_err-expr.ensures.refused known many none) tt
