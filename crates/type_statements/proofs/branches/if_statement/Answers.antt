use Rattle.std.proofs.lemmas.Result.{err_from_is_err_and}
use Rattle.type_statements.proofs.TypedForms.{if_fault, if_types}
use Rattle.type_statements.proofs.branches.if_statement.Goals as goal

pub returns-in_err-scalar_test : goal.returns-in_err-scalar_test
returns-in_err-scalar_test c program result here e second third h =
    let p = err_from_is_err_and c.from_residual.result c.from_residual.ensures.1 in
    let fault = rw c.deref.ensures at c.in_err-scalar_test.ensures in
    rw (p.1, p.2) (if_fault program result here c.args.place e second third c.args.parts c.in_err-scalar_test.field-0.0 h fault.0.1 fault.1)

pub returns : goal.returns
returns c program result here e second third h =
    let scalar = rw c.deref.ensures at c.in_ok-scalar_test.ensures in
    if_types program result here c.args.place e second third c.args.parts.test c.args.parts.then c.args.parts.otherwise c.into_inner.result c.into_inner.ensures h scalar
