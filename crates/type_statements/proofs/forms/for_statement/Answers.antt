use Rattle.std.proofs.lemmas.Result.{err_from_is_err_and}
use Rattle.type_statements.proofs.TypedForms.{for_fault, for_types}
use Rattle.type_statements.proofs.forms.for_statement.Goals as goal

pub returns-in_err-scalar_test_if : goal.returns-in_err-scalar_test_if
returns-in_err-scalar_test_if c program result here first test step s h inner =
    let p = err_from_is_err_and c.from_residual.result c.from_residual.ensures.1 in
    let fault = c.in_err-scalar_test_if.ensures in
    rw (p.1, p.2) (for_fault program result here c.args.place first test step s c.args.heading c.args.body fault.0 c.in_err-scalar_test_if.field-0.0 h fault.1 fault.2.1 fault.3 inner)

pub returns : goal.returns
returns c program result here first test step s h inner =
    for_types program result here c.args.place first test step s c.args.heading c.args.body c.unboxed.result c.unboxed-2.result c.unboxed-3.result c.unboxed.ensures c.unboxed-2.ensures c.unboxed-3.ensures h c.in_ok-scalar_test_if.ensures inner
