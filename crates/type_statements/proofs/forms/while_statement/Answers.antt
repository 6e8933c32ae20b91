use Rattle.std.proofs.lemmas.Result.{err_from_is_err_and}
use Rattle.cstar_tree.specs.StatementFaults as F
use Rattle.type_statements.proofs.TypedForms.{tells, while_types}
use Rattle.type_statements.proofs.forms.while_statement.Goals as goal

pub returns-in_err-scalar_test : goal.returns-in_err-scalar_test
returns-in_err-scalar_test c program result here e s h inner =
    let p = err_from_is_err_and c.from_residual.result c.from_residual.ensures.1 in
    let fault = rw c.deref.ensures at c.in_err-scalar_test.ensures in
    rw (p.1, p.2) (tells c.in_err-scalar_test.field-0.0 fault.1 (F.parallel_test (F.Tested.while s (F.typed inner)) h fault.0.1))

pub returns : goal.returns
returns c program result here e s h inner =
    while_types program result here c.args.place e s c.args.test c.args.body c.into_inner.result c.into_inner.ensures h (rw c.deref.ensures at c.in_ok-scalar_test.ensures) inner
