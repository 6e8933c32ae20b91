use Rattle.std.proofs.lemmas.Result.{err_from_is_err_and}
use Rattle.cstar_tree.specs.StatementFaults as F
use Rattle.type_statements.proofs.TypedForms.{do_types, tells}
use Rattle.type_statements.proofs.forms.do_statement.Goals as goal

pub returns-in_err-scalar_test : goal.returns-in_err-scalar_test
returns-in_err-scalar_test c program result here s e inner h =
    let p = err_from_is_err_and c.from_residual.result c.from_residual.ensures.1 in
    let fault = rw c.deref.ensures at c.in_err-scalar_test.ensures in
    rw (p.1, p.2) (tells c.in_err-scalar_test.field-0.0 fault.1 (F.parallel_test (F.Tested.do_while s (F.typed inner)) h fault.0.1))

pub returns : goal.returns
returns c program result here s e inner h =
    do_types program result here c.args.place s e c.args.body c.args.test c.into_inner.result c.into_inner.ensures inner h (rw c.deref.ensures at c.in_ok-scalar_test.ensures)
