use Rattle.type_statements.proofs.TypedForms.{no_result, return_fault, returns_value, fit, unfit}
use Rattle.type_statements.proofs.forms.return_statement.Goals as goal

pub returns-then-not-fits_result : goal.returns-then-not-fits_result
returns-then-not-fits_result c program here e current h =
    rw c.in-Value.is (return_fault program here c.args.place e c.in-Value.ty c.args.value.value c.fault-then-not-fits_result.result current (rw (c.ty.ensures, c.deref.ensures) at (unfit c.fits_result.result _ _ c.if-not-fits_result.true c.fits_result.ensures)) h c.fault-then-not-fits_result.ensures)

pub returns-in-Nothing : goal.returns-in-Nothing
returns-in-Nothing c program here e current h = rw c.in-Nothing.is (no_result program here c.args.place e c.args.value.value c.fault.result h c.fault.ensures)

pub returns-in_ok-fitted-in-Value : goal.returns-in_ok-fitted-in-Value
returns-in_ok-fitted-in-Value c program here e current h =
    rw c.in-Value.is (returns_value program here c.args.place e c.in-Value.ty c.args.value.value c.in_ok-fitted-in-Value.field-0 c.into_inner.result c.into_inner.ensures current (rw (c.ty.ensures, c.deref.ensures) at (fit c.fits_result.result _ _ c.if-not-fits_result.false c.fits_result.ensures)) h c.in_ok-fitted-in-Value.ensures)
