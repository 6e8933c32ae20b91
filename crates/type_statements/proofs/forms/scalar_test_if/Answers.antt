use Rattle.type_statements.proofs.TypedForms.{test_present}
use Rattle.type_statements.proofs.forms.scalar_test_if.Goals as goal

pub returns-in-Some : goal.returns-in-Some
returns-in-Some c = test_present c.args.test.now c.in-Some.test c.args.place c.scalar_test.result c.in-Some.is (rw c.deref.ensures at c.scalar_test.ensures)
