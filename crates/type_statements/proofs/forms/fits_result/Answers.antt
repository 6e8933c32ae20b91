use Rattle.type_statements.proofs.TypedForms.{parallel_fits, scalar_fits}
use Rattle.type_statements.proofs.forms.fits_result.Goals as goal

pub returns-in-None : goal.returns-in-None
returns-in-None c = rw c.in-None.is (scalar_fits c.args.site.current c.args.value c.is_none.result c.is_none.ensures)

pub returns-in-Some : goal.returns-in-Some
returns-in-Some c = rw c.in-Some.is (parallel_fits c.args.site.current c.args.value c.in-Some.field-0 c.eq.result (rw c.in-Some.is at c.eq.ensures))
