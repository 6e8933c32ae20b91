use Rattle.std.proofs.Common.{◌∙◌}
use Rattle.std.proofs.lemmas.Result.{err_from_is_err_and}
use Rattle.cstar_tree.specs.StatementFaults as F
use Rattle.cstar_tree.specs.StatementTypes as Y
use Rattle.type_statements.proofs.TypedForms.{tells}
use Rattle.type_statements.proofs.forms.everywhere_statement.Goals as goal

pub returns-in_err-shape : goal.returns-in_err-shape
returns-in_err-shape c program result here s current h =
    let p = err_from_is_err_and c.from_residual.result c.from_residual.ensures.1 in
    rw (p.1, p.2) (tells c.in_err-shape.field-0.0 c.in_err-shape.ensures.1 (F.everywhere_alone s (F.typed h) (current ∙ c.in_err-shape.ensures.0)))

pub returns : goal.returns
returns c program result here s current h = Y.everywhere s c.args.body (current ∙ c.in_ok-shape.ensures) h
