use Rattle.std.proofs.Common.{ap, not, ◌∙◌}
use Rattle.std.proofs.lemmas.Result.{err_from_is_err_and}
use Rattle.cstar_tree.specs.StatementFaults as F
use Rattle.type_expressions.proofs.AtSites.{none_in, some_in}
use Rattle.type_statements.proofs.TypedForms.{tells, where_tested, where_types}
use Rattle.type_statements.proofs.branches.where_statement.Goals as goal

pub returns-in_err-shape : goal.returns-in_err-shape
returns-in_err-shape c program result here e second third current h =
    let p = err_from_is_err_and c.from_residual.result c.from_residual.ensures.1 in
    rw (p.1, p.2) (tells c.in_err-shape.field-0.0 c.in_err-shape.ensures.1 (F.where_alone (where_tested program result here c.args.place e second third c.args.parts h) (c.args.parts.test.value, h.0) (current ∙ c.in_err-shape.ensures.0)))

pub returns-then-is_none : goal.returns-then-is_none
returns-then-is_none c program result here e second third current h =
    let scalar = none_in _ (rw (c.ty.ensures, c.deref.ensures) at (c.is_none.ensures ∙ ap not c.if-is_none.true)) in
    tells c.fault.result c.fault.ensures (F.where_scalar (where_tested program result here c.args.place e second third c.args.parts h) h.0 scalar)

pub returns : goal.returns
returns c program result here e second third current h =
    let parallel = some_in _ (rw (c.ty.ensures, c.deref.ensures) at (c.is_none.ensures ∙ ap not c.if-is_none.false)) in
    where_types program result here c.args.place e second third c.args.parts.test c.args.parts.then c.args.parts.otherwise c.into_inner.result c.into_inner.ensures (current ∙ c.in_ok-shape.ensures) h parallel.1
