use Rattle.std.proofs.lemmas.Result.{err_from_is_err_and}
use Rattle.cstar_tree.specs.Scopes.{find}
use Rattle.type_scopes.specs.FileBindings.{names_at}
use Rattle.type_expressions.proofs.NamesInExpressions.{name_away, name_types, not_plain}
use Rattle.type_expressions.proofs.references.name.Goals as goal

pub returns-in_err-variable : goal.returns-in_err-variable
returns-in_err-variable c program here has site =
    let p = err_from_is_err_and c.from_residual.result c.from_residual.ensures.1 in
    rw (p.1, p.2) (not_plain program here c.args.name.now (find (names_at c.args.file.now c.args.locals.now c.args.site.known) c.args.name.now.word) c.in_err-variable.field-0.0 (has c.args.name.now.word) c.in_err-variable.ensures)

pub returns-in_err-holds : goal.returns-in_err-holds
returns-in_err-holds c program here has site =
    let p = err_from_is_err_and c.from_residual-in_err-holds.result c.from_residual-in_err-holds.ensures.1 in
    rw (p.1, p.2) (name_away program here c.args.name.now (names_at c.args.file.now c.args.locals.now c.args.site.known) c.in_ok-variable.variable c.in_ok-variable.ty has site.current c.in_ok-variable.ensures c.in_err-holds.ensures)

pub returns : goal.returns
returns c program here has site =
    rw c.value.ensures (name_types program here c.args.name.now (names_at c.args.file.now c.args.locals.now c.args.site.known) c.in_ok-variable.variable c.in_ok-variable.ty has site.current c.in_ok-variable.ensures c.in_ok-holds.ensures)
