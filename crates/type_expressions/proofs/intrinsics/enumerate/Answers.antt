use Rattle.std.proofs.Common.{refl, ◌∙◌}
use Rattle.std.proofs.lemmas.Result.{err_from_is_err_and}
use Rattle.cstar_tree.specs.Conversions.{int}
use Rattle.cstar_tree.specs.ExpressionFaults as F
use Rattle.cstar_tree.specs.declared.syntax.Expr as E
use Rattle.typed_nodes.proofs.Elems.{same_parts}
use Rattle.type_expressions.proofs.AlongAxes.{enumerate_types, no_shape, ready}
use Rattle.type_expressions.proofs.intrinsics.enumerate.Goals as goal

pub returns-in_err-shape : goal.returns-in_err-shape
returns-in_err-shape c program here along written site a named =
    let p = err_from_is_err_and c.from_residual.result c.from_residual.ensures.1 in
    let e = E.Enumerate c.args.place along c.args.walk.direction c.args.walk.inclusion c.args.walk.mode written in
    rw (p.1, p.2) (no_shape e along.value _ (F.enumerate along) F.for_enumerate a named site.current c.in_err-shape.ensures refl)

pub returns-in_err-axis : goal.returns-in_err-axis
returns-in_err-axis c program here along written site a named =
    let p = err_from_is_err_and c.from_residual-in_err-axis.result c.from_residual-in_err-axis.ensures.1 in
    let e = E.Enumerate c.args.place along c.args.walk.direction c.args.walk.inclusion c.args.walk.mode written in
    rw (p.1, p.2) (c.in_err-axis.ensures program here e along.value written c.in_ok-shape.shape (ready (F.enumerate along) F.for_enumerate a named) refl (site.current ∙ c.in_ok-shape.ensures) a named)

pub returns : goal.returns
returns c program here along written site a named =
    let current = site.current ∙ c.in_ok-shape.ensures in
    let e = E.Enumerate c.args.place along c.args.walk.direction c.args.walk.inclusion c.args.walk.mode written in
    enumerate_types _ along (same_parts _ int refl refl) current (c.in_ok-axis.ensures program here e along.value written c.in_ok-shape.shape (ready (F.enumerate along) F.for_enumerate a named) refl current a named)
