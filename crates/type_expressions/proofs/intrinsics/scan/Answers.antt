use Rattle.std.proofs.Common.{ap, not, refl, ◌∙◌}
use Rattle.std.proofs.lemmas.Result.{err_from_is_err_and}
use Rattle.cstar_tree.specs.Conversions.{promoted}
use Rattle.cstar_tree.specs.ExpressionFaults as F
use Rattle.cstar_tree.specs.Typed.{type_of}
use Rattle.cstar_tree.specs.declared.syntax.Expr as E
use Rattle.cstar_tree.specs.declared.typed.ValueType.{ValueType}
use Rattle.type_expressions.proofs.AlongAxes.{no_shape, ready, scan_types}
use Rattle.type_expressions.proofs.AtSites.{none_in, some_in}
use Rattle.type_expressions.proofs.OnOperands.{or_memory, tells_or_memory}
use Rattle.type_expressions.proofs.intrinsics.scan.Goals as goal

pub returns-in_err-shape : goal.returns-in_err-shape
returns-in_err-shape c program here scanned along written site a named h =
    let p = err_from_is_err_and c.from_residual.result c.from_residual.ensures.1 in
    let e = E.Scan c.args.place scanned along c.args.combiner c.args.walk.direction c.args.walk.mode written c.args.walk.inclusion in
    rw (p.1, p.2) (or_memory program here e _ (no_shape e along.value _ (F.scan scanned along) (F.source scanned (c.args.source.value, h)) a named site.current c.in_err-shape.ensures refl))

pub returns-then-is_none : goal.returns-then-is_none
returns-then-is_none c program here scanned along written site a named h =
    let scalar = none_in _ (rw (c.ty.ensures, c.deref.ensures) at (c.is_none.ensures ∙ ap not c.if-is_none.true)) in
    tells_or_memory c.fault.result c.fault.ensures (F.scalar_scanned scanned along (ready (F.scan scanned along) (F.source scanned (c.args.source.value, h)) a named) h scalar)

pub returns-in_err-axis : goal.returns-in_err-axis
returns-in_err-axis c program here scanned along written site a named h =
    let p = err_from_is_err_and c.from_residual-in_err-axis.result c.from_residual-in_err-axis.ensures.1 in
    let e = E.Scan c.args.place scanned along c.args.combiner c.args.walk.direction c.args.walk.mode written c.args.walk.inclusion in
    rw (p.1, p.2) (or_memory program here e _ (c.in_err-axis.ensures program here e along.value written c.in_ok-shape.shape (ready (F.scan scanned along) (F.source scanned (c.args.source.value, h)) a named) refl (site.current ∙ c.in_ok-shape.ensures) a named))

pub returns : goal.returns
returns c program here scanned along written site a named h =
    let current = site.current ∙ c.in_ok-shape.ensures in
    let e = E.Scan c.args.place scanned along c.args.combiner c.args.walk.direction c.args.walk.mode written c.args.walk.inclusion in
    let parallel = some_in _ (rw (c.ty.ensures, c.deref.ensures) at (c.is_none.ensures ∙ ap not c.if-is_none.false)) in
    let goes = c.in_ok-axis.ensures program here e along.value written c.in_ok-shape.shape (ready (F.scan scanned along) (F.source scanned (c.args.source.value, h)) a named) refl current a named in
    let elem = c.promoted-elem.ensures ∙ ap (λ (ty : ValueType). promoted ty.elem) (c.ty-2.ensures ∙ ap type_of c.deref-2.ensures) in
    scan_types scanned along c.in_ok-source.source elem current goes h parallel.1 c.in_ok-source.ensures
