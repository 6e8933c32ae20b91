use Rattle.std.proofs.Common.{refl, ◌∙◌}
use Rattle.std.proofs.lemmas.Result.{err_from_is_err_and}
use Rattle.cstar_tree.specs.Conversions.{int}
use Rattle.cstar_tree.specs.ExpressionFaults as F
use Rattle.cstar_tree.specs.declared.syntax.Expr as E
use Rattle.typed_nodes.proofs.Elems.{same_parts}
use Rattle.type_expressions.specs.Along as L
use Rattle.type_expressions.proofs.AlongAxes.{no_shape, pcoord_types}
use Rattle.type_expressions.proofs.intrinsics.pcoord.Goals as goal

pub returns-in_err-shape : goal.returns-in_err-shape
returns-in_err-shape c program here along site a =
    let p = err_from_is_err_and c.from_residual.result c.from_residual.ensures.1 in
    rw (p.1, p.2) (no_shape (E.Pcoord c.args.place along) along.value _ (F.pcoord along) F.no_source a L.no_bits site.current c.in_err-shape.ensures refl)

pub returns : goal.returns
returns c program here along site a = pcoord_types _ along (same_parts _ int refl refl) (site.current ∙ c.in_ok-shape.ensures) a c.in_ok-axis.ensures
