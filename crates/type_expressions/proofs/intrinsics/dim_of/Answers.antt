use Rattle.std.proofs.Common.{refl}
use Rattle.cstar_tree.specs.Conversions.{int}
use Rattle.typed_nodes.proofs.Elems.{same_parts}
use Rattle.type_expressions.proofs.OfShapes.{dim_types}
use Rattle.type_expressions.proofs.intrinsics.dim_of.Goals as goal

pub returns : goal.returns
returns c program here place written along extents number has named is axis_is number_is =
    dim_types _ c.args.file.now.shapes.items along (same_parts _ int refl refl) has named is axis_is number_is c.in_ok-axis.ensures c.extent_along.ensures
