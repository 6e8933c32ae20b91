use Rattle.std.proofs.Common.{refl}
use Rattle.cstar_tree.specs.Conversions.{int}
use Rattle.typed_nodes.proofs.Elems.{same_parts}
use Rattle.type_expressions.proofs.OfShapes.{positions_types}
use Rattle.type_expressions.proofs.intrinsics.positions_of.Goals as goal

pub returns : goal.returns
returns c program here place written extents has named is few =
    positions_types _ c.args.file.now.shapes.items (same_parts _ int refl refl) has named is few c.position_count.ensures
