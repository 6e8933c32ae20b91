use Rattle.std.proofs.Common.{ap, refl, ◌∙◌, Option, ℕ}
use Rattle.std.specs.Option.{unwrap_or}
use Rattle.cstar_tree.specs.Conversions.{int}
use Rattle.typed_nodes.proofs.Elems.{same_parts}
use Rattle.type_expressions.proofs.OfShapes.{rank_types}
use Rattle.type_expressions.proofs.intrinsics.rank_of.Goals as goal

pub returns : goal.returns
returns c program here place written extents has named is few =
    rank_types _ c.args.file.now.shapes.items (same_parts _ int refl refl) has named is few (c.unwrap_or.ensures ∙ ap (λ (o : Option ℕ). unwrap_or o 0) c.rank.ensures)
