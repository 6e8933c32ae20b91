use Rattle.std.proofs.Common.{◌-◌, ◌^◌, List, min, ap, ◌∙◌}
use Rattle.std.proofs.lemmas.Bool.{ltb-true}
use Rattle.cstar_tree.specs.declared.syntax.Item.{Item}
use Rattle.shape_types.specs.FewShapes.{shapes_in}
use Rattle.shape_types.proofs.FewShapes.{few}
use Rattle.shape_types.proofs.few_shapes.has_few_shapes.Goals as goal

pub returns : goal.returns
returns c is =
    let count = c.shapes_in.ensures ∙ ap (λ (items : List Item). min (shapes_in items) (2 ^ 64 - 1)) c.as_slice.ensures.value in
    few c.args.tree.now c.shapes_in.result count (ltb-true c.shapes_in.result (2 ^ 16) is)
