use Rattle.shape_types.proofs.FewShapes.{IsCountedTo}
use Rattle.shape_types.proofs.few_shapes.shapes_in.Given as goal

abbrev pub invariant-loop-item : goal.invariant-loop-item
invariant-loop-item l = IsCountedTo l.items l.item-index l.count
