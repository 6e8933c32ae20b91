use Rattle.plain_listings.specs.Contents.{ShapeHasWords}
use Rattle.listed_images.proofs.Each.{FirstHave}
use Rattle.listed_images.proofs.words.in_shapes.Given as goal

abbrev pub invariant-loop-shape : goal.invariant-loop-shape
invariant-loop-shape l = FirstHave ShapeHasWords l.shapes l.shape-index
