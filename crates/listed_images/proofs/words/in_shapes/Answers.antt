use Rattle.std.proofs.Common.{subst}
use Rattle.plain_listings.specs.Contents.{ShapeHasWords}
use Rattle.listed_images.proofs.Each.{all_have, none_have, one_more_has}
use Rattle.listed_images.proofs.words.in_shapes.Goals as goal

pub loop-shape-init : goal.loop-shape-init
loop-shape-init c = none_have ShapeHasWords _

pub loop-shape-preserved : goal.loop-shape-preserved
loop-shape-preserved c =
    one_more_has ShapeHasWords _ _ _ c.loop-shape.invariant c.loop-shape-test.true (subst ShapeHasWords c.shape-item.is c.in_shape.ensures)

pub returns : goal.returns
returns c = all_have ShapeHasWords _ _ c.loop-shape.invariant c.loop-shape-test.false
