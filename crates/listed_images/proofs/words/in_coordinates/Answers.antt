use Rattle.plain_listings.specs.Contents.{CoordinateHasWords}
use Rattle.listed_images.proofs.Each.{all_have, none_have, one_more_has}
use Rattle.listed_images.proofs.words.in_coordinates.Goals as goal

pub loop-coordinate-init : goal.loop-coordinate-init
loop-coordinate-init c = none_have CoordinateHasWords _

pub loop-coordinate-preserved : goal.loop-coordinate-preserved
loop-coordinate-preserved c = one_more_has CoordinateHasWords _ _ _ c.loop-coordinate.invariant c.loop-coordinate-test.true c.in_coordinate.ensures

pub returns : goal.returns
returns c = all_have CoordinateHasWords _ _ c.loop-coordinate.invariant c.loop-coordinate-test.false
