use Rattle.plain_listings.specs.Contents.{CheckedHasWords}
use Rattle.listed_images.proofs.Each.{all_have, none_have, one_more_has}
use Rattle.listed_images.proofs.words.in_all_checked.Goals as goal

pub loop-checked-init : goal.loop-checked-init
loop-checked-init c = none_have CheckedHasWords _

pub loop-checked-preserved : goal.loop-checked-preserved
loop-checked-preserved c = one_more_has CheckedHasWords _ _ _ c.loop-checked.invariant c.loop-checked-test.true c.in_checked.ensures

pub returns : goal.returns
returns c = all_have CheckedHasWords _ _ c.loop-checked.invariant c.loop-checked-test.false
