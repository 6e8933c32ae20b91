use Rattle.plain_listings.specs.Contents.{RegisterHasWords}
use Rattle.listed_images.proofs.Each.{all_have, none_have, one_more_has}
use Rattle.listed_images.proofs.words.in_registers.Goals as goal

pub loop-checked-init : goal.loop-checked-init
loop-checked-init c = none_have RegisterHasWords _

pub loop-checked-preserved : goal.loop-checked-preserved
loop-checked-preserved c = one_more_has RegisterHasWords _ _ _ c.loop-checked.invariant c.loop-checked-test.true c.in_register.ensures

pub returns : goal.returns
returns c = all_have RegisterHasWords _ _ c.loop-checked.invariant c.loop-checked-test.false
