use Rattle.std.proofs.Common.{subst}
use Rattle.plain_listings.specs.Contents.{FinalHasWords}
use Rattle.listed_images.proofs.Each.{all_have, none_have, one_more_has}
use Rattle.listed_images.proofs.words.in_finals.Goals as goal

pub loop-last-init : goal.loop-last-init
loop-last-init c = none_have FinalHasWords _

pub loop-last-preserved : goal.loop-last-preserved
loop-last-preserved c =
    one_more_has FinalHasWords _ _ _ c.loop-last.invariant c.loop-last-test.true (subst FinalHasWords c.last-item.is c.in_final.ensures)

pub returns : goal.returns
returns c = all_have FinalHasWords _ _ c.loop-last.invariant c.loop-last-test.false
