use Rattle.std.proofs.Common.{subst}
use Rattle.plain_listings.specs.Contents.{EntryHasWords}
use Rattle.listed_images.proofs.Each.{all_have, none_have, one_more_has}
use Rattle.listed_images.proofs.words.in_units.Goals as goal

pub loop-unit-init : goal.loop-unit-init
loop-unit-init c = none_have EntryHasWords _

pub loop-unit-preserved : goal.loop-unit-preserved
loop-unit-preserved c =
    one_more_has EntryHasWords _ _ _ c.loop-unit.invariant c.loop-unit-test.true (subst EntryHasWords c.unit-item.is c.in_unit.ensures)

pub returns : goal.returns
returns c = all_have EntryHasWords _ _ c.loop-unit.invariant c.loop-unit-test.false
