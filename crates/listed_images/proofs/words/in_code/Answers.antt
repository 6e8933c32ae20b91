use Rattle.std.proofs.Common.{subst}
use Rattle.plain_listings.specs.Contents.{InstrHasWords}
use Rattle.listed_images.proofs.Each.{all_have, none_have, one_more_has}
use Rattle.listed_images.proofs.words.in_code.Goals as goal

pub loop-instr-init : goal.loop-instr-init
loop-instr-init c = none_have InstrHasWords _

pub loop-instr-preserved : goal.loop-instr-preserved
loop-instr-preserved c =
    one_more_has InstrHasWords _ _ _ c.loop-instr.invariant c.loop-instr-test.true (subst InstrHasWords c.instr-item.is c.in_instr.ensures)

pub returns : goal.returns
returns c = all_have InstrHasWords _ _ c.loop-instr.invariant c.loop-instr-test.false
