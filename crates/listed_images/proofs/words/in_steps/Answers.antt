use Rattle.plain_listings.specs.Contents.{StepHasWords}
use Rattle.listed_images.proofs.Each.{all_have, none_have, one_more_has}
use Rattle.listed_images.proofs.words.in_steps.Goals as goal

pub loop-step-init : goal.loop-step-init
loop-step-init c = none_have StepHasWords _

pub loop-step-preserved : goal.loop-step-preserved
loop-step-preserved c = one_more_has StepHasWords _ _ _ c.loop-step.invariant c.loop-step-test.true c.in_step.ensures

pub returns : goal.returns
returns c = all_have StepHasWords _ _ c.loop-step.invariant c.loop-step-test.false
