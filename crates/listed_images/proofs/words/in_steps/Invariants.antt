use Rattle.plain_listings.specs.Contents.{StepHasWords}
use Rattle.listed_images.proofs.Each.{FirstHave}
use Rattle.listed_images.proofs.words.in_steps.Given as goal

abbrev pub invariant-loop-step : goal.invariant-loop-step
invariant-loop-step l = FirstHave StepHasWords l.steps l.step-index
