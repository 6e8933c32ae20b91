use Rattle.plain_listings.specs.Contents.{RegisterHasWords}
use Rattle.listed_images.proofs.Each.{FirstHave}
use Rattle.listed_images.proofs.words.in_registers.Given as goal

abbrev pub invariant-loop-checked : goal.invariant-loop-checked
invariant-loop-checked l = FirstHave RegisterHasWords l.coordinates l.checked-index
