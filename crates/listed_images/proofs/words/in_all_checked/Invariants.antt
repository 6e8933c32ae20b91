use Rattle.plain_listings.specs.Contents.{CheckedHasWords}
use Rattle.listed_images.proofs.Each.{FirstHave}
use Rattle.listed_images.proofs.words.in_all_checked.Given as goal

abbrev pub invariant-loop-checked : goal.invariant-loop-checked
invariant-loop-checked l = FirstHave CheckedHasWords l.coordinates l.checked-index
