use Rattle.plain_listings.specs.Contents.{FinalHasWords}
use Rattle.listed_images.proofs.Each.{FirstHave}
use Rattle.listed_images.proofs.words.in_finals.Given as goal

abbrev pub invariant-loop-last : goal.invariant-loop-last
invariant-loop-last l = FirstHave FinalHasWords l.finals l.last-index
