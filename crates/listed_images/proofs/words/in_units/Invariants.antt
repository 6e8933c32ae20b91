use Rattle.plain_listings.specs.Contents.{EntryHasWords}
use Rattle.listed_images.proofs.Each.{FirstHave}
use Rattle.listed_images.proofs.words.in_units.Given as goal

abbrev pub invariant-loop-unit : goal.invariant-loop-unit
invariant-loop-unit l = FirstHave EntryHasWords l.units l.unit-index
