use Rattle.plain_listings.specs.Contents.{InstrHasWords}
use Rattle.listed_images.proofs.Each.{FirstHave}
use Rattle.listed_images.proofs.words.in_code.Given as goal

abbrev pub invariant-loop-instr : goal.invariant-loop-instr
invariant-loop-instr l = FirstHave InstrHasWords l.code l.instr-index
