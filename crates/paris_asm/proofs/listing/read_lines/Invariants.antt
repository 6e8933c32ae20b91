use Rattle.std.proofs.Common.{length}
use Rattle.paris_code.specs.Plain.{IsPlain}
use Rattle.paris_asm.proofs.listing.read_lines.Given as goal

-- what was read so far is plain if it was at first
abbrev pub invariant-more : goal.invariant-more
invariant-more l = IsPlain l.fn.reading.image → IsPlain l.reading.image

abbrev pub decreases-more : goal.decreases-more
decreases-more l = length l.rest
