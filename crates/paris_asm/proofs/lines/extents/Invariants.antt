use Rattle.std.proofs.Common.{length}
use Rattle.paris_asm.proofs.lines.extents.Given as goal

abbrev pub decreases-more : goal.decreases-more
decreases-more l = length l.rest
