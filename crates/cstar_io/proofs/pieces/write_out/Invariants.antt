use Rattle.std.proofs.Common.{ℕ, List, Option, length}
use Rattle.std.specs.Io.KnownBytes.{Appends}
use Rattle.cstar_io.proofs.pieces.write_out.Given as goal

abbrev pub decreases-more : goal.decreases-more
decreases-more g l = length l.rest

-- what completes the rest completes all
abbrev pub invariant-more : goal.invariant-more
invariant-more g l = (told : Option (List ℕ)) → Appends (g.W.Write.contents l.writer) told l.rest → Appends (g.W.Write.contents l.fn.writer) told l.fn.bytes
