use Rattle.std.proofs.Common.{◌-◌, ◌≤◌, vec_len}
use Rattle.std.specs.Io.KnownBytes.{Consumes}
use Rattle.cstar_io.proofs.real_shelf.read_most.Given as goal

abbrev pub decreases-more : goal.decreases-more
decreases-more g l = l.most - vec_len l.bytes

abbrev pub invariant-more : goal.invariant-more
invariant-more g l =
    (vec_len l.bytes ≤ l.most)
    × Consumes (g.R.Read.remaining l.fn.reader) (g.R.Read.remaining l.reader) l.bytes.items
