use Rattle.std.proofs.Common.{◌≡◌, ℕ, ◌<◌}
use Rattle.bit_planes.specs.Bits.{bit}
use Rattle.reduce_scan.proofs.WithinBlocks.{begun, flag}
use Rattle.reduce_scan.proofs.straight.line_starts.Given as goal

abbrev pub invariant-loop-line : goal.invariant-loop-line
invariant-loop-line l = (i : ℕ) → i < 512 → bit l.starts i ≡ flag (begun l.extent l.k l.line i)
