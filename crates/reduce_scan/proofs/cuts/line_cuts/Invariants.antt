use Rattle.std.proofs.Common.{◌≡◌, ℕ, ◌+◌, ◌*◌, ◌<◌}
use Rattle.bit_planes.specs.Bits.{bit}
use Rattle.reduce_scan.proofs.LineCuts.{begun_below}
use Rattle.reduce_scan.proofs.WithinBlocks.{flag}
use Rattle.reduce_scan.proofs.cuts.line_cuts.Given as goal

abbrev pub invariant-loop-group : goal.invariant-loop-group
invariant-loop-group l = (i : ℕ) → i < 512 → bit l.found i ≡ flag (begun_below l.lines l.group (512 * l.k + i))
