use Rattle.std.proofs.Common.{◌≡◌, ℕ, ◌+◌, ◌*◌, ◌<◌, cond}
use Rattle.bit_planes.specs.Bits.{bit}
use Rattle.reduce_scan.specs.Parts.{bit_there}
use Rattle.reduce_scan.proofs.cuts.marked_before.Given as goal

abbrev pub invariant-loop-i : goal.invariant-loop-i
invariant-loop-i l = (j : ℕ) → j < l.i → 512 * l.k + j + l.lines.apart < l.lines.positions
    → bit l.found j ≡ cond (bit_there l.set.blocks.items l.scan.bit (512 * l.k + j + l.lines.apart)) 1 0
