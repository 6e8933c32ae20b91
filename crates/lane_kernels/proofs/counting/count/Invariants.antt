use Rattle.std.proofs.Common.{◌≡◌, ◌*◌}
use Rattle.lane_kernels.specs.Numbers.{ones_before}
use Rattle.lane_kernels.proofs.counting.count.Given as goal

abbrev pub invariant-loop-word : goal.invariant-loop-word
invariant-loop-word l = l.total ≡ ones_before l.fn.mask (64 * l.word)
