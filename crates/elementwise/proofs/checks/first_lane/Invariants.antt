use Rattle.std.proofs.Common.{◌≡◌, ℕ, ◌*◌, ◌<◌}
use Rattle.bit_planes.specs.Bits.{bit}
use Rattle.elementwise.proofs.checks.first_lane.Given as goal

-- no lane of the words so far is 1
abbrev pub invariant-words : goal.invariant-words
invariant-words l = (i : ℕ) → i < 64 * l.j → bit l.fn.plane i ≡ 0
