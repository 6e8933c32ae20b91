use Rattle.std.proofs.Common.{ℕ, ◌≡◌, ◌<◌, ◌^◌, ◌%◌, ◌-◌, cond, nat_eq}
use Rattle.bit_planes.specs.Bits.{bit}
use Rattle.lane_kernels.specs.Kernels.{operand_of}
use Rattle.lane_kernels.proofs.compare.equal_of.Given as goal

abbrev pub invariant-loop-j : goal.invariant-loop-j
invariant-loop-j l = (i : ℕ) → i < 512 → 1 - bit l.apart i ≡ cond (nat_eq (operand_of l.a l.planes l.len i % 2 ^ l.j) (operand_of l.b l.planes l.len i % 2 ^ l.j)) 1 0
