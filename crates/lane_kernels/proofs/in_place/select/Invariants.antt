use Rattle.lane_kernels.proofs.Lifted.{Becoming}
use Rattle.lane_kernels.specs.Kernels.{operand_of}
use Rattle.std.proofs.Common.{cond, nat_eq}
use Rattle.bit_planes.specs.Bits.{bit}
use Rattle.lane_kernels.proofs.in_place.select.Given as goal

abbrev pub invariant-loop-j : goal.invariant-loop-j
invariant-loop-j l = Becoming l.to 0 l.j (λ i. cond (nat_eq (bit l.first i) 1) (operand_of l.a l.initial.planes l.to.len i) (operand_of l.b l.initial.planes l.to.len i)) l.initial.planes l.planes
