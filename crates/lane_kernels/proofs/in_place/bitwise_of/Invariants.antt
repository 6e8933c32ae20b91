use Rattle.lane_kernels.proofs.Lifted.{Becoming}
use Rattle.lane_kernels.specs.Kernels.{operand_of}
use Rattle.lane_kernels.specs.Gates.{gate_of}
use Rattle.lane_kernels.proofs.in_place.bitwise_of.Given as goal

abbrev pub invariant-loop-j : goal.invariant-loop-j
invariant-loop-j l = Becoming l.to 0 l.j (λ i. gate_of l.gate (operand_of l.a l.initial.planes l.to.len i) (operand_of l.b l.initial.planes l.to.len i)) l.initial.planes l.planes
