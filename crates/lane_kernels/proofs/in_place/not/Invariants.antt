use Rattle.lane_kernels.proofs.Lifted.{Becoming}
use Rattle.lane_kernels.specs.Kernels.{operand_of}
use Rattle.lane_kernels.specs.Numbers.{complement_of}
use Rattle.lane_kernels.proofs.in_place.not.Given as goal

abbrev pub invariant-loop-j : goal.invariant-loop-j
invariant-loop-j l = Becoming l.to 0 l.j (λ i. complement_of l.to.len (operand_of l.a l.initial.planes l.to.len i)) l.initial.planes l.planes
