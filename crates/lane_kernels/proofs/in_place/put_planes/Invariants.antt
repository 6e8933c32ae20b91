use Rattle.bit_planes.specs.Planes.{number}
use Rattle.lane_kernels.proofs.Lifted.{Becoming}
use Rattle.lane_kernels.proofs.in_place.put_planes.Given as goal

abbrev pub invariant-loop-j : goal.invariant-loop-j
invariant-loop-j l = Becoming l.to 0 l.j (λ i. number l.column 0 l.to.len i) l.initial.planes l.planes
