use Rattle.std.proofs.Common.{◌+◌, ◌/◌, ◌^◌}
use Rattle.bit_planes.specs.Planes.{number}
use Rattle.lane_kernels.proofs.Lifted.{Becoming}
use Rattle.lane_kernels.specs.Numbers.{extended}
use Rattle.lane_kernels.proofs.in_place.from_bit.Given as goal

abbrev pub invariant-loop-j : goal.invariant-loop-j
invariant-loop-j l = Becoming l.to 0 l.j (λ i. extended l.unsigned l.len (l.to.len + l.k) (number l.initial.planes l.offset l.len i) / 2 ^ l.k) l.initial.planes l.planes
