use Rattle.std.proofs.Common.{◌*◌, ◌^◌}
use Rattle.bit_planes.specs.Planes.{number}
use Rattle.lane_kernels.proofs.Lifted.{Becoming}
use Rattle.lane_kernels.proofs.in_place.shift_left.Given as goal

abbrev pub invariant-loop-j : goal.invariant-loop-j
invariant-loop-j l = Becoming l.to l.j l.to.len (λ i. number l.initial.planes l.offset l.to.len i * 2 ^ l.k) l.initial.planes l.planes
