use Rattle.std.proofs.Common.{false, ◌+◌, ◌/◌, ◌^◌}
use Rattle.bit_planes.specs.Planes.{number}
use Rattle.lane_kernels.proofs.Raising.{Raising}
use Rattle.lane_kernels.specs.Numbers.{extended}
use Rattle.lane_kernels.proofs.in_place.shift_right_plus.Given as goal

abbrev pub invariant-loop-j : goal.invariant-loop-j
invariant-loop-j l = Raising l.to (λ i. extended false l.to.len (l.to.len + l.k) (number l.initial.planes l.offset l.to.len i) / 2 ^ l.k) l.fn.more l.j l.carry l.initial.planes l.planes
