use Rattle.lane_kernels.proofs.Rippling.{Rippling}
use Rattle.lane_kernels.proofs.in_place.ripple_of.Given as goal

abbrev pub invariant-loop-j : goal.invariant-loop-j
invariant-loop-j l = Rippling l.to l.a l.b l.inverted l.j l.carry l.initial.planes l.planes
