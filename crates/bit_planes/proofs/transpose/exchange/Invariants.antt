use Rattle.bit_planes.proofs.Butterfly.{PairsDone}
use Rattle.bit_planes.proofs.transpose.exchange.Given as goal

abbrev pub invariant-loop-pair : goal.invariant-loop-pair
invariant-loop-pair l = PairsDone l.step l.pair l.initial.planes l.planes
