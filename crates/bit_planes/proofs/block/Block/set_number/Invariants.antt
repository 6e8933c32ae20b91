use Rattle.bit_planes.proofs.Planes.{BitsWritten}
use Rattle.bit_planes.proofs.block.Block.set_number.Given as goal

abbrev pub invariant-loop-j : goal.invariant-loop-j
invariant-loop-j l = BitsWritten l.offset l.j l.row l.v l.initial.self.planes.items l.self.planes.items
