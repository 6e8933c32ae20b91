use Rattle.bit_planes.proofs.Planes.{FieldCopied}
use Rattle.bit_planes.proofs.block.Block.lanes.Given as goal

abbrev pub invariant-loop-j : goal.invariant-loop-j
invariant-loop-j l = FieldCopied l.offset l.j l.self.planes.items l.planes
