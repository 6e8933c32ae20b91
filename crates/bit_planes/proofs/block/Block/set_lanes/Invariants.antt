use Rattle.bit_planes.specs.Planes.{SetsField}
use Rattle.bit_planes.proofs.block.Block.set_lanes.Given as goal

abbrev pub invariant-loop-j : goal.invariant-loop-j
invariant-loop-j l = SetsField l.offset l.j l.l.planes l.initial.self.planes.items l.self.planes.items
