use Rattle.std.proofs.Common.{◌≡◌}
use Rattle.bit_planes.specs.Planes.{number}
use Rattle.bit_planes.proofs.block.Block.number.Given as goal

abbrev pub invariant-loop-j : goal.invariant-loop-j
invariant-loop-j l = l.number ≡ number l.self.planes.items l.offset l.j l.row
