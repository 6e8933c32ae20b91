use Rattle.std.proofs.Common.{◌≡◌, ◌%◌, ◌^◌}
use Rattle.bit_planes.specs.Planes.{plane_at, number}
use Rattle.reduce_scan.proofs.Planewise.{plain_sum}
use Rattle.reduce_scan.proofs.folds.FieldFold.sum.Given as goal

abbrev pub invariant-loop-j : goal.invariant-loop-j
invariant-loop-j l = l.total ≡ plain_sum (plane_at l.block.planes.items l.self.context) (number l.block.planes.items l.self.source.offset l.j) 512 % 2 ^ 32
