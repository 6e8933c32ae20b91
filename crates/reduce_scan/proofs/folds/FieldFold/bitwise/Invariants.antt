use Rattle.std.proofs.Common.{◌≡◌, ◌%◌, ◌^◌}
use Rattle.reduce_scan.specs.Blocks.{block_fold}
use Rattle.reduce_scan.specs.Planewise.{reduction_of}
use Rattle.reduce_scan.proofs.folds.FieldFold.bitwise.Given as goal

abbrev pub invariant-loop-j : goal.invariant-loop-j
invariant-loop-j l = l.total ≡ block_fold (reduction_of l.fn.fold) l.block.planes.items l.self.source l.self.context 512 % 2 ^ l.j
