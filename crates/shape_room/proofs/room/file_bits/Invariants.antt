use Rattle.std.proofs.Common.{drop, map}
use Rattle.cstar_tree.specs.Room.{bits_of}
use Rattle.cstar_tree.specs.TypedParts.{total}
use Rattle.shape_room.proofs.Counting.{IsSum}
use Rattle.shape_room.proofs.room.file_bits.Given as goal

abbrev pub invariant-loop-info : goal.invariant-loop-info
invariant-loop-info l = IsSum l.sum (total (map (bits_of l.shape) (drop l.info-index l.vars))) (total (map (bits_of l.shape) l.vars))
