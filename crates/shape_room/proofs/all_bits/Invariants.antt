use Rattle.std.proofs.Common.{drop}
use Rattle.cstar_tree.specs.Room.{machine_bits}
use Rattle.shape_room.proofs.Counting.{IsSum}
use Rattle.shape_room.proofs.all_bits.Given as goal

abbrev pub invariant-loop-number : goal.invariant-loop-number
invariant-loop-number l = IsSum l.total (machine_bits (drop l.number l.shapes) (drop l.number l.needs)) (machine_bits l.shapes l.needs)
