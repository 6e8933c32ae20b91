use Rattle.std.proofs.Common.{drop}
use Rattle.cstar_tree.specs.Room.{passed_bits}
use Rattle.shape_room.proofs.Counting.{IsSum}
use Rattle.shape_room.proofs.room.passed.Given as goal

abbrev pub invariant-loop-info : goal.invariant-loop-info
invariant-loop-info l = IsSum l.room (passed_bits l.shape (drop l.info-index l.infos)) (passed_bits l.shape l.infos)
