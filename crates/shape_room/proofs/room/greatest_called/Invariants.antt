use Rattle.std.proofs.Common.{◌≡◌, drop, map, max}
use Rattle.std.specs.Prelude.{slice_index}
use Rattle.cstar_tree.specs.Room.{greatest}
use Rattle.shape_room.proofs.room.greatest_called.Given as goal

abbrev pub invariant-loop-callee : goal.invariant-loop-callee
invariant-loop-callee l = max l.greatest (greatest (map (slice_index l.rooms) (drop l.callee-index l.callee-items))) ≡ greatest (map (slice_index l.rooms) l.callee-items)
