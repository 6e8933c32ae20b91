use Rattle.std.proofs.Common.{◌≡◌, ◌+◌, ◌*◌, map, drop}
use Rattle.cstar_tree.specs.Room.{greatest_part}
use Rattle.shape_room.specs.Counted.{counted}
use Rattle.shape_room.specs.RoomInParts.{joined, room_of}
use Rattle.shape_room.proofs.Counting.{IsGreatest}
use Rattle.shape_room.proofs.room.+room.Given as goal

abbrev pub decreases-expression : goal.decreases-expression
decreases-expression l = goal.size-expression l * 8 + 1

abbrev pub decreases-parts : goal.decreases-parts
decreases-parts l = goal.size-parts l * 8

abbrev pub decreases-greatest_of : goal.decreases-greatest_of
decreases-greatest_of l = goal.size-greatest_of l * 8 + 2

abbrev pub invariant-greatest_of-loop-e : goal.invariant-greatest_of-loop-e
invariant-greatest_of-loop-e l =
    (l.number ≡ counted l.e-index)
    × IsGreatest l.greatest (greatest_part l.e-index (map joined (map (room_of l.shape) (drop l.e-index l.parts)))) (greatest_part 0 (map joined (map (room_of l.shape) l.parts)))
