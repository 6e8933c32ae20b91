use Rattle.std.proofs.Common.{arith, rules}
use Rattle.cstar_tree.specs.Room.{beside}
use Rattle.shape_room.proofs.Counting.{beside_by}
use Rattle.shape_room.proofs.room.part.Goals as goal

pub returns-then-room-eq0 : goal.returns-then-room-eq0
unfolding beside
returns-then-room-eq0 c = rw c.if-room-eq0.true (search rules)

pub returns-else-room-eq0 : goal.returns-else-room-eq0
returns-else-room-eq0 c = omega (arith, beside_by c.args.number c.args.room (omega arith))
