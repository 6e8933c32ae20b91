use Rattle.std.proofs.Common.{◌≡◌, length}
use Rattle.shape_room.proofs.CallOrders.{AreGiven}
use Rattle.shape_room.specs.CallOrders.{HasCalls, IsCallOrder}
use Rattle.shape_room.proofs.room.main_room.Given as goal

abbrev pub invariant-loop-number : goal.invariant-loop-number
invariant-loop-number l =
    (length l.rooms.items ≡ length l.instances) × (HasCalls l.instances l.called → IsCallOrder l.called l.order → AreGiven l.shape l.instances l.order l.rooms.items l.number-index)
