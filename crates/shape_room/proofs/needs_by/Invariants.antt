use Rattle.std.proofs.Common.{◌≡◌, ◌++◌, drop, map, vec_len}
use Rattle.cstar_tree.specs.Room.{needs_from}
use Rattle.shape_room.specs.CallOrders.{HasCalls, IsCallOrder}
use Rattle.shape_room.specs.Counted.{kept}
use Rattle.shape_room.proofs.needs_by.Given as goal

abbrev pub invariant-loop-number : goal.invariant-loop-number
invariant-loop-number l =
    (vec_len l.needs ≡ l.number)
    × (HasCalls l.instances l.called → IsCallOrder l.called l.order → l.needs.items ++ map kept (needs_from l.vars l.instances l.number (drop l.number l.shapes)) ≡ map kept (needs_from l.vars l.instances 0 l.shapes))
