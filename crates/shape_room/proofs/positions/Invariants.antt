use Rattle.std.proofs.Common.{◌-◌, ◌^◌}
use Rattle.shape_room.proofs.Products.{IsCounted}
use Rattle.shape_room.proofs.positions.Given as goal

abbrev pub invariant-loop-extent : goal.invariant-loop-extent
invariant-loop-extent l = IsCounted (2 ^ 64 - 1) l.extent-items l.extent-index l.product
