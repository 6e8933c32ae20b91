use Rattle.std.proofs.Common.{arith, ◌^◌, ◌-◌}
use Rattle.shape_room.proofs.Products.{all_counted, counted_more}
use Rattle.shape_room.proofs.positions.Goals as goal

pub loop-extent-preserved : goal.loop-extent-preserved
loop-extent-preserved c =
    counted_more (2 ^ 64 - 1) c.deref-extent-items.result.now c.loop-extent.extent-index c.loop-extent.product c.from.result c.saturating_mul-product.result c.loop-extent-test.true c.from.ensures c.saturating_mul-product.ensures c.loop-extent.invariant

pub returns : goal.returns
returns c = rw c.deref-extent-items.ensures.value at (all_counted (2 ^ 64 - 1) c.deref-extent-items.result.now c.loop-extent.extent-index c.loop-extent.product (omega (arith, c.loop-extent-test.false)) c.loop-extent.invariant)
