use Rattle.std.proofs.Common.{arith, ◌-◌, ◌^◌, ◌+◌, min, ap, ◌∙◌}
use Rattle.shape_types.proofs.FewShapes.{all_counted, one_more}
use Rattle.shape_types.proofs.few_shapes.shapes_in.Goals as goal

pub loop-item-init : goal.loop-item-init
loop-item-init c = (omega arith, omega arith)

pub loop-item-preserved : goal.loop-item-preserved
loop-item-preserved c =
    one_more c.args.items.now c.loop-item.item-index c.loop-item.count c.saturating_add-count.result c.item-item.result c.loop-item-test.true c.item-item.is (c.saturating_add-count.ensures ∙ ap (λ n. min (c.loop-item.count + n) (2 ^ 64 - 1)) c.shapes_of.ensures) c.loop-item.invariant

pub returns : goal.returns
returns c = all_counted c.args.items.now c.loop-item.item-index c.loop-item.count c.loop-item-test.false c.loop-item.invariant
