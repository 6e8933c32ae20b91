use Rattle.cstar_tree.specs.Conversions as C
use Rattle.type_expressions.proofs.Indexed.{push_spread}
use Rattle.type_expressions.proofs.references.spread_each.Goals as goal

pub loop-value-init : goal.loop-value-init
loop-value-init c = rw c.new-at_positions.ensures.items C.none

pub loop-value-preserved : goal.loop-value-preserved
loop-value-preserved c =
    push_spread c.loop-value.yielded c.args.shape c.in-Some.value c.loop-value.invariant c.in_ok-spread.ensures c.into_inner.ensures c.in_ok-push.ensures.items
