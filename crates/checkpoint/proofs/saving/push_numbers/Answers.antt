use Rattle.checkpoint.proofs.Lists.{counted_more, counted_all}
use Rattle.checkpoint.proofs.saving.push_numbers.Goals as goal

pub loop-number-preserved : goal.loop-number-preserved
loop-number-preserved c =
    counted_more _ _ _ _ _ _ c.loop-number.invariant c.in_ok-push_number-2.ensures c.loop-number-test.true

pub returns : goal.returns
returns c = rw (← c.list-list.ensures) (counted_all _ _ _ _ c.loop-number.invariant c.loop-number-test.false)
