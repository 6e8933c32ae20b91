use Rattle.std.proofs.Common.{arith}
use Rattle.field_alloc.proofs.offsets.place_set.Goals as goal

pub returns-clause-stacked : goal.returns-clause-stacked
returns-clause-stacked c = λ lower upper len over at a b lt up p q in_code held held_too.
    c.loop-number.invariant.swept.stacked lower upper len over at a b lt (omega arith) p q in_code held held_too

pub returns-clause-below : goal.returns-clause-below
returns-clause-below c = λ entry len a lt p. c.loop-number.invariant.below entry len a (omega arith) p

pub loop-number-preserved : goal.loop-number-preserved
loop-number-preserved c = record {
  swept = c.in_ok-end.ensures.swept _ c.loop-number.invariant.swept;
  below = c.in_ok-end.ensures.below c.max-greatest.result (omega (arith, c.max-greatest.ensures)) (λ entry len a lt p.
      let u = c.loop-number.invariant.below entry len a lt p in
      omega (arith, c.max-greatest.ensures));
}
