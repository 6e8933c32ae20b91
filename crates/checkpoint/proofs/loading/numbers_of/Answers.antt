use Rattle.std.proofs.Common.{◌≡◌, ◌≤◌, length, arith}
use Rattle.std.proofs.lemmas.Result.{err_from_is_err_and}
use Rattle.checkpoint.proofs.Reading.{no_count, numbers_short, numbers_read, one_more_counted, one_more_number, one_more_word}
use Rattle.checkpoint.proofs.loading.numbers_of.Goals as goal

pub returns-in_err-count-clause-short : goal.returns-in_err-count-clause-short
returns-in_err-count-clause-short c =
    let p = err_from_is_err_and c.from_residual.result c.from_residual.ensures.1 in
    rw (p.1, p.2) (λ is numbers rest few e. no_count _ numbers rest c.in_err-count.ensures.short e)

pub returns-in_err-number-clause-short : goal.returns-in_err-number-clause-short
returns-in_err-number-clause-short c =
    let p = err_from_is_err_and c.from_residual-in_err-number.result c.from_residual-in_err-number.ensures.1 in
    rw (p.1, p.2) (λ is numbers rest few e.
    numbers_short _ _ _ _ _ _ numbers rest c.in_ok-count.ensures.small few c.in_ok-count.ensures.read c.loop.invariant.read
    c.loop.invariant.count c.loop-test.true c.in_err-number.ensures.short e)

pub loop-preserved : goal.loop-preserved
loop-preserved c = record {
  count = one_more_counted _ _ _ _ c.in_ok-push.ensures.items c.loop.invariant.count;
  words = one_more_word _ _ _ c.in_ok-push.ensures.items c.loop.invariant.words c.in_ok-number.ensures.small;
  read = one_more_number _ _ _ _ _ _ c.in_ok-push.ensures.items c.loop.invariant.read c.in_ok-number.ensures.read;
}

pub returns-clause-count : goal.returns-clause-count
returns-clause-count c =
    let few : length c.loop.list.items ≤ c.in_ok-count.count = omega (arith, c.loop.invariant.count, c.loop.auto.counter-end) in
    rw c.of.ensures (omega (arith, few, c.in_ok-count.ensures.small))

pub returns-clause-read : goal.returns-clause-read
returns-clause-read c =
    let whole : length c.loop.list.items ≡ c.in_ok-count.count = omega (arith, c.loop.invariant.count, c.loop.auto.counter-end, c.loop-test.false) in
    rw c.of.ensures (numbers_read _ _ _ _ _ c.in_ok-count.ensures.read c.loop.invariant.read whole)

pub returns-clause-words : goal.returns-clause-words
returns-clause-words c = rw c.of.ensures c.loop.invariant.words
