use Rattle.std.proofs.lemmas.Result.{err_from_is_err_and}
use Rattle.checkpoint.proofs.Reading.{no_length, word_short, word_cut, word_length, word_read}
use Rattle.checkpoint.proofs.loading.measured_of.Goals as goal

pub returns-in_err-count-clause-short : goal.returns-in_err-count-clause-short
returns-in_err-count-clause-short c =
    let p = err_from_is_err_and c.from_residual.result c.from_residual.ensures.1 in
    rw (p.1, p.2) (λ is word rest few e. no_length _ word rest c.in_err-count.ensures.short e)

pub returns-then-rest-count-clause-short : goal.returns-then-rest-count-clause-short
returns-then-rest-count-clause-short c is word rest few e =
    word_short _ _ _ word rest c.in_ok-count.ensures.small few c.in_ok-count.ensures.read c.if-rest-count.true e

pub returns-clause-read : goal.returns-clause-read
returns-clause-read c =
    word_read _ _ _ _ _ c.in_ok-count.ensures.read
    (word_cut c.in_ok-count.count _ _ _ c.split_at.ensures.front c.split_at.ensures.back)
    (word_length c.in_ok-count.count _ _ c.split_at.ensures.front c.if-rest-count.false)
