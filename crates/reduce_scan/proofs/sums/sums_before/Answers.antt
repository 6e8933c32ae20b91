use Rattle.std.proofs.Common.{ℕ, ◌+◌, ◌/◌, ◌%◌, ◌<◌, ◌^◌, ◌≡◌, ◌*◌, ◌∙◌, ap, Fits, w64, refl, arith}
use Rattle.std.specs.Prelude.{slice_index}
use Rattle.std.proofs.lemmas.Simd.{Each1-get_or}
use Rattle.reduce_scan.proofs.RunningSums.{before_all, before_more, before_none, before_of}
use Rattle.reduce_scan.proofs.sums.sums_before.Goals as goal

pub loop-word-init : goal.loop-word-init
loop-word-init c = before_none c.args.totals c.args.start _ refl c.ranges.start.fits

pub loop-word-preserved : goal.loop-word-preserved
loop-word-preserved c =
    let totals = c.args.totals in
    let word = c.loop-word.word in
    let small = c.loop-word-test.true in
    let fits : slice_index totals word < 2 ^ 64 = (Each1-get_or (Fits w64) totals word 0 (omega (arith, c.fits-totals.0, small)) c.fits-totals.1).fits in
    let middle : ℕ = (c.loop-word.sum + slice_index totals word % 2 ^ 32) % 2 ^ 32 in
    let last : ℕ = (middle + slice_index totals word / 2 ^ 32) % 2 ^ 32 in
    before_more totals c.args.start word c.loop-word.before c.loop-word.sum middle last c.paired.result small fits c.loop-word.invariant refl c.paired.ensures refl

pub returns-clause-before : goal.returns-clause-before
returns-clause-before c = before_all c.args.totals c.args.start c.loop-word.word c.loop-word.before c.loop-word.sum (omega (arith, c.loop-word-test.false)) c.loop-word.invariant

pub returns-clause-all : goal.returns-clause-all
returns-clause-all c =
    c.loop-word.invariant.sum_is ∙ ap (before_of c.args.totals c.args.start) (let e : 2 * c.loop-word.word ≡ 16 = omega (arith, c.loop-word-test.false, c.loop-word.auto.word-end) in e)
