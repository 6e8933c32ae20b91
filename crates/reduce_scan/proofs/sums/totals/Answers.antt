use Rattle.std.proofs.Common.{◌≡◌, ◌∙◌, ◌+◌, ◌%◌, ◌^◌, ap, arith}
use Rattle.bit_planes.specs.Rows.{half, held}
use Rattle.reduce_scan.specs.Sums.{row_start, sum_from}
use Rattle.reduce_scan.proofs.RunningSums.{half_none, next_total}
use Rattle.reduce_scan.proofs.sums.totals.Goals as goal

pub loop-row-init : goal.loop-row-init
loop-row-init c = half_none

pub loop-row-preserved : goal.loop-row-preserved
loop-row-preserved c = λ i b.
    next_total c.args.rows.now 0 c.loop-row.row i (half c.loop-row.total i) (half c.sums-total.result i) c.loop-row-test.true (c.sums-total.ensures i b) (c.loop-row.invariant i b)

pub returns : goal.returns
returns c = λ i b.
    let s = sum_from (held c.args.rows.now) (row_start i) c.loop-row.row in
    c.loop-row.invariant i b ∙ (let e : (0 + s) % 2 ^ 32 ≡ s % 2 ^ 32 = omega arith in e)
    ∙ ap (λ n. sum_from (held c.args.rows.now) (row_start i) n % 2 ^ 32) (let e : c.loop-row.row ≡ 32 = omega (arith, c.loop-row-test.false, c.loop-row.auto.row-end) in e)
