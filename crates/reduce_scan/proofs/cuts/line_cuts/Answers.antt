use Rattle.std.proofs.Common.{◌≡◌, ◌+◌, ◌-◌, ◌*◌, ◌/◌, ◌<◌, sym, ◌∙◌, ap, refl, arith}
use Rattle.reduce_scan.proofs.LineCuts.{at_small, begun_all, begun_more, begun_none, div_up, row_small, size_small, size_some}
use Rattle.reduce_scan.proofs.cuts.line_cuts.Goals as goal

pub overflow_mul-size : goal.overflow_mul-size
overflow_mul-size c = omega (arith, size_small c.args.lines.now c.requires.lines (c.args.k * 512) c.if-lines-from.false)

pub overflow_mul-first : goal.overflow_mul-first
overflow_mul-first c =
    let lines = c.args.lines.now in
    omega (arith, row_small lines c.requires.lines (c.args.k * 512) c.steps_before.result c.if-lines-from.false c.steps_before.ensures, size_small lines c.requires.lines (c.args.k * 512) c.if-lines-from.false)

pub overflow_add-at : goal.overflow_add-at
overflow_add-at c = omega (arith, at_small c.args.lines.now c.requires.lines (c.args.k * 512) c.loop-group.group c.steps_before.result c.if-lines-from.false c.loop-group-test.true c.steps_before.ensures)

pub overflow_add-at-in-loop-group : goal.overflow_add-at-in-loop-group
overflow_add-at-in-loop-group c =
    omega (arith, at_small c.args.lines.now c.requires.lines (c.args.k * 512) c.loop-group.group c.steps_before.result c.if-lines-from.false c.loop-group-test.true c.steps_before.ensures)

pub loop-group-init : goal.loop-group-init
loop-group-init c = λ i b.
    let lines = c.args.lines.now in
    let size = lines.extent * lines.apart in
    let from = c.args.k * 512 in
    c.repeated-found.ensures i b
    ∙ sym (begun_none lines (512 * c.args.k + i) (from / size) (div_up from (512 * c.args.k + i) size (size_some lines.direction lines.extent lines.apart c.requires.lines.some c.requires.lines.apart) (omega arith)))

pub loop-group-preserved : goal.loop-group-preserved
loop-group-preserved c =
    let lines = c.args.lines.now in
    let size = lines.extent * lines.apart in
    let group = c.loop-group.group in
    let from = c.args.k * 512 in
    let at = group * size + c.steps_before.result * lines.apart in
    let low : c.saturating_sub-low.result ≡ at - from = omega (arith, c.saturating_sub-low.ensures) in
    let high : c.saturating_sub-high.result ≡ at + lines.apart - from = omega (arith, c.saturating_sub-high.ensures) in
    begun_more lines c.requires.lines c.args.k from group at refl (ap (λ x. group * size + x * lines.apart) c.steps_before.ensures) c.loop-group.found c.either-found.result c.lanes_between.result
    c.saturating_sub-low.result c.saturating_sub-high.result low high c.loop-group.invariant c.lanes_between.ensures c.either-found.ensures

pub returns : goal.returns
returns c = λ i b h.
    let lines = c.args.lines.now in
    let size = lines.extent * lines.apart in
    let p = 512 * c.args.k + i in
    let last : p / size < c.loop-group.group =
    omega (arith, div_up p (c.args.k * 512 + 511) size (size_some lines.direction lines.extent lines.apart c.requires.lines.some c.requires.lines.apart) (omega (arith, b)), c.loop-group-test.false, c.loop-group.auto.group-end) in
    c.loop-group.invariant i b ∙ begun_all lines p c.loop-group.group last
