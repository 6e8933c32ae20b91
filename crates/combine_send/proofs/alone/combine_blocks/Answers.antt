use Rattle.std.proofs.Common.{◌≡◌, ◌+◌, ◌*◌, min, subst, arith}
use Rattle.combine_send.specs.Alone.{HasCombined}
use Rattle.combine_send.proofs.Combining.{none_combined, then_combined}
use Rattle.combine_send.proofs.alone.combine_blocks.Goals as goal

pub loop-k-init : goal.loop-k-init
loop-k-init g c =
    let kind = g.C.Combine.combines c.args.combiner.now in
    let cells = c.args.cells.now in
    let from = 512 * c.args.first in
    subst (λ n. HasCombined kind c.args.senders.now from n cells cells) (let e : 0 ≡ min (512 * 0) c.args.count = omega arith in e) (none_combined kind c.args.senders.now from cells)

pub loop-k-preserved : goal.loop-k-preserved
loop-k-preserved g c =
    let kind = g.C.Combine.combines c.args.combiner.now in
    let senders = c.args.senders.now in
    let cells = c.args.cells.now in
    let new = c.combine_block.new.cells in
    let k = c.loop-k.k in
    let more = c.loop-k-test.true in
    let known = c.div_ceil-k-end.ensures in
    let from = 512 * c.args.first in
    subst (λ n. HasCombined kind senders from n cells new) (let e : min (512 * k) c.args.count + c.min-some.result ≡ min (512 * (k + 1)) c.args.count = omega (arith, more, known, c.min-some.ensures) in e)
    (then_combined kind senders from (512 * (c.args.first + k)) (min (512 * k) c.args.count) c.min-some.result cells c.loop-k.cells new (omega (arith, more, known)) c.loop-k.invariant c.combine_block.ensures)

pub returns : goal.returns
returns g c =
    let kind = g.C.Combine.combines c.args.combiner.now in
    subst (λ n. HasCombined kind c.args.senders.now (512 * c.args.first) n c.args.cells.now c.loop-k.cells) (omega (arith, c.loop-k-test.false, c.loop-k.auto.k-end, c.div_ceil-k-end.ensures)) c.loop-k.invariant
