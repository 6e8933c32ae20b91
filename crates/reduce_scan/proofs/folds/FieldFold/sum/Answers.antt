use Rattle.std.proofs.Common.{◌≡◌, ◌+◌, ◌-◌, ◌*◌, ◌%◌, ◌^◌, ◌<◌, ap, sym, ◌∙◌, min, arith}
use Rattle.bit_planes.specs.Bits.{bit}
use Rattle.bit_planes.specs.Planes.{plane_at, number}
use Rattle.bit_planes.proofs.Planes.{number-suc}
use Rattle.paris_code.specs.declared.operands.Reduction.TheVariants as R
use Rattle.reduce_scan.specs.Blocks.{lane_word}
use Rattle.reduce_scan.proofs.LaneWords.{lane_signed}
use Rattle.reduce_scan.proofs.Planewise.{plain_sum, sum_none, sum_more, sum_is, total_more, total_signed}
use Rattle.reduce_scan.proofs.folds.FieldFold.sum.Goals as goal

pub loop-j-init : goal.loop-j-init
loop-j-init c = ap (λ x. x % 2 ^ 32) (sym (sum_none (plane_at c.args.block.now.planes.items c.args.self.now.context) c.args.block.now.planes.items c.args.self.now.source.offset 512))

pub loop-j-preserved : goal.loop-j-preserved
loop-j-preserved c =
    let planes = c.args.block.now.planes.items in
    let offset = c.args.self.now.source.offset in
    let active = plane_at planes c.args.self.now.context in
    let j = c.loop-j.j in
    let low = plain_sum active (number planes offset j) 512 in
    total_more c.loop-j.total c.count-ones.result low (plain_sum active (number planes offset (j + 1)) 512) j c.loop-j.invariant
    (sum_more active (plane_at planes (offset + j)) c.both.result (number planes offset j) (number planes offset (j + 1)) (2 ^ j) (λ i. number-suc planes offset j i)
    (λ i b. c.both.ensures i b ∙ ap (λ p. min (bit p i) (bit c.plane-active.result i)) c.plane.ensures ∙ ap (λ p. min (bit (plane_at planes (offset + j)) i) (bit p i)) c.plane-active.ensures) 512 (omega arith)
    ∙ ap (λ o. low + 2 ^ j * o) (sym c.count-ones.ensures))

pub returns : goal.returns
returns c =
    let planes = c.args.block.now.planes.items in
    let a = c.args.self.now.source in
    let active = plane_at planes c.args.self.now.context in
    let sign = c.from-sign.result - 1 in
    let low = plain_sum active (number planes a.offset sign) 512 in
    let all = plain_sum active (lane_word R.SAdd planes a) 512 in
    let long : a.len ≡ sign + 1 = omega (arith, c.from-sign.ensures, c.requires.field.0) in
    let small : sign < 32 = omega (arith, c.from-sign.ensures, c.requires.field.0, c.requires.field.1) in
    let is : all ≡ low + (2 ^ 32 - 2 ^ sign) * c.count-negative.result =
    sum_more active (plane_at planes (a.offset + sign)) c.both-2.result (number planes a.offset sign) (lane_word R.SAdd planes a) (2 ^ 32 - 2 ^ sign) (λ i. lane_signed planes a sign i long small)
    (λ i b. c.both-2.ensures i b ∙ ap (λ p. min (bit p i) (bit c.plane-active.result i)) c.plane-2.ensures ∙ ap (λ p. min (bit (plane_at planes (a.offset + sign)) i) (bit p i)) c.plane-active.ensures) 512 (omega arith)
    ∙ ap (λ o. low + (2 ^ 32 - 2 ^ sign) * o) (sym c.count-negative.ensures) in
    total_signed c.loop-j.total c.count-negative.result low all sign small
    (c.loop-j.invariant ∙ ap (λ j. plain_sum active (number planes a.offset j) 512 % 2 ^ 32) (let e : c.loop-j.j ≡ sign = omega (arith, c.loop-j-test.false, c.loop-j.auto.j-end) in e)) is
    ∙ sym (sum_is planes a c.args.self.now.context 512)
