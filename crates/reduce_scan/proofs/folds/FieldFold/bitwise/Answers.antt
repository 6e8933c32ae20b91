use Rattle.std.proofs.Common.{◌≡◌, ◌+◌, ◌%◌, ◌^◌, ◌<◌, ap, sym, ◌∙◌, min, arith}
use Rattle.bit_planes.specs.Bits.{bit}
use Rattle.bit_planes.specs.Planes.{plane_at}
use Rattle.lane_kernels.specs.Numbers.{ones_before}
use Rattle.reduce_scan.specs.Blocks.{block_fold}
use Rattle.reduce_scan.specs.Planewise.{folded_bit, reduction_of}
use Rattle.reduce_scan.proofs.Planewise.{field_bit, bit_more, all_bits}
use Rattle.reduce_scan.proofs.folds.FieldFold.bitwise.Goals as goal

pub overflow_add-total : goal.overflow_add-total
overflow_add-total c =
    let planes = c.args.block.now.planes.items in
    let fold = c.args.fold in
    let j = c.loop-j.j in
    let inside : j < c.args.self.now.source.len = omega (arith, c.loop-j-test.true, c.from-j-end.ensures) in
    let small : j < 32 = omega (arith, inside, c.requires.field.1) in
    let digit = c.bit.ensures
    ∙ ap (λ o. folded_bit fold o c.count-all.result) c.count-ones.ensures
    ∙ ap (λ o. folded_bit fold (ones_before c.both.result 512) o) (c.count-all.ensures ∙ ap (λ p. ones_before p 512) c.plane-active.ensures)
    ∙ sym (field_bit fold planes c.args.self.now.source c.args.self.now.context c.requires.field.1 j c.both.result inside
    (λ i b. c.both.ensures i b ∙ ap (λ p. min (bit p i) (bit c.plane-active.result i)) c.plane.ensures ∙ ap (λ p. min (bit (plane_at planes (c.args.self.now.source.offset + j)) i) (bit p i)) c.plane-active.ensures)) in
    record { fits = (bit_more (block_fold (reduction_of fold) planes c.args.self.now.source c.args.self.now.context 512) c.loop-j.total c.bit.result j small c.loop-j.invariant digit).1 }

pub loop-j-preserved : goal.loop-j-preserved
loop-j-preserved c =
    let planes = c.args.block.now.planes.items in
    let fold = c.args.fold in
    let j = c.loop-j.j in
    let inside : j < c.args.self.now.source.len = omega (arith, c.loop-j-test.true, c.from-j-end.ensures) in
    let small : j < 32 = omega (arith, inside, c.requires.field.1) in
    let digit = c.bit.ensures
    ∙ ap (λ o. folded_bit fold o c.count-all.result) c.count-ones.ensures
    ∙ ap (λ o. folded_bit fold (ones_before c.both.result 512) o) (c.count-all.ensures ∙ ap (λ p. ones_before p 512) c.plane-active.ensures)
    ∙ sym (field_bit fold planes c.args.self.now.source c.args.self.now.context c.requires.field.1 j c.both.result inside
    (λ i b. c.both.ensures i b ∙ ap (λ p. min (bit p i) (bit c.plane-active.result i)) c.plane.ensures ∙ ap (λ p. min (bit (plane_at planes (c.args.self.now.source.offset + j)) i) (bit p i)) c.plane-active.ensures)) in
    (bit_more (block_fold (reduction_of fold) planes c.args.self.now.source c.args.self.now.context 512) c.loop-j.total c.bit.result j small c.loop-j.invariant digit).0

pub returns : goal.returns
returns c =
    let planes = c.args.block.now.planes.items in
    let a = c.args.self.now.source in
    c.loop-j.invariant
    ∙ ap (λ j. block_fold (reduction_of c.args.fold) planes a c.args.self.now.context 512 % 2 ^ j) (let e : c.loop-j.j ≡ a.len = omega (arith, c.loop-j-test.false, c.loop-j.auto.j-end, c.from-j-end.ensures) in e)
    ∙ all_bits c.args.fold planes a c.args.self.now.context c.requires.field.1 c.requires.some
