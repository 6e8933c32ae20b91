use Rattle.std.proofs.Common.{◌∙◌, ◌+◌, ◌*◌, ◌<◌, eqb, ap, refl, subst, sym, arith}
use Rattle.std.specs.Prelude.{IfSome}
use Rattle.bit_planes.specs.Bits.{bit}
use Rattle.combine_send.proofs.Combining.{none_combined, one_combined, then_combined, target_fits}
use Rattle.combine_send.proofs.Filled.{slot_read}
use Rattle.combine_send.proofs.alone.combine_block.Goals as goal

pub loop-i-init : goal.loop-i-init
loop-i-init g c = none_combined _ _ _ _

pub combine_one-requires : goal.combine_one-requires
combine_one-requires g c =
    let wide = c.loop-i.invariant.wide in
    subst (λ n. IfSome c.message-slot.result (λ message. message.target < n)) (c.requires.targets ∙ sym wide) (target_fits _ _ _ _ _ c.message-slot.result c.message-slot.ensures)

pub loop-i-preserved : goal.loop-i-preserved
loop-i-preserved g c =
    let senders = c.args.senders.now in
    let i = c.loop-i.i in
    let inside : i < 512 = omega (arith, c.loop-i-test.true, c.requires.count) in
    let here = slot_read senders c.args.k i c.index-senders-k.result _ _ _ c.message-slot.result c.requires.block inside
    (c.is_one.ensures ∙ ap (λ p. eqb (bit p i) 1) c.plane.ensures) (c.words_of-addresses.ensures i inside) (c.words_of-values.ensures i inside) c.message-slot.ensures in
    then_combined _ senders (512 * c.args.k) (512 * c.args.k + i) i 1 c.args.cells.now c.loop-i.cells _ refl c.loop-i.invariant
    (one_combined _ senders (512 * c.args.k + i) c.message-slot.result c.loop-i.cells _ here c.combine_one.ensures.wide c.combine_one.ensures.cells)
