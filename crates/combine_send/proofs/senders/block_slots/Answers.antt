use Rattle.std.proofs.Common.{◌∙◌, ◌+◌, ◌*◌, eqb, ap, arith}
use Rattle.std.proofs.Math.ListN.{length-set}
use Rattle.bit_planes.specs.Bits.{bit}
use Rattle.combine_send.specs.Senders.{IsSlotOf}
use Rattle.combine_send.proofs.Filled.{slot_read, slot_set}
use Rattle.combine_send.proofs.senders.block_slots.Goals as goal

pub loop-i-preserved : goal.loop-i-preserved
loop-i-preserved c =
    let senders = c.args.senders.now in
    let i = c.loop-i.i in
    let slots = c.loop-i.slots in
    let inside = c.loop-i-test.true in
    let here = slot_read senders c.args.k i c.index-senders-k.result _ _ _ c.message.result c.requires.block inside
    (c.is_one.ensures ∙ ap (λ p. eqb (bit p i) 1) c.plane.ensures) (c.words_of-addresses.ensures i inside) (c.words_of-values.ensures i inside) c.message.ensures in
    (length-set slots i c.message.result ∙ c.loop-i.invariant.0, slot_set (λ j. IsSlotOf senders (512 * c.args.k + j)) slots i c.message.result (omega (arith, c.loop-i.invariant.0, inside)) c.loop-i.invariant.1 here)
