use Rattle.std.proofs.Common.{◌∙◌, ◌+◌, ◌<◌, ◌*◌, None, get_or, length, subst, arith}
use Rattle.std.proofs.Math.ListN.{length-set}
use Rattle.std.proofs.lemmas.List.{get_or_default}
use Rattle.combine_send.specs.Senders.{IsSlotOf}
use Rattle.combine_send.proofs.Filled.{one_filled, none_lost}
use Rattle.combine_send.proofs.senders.fill_block.Goals as goal

pub loop-i-preserved : goal.loop-i-preserved
loop-i-preserved c =
    let senders = c.args.senders.now in
    let i = c.loop-i.i in
    let slots = c.loop-i.slots in
    let filled = c.block_slots-filled.result in
    let inside : i < 512 = omega (arith, c.loop-i-test.true, c.min-i-end.ensures) in
    let within : c.args.from + i < length slots = omega (arith, c.loop-i.invariant.0, c.requires.from, c.loop-i-test.true, c.min-i-end.ensures) in
    let slot = get_or filled i c.index-filled-i.result in
    let here = subst (IsSlotOf senders (512 * c.args.k + i)) (get_or_default filled i None c.index-filled-i.result (omega (arith, inside))) (c.block_slots-filled.ensures i inside) in (
      length-set slots (c.args.from + i) slot ∙ c.loop-i.invariant.0,
      one_filled senders c.args.k c.args.from slots i slot within c.loop-i.invariant.1 here,
      λ j low. none_lost senders c.args.k c.args.from slots i slot within j low ∙ c.loop-i.invariant.2 j low,
    )
