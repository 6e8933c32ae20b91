use Rattle.std.proofs.Common.{get_or, is_some, sym, ap, ◌∙◌, arith}
use Rattle.combine_core.proofs.Ahead.{first_message-more, first_message_here, first_message_not_here}
use Rattle.combine_core.proofs.worker.first_full.Goals as goal

pub returns-then-is_some : goal.returns-then-is_some
returns-then-is_some c =
    let o = c.index-slots-i.result in
    let more = first_message-more c.args.slots.now c.loop-i.i c.args.to o (omega arith) (omega arith) in
    let here = first_message_here c.loop-i.i (get_or c.args.slots.now c.loop-i.i o) _ (ap is_some (sym c.index-slots-i.is) ∙ sym c.is_some.ensures ∙ c.if-is_some.true) in
    sym (sym c.loop-i.invariant ∙ more ∙ here)

pub loop-i-preserved : goal.loop-i-preserved
loop-i-preserved c =
    let o = c.index-slots-i.result in
    let more = first_message-more c.args.slots.now c.loop-i.i c.args.to o (omega arith) (omega arith) in
    let here = first_message_not_here c.loop-i.i (get_or c.args.slots.now c.loop-i.i o) _ (ap is_some (sym c.index-slots-i.is) ∙ sym c.is_some.ensures ∙ c.if-is_some.false) in
    sym here ∙ sym more ∙ c.loop-i.invariant
