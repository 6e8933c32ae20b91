use Rattle.std.proofs.Common.{ap, arith}
use Rattle.std.proofs.lemmas.Result.{IfOk-weaker}
use Rattle.vp_sets.specs.Positions.{position_count}
use Rattle.combine_send.proofs.Combining.{slots_are}
use Rattle.combine_send.proofs.sending.slots_of.Goals as goal

pub filled-requires-clause-within : goal.filled-requires-clause-within
filled-requires-clause-within g c κs live = omega (arith, c.senders_of-senders.ensures.many, c.positions-count.ensures.value, ap position_count c.plan.ensures.extents)

pub returns-clause-slots : goal.returns-clause-slots
returns-clause-slots g c =
    IfOk-weaker c.filled.result _ _ (λ slots each w. slots_are c.args.store.now c.args.send.now c.senders_of-senders.result w slots.items c.senders_of-senders.ensures.senders c.requires.send each) c.filled.ensures.slots
