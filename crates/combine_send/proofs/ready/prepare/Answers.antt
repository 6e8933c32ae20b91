use Rattle.std.proofs.Common.{◌∙◌, ap}
use Rattle.std.proofs.lemmas.Result.{IfOk-weaker}
use Rattle.combine_core.specs.declared.kind.Kind.{Kind}
use Rattle.combine_board.specs.Values.{Plan}
use Rattle.block_store.specs.Stored.{shapes_in, memory_in, stored}
use Rattle.combine_send.specs.Boards.{plan_of}
use Rattle.combine_send.proofs.Instructions.{can_load, is_plan}
use Rattle.combine_send.proofs.ready.prepare.Goals as goal

-- src/ready.rt:95:5
pub load-requires : goal.load-requires
load-requires g c =
    can_load (shapes_in c.args.store.now) (memory_in c.args.store.now c.args.winner) c.args.send.now c.in_ok-home.home.items c.in_ok-slots.slots.items c.requires.whole.grids c.requires.send c.in_ok-slots.ensures.senders
    (c.in_ok-slots.ensures.slots c.args.winner) c.in_ok-home.ensures.count

-- src/ready.rt:79:1
pub returns : goal.returns
unfolding stored
returns g c =
    let plan : Kind → Plan = λ k. record { kind = k; slots = c.in_ok-slots.slots.items; home = c.in_ok-home.home.items } in
    IfOk-weaker c.load.result _ _ (λ ready is.
    is_plan (shapes_in c.args.store.now) (memory_in c.args.store.now c.args.winner) c.args.send.now (plan_of ready) c.in_ok-home.home.items c.in_ok-slots.slots.items (is ∙ ap plan c.kind_for.ensures)
    c.in_ok-slots.ensures.senders (c.in_ok-slots.ensures.slots c.args.winner) c.in_ok-home.ensures.count (c.in_ok-home.ensures.words c.args.winner)) c.load.ensures
