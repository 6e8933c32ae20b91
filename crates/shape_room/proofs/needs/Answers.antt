use Rattle.std.proofs.Common.{ℕ, List, Vec, subst, sym}
use Rattle.std.specs.declared.alloc.Global.{Global}
use Rattle.call_graph.specs.Graph.{AreCalleesFirst, Successors}
use Rattle.shape_room.proofs.CallLists.{has_calls}
use Rattle.shape_room.proofs.Orders.{call_order}
use Rattle.shape_room.specs.CallOrders.{HasCalls, HasNoCycle, IsCallOrder}
use Rattle.shape_room.proofs.needs.Goals as goal

pub returns-clause-needs : goal.returns-clause-needs
returns-clause-needs c = λ none.
    let called = c.in_ok-called.called.items in
    let has = has_calls c.args.instances.now called c.in_ok-called.ensures in
    let acyclic : HasNoCycle (Successors called) = subst HasNoCycle (sym c.in_ok-called.ensures) none in
    let first : AreCalleesFirst (Successors called) c.in_ok-order.order.items = subst (λ (graph : List (Vec ℕ Global)). AreCalleesFirst (Successors graph) c.in_ok-order.order.items) c.as_slice.ensures.value c.in_ok-order.ensures in
    let order : IsCallOrder called c.as_slice-3.result.now = subst (λ (order : List ℕ). IsCallOrder called order) (sym c.as_slice-3.ensures.value) (call_order called c.in_ok-order.order.items first acyclic) in
    let same = sym c.as_slice-2.ensures.value in
    c.needs_by.ensures.needs (subst (λ (graph : List (Vec ℕ Global)). HasCalls c.args.instances.now graph) same has) (subst (λ (graph : List (Vec ℕ Global)). IsCallOrder graph c.as_slice-3.result.now) same order)
