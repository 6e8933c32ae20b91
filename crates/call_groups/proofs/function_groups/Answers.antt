use Rattle.std.proofs.Common.{ap, arith, length, subst}
use Rattle.std.proofs.lemmas.Result.{IfOk-weaker}
use Rattle.call_graph.specs.Graph.{AreGroups, Successors}
use Rattle.call_groups.proofs.Functions.{groups_are}
use Rattle.call_groups.proofs.function_groups.Goals as goal

pub returns-clause-exact : goal.returns-clause-exact
returns-clause-exact c =
    let file = c.args.file.now in
    let called = c.loop-number.called.items in
    IfOk-weaker c.groups.result _ _
    (λ groups are. groups_are file called groups.items (omega (arith, c.loop-number.invariant.count, c.loop-number.auto.number-end, c.loop-number-test.false, ap length c.as_slice-items.ensures.value)) c.loop-number.invariant.each (subst (λ graph. AreGroups (Successors graph) groups.items) c.as_slice.ensures.value are))
    c.groups.ensures.exact

pub returns-clause-length : goal.returns-clause-length
returns-clause-length c =
    let file = c.args.file.now in
    IfOk-weaker c.groups.result _ _
    (λ groups many. omega (arith, many, c.loop-number.invariant.count, c.loop-number.auto.number-end, c.loop-number-test.false, c.as_slice.ensures.len, c.as_slice-items.ensures.len, ap length c.as_slice-items.ensures.value, ap length c.as_slice.ensures.value))
    c.groups.ensures.length
