use Rattle.std.proofs.Common.{◌≡◌, ◌++◌, drop, map}
use Rattle.call_graph.specs.Graph.{Successors}
use Rattle.cstar_tree.specs.declared.typed.Instance.{Instance}
use Rattle.cstar_tree.specs.TypedParts.{calls_within}
use Rattle.shape_room.proofs.calls.calls_of.Given as goal

abbrev pub invariant-loop-instance : goal.invariant-loop-instance
invariant-loop-instance l =
    let calls = λ (i : Instance). calls_within i.body in
    Successors l.called.items ++ map calls (drop l.instance-index l.instances) ≡ map calls l.instances
