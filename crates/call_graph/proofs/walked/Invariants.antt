use Rattle.std.proofs.Common.{◌≡◌, ℕ, ◌<◌, [], slice_get}
use Rattle.call_graph.specs.Graph.{Successors}
use Rattle.call_graph.specs.Walk.{IsOrder, IsPast, IsWalk}
use Rattle.call_graph.proofs.walked.Given as goal

abbrev pub invariant-loop-root : goal.invariant-loop-root
invariant-loop-root l = record {
  walk : IsWalk (Successors l.graph) l.walk.places.items l.walk.ungrouped.items [];
  order : IsOrder (Successors l.graph) l.walk.places.items l.walk.order.items;
  path : l.walk.path.items ≡ [];
  come : (node : ℕ) → node < l.root → IsPast 0 (slice_get l.walk.places.items node);
}
