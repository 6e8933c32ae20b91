use Rattle.std.proofs.Common.{◌+◌, reverse, slice_get}
use Rattle.call_graph.specs.Graph.{Successors}
use Rattle.call_graph.specs.Walk.{IsOrder, IsPast, IsWalk, Moves, left_over, way_left}
use Rattle.call_graph.proofs.walk.Walk.go_from.Given as goal

abbrev pub invariant-steps : goal.invariant-steps
invariant-steps l = record {
  walk : IsWalk (Successors l.graph) l.self.places.items l.self.ungrouped.items (reverse l.self.path.items);
  moves : Moves l.fn.self.places.items l.self.places.items;
  order : IsOrder (Successors l.graph) l.self.places.items l.self.order.items;
  come : IsPast 0 (slice_get l.self.places.items l.root);
}

abbrev pub decreases-steps : goal.decreases-steps
decreases-steps l = left_over (Successors l.graph) l.self.places.items + way_left (Successors l.graph) (reverse l.self.path.items)
