use Rattle.std.proofs.Common.{◌≡◌, map, take}
use Rattle.call_graph.specs.Walk.{group_at}
use Rattle.call_graph.proofs.walk.Walk.groups.Given as goal

abbrev pub invariant-loop-place : goal.invariant-loop-place
invariant-loop-place l = l.groups.items ≡ map group_at (take l.place-index l.self.places.items)
