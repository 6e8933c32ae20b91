use Rattle.std.proofs.Common.{◌≡◌, ℕ, ◌<◌, length, slice_get, Some}
use Rattle.call_graph.specs.declared.walk.Place.TheVariants.{Grouped}
use Rattle.call_graph.proofs.walk.set_group.Given as goal

abbrev pub invariant-loop-node : goal.invariant-loop-node
invariant-loop-node l = record {
  same_length : length l.places ≡ length l.initial.places;
  shut : (n node : ℕ) → n < l.node-index → slice_get l.nodes n ≡ Some node → slice_get l.places node ≡ Some (Grouped l.root);
  kept : (node : ℕ) → ((n : ℕ) → n < l.node-index → slice_get l.nodes n ≡ Some node → ⊥) → slice_get l.places node ≡ slice_get l.initial.places node;
}
