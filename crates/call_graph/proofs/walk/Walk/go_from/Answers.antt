use Rattle.std.proofs.Common.{◌≡◌, ◌∷◌, length, reverse, slice_get, ap, ◌∙◌, arith}
use Rattle.call_graph.specs.Graph.{Successors}
use Rattle.call_graph.specs.Walk.{first_visit}
use Rattle.call_graph.proofs.Whole.{comes_first}
use Rattle.call_graph.proofs.Advance.{known_new}
use Rattle.call_graph.proofs.Ordered.{comes_in_order}
use Rattle.call_graph.proofs.walk.Walk.go_from.Goals as goal

pub steps-init : goal.steps-init
steps-init c =
    let old = c.args.self.now in
    let calls = Successors c.args.graph.now in
    let is = known_new c.args.root (slice_get old.places.items c.args.root) c.in-New.ensures in
    let end : old.ungrouped.len ≡ length old.ungrouped.items = omega (arith, old.ungrouped.ok.0) in
    let first = comes_first calls old.places.items old.ungrouped.items c.args.root old.ungrouped.len c.enter.new.self.places.items c.enter.new.self.ungrouped.items (reverse c.enter.new.self.path.items) c.requires.walk is end c.in_ok-enter.ensures.places c.in_ok-enter.ensures.ungrouped (c.in_ok-enter.ensures.path ∙ ap (λ vs. first_visit c.args.root old.ungrouped.len ∷ reverse vs) c.requires.path) in
    record { walk = first.0; moves = first.1; order = comes_in_order calls old.places.items c.args.root old.ungrouped.len old.order.items c.enter.new.self.places.items c.enter.new.self.order.items is c.in_ok-enter.ensures.places c.in_ok-enter.ensures.order c.requires.order; come = first.2 }

pub steps-preserved : goal.steps-preserved
steps-preserved c =
    let on = c.in_ok-advance.ensures.walk in
    record {
      walk = on.walk;
      moves = λ least node h. on.moves least node (c.steps.invariant.moves least node h);
      order = c.in_ok-advance.ensures.order;
      come = on.moves 0 c.args.root c.steps.invariant.come;
    }
