use Rattle.std.proofs.Common.{◌≡◌, ℕ, ◌<◌, length, arith}
use Rattle.std.proofs.lemmas.List.{length-map}
use Rattle.call_graph.specs.Graph.{Successors}
use Rattle.call_graph.proofs.Ordered.{all_ordered}
use Rattle.call_graph.proofs.finishing_order.Goals as goal

pub returns : goal.returns
returns c =
    let calls = Successors c.args.graph.now in
    let walk = c.in_ok-order.field-0 in
    let size : length calls ≡ length c.args.graph.now = length-map c.args.graph.now _ in
    let come = λ (f : ℕ) (less : f < length calls). c.in_ok-order.ensures.come f (omega arith) in
    all_ordered calls walk.places.items walk.ungrouped.items walk.order.items c.in_ok-order.ensures.walk come c.in_ok-order.ensures.order
