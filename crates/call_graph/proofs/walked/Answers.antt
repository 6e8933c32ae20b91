use Rattle.std.proofs.Common.{slice_get, below_more}
use Rattle.call_graph.specs.Walk.{IsPast}
use Rattle.call_graph.proofs.walked.Goals as goal

pub loop-root-preserved : goal.loop-root-preserved
loop-root-preserved c =
    let gone = c.in_ok-go_from.ensures in
    record {
      walk = gone.walk;
      order = gone.order;
      path = gone.path;
      come = below_more (λ node. IsPast 0 (slice_get c.go_from.new.self.places.items node)) c.loop-root.root (λ node less. gone.moves 0 node (c.loop-root.invariant.come node less)) gone.root;
    }
