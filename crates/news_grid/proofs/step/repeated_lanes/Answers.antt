use Rattle.news_grid.proofs.Steps.{known_first, known_twice}
use Rattle.news_grid.proofs.step.repeated_lanes.Goals as goal

pub known-init : goal.known-init
known-init c = known_first c.args.first c.args.count c.requires.count c.requires.rest

pub known-preserved : goal.known-preserved
known-preserved c =
    known_twice c.args.first c.args.count c.known.known c.known.lanes c.zero.result.bits c.lanes_beside.result c.either-lanes.result c.known-test.true c.known.invariant c.zero.ensures c.lanes_beside.ensures c.either-lanes.ensures
