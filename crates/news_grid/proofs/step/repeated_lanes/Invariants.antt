use Rattle.std.proofs.Common.{◌-◌}
use Rattle.news_grid.proofs.Steps.{Known}
use Rattle.news_grid.proofs.step.repeated_lanes.Given as goal

abbrev pub decreases-known : goal.decreases-known
decreases-known l = 512 - l.known

abbrev pub invariant-known : goal.invariant-known
invariant-known l = Known l.fn.first l.fn.count l.known l.lanes
