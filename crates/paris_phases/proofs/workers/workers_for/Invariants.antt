use Rattle.std.proofs.Common.{◌<◌}
use Rattle.paris_phases.specs.Workers.{Pays}
use Rattle.paris_phases.proofs.workers.workers_for.Given as goal

abbrev pub invariant-more : goal.invariant-more
invariant-more l = 1 < l.w → Pays l.block_ns l.blocks l.w
