use Rattle.std.proofs.Common.{map, take}
use Rattle.block_store.specs.Fresh.{AreFreshSets}
use Rattle.block_store.specs.Stored.{shape_of_plan}
use Rattle.block_store.proofs.store.Store.new.Given as goal

abbrev pub invariant-plans : goal.invariant-plans
invariant-plans l = AreFreshSets (map shape_of_plan (take l.plan-index l.plan-items)) l.sets.items
