use Rattle.std.proofs.Common.{ℕ, ◌<◌, ◌≤◌, get_or, length}
use Rattle.block_store.specs.declared.set.BlockSet.{BlockSet}
use Rattle.paris_phases.proofs.machine.room_for.Given as goal

abbrev pub invariant-sets : goal.invariant-sets
invariant-sets l = (l.most ≤ 2048) × ((k : ℕ) (none : BlockSet) → k < l.set-index → length (get_or l.sets k none).blocks.items ≤ l.most)
