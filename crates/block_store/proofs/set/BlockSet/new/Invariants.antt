use Rattle.std.proofs.Common.{◌≡◌, length}
use Rattle.block_store.specs.Fresh.{AreFresh}
use Rattle.block_store.specs.Stored.{shape_of_plan}
use Rattle.block_store.proofs.set.BlockSet.new.Given as goal

abbrev pub invariant-fresh : goal.invariant-fresh
invariant-fresh l = (length l.blocks.items ≡ l.k) × AreFresh (shape_of_plan l.plan) l.blocks.items
