use Rattle.std.proofs.Common.{◌≡◌}
use Rattle.block_store.specs.Stored.{IsWhole, shapes_in}
use Rattle.worker_tests.proofs.sends.number.Given as goal

abbrev pub invariant-loop-position : goal.invariant-loop-position
invariant-loop-position l = IsWhole l.store × (shapes_in l.store ≡ shapes_in l.initial.store) × (l.store.room ≡ l.initial.store.room)
