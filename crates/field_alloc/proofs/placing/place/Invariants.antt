use Rattle.std.proofs.Common.{◌≡◌, length}
use Rattle.field_alloc.proofs.placing.place.Given as goal

abbrev pub invariant-loop : goal.invariant-loop
invariant-loop l = length l.ends.items ≡ l.index
