use Rattle.std.proofs.Common.{◌≡◌, ℕ, length}
use Rattle.std.specs.List.{slice_index}
use Rattle.cstar_link.proofs.sets.no_ends.Given as goal

abbrev pub invariant-loop : goal.invariant-loop
invariant-loop l = record {
  long : length l.ends.items ≡ l.counter;
  none : (set : ℕ) → slice_index l.ends.items set ≡ 0;
}
