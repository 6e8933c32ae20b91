use Rattle.std.proofs.Common.{◌≡◌, ℕ, ◌<◌, ◌≤◌, length}
use Rattle.std.specs.List.{slice_index}
use Rattle.field_alloc.proofs.chains.Bases.row.Given as goal

abbrev pub invariant-loop-end : goal.invariant-loop-end
invariant-loop-end l = record {
  long : length l.row.items ≡ l.end-index;
  above : (set : ℕ) → set < l.end-index → slice_index l.files set ≤ slice_index l.row.items set;
}
