use Rattle.std.proofs.Common.{◌≡◌, ℕ, ◌<◌, ◌≤◌, length}
use Rattle.std.specs.List.{slice_index}
use Rattle.field_alloc.specs.Lent.{HasFlag}
use Rattle.field_alloc.proofs.stretches.behind_ends.Given as goal

abbrev pub invariant-loop-at : goal.invariant-loop-at
invariant-loop-at l = record {
  long : length l.behind.items ≡ l.at;
  last : (other : ℕ) → other < l.at → HasFlag l.ends.items other → other < l.last;
  rows : (at other : ℕ) → at < l.at → other ≤ at → HasFlag l.ends.items other → other < slice_index l.behind.items at;
}
