use Rattle.std.proofs.Common.{◌≡◌, ℕ, ◌<◌, ◌≤◌, length}
use Rattle.std.specs.List.{slice_index}
use Rattle.field_alloc.proofs.offsets.raise.Given as goal

abbrev pub invariant-loop-at : goal.invariant-loop-at
invariant-loop-at l = record {
  long : length l.heights.items ≡ length l.initial.heights.items;
  risen : (k : ℕ) → slice_index l.initial.heights.items k ≤ slice_index l.heights.items k;
  raised : (k : ℕ) → l.fn.span.first ≤ k → k < l.at → k < length l.heights.items → l.fn.end ≤ slice_index l.heights.items k;
}
