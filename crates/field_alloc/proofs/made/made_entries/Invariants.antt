use Rattle.std.proofs.Common.{◌≡◌, ℕ, None, length}
use Rattle.std.specs.List.{slice_index_or}
use Rattle.field_alloc.specs.Lent.{HasFlag}
use Rattle.field_alloc.specs.Made.{IsFirstWritten}
use Rattle.field_alloc.proofs.made.made_entries.Given as goal

abbrev pub invariant-loop-span : goal.invariant-loop-span
invariant-loop-span l = record {
  long : length l.made.items ≡ l.span-index;
  made : (entry : ℕ) → HasFlag l.made.items entry → IsFirstWritten l.unit (slice_index_or l.spans entry None) entry;
}
