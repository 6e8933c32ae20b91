use Rattle.std.proofs.Common.{◌≡◌, ℕ, ◌<◌, None, length}
use Rattle.std.specs.List.{slice_index_or}
use Rattle.field_alloc.specs.Made.{IsUse}
use Rattle.field_alloc.proofs.spans.in_use_all.Given as goal

abbrev pub invariant-loop-span : goal.invariant-loop-span
invariant-loop-span l = record {
  long : length l.spans.items ≡ l.span-index;
  each : (entry : ℕ) → entry < l.span-index → IsUse l.uses.lent.now l.uses.made.now l.uses.whole l.uses.loops.now (slice_index_or l.named entry None) entry (slice_index_or l.spans.items entry None);
}
