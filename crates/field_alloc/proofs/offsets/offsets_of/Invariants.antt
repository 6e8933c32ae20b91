use Rattle.std.proofs.Common.{◌≡◌, ℕ, ◌<◌, length}
use Rattle.std.specs.List.{slice_index}
use Rattle.field_alloc.specs.Sweep.{AreBelow, AreStacked}
use Rattle.field_alloc.proofs.offsets.offsets_of.Given as goal

abbrev pub invariant-loop : goal.invariant-loop
invariant-loop l = length l.starts.items ≡ l.index

abbrev pub invariant-loop-set : goal.invariant-loop-set
invariant-loop-set l = record {
  long : length l.starts.items ≡ length l.unit.fields.items;
  stacked : (s : ℕ) → s < l.set → AreStacked l.unit.fields.items l.spans.items l.length s (length l.unit.fields.items) l.starts.items;
  ends_long : length l.ends.items ≡ l.set;
  below : (s : ℕ) → s < l.set → AreBelow l.unit.fields.items l.spans.items s (length l.unit.fields.items) l.starts.items (slice_index l.ends.items s);
}
