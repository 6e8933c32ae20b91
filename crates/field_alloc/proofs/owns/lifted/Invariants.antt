use Rattle.std.proofs.Common.{◌≡◌, ℕ, ◌+◌, ◌<◌, length, Some}
use Rattle.std.specs.List.{slice_get, slice_index}
use Rattle.paris_code.specs.declared.program.Virtual.{Virtual}
use Rattle.field_alloc.proofs.owns.lifted.Given as goal

abbrev pub invariant-loop-entry : goal.invariant-loop-entry
invariant-loop-entry l = record {
  long : length l.places.items ≡ l.entry-index;
  lifted : (entry : ℕ) (v : Virtual) → entry < l.entry-index → slice_get l.entries entry ≡ Some v → slice_index l.places.items entry ≡ slice_index l.base v.set + slice_index l.starts entry;
}
