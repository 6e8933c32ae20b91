use Rattle.std.proofs.Common.{◌≡◌, ℕ, ◌<◌, length, map, [], Some}
use Rattle.std.specs.List.{slice_get, slice_index_or}
use Rattle.paris_code.specs.declared.program.Unit.{Unit as CodeUnit}
use Rattle.field_alloc.specs.Named.{AreUnitApart, IsUnitUnder, IsUsedAt}
use Rattle.field_alloc.specs.Places.{items_of}
use Rattle.field_alloc.proofs.owns.starts_of_units.Given as goal

abbrev pub invariant-loop-unit : goal.invariant-loop-unit
invariant-loop-unit l = record {
  long : length l.starts.items ≡ l.unit-index;
  apart : (number : ℕ) (unit : CodeUnit) → number < l.unit-index → slice_get l.units number ≡ Some unit → AreUnitApart unit (IsUsedAt l.units number unit) l.sets (slice_index_or (map items_of l.starts.items) number []);
  tops_long : length l.tops.items ≡ l.unit-index;
  under : (number : ℕ) (unit : CodeUnit) → number < l.unit-index → slice_get l.units number ≡ Some unit → IsUnitUnder unit (IsUsedAt l.units number unit) l.sets (slice_index_or (map items_of l.starts.items) number []) (slice_index_or (map items_of l.tops.items) number []);
}
