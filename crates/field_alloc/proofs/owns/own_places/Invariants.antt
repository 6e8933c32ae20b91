use Rattle.std.proofs.Common.{◌≡◌, ℕ, ◌<◌, length, map, [], Some}
use Rattle.std.specs.List.{slice_get, slice_index_or}
use Rattle.paris_code.specs.declared.program.Unit.{Unit as CodeUnit}
use Rattle.field_alloc.specs.Named.{AreUnitApart, IsBased, IsUnitAbove, IsUsedAt}
use Rattle.field_alloc.specs.Places.{items_of}
use Rattle.field_alloc.proofs.owns.own_places.Given as goal

abbrev pub invariant-loop-unit : goal.invariant-loop-unit
invariant-loop-unit l = record {
  long : length l.places.items ≡ l.unit-index;
  apart : (number : ℕ) (unit : CodeUnit) → number < l.unit-index → slice_get l.units number ≡ Some unit → AreUnitApart unit (IsUsedAt l.units number unit) (length l.ends) (slice_index_or (map items_of l.places.items) number []);
  above : (number : ℕ) (unit : CodeUnit) → number < l.unit-index → slice_get l.units number ≡ Some unit → IsUnitAbove l.ends unit (slice_index_or (map items_of l.places.items) number []);
  bases_long : length l.bases.items ≡ l.unit-index;
  based : (number : ℕ) (unit : CodeUnit) → number < l.unit-index → slice_get l.units number ≡ Some unit → IsBased unit (IsUsedAt l.units number unit) (length l.ends) (slice_index_or (map items_of l.tops.items) number []) (slice_index_or (map items_of l.places.items) number []) (slice_index_or (map items_of l.bases.items) number []);
}
