use Rattle.std.proofs.Common.{◌≡◌, ℕ, ◌<◌, [], map, Some}
use Rattle.std.specs.List.{slice_get, slice_index_or}
use Rattle.paris_code.specs.declared.program.Unit.{Unit as CodeUnit}
use Rattle.field_alloc.specs.Named.{AreCallsBehind}
use Rattle.field_alloc.specs.Places.{items_of}
use Rattle.field_alloc.proofs.owns.are_all_behind.Given as goal

abbrev pub invariant-loop-unit : goal.invariant-loop-unit
invariant-loop-unit l = record {
  number : l.number ≡ l.unit-index;
  behind : (number : ℕ) (unit : CodeUnit) → number < l.unit-index → slice_get l.units number ≡ Some unit → AreCallsBehind unit.code.items l.sets (slice_index_or (map items_of l.bases) number []) (slice_index_or (map items_of l.tops) number []) (map items_of l.bases);
}
