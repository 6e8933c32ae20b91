use Rattle.std.proofs.Common.{◌≡◌, ℕ, ◌<◌, [], length, map, Some}
use Rattle.std.specs.List.{slice_get, slice_index_or}
use Rattle.paris_code.specs.declared.program.Unit.{Unit as CodeUnit}
use Rattle.field_alloc.specs.Lent.{IsFlagged, flags_of}
use Rattle.field_alloc.proofs.lent.no_flags.Given as goal

abbrev pub invariant-loop-unit : goal.invariant-loop-unit
invariant-loop-unit l = record {
  count : length l.flags.items ≡ l.unit-index;
  long : (number : ℕ) (unit : CodeUnit) → number < l.unit-index → slice_get l.units number ≡ Some unit → length (slice_index_or (map flags_of l.flags.items) number []) ≡ length unit.fields.items;
  none : (number entry : ℕ) → IsFlagged (map flags_of l.flags.items) number entry → ⊥;
}
