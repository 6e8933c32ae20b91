use Rattle.std.proofs.Common.{◌≡◌, ℕ, ◌<◌, [], map, Some}
use Rattle.std.specs.List.{slice_get, slice_index_or}
use Rattle.paris_code.specs.declared.instr.Instr.TheVariants as I
use Rattle.field_alloc.specs.Named.{IsBehind}
use Rattle.field_alloc.specs.Places.{items_of}
use Rattle.field_alloc.proofs.owns.are_calls_behind.Given as goal

abbrev pub invariant-loop-instr : goal.invariant-loop-instr
invariant-loop-instr l = (at called : ℕ) → at < l.instr-index → slice_get l.code at ≡ Some (I.FrontCall called) → IsBehind l.sets l.base l.tops (slice_index_or (map items_of l.bases) called [])
