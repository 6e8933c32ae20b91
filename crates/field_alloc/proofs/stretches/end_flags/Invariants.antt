use Rattle.std.proofs.Common.{◌≡◌, ℕ, ◌<◌, length, Some}
use Rattle.std.specs.List.{slice_get}
use Rattle.field_alloc.specs.declared.spans.Span.{Span}
use Rattle.field_alloc.specs.Lent.{HasFlag}
use Rattle.field_alloc.proofs.stretches.end_flags.Given as goal

abbrev pub invariant-loop-stretch : goal.invariant-loop-stretch
invariant-loop-stretch l = (k : ℕ) (stretch : Span) → k < l.stretch-index → slice_get l.loops k ≡ Some stretch → (stretch.first < length l.ends.items → HasFlag l.ends.items stretch.first) × (stretch.last < length l.ends.items → HasFlag l.ends.items stretch.last)
