use Rattle.std.proofs.Common.{◌≡◌, ℕ, ◌<◌, ◌≤◌, Some}
use Rattle.std.specs.List.{slice_get}
use Rattle.field_alloc.specs.declared.spans.Span.{Span}
use Rattle.field_alloc.specs.Lasting.{IsUncut}
use Rattle.field_alloc.proofs.stretches.wider.Given as goal

abbrev pub invariant-loop-stretch : goal.invariant-loop-stretch
invariant-loop-stretch l = record {
  first : l.wide.first ≤ l.fn.span.first;
  last : l.fn.span.last ≤ l.wide.last;
  closed : l.fn.span.first ≤ l.wide.first → l.wide.last ≤ l.fn.span.last → (k : ℕ) (stretch : Span) → k < l.stretch-index → slice_get l.loops k ≡ Some stretch → IsUncut stretch l.fn.span;
}
