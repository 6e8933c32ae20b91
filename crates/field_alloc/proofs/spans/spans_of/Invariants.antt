use Rattle.std.proofs.Common.{◌≡◌, ℕ, length}
use Rattle.field_alloc.specs.Named.{EndedAt}
use Rattle.field_alloc.proofs.spans.spans_of.Given as goal

abbrev pub invariant-loop : goal.invariant-loop
invariant-loop l = record {
  long : length l.named.items ≡ l.index;
  none : (entry at : ℕ) → EndedAt l.named.items entry at → ⊥;
}
