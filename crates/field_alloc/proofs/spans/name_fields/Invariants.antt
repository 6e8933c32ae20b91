use Rattle.std.proofs.Common.{◌≡◌, ◌⊎◌, ℕ, ◌<◌, ◌≤◌, Any, length}
use Rattle.std.specs.List.{slice_index_or}
use Rattle.paris_code.specs.declared.operands.Field.{Field}
use Rattle.paris_code.specs.Spans.{entry_of}
use Rattle.field_alloc.specs.Named.{EndedAt, HeldAt}
use Rattle.field_alloc.proofs.spans.name_fields.Given as goal

abbrev pub invariant-loop-field : goal.invariant-loop-field
invariant-loop-field l = record {
  long : length l.spans.items ≡ length l.initial.spans.items;
  kept : (entry other : ℕ) → l.at ≤ other → HeldAt l.initial.spans.items entry other → HeldAt l.spans.items entry other;
  named : (k entry : ℕ) (field : Field) → k < l.field-index → slice_index_or l.named k field ≡ field → field.offset ≡ entry → entry < length l.initial.spans.items → HeldAt l.spans.items entry l.at;
  ended : (entry other : ℕ) → EndedAt l.spans.items entry other → EndedAt l.initial.spans.items entry other ⊎ ((other ≡ l.at) × Any (λ f. entry_of f ≡ entry) l.named);
}
