use Rattle.std.proofs.Common.{◌≡◌, ℕ, ◌<◌, ◌≤◌, length}
use Rattle.paris_code.specs.Spans.{IsNamedAt, IsStretch}
use Rattle.paris_code.specs.Spans.{Span as Stretch}
use Rattle.field_alloc.specs.Lasting.{HasSpan}
use Rattle.field_alloc.specs.Named.{EndedAt, HeldAt}
use Rattle.field_alloc.proofs.spans.name_all.Given as goal

abbrev pub invariant-loop-left : goal.invariant-loop-left
invariant-loop-left l = record {
  within : l.left ≤ length l.unit.code.items;
  long : length l.spans.items ≡ length l.initial.spans.items;
  named : (entry at : ℕ) → l.left ≤ at → entry < length l.unit.fields.items → IsNamedAt l.unit entry at → HeldAt l.spans.items entry at;
  ended : (entry at : ℕ) → EndedAt l.spans.items entry at → IsNamedAt l.unit entry at;
  stretches : (stretch : Stretch) → IsStretch l.unit stretch → l.left ≤ stretch.last → HasSpan l.loops.items stretch.first stretch.last;
}

abbrev pub decreases-loop-left : goal.decreases-loop-left
decreases-loop-left l = l.left
