use Rattle.std.proofs.Common.{◌≡◌, ℕ, ◌<◌, ◌≤◌, List, Bool, Option, None, length, ap, ◌∙◌, subst, arith}
use Rattle.field_alloc.specs.declared.spans.Span.{Span}
use Rattle.std.specs.List.{slice_index_or}
use Rattle.field_alloc.specs.Lent.{HasFlag}
use Rattle.field_alloc.specs.Made.{IsFirstWritten, IsUse}
use Rattle.field_alloc.proofs.Held.{held_in_use}
use Rattle.field_alloc.proofs.spans.spans_of.Goals as goal

pub returns-clause-held : goal.returns-clause-held
returns-clause-held c =
    let unit = c.args.unit.now in
    let lent = c.args.lent.now in
    let whole : Span = record { first = 0; last = c.saturating_sub.result } in
    let named = c.name_all.new.spans.items in
    let loops = c.in_ok-loops.loops.items in
    let spans = c.in_ok-spans.spans.items in
    let made = c.in_ok-made.made.items in
    let uses =
    subst (λ (l : List (Option Span)). (entry : ℕ) → entry < length l → IsUse lent made whole loops (slice_index_or l entry None) entry (slice_index_or spans entry None)) c.as_slice-6.ensures.value
    (subst (λ (m : List Bool). (entry : ℕ) → entry < length c.as_slice-6.result.now → IsUse lent m whole loops (slice_index_or c.as_slice-6.result.now entry None) entry (slice_index_or spans entry None)) c.as_slice-3.ensures.value
    (subst (λ (l : List Span). (entry : ℕ) → entry < length c.as_slice-6.result.now → IsUse lent c.as_slice-3.result.now whole l (slice_index_or c.as_slice-6.result.now entry None) entry (slice_index_or spans entry None)) c.as_slice-5.ensures.value c.in_ok-spans.ensures.each)) in
    let first = subst (λ (l : List (Option Span)). (entry : ℕ) → HasFlag made entry → IsFirstWritten unit (slice_index_or l entry None) entry) c.as_slice.ensures.value c.in_ok-made.ensures in
    let long : length named ≡ length unit.fields.items = c.in_ok-loops.ensures.length ∙ (let e : length c.loop.named.items ≡ length unit.fields.items = omega (arith, c.loop.invariant.long, ap length c.deref-items.ensures.value) in e) in
    held_in_use unit lent made named spans loops whole uses first long c.in_ok-loops.ensures.named c.in_ok-loops.ensures.ended c.in_ok-loops.ensures.stretches
    (λ at in_code.
    let low : 0 ≤ at = omega arith in
    let high : at ≤ c.saturating_sub.result = omega (arith, c.saturating_sub.ensures, c.in-Ok.ensures, c.len.ensures) in
    (low, high))
