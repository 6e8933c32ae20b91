-- Spans that take in the stretches that they meet.
use Rattle.field_alloc.specs.Sweep.{EndsAt, HeldBy}
use Rattle.std.proofs.Common.{◌≡◌, ℕ, ◌+◌, ◌<◌, ◌≤◌, List, Bool, Option, Some, None, length, ⊎_elim, refl, ap, sym, ◌∙◌, subst, arith}
use Rattle.std.proofs.lemmas.Bool.{cases_lt}
use Rattle.std.proofs.lemmas.Option.{same_Some}
use Rattle.std.specs.List.{slice_get}
use Rattle.paris_code.specs.declared.instr.Instr.{Instr}
use Rattle.paris_code.specs.declared.program.Unit.{Unit as CodeUnit}
use Rattle.paris_code.specs.Spans.{IsNamedAt, IsStretch, JumpsTo, StandsAt}
use Rattle.paris_code.specs.Spans.{Span as Stretch}
use Rattle.field_alloc.specs.declared.spans.Span.{Span}
use Rattle.field_alloc.specs.Lasting.{HasSpan, HaveStretches, LastsBy, LastsThrough}
use Rattle.field_alloc.specs.Lent.{HasFlag}
use Rattle.field_alloc.specs.Made.{BeginsAt, IsFirstWritten, IsMade, IsOnlyWritten}
use Rattle.field_alloc.proofs.Sweeps.{below_or_at}

-- where the span of an entry holds what names it, each closed span round it holds what the entry lasts through
pub lasts_by : (unit : CodeUnit) (entry at : ℕ) (loops : List Span) (o : Option Span) → ((place : ℕ) → IsNamedAt unit entry place → HeldBy o place) → HaveStretches unit loops → LastsThrough unit entry at → LastsBy loops o at
lasts_by unit entry at loops None held have l = held l.0.0 l.0.1
lasts_by unit entry at loops (Some span) held have l = λ wide low high closed.
    l.1 (record { first = wide.first; last = wide.last })
    (record {
      named = λ place is. let h = held place is in (omega (arith, h.0), omega (arith, h.1));
      called = tt;
      stretches = λ stretch is meet.
          let h = have stretch is in
          closed h.0 (record { first = stretch.first; last = stretch.last }) h.1 meet.0 meet.1;
    })

-- an entry that is first written where a closed span begins with its own is made there
pub made_at : (unit : CodeUnit) (entry at : ℕ) (loops : List Span) (o : Option Span) → ((place : ℕ) → IsNamedAt unit entry place → HeldBy o place) → ((place : ℕ) → EndsAt o place → IsNamedAt unit entry place) → HaveStretches unit loops → IsFirstWritten unit o entry → BeginsAt loops o at → IsMade unit entry at
made_at unit entry at loops None held ended have first begins = absurd first
made_at unit entry at loops (Some span) held ended have first begins =
    let wide = begins.1.0 in
    record {
      written = subst (λ n. IsOnlyWritten unit entry n) begins.0 first.0;
      span = record { first = wide.first; last = wide.last };
      in_use = record {
        named = λ place is. let h = held place is in (omega (arith, h.0, begins.0, begins.1.1), omega (arith, h.1, begins.1.3));
        called = tt;
        stretches = λ stretch is meet.
            let h = have stretch is in
            begins.1.4 h.0 (record { first = stretch.first; last = stretch.last }) h.1 meet.0 meet.1;
      };
      begins = begins.1.1;
      again = (span.last, omega (arith, begins.0, first.1), ended span.last refl);
    }

-- one more instruction, from the end
pub stretches_more : (unit : CodeUnit) (instr : Instr) (here left : ℕ) (before after : List Span) → StandsAt unit here instr → left ≤ here + 1 → ((stretch : Stretch) → IsStretch unit stretch → left ≤ stretch.last → HasSpan before stretch.first stretch.last) → ((first last : ℕ) → HasSpan before first last → HasSpan after first last) → ((place : ℕ) → JumpsTo instr place → place ≤ here → HasSpan after place here) → (stretch : Stretch) → IsStretch unit stretch → here ≤ stretch.last → HasSpan after stretch.first stretch.last
stretches_more unit instr here left before after stands next old kept noted stretch is low =
    ⊎_elim
    (λ (x : here < stretch.last). kept stretch.first stretch.last (old stretch is (omega arith)))
    (λ (x : stretch.last ≤ here).
    let same : stretch.last ≡ here = omega arith in
    let one : is.0 ≡ instr = same_Some is.0 instr (sym is.1 ∙ ap (slice_get unit.code.items) same ∙ stands) in
    let jumps = subst (λ (i : Instr). JumpsTo i stretch.first) one is.2 in
    subst (λ n. HasSpan after stretch.first n) (sym same) (noted stretch.first jumps (omega (arith, is.3))))
    (cases_lt here stretch.last)

-- the flags of one more stretch
pub flags_more : (loops : List Span) (i : ℕ) (item : Span) (before between after : List Bool) → slice_get loops i ≡ Some item → length between ≡ length before → length after ≡ length between → ((other : ℕ) → HasFlag before other → HasFlag between other) → ((other : ℕ) → HasFlag between other → HasFlag after other) → (item.first < length before → HasFlag between item.first) → (item.last < length between → HasFlag after item.last) → ((k : ℕ) (stretch : Span) → k < i → slice_get loops k ≡ Some stretch → (stretch.first < length before → HasFlag before stretch.first) × (stretch.last < length before → HasFlag before stretch.last)) → (k : ℕ) (stretch : Span) → k < i + 1 → slice_get loops k ≡ Some stretch → (stretch.first < length after → HasFlag after stretch.first) × (stretch.last < length after → HasFlag after stretch.last)
flags_more loops i item before between after is_item long longer kept kept_too first last old k stretch lt is =
    ⊎_elim
    (λ (x : k < i).
    let o = old k stretch x is in
    (λ h. kept_too stretch.first (kept stretch.first (o.0 (omega arith))), λ h. kept_too stretch.last (kept stretch.last (o.1 (omega arith)))))
    (λ (x : k ≡ i).
    let same : item ≡ stretch = same_Some item stretch (sym is_item ∙ ap (slice_get loops) (sym x) ∙ is) in
    subst (λ (s : Span). (s.first < length after → HasFlag after s.first) × (s.last < length after → HasFlag after s.last)) same
    (λ h. kept_too item.first (first (omega arith)), λ h. last (omega arith)))
    (below_or_at k i lt)
