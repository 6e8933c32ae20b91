use Rattle.std.proofs.Common.{◌≡◌, ◌≢◌, ℕ, ◌+◌, ◌<◌, List, [], ◌∷◌, Option, length, ⊎_elim, ap, sym, ◌∙◌, subst, arith}
use Rattle.std.proofs.lemmas.List.{get_or_append_left, get_or_push, length_push}
use Rattle.std.specs.List.{slice_index}
use Rattle.paris_code.specs.declared.program.Virtual.{Virtual}
use Rattle.field_alloc.specs.declared.spans.Span.{Span}
use Rattle.field_alloc.specs.Sweep.{AreBelow, AreStacked, KeepsOthers}
use Rattle.field_alloc.proofs.Held.{below_kept, stacked_kept, unit_apart, unit_under}
use Rattle.field_alloc.proofs.Sweeps.{below_or_at}
use Rattle.field_alloc.proofs.offsets.offsets_of.Goals as goal

pub loop-set-preserved : goal.loop-set-preserved
loop-set-preserved c =
    let fields = c.args.unit.now.fields.items in
    let spans = c.in_ok-spans.spans.items in
    let size = c.in-Ok.length in
    let set = c.loop-set.set in
    let before = c.loop-set.starts.items in
    let starts = c.place_set.new.starts.items in
    let others = subst (λ (fs : List Virtual). KeepsOthers fs set before starts) c.as_slice.ensures.value c.in_ok-end.ensures.others in
    let stacked =
    subst (λ (ss : List (Option Span)). AreStacked fields ss size set (length fields) starts) c.as_slice-in-loop-set.ensures.value
    (subst (λ (fs : List Virtual). AreStacked fs c.as_slice-in-loop-set.result.now size set (length fs) starts) c.as_slice.ensures.value c.in_ok-end.ensures.stacked) in
    let below =
    subst (λ (ss : List (Option Span)). AreBelow fields ss set (length fields) starts c.in_ok-end.end) c.as_slice-in-loop-set.ensures.value
    (subst (λ (fs : List Virtual). AreBelow fs c.as_slice-in-loop-set.result.now set (length fs) starts c.in_ok-end.end) c.as_slice.ensures.value c.in_ok-end.ensures.below) in
    record {
      long = c.in_ok-end.ensures.length ∙ c.loop-set.invariant.long;
      stacked = λ s lt.
          ⊎_elim
          (λ (x : s < set).
          let away : s ≢ set = omega arith in
          stacked_kept fields spans size s set (length fields) before starts others away (c.loop-set.invariant.stacked s x))
          (λ (x : s ≡ set). subst (λ k. AreStacked fields spans size k (length fields) starts) (sym x) stacked)
          (below_or_at s set lt);
      ends_long = ap length c.in_ok-push-2.ensures.items ∙ length_push c.loop-set.ends.items c.in_ok-end.end ∙ ap (λ n. n + 1) c.loop-set.invariant.ends_long;
      below = λ s lt.
          ⊎_elim
          (λ (x : s < set).
          let away : s ≢ set = omega arith in
          let in_ends : s < length c.loop-set.ends.items = omega (arith, c.loop-set.invariant.ends_long) in
          let same : slice_index c.loop-set.ends.items s ≡ slice_index c.push-in-loop-set.new.self.items s =
          sym (ap (λ (l : List ℕ). slice_index l s) c.in_ok-push-2.ensures.items ∙ get_or_append_left c.loop-set.ends.items (c.in_ok-end.end ∷ []) 0 s in_ends) in
          subst (λ n. AreBelow fields spans s (length fields) starts n) same
          (below_kept fields spans s set (length fields) before starts (slice_index c.loop-set.ends.items s) others away (c.loop-set.invariant.below s x)))
          (λ (x : s ≡ set).
          let last : c.in_ok-end.end ≡ slice_index c.push-in-loop-set.new.self.items s =
          sym (ap (λ (l : List ℕ). slice_index l s) c.in_ok-push-2.ensures.items ∙ get_or_push c.loop-set.ends.items c.in_ok-end.end 0 s (c.loop-set.invariant.ends_long ∙ sym x)) in
          subst (λ n. AreBelow fields spans s (length fields) starts n) last
          (subst (λ k. AreBelow fields spans k (length fields) starts c.in_ok-end.end) (sym x) below))
          (below_or_at s set lt);
    }

pub returns-clause-apart : goal.returns-clause-apart
returns-clause-apart c =
    let unit = c.args.unit.now in
    let fields = unit.fields.items in
    let spans = c.in_ok-spans.spans.items in
    let starts = c.loop-set.starts.items in
    let size_is : c.in-Ok.length ≡ length unit.code.items = omega (arith, c.in-Ok.ensures, c.len.ensures) in
    unit_apart unit c.args.lent.now spans c.args.sets starts c.in_ok-spans.ensures.held
    (λ s lt. subst (λ n. AreStacked fields spans n s (length fields) starts) size_is (c.loop-set.invariant.stacked s (omega arith)))

pub returns-clause-under : goal.returns-clause-under
returns-clause-under c =
    unit_under c.args.unit.now c.args.lent.now c.in_ok-spans.spans.items c.args.sets c.loop-set.starts.items c.loop-set.ends.items c.in_ok-spans.ensures.held
    (λ s lt. c.loop-set.invariant.below s (omega arith))
