use Rattle.std.proofs.Common.{◌≡◌, ℕ, ◌-◌, ◌<◌, ◌≤◌, Any, List, ◌++◌, length, ⊎_elim, refl, sym, ap, ◌∙◌, subst, arith}
use Rattle.std.proofs.lemmas.Bool.{cases_lt}
use Rattle.std.proofs.lemmas.Option.{slice_get_read}
use Rattle.std.specs.List.{slice_index_or}
use Rattle.paris_code.specs.declared.operands.Field.{Field}
use Rattle.paris_code.specs.Spans.{IsNamedAt, StandsAt, entry_of, fields_of}
use Rattle.field_alloc.specs.Named.{EndedAt, HeldAt}
use Rattle.field_alloc.proofs.Closed.{stretches_more}
use Rattle.field_alloc.proofs.Held.{named_here}
use Rattle.field_alloc.proofs.spans.name_all.Goals as goal

pub loop-left-preserved : goal.loop-left-preserved
loop-left-preserved c =
    let unit = c.args.unit.now in
    let here = c.in-Ok.at in
    let instr = c.index-instr.result.now in
    let spans = c.name_fields.new.spans.items in
    let fields = c.as_slice.result.now in
    let at_is : here ≡ c.loop-left.left - 1 = c.in-Ok.ensures.1 in
    let in_code : c.loop-left.left - 1 < length unit.code.items = omega arith in
    let stands = subst (λ k. StandsAt unit k instr) (sym at_is) (slice_get_read unit.code.items (length unit.code.items) (c.loop-left.left - 1) instr refl in_code c.index-instr.ensures) in
    let fields_are = c.as_slice.ensures.value ∙ c.in_ok-named.ensures ∙ ap (λ (l : List Field). l ++ fields_of instr) c.clear.ensures.items in
    let long : length c.loop-left.spans.items ≡ length unit.fields.items = c.loop-left.invariant.long ∙ c.requires.length in
    let names = subst (λ n. (k entry : ℕ) (field : Field) → k < length fields → slice_index_or fields k field ≡ field → field.offset ≡ entry → entry < n → HeldAt spans entry here) long c.name_fields.ensures.named in
    record {
      within = omega arith;
      long = c.name_fields.ensures.length ∙ c.loop-left.invariant.long;
      named = λ entry at low in_fields is_named.
          ⊎_elim
          (λ (x : here < at). c.name_fields.ensures.kept entry at (omega arith) (c.loop-left.invariant.named entry at (omega arith) in_fields is_named))
          (λ (x : at ≤ here).
          let same : at ≡ here = omega arith in
          subst (λ k. HeldAt spans entry k) (sym same)
          (named_here unit instr here fields spans stands fields_are names entry in_fields (subst (λ k. IsNamedAt unit entry k) same is_named)))
          (cases_lt here at);
      ended = λ entry at ends.
          ⊎_elim
          (λ (x : EndedAt c.loop-left.spans.items entry at). c.loop-left.invariant.ended entry at x)
          (λ (x : (at ≡ here) × Any (λ f. entry_of f ≡ entry) fields).
          subst (λ k. IsNamedAt unit entry k) (sym x.0)
          (instr, stands, subst (λ (l : List Field). Any (λ f. entry_of f ≡ entry) l) fields_are x.1))
          (c.name_fields.ensures.ended entry at ends);
      stretches = λ stretch is low. stretches_more unit instr here c.loop-left.left c.loop-left.loops.items c.note_stretch.new.loops.items stands (omega arith) c.loop-left.invariant.stretches c.in_ok-note_stretch.ensures.kept c.in_ok-note_stretch.ensures.noted stretch is (omega arith);
    }
