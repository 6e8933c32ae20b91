use Rattle.std.proofs.Common.{◌≡◌, ◌+◌, ◌<◌, ℕ, Bool, false, List, [], ◌∷◌, ◌++◌, Some, length, map, replicate, ap, sym, ◌∙◌, subst, refl, arith}
use Rattle.std.proofs.lemmas.List.{length-map, length_push, map-append}
use Rattle.std.proofs.lemmas.Option.{slice_get_read, slice_get_within}
use Rattle.std.specs.List.{slice_get, slice_index_or}
use Rattle.paris_code.specs.declared.program.Unit.{Unit as CodeUnit}
use Rattle.field_alloc.specs.Lent.{IsFlagged, flags_of}
use Rattle.field_alloc.proofs.Marks.{unflagged_more, unmarked_more}
use Rattle.field_alloc.proofs.lent.no_flags.Goals as goal

pub loop-unit-preserved : goal.loop-unit-preserved
loop-unit-preserved c =
    let units = c.args.units.now in
    let i = c.loop-unit.unit-index in
    let u = c.unit-item.result in
    let rows = c.loop-unit.flags.items in
    let n = length u.fields.items in
    let is_u = slice_get_read units (length units) i u refl c.loop-unit-test.true c.unit-item.is in
    let none_is : c.in_ok-none.none.items ≡ replicate n false = c.in_ok-none.ensures.items_if_clones_equal (λ y same. same) ∙ ap (λ k. replicate k false) (c.len.ensures ∙ u.fields.ok.0) in
    let long : length (map flags_of rows) ≡ i = length-map rows flags_of ∙ c.loop-unit.invariant.count in
    let after : map flags_of rows ++ replicate n false ∷ [] ≡ map flags_of c.push.new.self.items =
    ap (λ (l : List Bool). map flags_of rows ++ l ∷ []) (sym none_is)
    ∙ sym (map-append flags_of rows (c.in_ok-none.none ∷ []))
    ∙ sym (ap (map flags_of) c.in_ok-push.ensures.items) in
    record {
      count = ap length c.in_ok-push.ensures.items ∙ length_push rows c.in_ok-none.none ∙ ap (λ k. k + 1) c.loop-unit.invariant.count;
      long = subst (λ (l : List (List Bool)). (number : ℕ) (unit : CodeUnit) → number < i + 1 → slice_get units number ≡ Some unit → length (slice_index_or l number []) ≡ length unit.fields.items) after
          (unmarked_more units (map flags_of rows) i u long is_u c.loop-unit.invariant.long);
      none = subst (λ (l : List (List Bool)). (number entry : ℕ) → IsFlagged l number entry → ⊥) after
          (unflagged_more (map flags_of rows) n c.loop-unit.invariant.none);
    }

pub returns : goal.returns
returns c = record {
  long = λ number unit is.
      let within = slice_get_within c.args.units.now number unit is in
      c.loop-unit.invariant.long number unit (omega arith) is;
  none = c.loop-unit.invariant.none;
}
