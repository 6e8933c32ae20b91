-- The code of `&&` and `||` whose right operand does not ignore the context. A field begins as what a decided left operand
-- gives; under a context that is saved, the right operand is tested where the left one does not decide, and where it does
-- not decide either, the field takes the other truth value.
use Rattle.std.proofs.Common.{◌≡◌, ◌∙◌, ℕ, ◌+◌, ◌<◌, ◌≤◌, ◌%◌, ◌^◌, inl, inr, Bool, true, false, not, List, [], length, slice_index, Option, Some, refl, sym, ap, subst, arith, if◌then◌else◌}
use Rattle.std.specs.Int.{from_bool}
use Rattle.cstar_tree.specs.declared.typed.TExpr.{TExpr}
use Rattle.cstar_tree.specs.declared.typed.ValueType.{ValueType}
use Rattle.cstar_tree.specs.declared.typed.Variable.{Variable}
use Rattle.cstar_tree.specs.Typed.{type_of}
use Rattle.code_lengths.specs.Lowerable.{InField}
use Rattle.code_lengths.specs.Ready.{IsReadyButForFields}
use Rattle.code_lengths.proofs.Agreeing.{lengths_if_made}
use Rattle.constant_trees.proofs.Words.{from_bool_below}
use Rattle.lower_base.specs.declared.emit.Out.{Out}
use Rattle.lower_base.specs.declared.emit.Out.TheVariants as O
use Rattle.lower_base.specs.Drafts.{Draft, Fails, Made, Makes, an_entry, step as step_of, then_make, with_instr, in_register, here as draft_here}
use Rattle.lower_expr.specs.Steps.{is_kept}
use Rattle.lower_expr.specs.Values.{Condition, condition_by, condition_of, decided_by, joined_by, jumped_over, limited_by, logical_by, narrowed_again, narrowed_by, narrowing_by, parallel_logical_by, tested, jump_if_decided, jumped, next_of}
use Rattle.paris_code.specs.declared.instr.Instr.{Instr}
use Rattle.paris_code.specs.declared.instr.Instr.TheVariants as I
use Rattle.paris_code.specs.declared.operands.Field.{Field}
use Rattle.paris_code.specs.declared.operands.Konst.TheVariants as K
use Rattle.paris_code.specs.declared.program.Owner.TheVariants as W
use Rattle.paris_code.specs.Code.{CodeState}
use Rattle.paris_code.specs.Memory.{is_tested, processors}
use Rattle.paris_code.specs.Spans.{IsNamedAt}
use Rattle.source_meaning.specs.Expressions.{evaluated}
use Rattle.source_meaning.specs.State.{State}
use Rattle.source_meaning.specs.Values.{Active, nonzero}
use Rattle.code_follows.proofs.Following.{Extends, Follows, HasRegisters, Sim, extends_made, extends_then, keeps_on}
use Rattle.code_follows.proofs.Growing.{Extended, extended}
use Rattle.code_follows.proofs.Settings.{Reaches, Setting, Within, and_one, code_more, earlier, layout, onto, start}
use Rattle.code_follows.proofs.Values.{extends_grown}
use Rattle.lower_base.specs.Kinds.{bits_of, kind_of}
use Rattle.lower_expr.specs.Joined.{joins}
use Rattle.code_follows.proofs.Branching.{decided_goes, decides, jump_long, jump_more}
use Rattle.code_follows.proofs.Jumping.{moved_to, sim_moved}
use Rattle.code_follows.proofs.Numbers.{held_nonzero}
use Rattle.fields_follow.proofs.Promoted.{registered_after}
use Rattle.fields_follow.proofs.Spreading.{GivesWord}
use Rattle.fields_follow.proofs.TruthValues.{by_case}
use Rattle.fields_follow.specs.Fragment.{HasItsKind, IsPure, IsRegistered, IsWide, IsPromoted}
use Rattle.fields_follow.proofs.Arms.{words_of}
use Rattle.fields_follow.proofs.Conditions.{HaveTheirCode, joined_right}
use Rattle.fields_follow.proofs.Expressions.{Answers, IsMeant, operand_grows}
use Rattle.fields_follow.proofs.Flags.{Stored}
use Rattle.fields_follow.proofs.Forms.{HasItsCode, pure_kept, promoted_kept}
use Rattle.fields_follow.proofs.Halves.{Halved, IsMeantUnder, Keeping, Leads, Narrows, after_delayed, after_under, ended_within, half, half_beside, half_inactive, halved, halved_as, narrowed_more, narrows, passed_by, open_both, shut_both, undecided}
use Rattle.fields_follow.proofs.Halving.{beside_context, both_own, context_field, context_here, context_keeping, context_sim, context_stored, halves_answer, two_more, with_both}
use Rattle.fields_follow.proofs.Instructions.{Puts, extents, number_in, puts_constant, shapes, word_in}
use Rattle.fields_follow.proofs.Leaving.{sim_last, fields_under, keeps_again, places_under, reaches_again, registers_under, starts_again, starts_under, under, within_under, EndsBelow}
use Rattle.fields_follow.proofs.Meaning.{value_in}
use Rattle.fields_follow.proofs.Outcomes.{Ended, Given, Known, after_all, ended_back, follows_known, known_follows, meant, then_known}
use Rattle.fields_follow.proofs.Passing.{After, Behind, GivesField, Passes, after_same, code_longer, fields_longer, flags_of, gives_numbers, made_after, passes_all, passes_on, puts_own, then_after}
use Rattle.fields_follow.proofs.PassingTests.{passes_of}
use Rattle.fields_follow.proofs.Places.{HoldsTheFields, PlacesFields, names_first, stands_here}
use Rattle.fields_follow.proofs.Sizes.{pure_at, promoted_small}
use Rattle.fields_follow.proofs.Starts.{no_home, starts_entry, Starts, starts_later}
use Rattle.fields_follow.proofs.TestFlags.{LeavesTests}
use Rattle.fields_follow.proofs.Testing.{IsTested}
use Rattle.fields_follow.proofs.Truths.{either_or_both}
use Rattle.fields_follow.proofs.Values.{IsFlag, next_field, with_entry}

-- what is made behind a piece that only goes on
abbrev goes_on : (Draft → Draft) → Unit {0} → Draft → Made (Unit {0})
goes_on step _ e = Makes tt (step e)

made_behind : (m : Made (Unit {0})) (step : Draft → Draft) (next : Draft → Made Out) → then_make (then_make m (goes_on step)) (λ _ e. next e) ≡ then_make m (λ _ e. next (step e))
unfolding then_make
made_behind (Makes x e) step next = refl
made_behind Fails step next = refl

twice_behind : (m : Made Out) (step : Out → Draft → Made (Unit {0})) (next : Draft → Made Out) → then_make (then_make m step) (λ _ e. next e) ≡ then_make m (λ x e. then_make (step x e) (λ _ after. next after))
unfolding then_make
twice_behind (Makes x e) step next = refl
twice_behind Fails step next = refl

module _ (g : Setting) (has : HasRegisters g) (alive : Variable → Type 0) (n : ℕ) (ready : (d : Draft) → IsReadyButForFields g.typed g.instance (layout g) n d) (places : PlacesFields g) (fields : HoldsTheFields g) where
  abbrev number : ℕ → TExpr → State → ℕ → ℕ
  number set e st = λ q. value_in (extents g set) st e q

  -- the code of the test of a value, where these positions are active
  abbrev pub IsTestedUnder : ℕ → Active → TExpr → Type 0
  IsTestedUnder set b e = IsTested (under g b) (registers_under g b has) alive n ready (places_under g b places) (fields_under g b fields.scope fields.same_extents) set e

  one_grows : (is_or : Bool) (set : ℕ) (u : Unit {0}) (after : Draft) → Extends g after (goes_on (λ e. narrowed_by is_or set e) u after)
  unfolding Extends
  one_grows is_or set u after = (1, narrowed_more g alive places fields is_or set after)

  module _ (is_or : Bool) (bits set : ℕ) (ty : ValueType) (whole left right : TExpr) (shaped : ty.shape ≡ Some set) (kinded : HasItsKind set left) (apart : joins left right ≡ false) (is : IsPure set whole) (wide : IsWide set (type_of whole)) (coded : HasItsCode g.typed g.instance alive n whole)
      (codes : HaveTheirCode g.typed g.instance alive n left right) (value : (st : State) (x : ℕ) → from_bool (either_or_both is_or (nonzero (value_in (extents g set) st left x)) (nonzero (value_in (extents g set) st right x))) ≡ value_in (extents g set) st whole x) where
    abbrev test_of : TExpr → Draft → Made (Unit {0})
    test_of e d = tested g.typed (layout g) e d

    test_grows : (e : TExpr) → HasItsCode g.typed g.instance alive n e → InField g.typed e → (d : Draft) → Extends g d (test_of e d)
    test_grows e code field d = extends_grown g has alive _ d _ _ ((lengths_if_made g.typed g.instance (layout g)).test n e d code.code field (ready d))

    -- ---- what the code is

    abbrev sets : Field → Bool → Instr
    sets f b = I.MoveConstant f (K.Imm (from_bool b))

    abbrev narrow : Draft → Draft
    narrow e = narrowed_by is_or set e

    abbrev last : Field → Field → Draft → Draft
    last f saved e = with_instr (I.LoadContext saved) (with_instr (sets f (not is_or)) e)

    -- behind the left operand, by what tests the right one
    abbrev behind : (Draft → Made (Unit {0})) → Field → Field → Draft → Made Out
    behind again f saved e = then_make (again (narrow (with_instr (I.StoreContext saved) e))) (λ _ after. Makes (O.Field f) (last f saved after))

    narrow_more : (e : Draft) → Extended e 1 (narrow e)
    narrow_more e = narrowed_more g alive places fields is_or set e

    end_grows : (f saved : Field) (after : Draft) → Extends g after (Makes (O.Field f) (last f saved after))
    unfolding Extends
    end_grows f saved after = (1 + 1, extended after (with_instr (sets f (not is_or)) after) (last f saved after) 1 1 (and_one g (sets f (not is_or)) after) (and_one g (I.LoadContext saved) (with_instr (sets f (not is_or)) after)))

    narrow_grows : (again : Draft → Made (Unit {0})) → ((after : Draft) → Extends g after (again after)) → (f saved : Field) (e : Draft) → Extends g (narrow (with_instr (I.StoreContext saved) e)) (behind again f saved e)
    narrow_grows again grows f saved e = extends_then g (narrow (with_instr (I.StoreContext saved) e)) (again (narrow (with_instr (I.StoreContext saved) e))) (λ _ after. Makes (O.Field f) (last f saved after)) (grows (narrow (with_instr (I.StoreContext saved) e))) (λ _ after. end_grows f saved after)

    behind_grows : (again : Draft → Made (Unit {0})) → ((after : Draft) → Extends g after (again after)) → (f saved : Field) (e : Draft) → Extends g e (behind again f saved e)
    behind_grows again grows f saved e =
        extends_made g e (narrow (with_instr (I.StoreContext saved) e)) (1 + 1) (behind again f saved e) (extended e (with_instr (I.StoreContext saved) e) (narrow (with_instr (I.StoreContext saved) e)) 1 1 (and_one g (I.StoreContext saved) e) (narrow_more (with_instr (I.StoreContext saved) e))) (narrow_grows again grows f saved e)

    -- the test of a right operand that stands in a field, and of one that stands in a register
    abbrev field_again : Draft → Made (Unit {0})
    field_again e = narrowed_again is_or set (test_of right) e

    abbrev register_again : Draft → Made (Unit {0})
    register_again e = jumped_over is_or (next_of g.typed (layout g) (bits_of (kind_of right)) true right) e

    abbrev right_again : Draft → Made (Unit {0})
    right_again e = (if is_kept right then jumped_over is_or (next_of g.typed (layout g) (bits_of (kind_of right)) true right) else narrowed_again is_or set (test_of right)) e

    -- the draft where the left operand is tested
    abbrev begun : Draft → Draft
    begun d = with_both bits set d

    abbrev tests_from : Draft → Draft
    tests_from d = with_instr (sets (next_field set bits d) is_or) (begun d)

    logical_code : (d : Draft) → logical_by is_or ty.shape bits (condition_of g.typed (layout g) left) (condition_of g.typed (layout g) right) d ≡ then_make (test_of left (tests_from d)) (λ _ e. behind right_again (next_field set bits d) (next_field set 1 (with_entry set bits W.Own d)) e)
    unfolding logical_by an_entry then_make parallel_logical_by narrowing_by limited_by condition_by
    logical_code d =
        ap (λ (o : Option ℕ). logical_by is_or o bits one two d) shaped ∙ ap (λ (b : Bool). if b then joined_by is_or f one two taken_field else narrowing_by is_or f one two taken_field) apart
        ∙ ap (λ (b : Bool). if b then decided_by is_or f one.code two.test two.tested_long (tests_from d) else limited_by is_or f saved one.test (if is_kept right then jumped_over is_or two.code else narrowed_again is_or set two.test) (tests_from d)) (pure_kept set left kinded.0)
      where
        one : Condition
        one = condition_of g.typed (layout g) left

        two : Condition
        two = condition_of g.typed (layout g) right

        taken_field : Draft
        taken_field = with_entry set bits W.Own d

        f : Field
        f = next_field set bits d

        saved : Field
        saved = next_field set 1 taken_field

    -- ---- what it does

    module _ (d : Draft) (s : CodeState) (st : State) (here : Starts g alive s (length d.code) d.regs (length d.fields)) (sim : Sim g alive st s) where
      abbrev f : Field
      f = next_field set bits d

      abbrev saved : Field
      saved = context_field bits set d

      abbrev v : ℕ → ℕ
      v = number set left st

      abbrev w : ℕ → ℕ
      w = number set right st

      -- where the left operand does not decide, and where neither does
      abbrev among_left : Active
      among_left = half is_or set v fields.active

      abbrev among_both : Active
      among_both = half is_or set w among_left

      abbrev words : ℕ → ℕ
      words = words_of g has alive n ready places fields set whole st

      abbrev Q : Out → Draft → Type 0
      Q = Known g s (meant g fields whole st) (number set whole st) st (Answers g has alive n ready places fields (IsFlag whole) bits (length d.fields) d s set st words)

      module _ (within : Within g (tests_from d)) where
        -- the field begins as what a decided left operand gives
        first : GivesField g alive bits (length d.fields) (begun d) s set st (λ x. from_bool is_or) f (tests_from d)
        unfolding word_in
        first =
            puts_own g alive places fields bits (length d.fields) set (sets f is_or) f (begun d) s st (λ x. from_bool is_or) (omega arith) (let l = (two_more bits set d).1 in omega (arith, l)) (both_own g has alive n ready places fields bits set d s st here (tests_from d) 1 (and_one g (sets f is_or) (begun d)) within).0
            (no_home g alive (length d.fields) (length d.fields) (omega arith) here) refl refl within (starts_entry g alive _ _ (starts_entry g alive _ _ here)) sim (puts_constant g set f (K.Imm (from_bool is_or)) s (from_bool_below is_or))

        first_named : IsNamedAt g.unit f.offset (length (begun d).code)
        unfolding step_of
        first_named = names_first g (sets f is_or) f [] (length (begun d).code) (stands_here g (sets f is_or) (begun d) within refl) refl

        first_more : length (tests_from d).code ≡ length d.code + 1
        first_more = code_more g (sets f is_or) (begun d)

        -- behind the left operand
        module _ (e : Draft) (l : LeavesTests g alive fields (tests_from d) first.passes.t set st v e) where
          abbrev saves : Draft
          saves = with_instr (I.StoreContext saved) e

          less : length d.fields ≤ length d.fields
          less = omega arith

          -- if the field is named behind it
          abbrev to_left : Passes g alive (length d.fields) (begun d) e s st (Behind g f (tests_from d))
          to_left =
              passes_on g alive (length d.fields) (length d.fields) (begun d) (tests_from d) e s st (Behind g f (tests_from d)) (Unit {0}) (Behind g f (tests_from d)) (omega arith) first.passes
              (passes_of g alive (length d.fields) (tests_from d) e first.passes.t st (Unit {0}) (let l = (two_more bits set d).1 in let more = fields_longer (begun d) (tests_from d) 1 (and_one g (sets f is_or) (begun d)) in omega (arith, l, more)) l.leaves tt) (λ named. named) (λ named. tt)

          flags : (x : ℕ) → x < processors (shapes g) set → fields.active set x ≡ true → is_tested (shapes g) to_left.t.memory set x ≡ nonzero (v x)
          unfolding passes_on
          flags x below on = l.flags x below on

          saves_more : length saves.code ≡ length e.code + 1
          saves_more = code_more g (I.StoreContext saved) e

          module _ (within_narrow : Within g (narrow saves)) where
            within_saves : Within g saves
            within_saves = earlier g saves (narrow saves) 1 (narrow_more saves) within_narrow

            abbrev stored : Stored g places alive fields.active set saved e (I.StoreContext saved) to_left.t st (λ x. Unit {0}) (λ x. from_bool (fields.active set x))
            stored = context_stored g has alive n ready places fields bits set d s st here e (Behind g f (tests_from d)) (length d.fields) less to_left within_saves

            -- the left operand does not decide
            left_there : Narrows g alive places fields among_left saves (narrow saves) stored.t st
            left_there =
                narrows g alive places fields is_or set v saves stored.t st (λ x below on. stored.tests set x ∙ flags x below on) within_narrow stored.at
                (context_sim g has alive n ready places fields bits set d s st here e (Behind g f (tests_from d)) (length d.fields) less to_left within_saves)

            left_here : Starts (under g among_left) alive left_there.t (length (narrow saves).code) (narrow saves).regs (length (narrow saves).fields)
            left_here =
                starts_under g among_left alive left_there.t (length (narrow saves).code) (narrow saves).regs (length (narrow saves).fields)
                (starts_later g alive stored.t left_there.t (length saves.code) saves.regs (length saves.fields) (length (narrow saves).code) (narrow saves).regs (length (narrow saves).fields) (code_longer saves (narrow saves) 1 left_there.more) left_there.more.regs (fields_longer saves (narrow saves) 1 left_there.more) left_there.at
                (context_here g has alive n ready places fields bits set d s st here e (Behind g f (tests_from d)) (length d.fields) less to_left within_saves))

            left_go : Reaches g s left_there.t
            left_go = onto g s to_left.t left_there.t to_left.go (onto g to_left.t stored.t left_there.t stored.go left_there.go)

            keeping : Keeping g alive places fields set (length d.fields) bits saved saves stored.t
            keeping = context_keeping g has alive n ready places fields bits set d s st here e (Behind g f (tests_from d)) (length d.fields) less to_left within_saves

            -- Where the code of the right operand has ended, the field has been put where the right one does not decide among
            -- those where the left one does not.
            module _ (final : Draft) (c : Active) (same : (x : ℕ) → c set x ≡ among_both set x) (ended : Halved g alive places fields set f saved c (λ x. from_bool (not is_or)) saves final stored.t st) (place : ℕ) (again_named : IsNamedAt g.unit f.offset place) (late : length saves.code ≤ place) where
              behind_first : Behind g f (tests_from d)
              behind_first =
                  let more = saves_more in
                  let longer = code_longer (tests_from d) e l.leaves.grown.0 l.leaves.grown.1 in
                  (place, (again_named, omega (arith, more, longer, late)))

              -- what stood in the field
              was : (x : ℕ) → x < processors (shapes g) set → fields.active set x ≡ true → number_in g f stored.t x ≡ from_bool is_or % 2 ^ bits
              unfolding passes_on
              was x below on =
                  let two = two_more bits set d in
                  let l0 = two.0 in
                  let l1 = two.1 in
                  let l2 = fields_longer (begun d) (tests_from d) 1 (and_one g (sets f is_or) (begun d)) in
                  let more = saves_more in
                  let begin_more = first_more in
                  let left_more = code_longer (tests_from d) e l.leaves.grown.0 l.leaves.grown.1 in
                  let own = (both_own g has alive n ready places fields bits set d s st here (tests_from d) 1 (and_one g (sets f is_or) (begun d)) within).0 in
                  beside_context g has alive n ready places fields bits set d s st here e (Behind g f (tests_from d)) (length d.fields) less to_left within_saves f (length (begun d).code) place x (λ same. omega (arith, same, l0)) own first_named (omega (arith, begin_more, left_more)) again_named (omega (arith, more, late))
                  ∙ l.leaves.stays tt f (length (begun d).code) place x (omega (arith, l1, l2)) own ended.ends first_named (omega (arith, begin_more)) again_named (omega (arith, more, late))
                  ∙ (gives_numbers g alive places fields bits (length d.fields) (begun d) s set st (λ x. from_bool is_or) f (tests_from d) first behind_first).are x below
                  (flags_of g alive places fields st first.passes.t set x first.passes.sim stored.exists below ∙ on)

              put_there : (x : ℕ) → x < processors (shapes g) set → fields.active set x ≡ true → (number_in g f ended.t x ≡ words x % 2 ^ bits) × (words x < 2 ^ 32)
              put_there x below active = by (c set x) refl
                where
                  begin : ℕ
                  begin = length (begun d).code

                  is_word : (b : Bool) → c set x ≡ b → words x ≡ from_bool (if b then not is_or else is_or)
                  is_word b there = pure_at g alive n places fields set whole st s sim is wide coded x ∙ sym (value st x) ∙ ap from_bool (undecided is_or set v w fields.active x active b (sym (same x) ∙ there))

                  with : (b : Bool) → words x ≡ from_bool b → number_in g f ended.t x ≡ from_bool b % 2 ^ bits → (number_in g f ended.t x ≡ words x % 2 ^ bits) × (words x < 2 ^ 32)
                  with b same h = (h ∙ ap (λ (m : ℕ). m % 2 ^ bits) (sym same), subst (λ (m : ℕ). m < 2 ^ 32) (sym same) (from_bool_below b))

                  by : (b : Bool) → c set x ≡ b → (number_in g f ended.t x ≡ words x % 2 ^ bits) × (words x < 2 ^ 32)
                  by true there = with (not is_or) (is_word true there) (ended.puts x below there).0
                  by false there =
                      let more = saves_more in
                      let begin_more = first_more in
                      let left_more = code_longer (tests_from d) e l.leaves.grown.0 l.leaves.grown.1 in
                      with is_or (is_word false there) (ended.leaves begin first_named (omega (arith, more, begin_more, left_more)) x below there ∙ was x below active)

              answers : Answers g has alive n ready places fields (IsFlag whole) bits (length d.fields) d s set st words (O.Field f) final
              answers =
                  halves_answer g has alive n ready places fields bits set d s st here e (Behind g f (tests_from d)) (length d.fields) less to_left within_saves behind_first words final
                  (halved_as g alive places fields set f saved c fields.active (λ x. from_bool (not is_or)) words saves final stored.t st ended put_there (λ x below off. same x ∙ half_inactive is_or set w among_left x (half_inactive is_or set v fields.active x off))) (IsFlag whole)

            -- behind the right operand
            module _ (after : Draft) (r : LeavesTests (under g among_left) alive (fields_under g among_left fields.scope fields.same_extents) (narrow saves) left_there.t set st w after) (within_last : Within g (last f saved (narrow after))) where
              within_put : Within g (with_instr (sets f (not is_or)) (narrow after))
              within_put = earlier g (with_instr (sets f (not is_or)) (narrow after)) (last f saved (narrow after)) 1 (and_one g (I.LoadContext saved) (with_instr (sets f (not is_or)) (narrow after))) within_last

              within_after : Within g (narrow after)
              within_after = earlier g (narrow after) (with_instr (sets f (not is_or)) (narrow after)) 1 (and_one g (sets f (not is_or)) (narrow after)) within_put

              -- it does not decide either
              right_there : Narrows (under g among_left) alive (places_under g among_left places) (fields_under g among_left fields.scope fields.same_extents) among_both after (narrow after) r.leaves.t st
              right_there =
                  narrows (under g among_left) alive (places_under g among_left places) (fields_under g among_left fields.scope fields.same_extents) is_or set w after r.leaves.t st r.flags (within_under g among_left within_after) r.leaves.at.stands r.leaves.sim

              leads : Leads g alive places fields among_both saves (narrow after) stored.t st
              leads =
                  let all : Extended saves (1 + (r.leaves.grown.0 + 1)) (narrow after) = extended saves (narrow saves) (narrow after) 1 (r.leaves.grown.0 + 1) left_there.more (extended (narrow saves) after (narrow after) r.leaves.grown.0 1 r.leaves.grown.1 right_there.more) in
                  let one = code_longer saves (narrow saves) 1 left_there.more in
                  let two = code_longer after (narrow after) 1 right_there.more in
                  let three = fields_longer saves (narrow saves) 1 left_there.more in
                  record {
                    grown = (1 + (r.leaves.grown.0 + 1), all);
                    t = right_there.t;
                    go = onto g stored.t left_there.t right_there.t left_there.go (onto g left_there.t r.leaves.t right_there.t (reaches_again g among_left r.leaves.go) (reaches_again g among_left right_there.go));
                    at = starts_under g among_both alive right_there.t (length (narrow after).code) (narrow after).regs (length (narrow after).fields)
                        (starts_later g alive r.leaves.t right_there.t (length after.code) after.regs (length after.fields) (length (narrow after).code) (narrow after).regs (length (narrow after).fields) two right_there.more.regs (fields_longer after (narrow after) 1 right_there.more) right_there.at
                        (starts_again g among_left alive r.leaves.t (length after.code) after.regs (length after.fields) r.leaves.at));
                    registers = λ y kept.
                        ap (λ (registers : List ℕ). slice_index registers y) right_there.registers
                        ∙ keeps_on g saves (narrow saves) 1 stored.t left_there.t r.leaves.t left_there.more (λ z kept_so. ap (λ (registers : List ℕ). slice_index registers z) left_there.registers) (keeps_again g among_left (narrow saves) left_there.t r.leaves.t r.leaves.registers) y kept;
                    sim = sim_last g among_left among_both alive st right_there.t right_there.sim;
                    stays = λ h begin later x inside own_h ends named early behind late.
                        right_there.stays h x ends
                        ∙ r.leaves.stays tt h begin later x (omega (arith, inside, three)) own_h ends named (omega (arith, early, one)) behind (omega (arith, late, two)) ∙ left_there.stays h x ends;
                  }

              beside : (q x : ℕ) → (q ≡ set → ⊥) → fields.active q x ≡ among_both q x
              beside q x differ = half_beside is_or set v fields.active q x differ ∙ half_beside is_or set w among_left q x differ

              put : Puts (under g among_both) set (sets f (not is_or)) f leads.t (λ x. from_bool (not is_or))
              unfolding word_in
              put = puts_constant (under g among_both) set f (K.Imm (from_bool (not is_or))) leads.t (from_bool_below (not is_or))

              ended : Halved g alive places fields set f saved among_both (λ x. from_bool (not is_or)) saves (last f saved (narrow after)) stored.t st
              ended =
                  halved g alive places fields set (length d.fields) bits saved among_both beside (λ x. from_bool (not is_or)) saves (narrow after) stored.t st keeping leads (narrow after) (sets f (not is_or))
                  (passes_all (under g among_both) alive (length (narrow after).fields) (narrow after) leads.t st (Unit {0}) leads.at leads.sim) put within_last

              put_named : IsNamedAt g.unit f.offset (length (narrow after).code)
              unfolding step_of
              put_named = names_first g (sets f (not is_or)) f [] (length (narrow after).code) (stands_here g (sets f (not is_or)) (narrow after) within_put refl) refl

              pure_answers : Answers g has alive n ready places fields (IsFlag whole) bits (length d.fields) d s set st words (O.Field f) (last f saved (narrow after))
              pure_answers = answers (last f saved (narrow after)) among_both (λ x. refl) ended (length (narrow after).code) put_named (code_longer saves (narrow after) leads.grown.0 leads.grown.1)

            -- the right operand, promoted, stands in a register: it decides everywhere or nowhere
            module _ (after : Draft) (x : ℕ) (promoted : IsPromoted set right) (gives : GivesWord (under g among_left) alive (length (narrow saves).fields) (narrow saves) left_there.t st (words_of g has alive n ready places fields set right st) (K.Reg x) after) (within_last : Within g (last f saved (jump_if_decided is_or x (length after.code + 2) after))) where
              abbrev jump : Draft
              jump = jump_if_decided is_or x (length after.code + 2) after

              within_set : Within g (with_instr (sets f (not is_or)) jump)
              within_set = earlier g (with_instr (sets f (not is_or)) jump) (last f saved jump) 1 (and_one g (I.LoadContext saved) (with_instr (sets f (not is_or)) jump)) within_last

              within_jump : Within g jump
              within_jump = earlier g jump (with_instr (sets f (not is_or)) jump) 1 (and_one g (sets f (not is_or)) jump) within_set

              abbrev holds : Bool
              holds = nonzero (slice_index gives.passes.t.registers x)

              right_is : (y : ℕ) → nonzero (w y) ≡ holds
              unfolding word_in
              right_is y = sym (held_nonzero (type_of right).elem (w y) (promoted_small g alive n places fields set right st s sim promoted codes.right_code y)) ∙ ap nonzero (gives.same y)

              before_jump : Leads g alive places fields among_left saves after stored.t st
              before_jump =
                  let one = code_longer saves (narrow saves) 1 left_there.more in
                  let two = code_longer (narrow saves) after gives.passes.grown.0 gives.passes.grown.1 in
                  let three = fields_longer saves (narrow saves) 1 left_there.more in
                  record {
                    grown = (1 + gives.passes.grown.0, extended saves (narrow saves) after 1 gives.passes.grown.0 left_there.more gives.passes.grown.1);
                    t = gives.passes.t;
                    go = onto g stored.t left_there.t gives.passes.t left_there.go (reaches_again g among_left gives.passes.go);
                    at = gives.passes.at;
                    registers = λ y kept. keeps_on g saves (narrow saves) 1 stored.t left_there.t gives.passes.t left_there.more (λ z kept_so. ap (λ (registers : List ℕ). slice_index registers z) left_there.registers) (keeps_again g among_left (narrow saves) left_there.t gives.passes.t gives.passes.registers) y kept;
                    sim = gives.passes.sim;
                    stays = λ h begin later y inside own_h ends named early behind late.
                        gives.passes.stays tt h begin later y (omega (arith, inside, three)) own_h ends named (omega (arith, early, one)) behind late ∙ left_there.stays h y ends;
                  }

              jump_more_by : length jump.code ≡ length after.code + 1
              jump_more_by = jump_long g alive is_or x (length after.code + 2) after

              set_named : IsNamedAt g.unit f.offset (length jump.code)
              unfolding step_of
              set_named = names_first g (sets f (not is_or)) f [] (length jump.code) (stands_here g (sets f (not is_or)) jump within_set refl) refl

              set_ends : EndsBelow g f
              unfolding step_of
              set_ends = (places.ends (length jump.code) (sets f (not is_or)) f [] (stands_here g (sets f (not is_or)) jump within_set refl) refl tt refl).1

              goes : Reaches g gives.passes.t (moved_to g alive (if decides is_or holds then length after.code + 2 + start g else gives.passes.t.at + 1) gives.passes.t)
              goes = decided_goes g alive is_or holds x (length after.code + 2) after gives.passes.t refl within_jump gives.passes.at.stands

              abbrev Ends : Active → Type 0
              Ends c = Halved g alive places fields set f saved c (λ y. from_bool (not is_or)) saves (last f saved jump) stored.t st

              beside_left : (q y : ℕ) → (q ≡ set → ⊥) → fields.active q y ≡ among_left q y
              beside_left q y differ = half_beside is_or set v fields.active q y differ

              -- nowhere
              on_there : decides is_or holds ≡ false → Ends among_left
              unfolding word_in before_jump
              on_there free =
                  halved g alive places fields set (length d.fields) bits saved among_left beside_left (λ y. from_bool (not is_or)) saves jump stored.t st keeping leads jump (sets f (not is_or))
                  (passes_all (under g among_left) alive (length jump.fields) jump u st (Unit {0}) leads.at leads.sim) (puts_constant (under g among_left) set f (K.Imm (from_bool (not is_or))) u (from_bool_below (not is_or))) within_last
                where
                  u : CodeState
                  u = moved_to g alive (gives.passes.t.at + 1) gives.passes.t

                  leads : Leads g alive places fields among_left saves jump stored.t st
                  leads =
                      let more = jump_more_by in
                      let at = gives.passes.at.stands in
                      let grown : Extended after 1 jump = jump_more g alive is_or x (length after.code + 2) after in
                      record {
                        grown = (before_jump.grown.0 + 1, extended saves after jump before_jump.grown.0 1 before_jump.grown.1 grown);
                        t = u;
                        go = onto g stored.t gives.passes.t u before_jump.go (subst (λ (b : Bool). Reaches g gives.passes.t (moved_to g alive (if b then length after.code + 2 + start g else gives.passes.t.at + 1) gives.passes.t)) free goes);
                        at = starts_under g among_left alive u (length jump.code) jump.regs (length jump.fields) (starts_later g alive gives.passes.t u (length after.code) after.regs (length after.fields) (length jump.code) jump.regs (length jump.fields) (omega (arith, more)) grown.regs (fields_longer after jump 1 grown) (omega (arith, at, more)) (starts_again g among_left alive gives.passes.t (length after.code) after.regs (length after.fields) gives.passes.at));
                        registers = before_jump.registers;
                        sim = sim_moved (under g among_left) alive st gives.passes.t (gives.passes.t.at + 1) (omega arith) gives.passes.sim;
                        stays = λ h begin later y inside own_h ends named early behind late. before_jump.stays h begin later y inside own_h ends named early behind (omega (arith, late, more));
                      }

              -- everywhere
              over_there : decides is_or holds ≡ true → Ends among_both
              unfolding before_jump
              over_there decided =
                  let more = jump_more_by in
                  let set_more = code_more g (sets f (not is_or)) jump in
                  let at = gives.passes.at.stands in
                  let place : ℕ = length after.code + 2 + start g in
                  passed_by g alive places fields set (length d.fields) bits saved among_left beside_left among_both (λ y below. shut_both is_or set w among_left y holds (right_is y) decided) (λ y. from_bool (not is_or)) saves after (with_instr (sets f (not is_or)) jump) stored.t st keeping before_jump
                  (1 + 1, extended after jump (with_instr (sets f (not is_or)) jump) 1 1 (jump_more g alive is_or x (length after.code + 2) after) (and_one g (sets f (not is_or)) jump)) (moved_to g alive place gives.passes.t)
                  (subst (λ (b : Bool). Reaches g gives.passes.t (moved_to g alive (if b then length after.code + 2 + start g else gives.passes.t.at + 1) gives.passes.t)) decided goes) (omega (arith, more, set_more)) refl
                  (sim_moved (under g among_left) alive st gives.passes.t place (omega (arith, at)) gives.passes.sim) (λ h y. refl) set_ends (length jump.code) set_named (omega (arith, more)) (omega (arith, set_more)) within_last

              register_answers : Answers g has alive n ready places fields (IsFlag whole) bits (length d.fields) d s set st words (O.Field f) (last f saved jump)
              register_answers =
                  let one = code_longer saves after before_jump.grown.0 before_jump.grown.1 in
                  let more = jump_more_by in
                  by_case (decides is_or holds) (λ decided. answers (last f saved jump) among_both (λ y. refl) (over_there decided) (length jump.code) set_named (omega (arith, one, more)))
                  (λ free. answers (last f saved jump) among_left (λ y. sym (open_both is_or set w among_left y holds (right_is y) free)) (on_there free) (length jump.code) set_named (omega (arith, one, more)))

      -- all of it, by what is said behind the left operand
      logical_known : (again : Draft → Made (Unit {0})) → ((e : Draft) → right_again e ≡ again e) → ((e : Draft) → Extends g e (again e)) → IsTested g has alive n ready places fields set left → (Ended g s (meant g fields left st) → Ended g s (meant g fields whole st))
          → (IsMeant g has alive n ready places fields set left st → (within : Within g (tests_from d)) (e : Draft) → LeavesTests g alive fields (tests_from d) (first within).passes.t set st v e → After g Q (behind again f saved e))
          → Follows g (Given g (number set whole st) st (Answers g has alive n ready places fields (IsFlag whole) bits (length d.fields) d s set st words)) s (meant g fields whole st) (logical_by is_or ty.shape bits (condition_of g.typed (layout g) left) (condition_of g.typed (layout g) right) d)
      logical_known again again_is grows left_tested left_ends right_after =
          known_follows g s (meant g fields whole st) (number set whole st) st (Answers g has alive n ready places fields (IsFlag whole) bits (length d.fields) d s set st words) (logical_by is_or ty.shape bits (condition_of g.typed (layout g) left) (condition_of g.typed (layout g) right) d)
          (after_same g Q (logical_code d ∙ (λ i. then_make (test_of left (tests_from d)) (λ _ e. behind (λ y. again_is y i) f saved e)))
          (after_delayed g Q (tests_from d) (then_make (test_of left (tests_from d)) (λ _ e. behind again f saved e))
          (extends_then g (tests_from d) (test_of left (tests_from d)) (λ _ e. behind again f saved e) (test_grows left codes.left_code (codes.left_gives, pure_kept set left kinded.0) (tests_from d)) (λ _ e. behind_grows again grows f saved e)) (λ within.
          then_known g (first within).passes.t (meant g fields left st) v st (λ _ e. LeavesTests g alive fields (tests_from d) (first within).passes.t set st v e) Q (test_of left (tests_from d)) (λ _ e. behind again f saved e) (left_tested (tests_from d) (first within).passes.t st (first within).passes.at (first within).passes.sim)
          (λ _ e. behind_grows again grows f saved e) (λ is_left _ e l. right_after is_left within e l) (λ early x e. inr (left_ends (ended_back g s (first within).passes.t (meant g fields left st) (first within).passes.go early))))))

      abbrev Means : Type 0
      Means = IsMeant g has alive n ready places fields set left st → IsMeantUnder g has alive n ready places fields among_left set right st → IsMeant g has alive n ready places fields set whole st

      abbrev RightEnds : Type 0
      RightEnds = IsMeant g has alive n ready places fields set left st → Ended g s (evaluated fields.scope right among_left st) → Ended g s (meant g fields whole st)

      -- what the right operand ends
      right_over : (within : Within g (tests_from d)) (e : Draft) (l : LeavesTests g alive fields (tests_from d) (first within).passes.t set st v e) (within_narrow : Within g (narrow (with_instr (I.StoreContext saved) e))) → IsMeant g has alive n ready places fields set left st → RightEnds
          → Ended (under g among_left) (left_there within e l within_narrow).t (evaluated fields.scope right among_left st) → Ended g s (meant g fields whole st)
      right_over within e l within_narrow is_left right_ends early =
          right_ends is_left (ended_back g s (left_there within e l within_narrow).t (evaluated fields.scope right among_left st) (left_go within e l within_narrow) (ended_within g among_left fields (left_there within e l within_narrow).t (evaluated fields.scope right among_left st) early))

      -- behind the left operand, one that stands in a field
      field_after : HasItsKind set right → ((b : Active) → IsTestedUnder set b right) → Means → RightEnds → IsMeant g has alive n ready places fields set left st → (within : Within g (tests_from d)) (e : Draft) → LeavesTests g alive fields (tests_from d) (first within).passes.t set st v e → After g Q (behind field_again f saved e)
      unfolding narrowed_again
      field_after also right_tested means right_ends is_left within e l =
          after_same g Q (made_behind (test_of right (narrow saves)) (λ after. narrow after) (λ after. Makes (O.Field f) (last f saved after)))
          (after_delayed g Q (narrow saves) (then_make (test_of right (narrow saves)) (λ _ after. Makes (O.Field f) (last f saved (narrow after)))) (extends_then g (narrow saves) (test_of right (narrow saves)) (λ _ after. Makes (O.Field f) (last f saved (narrow after))) (test_grows right codes.right_code (codes.right_gives, pure_kept set right also.0) (narrow saves)) (λ _ after. end_more after)) (λ within_narrow.
          then_after g (λ u after. Right within_narrow u after) Q (test_of right (narrow saves)) (λ _ after. Makes (O.Field f) (last f saved (narrow after)))
          (after_under g among_left (λ u after. Right within_narrow u after) (test_of right (narrow saves))
          (follows_known (under g among_left) (left_there within e l within_narrow).t (meant (under g among_left) (fields_under g among_left fields.scope fields.same_extents) right st) w st
          (λ _ x. LeavesTests (under g among_left) alive (fields_under g among_left fields.scope fields.same_extents) (narrow saves) (left_there within e l within_narrow).t set st w x) (test_of right (narrow saves))
          (right_tested among_left (narrow saves) (left_there within e l within_narrow).t st (left_here within e l within_narrow) (left_there within e l within_narrow).sim)))
          (λ _ after. end_more after) (λ u after known. by within_narrow u after known)))
        where
          saves : Draft
          saves = with_instr (I.StoreContext saved) e

          end_more : (after : Draft) → Extends g after (Makes (O.Field f) (last f saved (narrow after)))
          end_more after = extends_made g after (narrow after) 1 (Makes (O.Field f) (last f saved (narrow after))) (narrow_more after) (end_grows f saved (narrow after))

          Right : (within_narrow : Within g (narrow saves)) → Unit {0} → Draft → Type 0
          Right within_narrow u after =
              Known (under g among_left) (left_there within e l within_narrow).t (meant (under g among_left) (fields_under g among_left fields.scope fields.same_extents) right st) w st
              (λ _ x. LeavesTests (under g among_left) alive (fields_under g among_left fields.scope fields.same_extents) (narrow saves) (left_there within e l within_narrow).t set st w x) u after

          by : (within_narrow : Within g (narrow saves)) (u : Unit {0}) (after : Draft) → Right within_narrow u after → After g Q (Makes (O.Field f) (last f saved (narrow after)))
          by within_narrow u after (inl (is_right, r)) = made_after g Q (O.Field f) (last f saved (narrow after)) (λ within_last. inl (means is_left is_right, pure_answers within e l within_narrow after r within_last))
          by within_narrow u after (inr early) = after_all g Q (Makes (O.Field f) (last f saved (narrow after))) (λ y x. inr (right_over within e l within_narrow is_left right_ends early))

      -- and one that stands in a register
      register_after : IsPromoted set right → IsRegistered right → Means → RightEnds → IsMeant g has alive n ready places fields set left st → (within : Within g (tests_from d)) (e : Draft) → LeavesTests g alive fields (tests_from d) (first within).passes.t set st v e → After g Q (behind register_again f saved e)
      unfolding jumped_over jumped in_register then_make draft_here Extends
      register_after promoted registered means right_ends is_left within e l =
          after_same g Q (twice_behind (code saves_there) (λ x after. jumped is_or x after) (λ after. Makes (O.Field f) (last f saved after)))
          (after_delayed g Q saves_there (then_make (code saves_there) next) (extends_then g saves_there (code saves_there) next (operand_grows g has alive n ready places fields (bits_of (kind_of right)) right codes.right_code true saves_there) next_grows) (λ within_narrow.
          then_after g (Right within_narrow) Q (code saves_there) next
          (after_under g among_left (Right within_narrow) (code saves_there)
          (follows_known (under g among_left) (left_there within e l within_narrow).t (meant (under g among_left) (fields_under g among_left fields.scope fields.same_extents) right st) w st (Gives_it within_narrow) (code saves_there)
          (registered_after (under g among_left) alive n (registers_under g among_left has) ready (fields_under g among_left fields.scope fields.same_extents) set (bits_of (kind_of right)) (length saves_there.fields) true right promoted registered codes.right_code saves_there (left_there within e l within_narrow).t st (left_here within e l within_narrow) (left_there within e l within_narrow).sim)))
          next_grows (λ x after known. by within_narrow x after known)))
        where
          saves_there : Draft
          saves_there = narrow (with_instr (I.StoreContext saved) e)

          code : Draft → Made Out
          code after = next_of g.typed (layout g) (bits_of (kind_of right)) true right after

          next : Out → Draft → Made Out
          next x after = then_make (jumped is_or x after) (λ _ behind_it. Makes (O.Field f) (last f saved behind_it))

          next_grows : (x : Out) (after : Draft) → Extends g after (next x after)
          next_grows (O.Scalar x) after = extends_made g after (jump_if_decided is_or x (length after.code + 2) after) 1 (next (O.Scalar x) after) (jump_more g alive is_or x (length after.code + 2) after) (end_grows f saved (jump_if_decided is_or x (length after.code + 2) after))
          next_grows (O.Field h) after = tt
          next_grows O.Nothing after = tt

          Gives_it : (within_narrow : Within g saves_there) → Out → Draft → Type 0
          Gives_it within_narrow out after = (x : ℕ) × ((out ≡ O.Scalar x) × GivesWord (under g among_left) alive (length saves_there.fields) saves_there (left_there within e l within_narrow).t st (words_of g has alive n ready places fields set right st) (K.Reg x) after)

          Right : (within_narrow : Within g saves_there) → Out → Draft → Type 0
          Right within_narrow out after = Known (under g among_left) (left_there within e l within_narrow).t (meant (under g among_left) (fields_under g among_left fields.scope fields.same_extents) right st) w st (Gives_it within_narrow) out after

          by : (within_narrow : Within g saves_there) (out : Out) (after : Draft) → Right within_narrow out after → After g Q (next out after)
          by within_narrow out after (inl (is_right, (x, (is_x, gives)))) =
              after_same g Q (ap (λ (o : Out). next o after) is_x)
              (made_after g Q (O.Field f) (last f saved (jump_if_decided is_or x (length after.code + 2) after)) (λ within_last. inl (means is_left is_right, register_answers within e l within_narrow after x promoted gives within_last)))
          by within_narrow out after (inr early) = after_all g Q (next out after) (λ y x. inr (right_over within e l within_narrow is_left right_ends early))

  abbrev pub LogicalMeans : Bool → ℕ → TExpr → TExpr → TExpr → Type 0
  LogicalMeans is_or set whole left right = (st : State) → IsMeant g has alive n ready places fields set left st → IsMeantUnder g has alive n ready places fields (half is_or set (number set left st) fields.active) set right st → IsMeant g has alive n ready places fields set whole st

  abbrev pub LogicalEnds : Bool → ℕ → TExpr → TExpr → TExpr → Type 0
  LogicalEnds is_or set whole left right =
      ((s : CodeState) (st : State) → Ended g s (meant g fields left st) → Ended g s (meant g fields whole st))
      × ((s : CodeState) (st : State) → IsMeant g has alive n ready places fields set left st → Ended g s (evaluated fields.scope right (half is_or set (number set left st) fields.active) st) → Ended g s (meant g fields whole st))

  abbrev pub LogicalValue : ℕ → TExpr → TExpr → TExpr → Bool → Type 0
  LogicalValue set whole left right is_or = (st : State) (x : ℕ) → from_bool (either_or_both is_or (nonzero (value_in (extents g set) st left x)) (nonzero (value_in (extents g set) st right x))) ≡ value_in (extents g set) st whole x

  abbrev pub LogicalGives : Bool → ℕ → ℕ → ValueType → TExpr → TExpr → TExpr → Type 0
  LogicalGives is_or bits set ty whole left right =
      (d : Draft) (s : CodeState) (st : State) → Starts g alive s (length d.code) d.regs (length d.fields) → Sim g alive st s
      → Follows g (Given g (number set whole st) st (Answers g has alive n ready places fields (IsFlag whole) bits (length d.fields) d s set st (words_of g has alive n ready places fields set whole st))) s (meant g fields whole st) (logical_by is_or ty.shape bits (condition_of g.typed (layout g) left) (condition_of g.typed (layout g) right) d)

  pub undecided_valued : (is_or : Bool) (bits set : ℕ) (ty : ValueType) (whole left right : TExpr) → ty.shape ≡ Some set → HasItsKind set left → joins left right ≡ false → IsPure set whole → IsWide set (type_of whole) → HasItsCode g.typed g.instance alive n whole → HaveTheirCode g.typed g.instance alive n left right → LogicalValue set whole left right is_or
      → IsTested g has alive n ready places fields set left → LogicalMeans is_or set whole left right → LogicalEnds is_or set whole left right → HasItsKind set right → ((b : Active) → IsTestedUnder set b right) → LogicalGives is_or bits set ty whole left right
  unfolding narrowed_again
  undecided_valued is_or bits set ty whole left right shaped kinded apart is wide c codes value left_tested means ends also right_tested d s st here sim =
      logical_known is_or bits set ty whole left right shaped kinded apart is wide c codes value d s st here sim (field_again is_or bits set ty whole left right shaped kinded apart is wide c codes value)
      (λ e. ap (λ (b : Bool). (if b then jumped_over is_or (next_of g.typed (layout g) (bits_of (kind_of right)) true right) else narrowed_again is_or set (λ x. tested g.typed (layout g) right x)) e) (pure_kept set right also.0))
      (λ e. extends_then g e (tested g.typed (layout g) right e) (goes_on (λ e. narrowed_by is_or set e)) (test_grows is_or bits set ty whole left right shaped kinded apart is wide c codes value right codes.right_code (codes.right_gives, pure_kept set right also.0) e) (λ u after. one_grows is_or set u after)) left_tested (ends.0 s st)
      (field_after is_or bits set ty whole left right shaped kinded apart is wide c codes value d s st here sim also right_tested (means st) (ends.1 s st))

  -- a right operand that is a promoted scalar
  pub scalar_valued : (is_or : Bool) (bits set : ℕ) (ty : ValueType) (whole left right : TExpr) → ty.shape ≡ Some set → HasItsKind set left → IsPure set whole → IsWide set (type_of whole) → HasItsCode g.typed g.instance alive n whole → HaveTheirCode g.typed g.instance alive n left right → LogicalValue set whole left right is_or
      → IsTested g has alive n ready places fields set left → LogicalMeans is_or set whole left right → LogicalEnds is_or set whole left right → IsPromoted set right → IsRegistered right → LogicalGives is_or bits set ty whole left right
  unfolding jumped_over jumped in_register Extends
  scalar_valued is_or bits set ty whole left right shaped kinded is wide c codes value left_tested means ends promoted registered d s st here sim =
      logical_known is_or bits set ty whole left right shaped kinded apart is wide c codes value d s st here sim (register_again is_or bits set ty whole left right shaped kinded apart is wide c codes value)
      (λ e. ap (λ (b : Bool). (if b then jumped_over is_or (next_of g.typed (layout g) (bits_of (kind_of right)) true right) else narrowed_again is_or set (λ x. tested g.typed (layout g) right x)) e) (promoted_kept set right promoted))
      (λ e. extends_then g e (next_of g.typed (layout g) (bits_of (kind_of right)) true right e) (λ x after. jumped is_or x after) (operand_grows g has alive n ready places fields (bits_of (kind_of right)) right codes.right_code true e) jumps_more) left_tested (ends.0 s st)
      (register_after is_or bits set ty whole left right shaped kinded apart is wide c codes value d s st here sim promoted registered (means st) (ends.1 s st))
    where
      apart : joins left right ≡ false
      apart = joined_right set left right promoted

      jumps_more : (x : Out) (after : Draft) → Extends g after (jumped is_or x after)
      jumps_more (O.Scalar x) after = (1, jump_more g alive is_or x (draft_here after + 2) after)
      jumps_more (O.Field h) after = tt
      jumps_more O.Nothing after = tt
