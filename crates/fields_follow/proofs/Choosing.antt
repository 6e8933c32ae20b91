-- The code of `?:` of parallel values leaves the lowest bits of its words in a field: it saves the context, puts the first
-- operand in the field where the condition holds, and the second one elsewhere. With a scalar condition it jumps to the
-- operand that is chosen, and behind the first one over the second.
use Rattle.std.proofs.Common.{◌≡◌, ◌∙◌, ℕ, ◌+◌, ◌<◌, ◌≤◌, ◌^◌, ◌==◌, ◌||◌, ◌⊎◌, inl, inr, Bool, true, false, [], length, slice_index, Option, refl, sym, ap, subst, arith, if◌then◌else◌}
use Rattle.std.specs.Int.{from_bool}
use Rattle.cstar_tree.specs.declared.typed.TExpr.{TExpr}
use Rattle.cstar_tree.specs.declared.typed.TExpr as T
use Rattle.cstar_tree.specs.declared.typed.ValueType.{ValueType}
use Rattle.cstar_tree.specs.declared.typed.Variable.{Variable}
use Rattle.cstar_tree.specs.Typed.{type_of}
use Rattle.code_lengths.specs.Ready.{IsReadyButForFields}
use Rattle.lower_base.specs.declared.emit.Out.{Out}
use Rattle.lower_base.specs.declared.emit.Out.TheVariants as O
use Rattle.lower_base.specs.Drafts.{Draft, Fails, Made, Makes, an_entry, fresh_for, here as draft_here, in_field, in_register, step as step_of, then_make, with_instr}
use Rattle.lower_base.specs.Kinds.{bits_of, kind_of}
use Rattle.lower_expr.specs.Lengths.{arm_length_of}
use Rattle.lower_expr.specs.Operands.{is_quiet, operand_by}
use Rattle.lower_expr.specs.Values.{arm_by, arm_of, choice_by, decided, jump_if_decided, limited, narrowed_by, next_of, parallel_choice_by, scalar_choice_by, turned_over, value_of}
use Rattle.paris_code.specs.declared.instr.Instr.{Instr}
use Rattle.paris_code.specs.declared.instr.Instr.TheVariants as I
use Rattle.paris_code.specs.declared.operands.Field.{Field}
use Rattle.paris_code.specs.declared.operands.Konst.TheVariants as K
use Rattle.paris_code.specs.declared.program.Owner.TheVariants as W
use Rattle.paris_code.specs.Code.{CodeState}
use Rattle.paris_code.specs.Spans.{IsNamedAt}
use Rattle.source_meaning.specs.Expressions.{evaluated}
use Rattle.source_meaning.specs.Narrowing.{choose}
use Rattle.source_meaning.specs.State as Source
use Rattle.source_meaning.specs.State.{Outcome, State, then_do}
use Rattle.source_meaning.specs.Values.{Active, Parallel, Scalar, Value, at, nonzero, number as number_of}
use Rattle.source_meaning.proofs.ConstantLaws.{Boxed}
use Rattle.code_follows.proofs.Branching.{decided_goes, decides, jump_long, jump_more}
use Rattle.code_follows.proofs.Following.{Extends, Follows, HasRegisters, Sim, extends_made, extends_then, held}
use Rattle.code_follows.proofs.Growing.{Extended, as_it_was, extended, places as ends_at}
use Rattle.code_follows.proofs.Jumping.{jumps, moved_to}
use Rattle.code_follows.proofs.Numbers.{held_nonzero}
use Rattle.code_follows.proofs.Words.{kept}
use Rattle.code_follows.proofs.Settings.{Reaches, Setting, Within, and_one, code_more, earlier, layout, onto, start}
use Rattle.fields_follow.specs.Fragment.{HasItsKind, IsCalm, IsOperand, IsPromoted, IsPure, IsWide, alone}
use Rattle.fields_follow.proofs.Arms.{ArmMade, PutsAndLands, arm, arm_grows, arm_last, arm_made, field_at, words_of}
use Rattle.fields_follow.proofs.Calm.{IsCalmly, calm_alone, calm_gives}
use Rattle.fields_follow.proofs.Expressions.{Answers, IsMeant, IsValued, operand_at, own_result}
use Rattle.fields_follow.proofs.Flags.{Stored}
use Rattle.fields_follow.proofs.Forms.{HasItsCode, pure_kept}
use Rattle.fields_follow.proofs.Halves.{Halved, IsMeantUnder, Keeping, Ready, after_delayed, both_halved, half, half_after, keeping_on, narrowed_more}
use Rattle.fields_follow.proofs.Halving.{beside_context, context_field, context_here, context_keeping, context_sim, context_stored, halves_answer, two_more, with_both}
use Rattle.fields_follow.proofs.Hops.{puts_same}
use Rattle.fields_follow.proofs.Instructions.{Puts, extents, shapes, word_in}
use Rattle.fields_follow.proofs.Leaving.{fields_under, places_under, registers_under, under}
use Rattle.fields_follow.proofs.Meaning.{value_in, word_at}
use Rattle.fields_follow.proofs.NarrowKinds.{zero_told}
use Rattle.fields_follow.proofs.Narrowing.{among, others}
use Rattle.fields_follow.proofs.Outcomes.{Ended, Given, Known, ended_back, ended_on, known_follows, meant, then_known, then_outcome}
use Rattle.fields_follow.proofs.Passing.{After, Behind, GivesField, Passes, after_same, code_longer, fields_longer, flags_of, gives_landed, gives_numbers, gives_set, made_after, passes_less, passes_moved, passes_on}
use Rattle.fields_follow.proofs.Places.{HoldsTheFields, PlacesFields, names_first, stands_here}
use Rattle.fields_follow.proofs.Pure.{choice_meant, choice_number, choice_so, scalar_choice_meant, scalar_choice_number, scalar_choice_so}
use Rattle.fields_follow.proofs.Relations.{kind_some, relation_most}
use Rattle.fields_follow.proofs.Sizes.{choice_parts, pure_at}
use Rattle.fields_follow.proofs.Scalars.{GivesScalar, scalar_follows}
use Rattle.fields_follow.proofs.Spreading.{GivesWord}
use Rattle.fields_follow.proofs.Starts.{no_home, starts_entry, Starts}
use Rattle.fields_follow.proofs.TestFlags.{Tells, numbers_tell}
use Rattle.fields_follow.proofs.Truths.{Stays, field_lasts}
use Rattle.fields_follow.proofs.TruthValues.{by_case}
use Rattle.fields_follow.proofs.Values.{Gives, IsFlag, next_field, one_more, operand_after, operand_of, with_entry}
use Rattle.fields_follow.proofs.Writing.{Lands, lands_here}

module _ (g : Setting) (has : HasRegisters g) (alive : Variable → Type 0) (n : ℕ) (ready : (d : Draft) → IsReadyButForFields g.typed g.instance (layout g) n d) (places : PlacesFields g) (fields : HoldsTheFields g) where
  abbrev number : ℕ → TExpr → State → ℕ → ℕ
  number set e st = λ q. value_in (extents g set) st e q

  -- the code of so many bits of a value where these positions are active
  abbrev pub IsValuedUnder : ℕ → ℕ → Active → TExpr → Type 0
  IsValuedUnder bits set b e = IsValued (under g b) (registers_under g b has) alive n ready (places_under g b places) (fields_under g b fields.scope fields.same_extents) bits set e

  -- it ends where its condition does
  choice_ended : (ty : ValueType) (p q r : Boxed) (test first second : TExpr) (s : CodeState) (st : State) → Ended g s (meant g fields test st) → Ended g s (meant g fields (T.Choice' ty p test q first r second) st)
  unfolding evaluated
  choice_ended ty p q r test first second s st early = ended_on g s (meant g fields test st) (λ v after. choose (type_of test).shape v (λ a u. evaluated fields.scope first a u) (λ a u. evaluated fields.scope second a u) fields.active after) early

  nothing_more : (x : Out) (e : Draft) → Extends g e (Makes x e)
  unfolding Extends
  nothing_more x e = (0, as_it_was e)

  module _ (bits set : ℕ) (ty : ValueType) (p q r : Boxed) (test first second : TExpr) (is : IsPure set (T.Choice' ty p test q first r second)) (c : HasItsCode g.typed g.instance alive n (T.Choice' ty p test q first r second)) (wide : IsWide set ty) (kinded : HasItsKind set test)
      (is_first : IsPure set first ⊎ IsPromoted set first) (is_second : IsPure set second ⊎ IsPromoted set second) (wide_first : IsWide set (type_of first)) (wide_second : IsWide set (type_of second)) where
    abbrev whole : TExpr
    whole = T.Choice' ty p test q first r second

    parts : HasItsCode g.typed g.instance alive n test × HasItsCode g.typed g.instance alive n first × HasItsCode g.typed g.instance alive n second
    parts = choice_parts g alive n places fields ty p q r test first second c

    -- its condition is read at the bits that it has
    abbrev known : ℕ
    known = bits_of (kind_of test)

    abbrev tested : Draft → Made Out
    tested e = operand_of g has alive n ready places fields known (is_quiet first) test e

    -- the words are those of the operand that is chosen
    choice_at : (st : State) (s : CodeState) → Sim g alive st s → (x : ℕ) → word_at (extents g set) st whole x ≡ (if nonzero (value_in (extents g set) st test x) then word_at (extents g set) st first x else word_at (extents g set) st second x)
    choice_at st s sim x =
        pure_at g alive n places fields set whole st s sim is wide c x ∙ choice_number (extents g set) st set ty p q r test first second x kinded.0
        ∙ ap (λ (m : ℕ). if nonzero (value_in (extents g set) st test x) then m else value_in (extents g set) st second x) (sym (operand_at g has alive n ready places fields set first st s sim is_first wide_first parts.1 x))
        ∙ ap (λ (m : ℕ). if nonzero (value_in (extents g set) st test x) then word_at (extents g set) st first x else m) (sym (operand_at g has alive n ready places fields set second st s sim is_second wide_second parts.2 x))

    choice_given : (st : State) → IsMeant g has alive n ready places fields set test st → IsMeantUnder g has alive n ready places fields (among set (number set test st) fields.active) set first st → IsMeantUnder g has alive n ready places fields (others set (number set test st) fields.active) set second st
        → IsMeant g has alive n ready places fields set whole st
    choice_given st tests one other = choice_meant fields.scope fields.active set ty p q r test first second (extents g set) st kinded.0 tests one other

    -- it ends where an operand does that is chosen
    first_ended : (s : CodeState) (st : State) → IsMeant g has alive n ready places fields set test st → Ended g s (evaluated fields.scope first (among set (number set test st) fields.active) st) → Ended g s (meant g fields whole st)
    first_ended s st tests early =
        subst (λ (o : Outcome Value). Ended g s o) (sym (choice_so fields.scope fields.active set ty p q r test first second (number set test st) st kinded.0 tests))
        (ended_on g s (evaluated fields.scope first (among set (number set test st) fields.active) st) (λ a between. then_do (evaluated fields.scope second (others set (number set test st) fields.active) between) (λ b after. Source.Gives (Parallel (λ x. if nonzero (number set test st x) then at a x else at b x)) after)) early)

    second_ended : (s : CodeState) (st : State) → IsMeant g has alive n ready places fields set test st → IsMeantUnder g has alive n ready places fields (among set (number set test st) fields.active) set first st → Ended g s (evaluated fields.scope second (others set (number set test st) fields.active) st) → Ended g s (meant g fields whole st)
    unfolding then_do at
    second_ended s st tests one early =
        subst (λ (o : Outcome Value). Ended g s o)
        (sym (choice_so fields.scope fields.active set ty p q r test first second (number set test st) st kinded.0 tests
        ∙ ap (λ (o : Outcome Value). then_do o (λ y between. then_do (evaluated fields.scope second (others set (number set test st) fields.active) between) (λ z after. Source.Gives (Parallel (λ x. if nonzero (number set test st x) then at y x else at z x)) after))) one))
        (ended_on g s (evaluated fields.scope second (others set (number set test st) fields.active) st) (λ z after. Source.Gives (Parallel (λ x. if nonzero (number set test st x) then number set first st x else at z x)) after) early)

    -- ---- what the code is

    abbrev first_code : Field → Draft → Made Out
    first_code f e = arm g has alive n ready places fields f bits first e

    abbrev second_code : Field → Draft → Made Out
    second_code f e = arm g has alive n ready places fields f bits second e

    first_grows : (f : Field) (e : Draft) → Extends g e (first_code f e)
    first_grows f e = arm_grows g has alive n ready places fields f bits first parts.1 e

    second_grows : (f : Field) (e : Draft) → Extends g e (second_code f e)
    second_grows f e = arm_grows g has alive n ready places fields f bits second parts.2 e

    -- where a half begins
    abbrev turned : Bool → ℕ → Field → Draft → Draft
    turned half_is_second of a e = narrowed_by half_is_second of (with_instr (I.NeZero a) e)

    -- the second half, and both
    abbrev second_half : Field → Field → ℕ → Field → Draft → Made Out
    second_half f saved of a e = then_make (second_code f (turned true of a e)) (λ _ last. Makes (O.Field f) (with_instr (I.LoadContext saved) last))

    abbrev halves : Field → Field → ℕ → Field → Draft → Made Out
    halves f saved of a e = then_make (first_code f (turned false of a e)) (λ _ between. second_half f saved of a (with_instr (I.LoadContext saved) between))

    -- what comes behind the condition
    abbrev behind : Field → Field → Out → Draft → Made Out
    behind f saved v e =
        then_make (limited saved v e) (λ a third. then_make (first_code f third) (λ _ fourth. then_make (second_code f (turned_over saved a fourth)) (λ _ last. Makes (O.Field f) (with_instr (I.LoadContext saved) last))))

    behind_is : (f saved a : Field) (e : Draft) → behind f saved (O.Field a) e ≡ halves f saved a.set a (with_instr (I.StoreContext saved) e)
    unfolding limited in_field then_make turned_over
    behind_is f saved a e = refl

    second_half_grows : (f saved : Field) (of : ℕ) (a : Field) (e : Draft) → Extends g (with_instr (I.NeZero a) e) (second_half f saved of a e)
    unfolding Extends
    second_half_grows f saved of a e =
        extends_made g (with_instr (I.NeZero a) e) (turned true of a e) 1 (second_half f saved of a e) (narrowed_more g alive places fields true of (with_instr (I.NeZero a) e))
        (extends_then g (turned true of a e) (second_code f (turned true of a e)) (λ _ last. Makes (O.Field f) (with_instr (I.LoadContext saved) last)) (second_grows f (turned true of a e)) (λ _ last. (1, and_one g (I.LoadContext saved) last)))

    second_grown : (f saved : Field) (of : ℕ) (a : Field) (e : Draft) → Extends g e (second_half f saved of a e)
    second_grown f saved of a e = extends_made g e (with_instr (I.NeZero a) e) 1 (second_half f saved of a e) (and_one g (I.NeZero a) e) (second_half_grows f saved of a e)

    halves_grow : (f saved : Field) (of : ℕ) (a : Field) (e : Draft) → Extends g (with_instr (I.NeZero a) e) (halves f saved of a e)
    halves_grow f saved of a e =
        extends_made g (with_instr (I.NeZero a) e) (turned false of a e) 1 (halves f saved of a e) (narrowed_more g alive places fields false of (with_instr (I.NeZero a) e))
        (extends_then g (turned false of a e) (first_code f (turned false of a e)) (λ _ between. second_half f saved of a (with_instr (I.LoadContext saved) between)) (first_grows f (turned false of a e))
        (λ _ between. extends_made g between (with_instr (I.LoadContext saved) between) 1 (second_half f saved of a (with_instr (I.LoadContext saved) between)) (and_one g (I.LoadContext saved) between) (second_grown f saved of a (with_instr (I.LoadContext saved) between))))

    behind_grows : (f saved : Field) (v : Out) (e : Draft) → Extends g e (behind f saved v e)
    unfolding limited in_field then_make Extends
    behind_grows f saved (O.Field a) e =
        subst (λ (m : Made Out). Extends g e m) (sym (behind_is f saved a e))
        (extends_made g e (with_instr (I.NeZero a) (with_instr (I.StoreContext saved) e)) 2 (halves f saved a.set a (with_instr (I.StoreContext saved) e))
        (extended e (with_instr (I.StoreContext saved) e) (with_instr (I.NeZero a) (with_instr (I.StoreContext saved) e)) 1 1 (and_one g (I.StoreContext saved) e) (and_one g (I.NeZero a) (with_instr (I.StoreContext saved) e))) (halves_grow f saved a.set a (with_instr (I.StoreContext saved) e)))
    behind_grows f saved (O.Scalar x) e = tt
    behind_grows f saved O.Nothing e = tt

    choice_code : (d : Draft) → value_of g.typed (layout g) bits whole d ≡ then_make (tested (with_entry set 1 W.Own (with_entry set bits W.Own d))) (λ v e. behind (next_field set bits d) (next_field set 1 (with_entry set bits W.Own d)) v e)
    unfolding value_of choice_by fresh_for an_entry then_make parallel_choice_by in_field
    choice_code d =
        ap (λ (kept : Bool). choice_by ty bits kept (operand_by g.typed (layout g) known (value_of g.typed (layout g) known test) (kept || is_quiet first) test) (arm_by (operand_by g.typed (layout g) bits (value_of g.typed (layout g) bits first) true first) first)
        (arm_by (operand_by g.typed (layout g) bits (value_of g.typed (layout g) bits second) true second) second) (arm_length_of g.typed (layout g) ty bits first) (arm_length_of g.typed (layout g) ty bits second) d) (pure_kept set test kinded.0)
        ∙ ap (λ (o : Option ℕ). then_make (fresh_for o bits d) (λ dest after. parallel_choice_by dest (operand_by g.typed (layout g) known (value_of g.typed (layout g) known test) (is_quiet first) test) (arm_by (operand_by g.typed (layout g) bits (value_of g.typed (layout g) bits first) true first) first)
        (arm_by (operand_by g.typed (layout g) bits (value_of g.typed (layout g) bits second) true second) second) after)) wide.0

    -- ---- what it does

    module _ (d : Draft) (s : CodeState) (st : State) (here : Starts g alive s (length d.code) d.regs (length d.fields)) (sim : Sim g alive st s) where
      abbrev begun : Draft
      begun = with_both bits set d

      abbrev f : Field
      f = next_field set bits d

      abbrev saved : Field
      saved = context_field bits set d

      abbrev v : ℕ → ℕ
      v = number set test st

      abbrev words : TExpr → ℕ → ℕ
      words e = words_of g has alive n ready places fields set e st

      abbrev Q : Out → Draft → Type 0
      Q = Known g s (meant g fields whole st) (number set whole st) st (Answers g has alive n ready places fields (IsFlag whole) bits (length d.fields) d s set st (words whole))

      -- behind the condition
      module _ (a : Field) (e : Draft) (gives : GivesField g alive known (length begun.fields) begun s set st (words test) a e) (within : Within g (with_instr (I.NeZero a) (with_instr (I.StoreContext saved) e))) where
        abbrev t : CodeState
        t = gives.passes.t

        abbrev saves : Draft
        saves = with_instr (I.StoreContext saved) e

        of : (a.set ≡ set) × (set < length (shapes g)) × (a.len ≡ known)
        of = gives_set g alive places fields known (length begun.fields) begun s set st (words test) a e gives

        within_saves : Within g saves
        within_saves = earlier g saves (with_instr (I.NeZero a) saves) 1 (and_one g (I.NeZero a) saves) within

        less : length d.fields ≤ length begun.fields
        less = let l = (two_more bits set d).1 in omega (arith, l)

        saves_more : length saves.code ≡ length e.code + 1
        saves_more = code_more g (I.StoreContext saved) e

        named_test : IsNamedAt g.unit a.offset (length saves.code)
        unfolding step_of
        named_test = names_first g (I.NeZero a) a [] (length saves.code) (stands_here g (I.NeZero a) saves within refl) refl

        -- the context is saved
        abbrev stored : Stored g places alive fields.active set saved e (I.StoreContext saved) t st (λ x. Unit {0}) (λ x. from_bool (fields.active set x))
        stored = context_stored g has alive n ready places fields bits set d s st here e (Behind g a e) (length begun.fields) less gives.passes within_saves

        stored_sim : Sim g alive st stored.t
        stored_sim = context_sim g has alive n ready places fields bits set d s st here e (Behind g a e) (length begun.fields) less gives.passes within_saves

        stored_stays : (last : ℕ) → length e.code < last → Stays g alive places fields begun e t stored.t last
        stored_stays last late h one x newer older own_h ends named early after =
            let l = two_more bits set d in
            let l0 = l.0 in
            let l1 = l.1 in
            beside_context g has alive n ready places fields bits set d s st here e (Behind g a e) (length begun.fields) less gives.passes within_saves h one last x (λ same. omega (arith, same, newer, l0, l1)) own_h named early after late

        keeping : Keeping g alive places fields set (length d.fields) bits saved saves stored.t
        keeping = context_keeping g has alive n ready places fields bits set d s st here e (Behind g a e) (length begun.fields) less gives.passes within_saves

        -- the field of the condition tells where it holds, as long as it is named
        behind_test : Behind g a e
        behind_test = let more = saves_more in (length saves.code, (named_test, omega (arith, more)))

        told : Tells g set a t v
        told = numbers_tell g known set a t (words test) v (λ x below. zero_told g alive n places fields set test st s sim (inl kinded.0) (inl kinded.1) parts.0 x) (gives_numbers g alive places fields known (length begun.fields) begun s set st (words test) a e gives behind_test)

        tells_at : (u : CodeState) (last : ℕ) → Sim g alive st u → IsNamedAt g.unit a.offset last → length e.code ≤ last → u.at ≤ start g + last → Stays g alive places fields begun e t u last → Tells g set a u v
        tells_at u last sim_there named early late stays = (
          of.0,
          λ x below on.
              ap (λ (m : ℕ). m == 0) (field_lasts g alive places fields known begun s set st (words test) a e gives st u last (λ variable is q. refl) sim_there stays named early late x below)
              ∙ told.1 x below (flags_of g alive places fields st t set x gives.passes.sim of.1 below ∙ sym (flags_of g alive places fields st u set x sim_there of.1 below) ∙ on),
        )

        ready_first : Ready g has alive n ready places fields false set (length d.fields) bits saved a v first saves stored.t st
        ready_first =
            let more = saves_more in
            record {
              here = context_here g has alive n ready places fields bits set d s st here e (Behind g a e) (length begun.fields) less gives.passes within_saves;
              sim = stored_sim;
              tells = tells_at stored.t (length saves.code) stored_sim named_test (omega (arith, more)) (let at = stored.at in omega (arith, at)) (stored_stays (length saves.code) (omega (arith, more)));
              keeping = keeping;
            }

        -- behind the first half
        module _ (e1 : Draft) (one : Halved g alive places fields set f saved (half false set v fields.active) (words first) saves e1 stored.t st) where
          ready_second : Within g (with_instr (I.NeZero a) e1) → Ready g has alive n ready places fields true set (length d.fields) bits saved a v second e1 one.t st
          unfolding step_of
          ready_second within_test =
              let l = two_more bits set d in
              let l1 = l.1 in
              let more = saves_more in
              let longer = code_longer saves e1 one.grown.0 one.grown.1 in
              let l2 = fields_longer e saves 1 (and_one g (I.StoreContext saved) e) in
              record {
                here = one.at;
                sim = one.sim;
                tells =
                    tells_at one.t (length e1.code) one.sim (names_first g (I.NeZero a) a [] (length e1.code) (stands_here g (I.NeZero a) e1 within_test refl) refl) (omega (arith, more, longer)) (let at = one.at.stands in omega (arith, at))
                    (λ h begin x newer older own_h ends named early after.
                    one.stays h begin (length e1.code) x (omega (arith, older, l2)) (λ same. omega (arith, same, newer, l1)) own_h ends named (omega (arith, early, more)) after (omega arith) ∙ stored_stays (length e1.code) (omega (arith, more, longer)) h begin x newer older own_h ends named early after);
                keeping = keeping_on g alive places fields set (length d.fields) bits saved (half false set v fields.active) (words first) saves e1 stored.t st keeping one;
              }

          -- behind both
          answers : (e2 : Draft) → Halved g alive places fields set f saved (half true set v fields.active) (words second) e1 e2 one.t st → Answers g has alive n ready places fields (IsFlag whole) bits (length d.fields) d s set st (words whole) (O.Field f) e2
          answers e2 two =
              halves_answer g has alive n ready places fields bits set d s st here e (Behind g a e) (length begun.fields) less gives.passes within_saves behind_test (words whole) e2
              (subst (λ (w : ℕ → ℕ). Halved g alive places fields set f saved fields.active w saves e2 stored.t st) (λ j x. sym (choice_at st s sim x) j) (both_halved g alive places fields set f saved v (words first) (words second) saves e1 e2 stored.t st one two)) (IsFlag whole)

      -- all of it
      chosen : IsMeant g has alive n ready places fields set test st → ((b : Active) → IsPure set first → IsValuedUnder bits set b first) → ((b : Active) → IsPure set second → IsValuedUnder bits set b second)
          → (a : Field) (e : Draft) (gives : GivesField g alive known (length begun.fields) begun s set st (words test) a e) → After g Q (halves f saved set a (with_instr (I.StoreContext saved) e))
      chosen is_meant first_valued second_valued a e gives =
          after_delayed g Q (with_instr (I.NeZero a) (with_instr (I.StoreContext saved) e)) (halves f saved set a (with_instr (I.StoreContext saved) e)) (halves_grow f saved set a (with_instr (I.StoreContext saved) e)) (λ within.
          half_after g has alive n ready places fields false set (length d.fields) bits saved a v first (with_instr (I.StoreContext saved) e) (stored a e gives within).t st (ready_first a e gives within) (λ after. first_code f after) (λ after. first_grows f after)
          (arm_last (under g (half false set v fields.active)) (registers_under g (half false set v fields.active) has) alive n ready (places_under g (half false set v fields.active) places) (fields_under g (half false set v fields.active) fields.scope fields.same_extents) set (length d.fields) bits first is_first parts.1 (first_valued (half false set v fields.active)))
          Q (λ after. second_half f saved set a after) (λ after. second_grown f saved set a after)
          (λ first_meant e1 within_one one.
          after_delayed g Q (with_instr (I.NeZero a) e1) (second_half f saved set a e1) (second_half_grows f saved set a e1) (λ within_test.
          half_after g has alive n ready places fields true set (length d.fields) bits saved a v second e1 one.t st (ready_second a e gives within e1 one within_test) (λ after. second_code f after) (λ after. second_grows f after)
          (arm_last (under g (half true set v fields.active)) (registers_under g (half true set v fields.active) has) alive n ready (places_under g (half true set v fields.active) places) (fields_under g (half true set v fields.active) fields.scope fields.same_extents) set (length d.fields) bits second is_second parts.2 (second_valued (half true set v fields.active)))
          Q (λ after. Makes (O.Field f) after) (λ after. nothing_more (O.Field f) after)
          (λ second_meant e2 within_two two. made_after g Q (O.Field f) e2 (λ w. inl (choice_given st is_meant first_meant second_meant, answers a e gives within e1 one e2 two)))
          (λ early x after. inr (second_ended s st is_meant first_meant (ended_back g s one.t (evaluated fields.scope second (others set v fields.active) st) (onto g s (stored a e gives within).t one.t (onto g s gives.passes.t (stored a e gives within).t gives.passes.go (stored a e gives within).go) one.go) early)))))
          (λ early x after. inr (first_ended s st is_meant (ended_back g s (stored a e gives within).t (evaluated fields.scope first (among set v fields.active) st) (onto g s gives.passes.t (stored a e gives within).t gives.passes.go (stored a e gives within).go) early))))

      choice_known : IsValued g has alive n ready places fields known set test → ((b : Active) → IsPure set first → IsValuedUnder bits set b first) → ((b : Active) → IsPure set second → IsValuedUnder bits set b second)
          → Follows g (Given g (number set whole st) st (Answers g has alive n ready places fields (IsFlag whole) bits (length d.fields) d s set st (words whole))) s (meant g fields whole st) (value_of g.typed (layout g) bits whole d)
      choice_known test_valued first_valued second_valued =
          known_follows g s (meant g fields whole st) (number set whole st) st (Answers g has alive n ready places fields (IsFlag whole) bits (length d.fields) d s set st (words whole)) (value_of g.typed (layout g) bits whole d)
          (after_same g Q (choice_code d)
          (then_known g s (meant g fields test st) v st (Gives g has alive n ready places fields (IsFlag test) known (length begun.fields) begun s set st (words test)) Q (tested begun) (λ x e. behind f saved x e)
          (operand_after g has alive n ready places fields known set test (is_quiet first) kinded.0 parts.0 test_valued begun s st (starts_entry g alive _ _ (starts_entry g alive _ _ here)) sim) (λ x e. behind_grows f saved x e)
          (λ is_meant x e (a, (is_a, (gives, apart))).
          after_same g Q (ap (λ (o : Out). behind f saved o e) is_a ∙ behind_is f saved a e ∙ ap (λ (m : ℕ). halves f saved m a (with_instr (I.StoreContext saved) e)) (gives_set g alive places fields known (length begun.fields) begun s set st (words test) a e gives).0)
          (chosen is_meant first_valued second_valued a e gives))
          (λ early x e. inr (choice_ended ty p q r test first second s st early))))

  pub choice_valued : (bits set : ℕ) (ty : ValueType) (p q r : Boxed) (test first second : TExpr) → IsPure set (T.Choice' ty p test q first r second) → HasItsKind set test → HasItsCode g.typed g.instance alive n (T.Choice' ty p test q first r second)
      → ((k : ℕ) → 0 < k → k ≤ 32 → IsValued g has alive n ready places fields k set test) → ((b : Active) → IsPure set first → IsValuedUnder bits set b first) → ((b : Active) → IsPure set second → IsValuedUnder bits set b second) → IsValued g has alive n ready places fields bits set (T.Choice' ty p test q first r second)
  unfolding IsPure
  choice_valued bits set ty p q r test first second is kinded c tests first_valued second_valued d s st here sim =
      choice_known bits set ty p q r test first second is c is.0 kinded is.2 is.3 is.4 is.5 d s st here sim (tests (bits_of (kind_of test)) (kind_some (kind_of test)) (relation_most (kind_of test))) first_valued second_valued

  -- ---- with a scalar condition

  module _ (set offset bits : ℕ) (ty : ValueType) (p q r : Boxed) (test first second : TExpr) (is : IsPure set (T.Choice' ty p test q first r second)) (c : HasItsCode g.typed g.instance alive n (T.Choice' ty p test q first r second)) (wide : IsWide set ty) (calm : IsCalm test)
      (is_first : IsOperand set first) (is_second : IsOperand set second) (wide_first : IsWide set (type_of first)) (wide_second : IsWide set (type_of second)) (first_valued : IsPure set first → IsValued g has alive n ready places fields bits set first) (second_valued : IsPure set second → IsValued g has alive n ready places fields bits set second) where
    abbrev choice : TExpr
    choice = T.Choice' ty p test q first r second

    abbrev dest : Field
    dest = field_at set offset bits

    codes : HasItsCode g.typed g.instance alive n test × HasItsCode g.typed g.instance alive n first × HasItsCode g.typed g.instance alive n second
    codes = choice_parts g alive n places fields ty p q r test first second c

    abbrev puts : TExpr → Draft → Made Out
    puts e after = arm g has alive n ready places fields dest bits e after

    abbrev long : TExpr → ℕ
    long e = arm_length_of g.typed (layout g) ty bits e

    abbrev target : Draft → ℕ
    target e = (length e.code + long first) + 2

    abbrev leap : ℕ → Draft → Draft
    leap x e = jump_if_decided false x (target e) e

    abbrev skip : Draft → Draft → Draft
    skip e between = with_instr (I.FrontJump (target e + long second)) between

    abbrev both_ways : ℕ → Draft → Made Out
    both_ways x e = then_make (puts first (leap x e)) (λ _ between. puts second (skip e between))

    abbrev behind_scalar : Out → Draft → Made Out
    behind_scalar v e = then_make (decided false v (long first) 2 e) (λ other next. then_make (puts first next) (λ _ between. puts second (with_instr (I.FrontJump (other + long second)) between)))

    ways_grow : (x : ℕ) (e : Draft) → Extends g (leap x e) (both_ways x e)
    ways_grow x e =
        extends_then g (leap x e) (puts first (leap x e)) (λ _ between. puts second (skip e between)) (arm_grows g has alive n ready places fields dest bits first codes.1 (leap x e))
        (λ _ between. extends_made g between (skip e between) 1 (puts second (skip e between)) (and_one g (I.FrontJump (target e + long second)) between) (arm_grows g has alive n ready places fields dest bits second codes.2 (skip e between)))

    scalar_grows : (v : Out) (e : Draft) → Extends g e (behind_scalar v e)
    unfolding decided in_register then_make draft_here Extends
    scalar_grows (O.Scalar x) e = extends_made g e (leap x e) 1 (both_ways x e) (jump_more g alive false x (target e) e) (ways_grow x e)
    scalar_grows (O.Field h) e = tt
    scalar_grows O.Nothing e = tt

    module _ (d : Draft) (s : CodeState) (st : State) (here : Starts g alive s (length d.code) d.regs (length d.fields)) (sim : Sim g alive st s) (Q : Out → Draft → Type 0)
        (last : IsMeant g has alive n ready places fields set choice st → (e2 : Draft) (i : Instr) (end : Draft) → Within g end → (p : Passes g alive (length d.fields) d e2 s st (Unit {0})) → Puts g set i dest p.t (words_of g has alive n ready places fields set choice st) → Lands g (with_instr i e2) end → Q (O.Field dest) end)
        (ended : Ended g s (meant g fields choice st) → (x : Out) (after : Draft) → Q x after) where
      -- behind the condition, whose word stands in a register
      module _ (e : Draft) (x w : ℕ) (given : meant g fields test st ≡ Source.Gives (Scalar w) st) (word : GivesWord g alive (length d.fields) d s st (λ y. held (type_of test).elem w) (K.Reg x) e) (within : Within g (leap x e)) where
        abbrev holds : Bool
        holds = nonzero (slice_index word.passes.t.registers x)

        -- the operand that is chosen
        abbrev chosen_one : Bool → TExpr
        chosen_one b = if b then first else second

        is_chosen : (b : Bool) → holds ≡ b → chosen_one (nonzero w) ≡ chosen_one b
        unfolding word_in IsCalmly at
        is_chosen b so =
            let few : w < 2 ^ (type_of test).elem.bits = (subst (λ (y : Outcome Value). IsCalmly (type_of test).elem.bits st y) given (calm_gives g alive n fields.scope fields.active st sim.small test calm codes.0.code.names codes.0.among)).1 in
            ap chosen_one (sym (held_nonzero (type_of test).elem w few) ∙ ap nonzero (word.same 0) ∙ so)

        goes : (b : Bool) → holds ≡ b → Reaches g word.passes.t (moved_to g alive (if decides false b then target e + start g else word.passes.t.at + 1) word.passes.t)
        goes b so = decided_goes g alive false b x (target e) e word.passes.t so within word.passes.at.stands

        -- it is put from where its code begins
        way : (e1 : TExpr) → chosen_one (nonzero w) ≡ e1 → IsOperand set e1 → IsWide set (type_of e1) → HasItsCode g.typed g.instance alive n e1 → (IsPure set e1 → IsValued g has alive n ready places fields bits set e1) → (from : Draft) → Passes g alive (length d.fields) d from s st (Unit {0}) → (R : Out → Draft → Type 0)
            → (IsMeant g has alive n ready places fields set choice st → (e2 : Draft) (i : Instr) → Within g (with_instr i e2) → (p : Passes g alive (length d.fields) d e2 s st (Unit {0})) → Puts g set i dest p.t (words_of g has alive n ready places fields set choice st) → R (O.Field dest) (with_instr i e2))
            → (Ended g s (meant g fields choice st) → (y : Out) (after : Draft) → R y after) → After g R (puts e1 from)
        unfolding passes_on number_of
        way e1 same operand wide_one code valued from before R done early =
            arm_last g has alive n ready places fields set offset bits e1 operand code valued from before.t st before.at before.sim R
            (λ one e2 i inner passes put. done (scalar_choice_meant fields.scope fields.active ty p q r test first second calm (Scalar w) st given (extents g set) (subst (λ (a : TExpr). IsMeant g has alive n ready places fields set a st) (sym same) one)) e2 i inner
            (passes_on g alive (length d.fields) (length from.fields) d from e2 s st (Unit {0}) (Unit {0}) (Unit {0}) (fields_longer d from before.grown.0 before.grown.1) before passes (λ u. tt) (λ u. tt))
            (puts_same g set i dest passes.t (words_of g has alive n ready places fields set e1 st) (words_of g has alive n ready places fields set choice st) (λ y below. operand_at g has alive n ready places fields set e1 st s sim operand wide_one code y ∙ ap (λ (a : TExpr). value_in (extents g set) st a y) (sym same)
            ∙ sym (pure_at g alive n places fields set choice st s sim is wide c y ∙ scalar_choice_number fields.scope fields.active ty p q r test first second calm (Scalar w) st given (extents g set) y)) put))
            (λ ends. early (subst (λ (o : Outcome Value). Ended g s o) (sym (scalar_choice_so fields.scope fields.active ty p q r test first second calm (Scalar w) st given ∙ ap (λ (a : TExpr). meant g fields a st) same)) (ended_back g s before.t (meant g fields e1 st) before.go ends)))

        module _ (m1 : ArmMade g has alive n ready places fields dest (long first) (leap x e) (puts first (leap x e))) where
          abbrev between : Draft
          between = m1.behind

          ways_are : both_ways x e ≡ puts second (skip e between)
          unfolding then_make
          ways_are = ap (λ (m : Made Out). then_make m (λ _ between. puts second (skip e between))) m1.is

          to_skip : Extended e (1 + (long first + 1)) (skip e between)
          to_skip = extended e (leap x e) (skip e between) 1 (long first + 1) (jump_more g alive false x (target e) e) (extended (leap x e) between (skip e between) (long first) 1 m1.extended (and_one g (I.FrontJump (target e + long second)) between))

          skip_at : length (skip e between).code ≡ target e
          unfolding draft_here
          skip_at = let ends = ends_at e (skip e between) (1 + (long first + 1)) to_skip in omega (arith, ends)

          -- the first one, behind which the code jumps over the other one
          first_way : holds ≡ true → ArmMade g has alive n ready places fields dest (long second) (skip e between) (puts second (skip e between)) ⊎ (puts second (skip e between) ≡ Fails) → After g Q (both_ways x e)
          unfolding After draft_here
          first_way so (inr fails) = after_same g Q (ways_are ∙ fails) tt
          first_way so (inl m2) = after_same g Q (ways_are ∙ m2.is) (λ inner. put inner (earlier g between m2.behind (1 + long second) past inner) refl)
            where
              before : Passes g alive (length d.fields) d (leap x e) s st (Unit {0})
              before = passes_moved g alive (length d.fields) d e (leap x e) s st (Unit {0}) word.passes 1 (jump_more g alive false x (target e) e) (word.passes.t.at + 1) (omega arith) (goes true so) (let there = word.passes.at.stands in let more = jump_long g alive false x (target e) e in omega (arith, there, more))

              past : Extended between (1 + long second) m2.behind
              past = extended between (skip e between) m2.behind 1 (long second) (and_one g (I.FrontJump (target e + long second)) between) m2.extended

              end_at : target e + long second + start g ≡ start g + length m2.behind.code
              end_at = let ends = ends_at (skip e between) m2.behind (long second) m2.extended in let at = skip_at in omega (arith, ends, at)

              lands : Within g m2.behind → Lands g between m2.behind
              lands inner = record { more = (1 + long second, past); go = λ t there. subst (λ (place : ℕ). Reaches g t (record t { at = place })) end_at (jumps g alive (target e + long second) between t (earlier g (skip e between) m2.behind (long second) m2.extended inner) there) }

              R : Out → Draft → Type 0
              R y end = end ≡ between → Q (O.Field dest) m2.behind

              put : Within g m2.behind → Within g between → between ≡ between → Q (O.Field dest) m2.behind
              put inner =
                  subst (λ (m : Made Out). After g R m) m1.is
                  (way first (is_chosen true so) is_first wide_first codes.1 first_valued (leap x e) before R (λ one e2 i inner_put p words same. last one e2 i m2.behind inner p words (subst (λ (a : Draft). Lands g a m2.behind) (sym same) (lands inner))) (λ early y after same. ended early (O.Field dest) m2.behind))

          -- the code jumps to the second one
          second_way : holds ≡ false → After g Q (both_ways x e)
          second_way so =
              after_same g Q ways_are
              (way second (is_chosen false so) is_second wide_second codes.2 second_valued (skip e between)
              (passes_moved g alive (length d.fields) d e (skip e between) s st (Unit {0}) word.passes (1 + (long first + 1)) to_skip (target e + start g) (let there = word.passes.at.stands in omega (arith, there)) (goes false so) (let at = skip_at in omega (arith, at)))
              Q (λ one e2 i inner p words. last one e2 i (with_instr i e2) inner p words (lands_here g (with_instr i e2))) ended)

        either_way : ArmMade g has alive n ready places fields dest (long first) (leap x e) (puts first (leap x e)) ⊎ (puts first (leap x e) ≡ Fails) → After g Q (both_ways x e)
        unfolding then_make After
        either_way (inl m1) = by_case holds (λ so. first_way m1 so (arm_made g has alive n ready places fields set ty dest bits second wide.0 codes.2 (skip e m1.behind))) (λ so. second_way m1 so)
        either_way (inr fails) = after_same g Q (ap (λ (m : Made Out). then_make m (λ _ between. puts second (skip e between))) fails) tt

    -- its code into the field
    pub choice_lands : PutsAndLands g has alive n ready places fields set dest choice (λ d. scalar_choice_by (O.Field dest) (next_of g.typed (layout g) (bits_of (kind_of test)) true test) (arm_of g.typed (layout g) bits first) (arm_of g.typed (layout g) bits second) (long first) (long second) d)
    unfolding scalar_choice_by arm_of decided in_register then_make draft_here
    choice_lands d s st here sim Q last ended =
        then_outcome g s (meant g fields test st) (GivesScalar g has alive n ready fields (length d.fields) d s st test) Q (next_of g.typed (layout g) (bits_of (kind_of test)) true test d) (λ v e. behind_scalar v e)
        (scalar_follows g has alive n ready fields true (bits_of (kind_of test)) (length d.fields) test calm codes.0.among codes.0.code d s st here sim) (λ v e. scalar_grows v e)
        (λ v u gives out e (w, (is_w, (same, (x, (is_x, word))))). after_same g Q (ap (λ (o : Out). behind_scalar o e) is_x) (after_delayed g Q (leap x e) (both_ways x e) (ways_grow x e) (λ within.
        either_way d s st here sim Q last ended e x w (gives ∙ ap (λ (y : Value). Source.Gives y u) is_w ∙ ap (λ (t : State). Source.Gives (Scalar w) t) same) word within (arm_made g has alive n ready places fields set ty dest bits first wide.0 codes.1 (leap x e)))))
        (λ early. ended (choice_ended ty p q r test first second s st early))

  -- its value stands in a fresh field
  pub scalar_choice_valued : (bits set : ℕ) (ty : ValueType) (p q r : Boxed) (test first second : TExpr) → IsPure set (T.Choice' ty p test q first r second) → HasItsCode g.typed g.instance alive n (T.Choice' ty p test q first r second) → IsCalm test
      → (IsPure set first → IsValued g has alive n ready places fields bits set first) → (IsPure set second → IsValued g has alive n ready places fields bits set second) → IsValued g has alive n ready places fields bits set (T.Choice' ty p test q first r second)
  unfolding IsPure passes_less value_of choice_by fresh_for an_entry then_make arm_of
  scalar_choice_valued bits set ty p q r test first second is c calm first_valued second_valued d s st here sim =
      known_follows g s (meant g fields whole st) (number set whole st) st R (value_of g.typed (layout g) bits whole d)
      (after_same g Q
      (ap (λ (b : Bool). choice_by ty bits b (next_of g.typed (layout g) (bits_of (kind_of test)) (b || is_quiet first) test) (arm_of g.typed (layout g) bits first) (arm_of g.typed (layout g) bits second) (arm_length_of g.typed (layout g) ty bits first) (arm_length_of g.typed (layout g) ty bits second) d) (kept alone test (calm_alone test calm))
      ∙ ap (λ (o : Option ℕ). then_make (fresh_for o bits d) (λ dest after. scalar_choice_by dest (next_of g.typed (layout g) (bits_of (kind_of test)) true test) (arm_of g.typed (layout g) bits first) (arm_of g.typed (layout g) bits second) (arm_length_of g.typed (layout g) ty bits first) (arm_length_of g.typed (layout g) ty bits second) after)) is.0.0)
      (choice_lands set (length d.fields) bits ty p q r test first second is c is.0 calm is.2 is.3 is.4 is.5 first_valued second_valued d1 s st (starts_entry g alive _ _ here) sim Q
      (λ given e2 i end within passes puts lands. inl (
        given,
        landed (with_instr i e2) end lands (own_result g has alive n ready places fields bits set d e2 s st (words_of g has alive n ready places fields set whole st) i (earlier g (with_instr i e2) end lands.more.0 lands.more.1 within)
            (no_home g alive (length d.fields) (length d.fields) (omega arith) here) (passes_less g alive (length d.fields) (length d1.fields) d1 e2 s st (Unit {0}) (let one = one_more set bits W.Own d in omega (arith, one)) passes) puts),
      ))
      (λ early x after. inr early)))
    where
      whole : TExpr
      whole = T.Choice' ty p test q first r second

      d1 : Draft
      d1 = with_entry set bits W.Own d

      R : Out → Draft → Type 0
      R out e = Answers g has alive n ready places fields (IsFlag whole) bits (length d.fields) d s set st (words_of g has alive n ready places fields set whole st) out e

      Q : Out → Draft → Type 0
      Q = Known g s (meant g fields whole st) (number set whole st) st R

      landed : (e2 end : Draft) → Lands g e2 end → R (O.Field (next_field set bits d)) e2 → R (O.Field (next_field set bits d)) end
      landed e2 end lands (h, (is_h, (gives, apart))) =
          let (there, narrow) = gives_landed g alive bits (length d.fields) d e2 end s set st (words_of g has alive n ready places fields set whole st) h lands gives in
          (h, (is_h, (there, λ flag. narrow (apart flag))))
