-- A truth value in a field that is taken first: the test flags are stored in it, at once or by way of a bit; or it is the
-- complement of a bit, or two bits joined.
use Rattle.std.proofs.Common.{◌≡◌, ◌∙◌, ℕ, ◌<◌, ◌≤◌, ◌==◌, Bool, true, false, [], ◌∷◌, length, refl, sym, ap, subst, arith, inl, inr}
use Rattle.std.specs.Int.{from_bool}
use Rattle.std.proofs.lemmas.Bool.{eqb-true}
use Rattle.cstar_base.specs.declared.elem.Elem.{Elem}
use Rattle.cstar_tree.specs.declared.typed.TExpr.{TExpr}
use Rattle.cstar_tree.specs.declared.typed.Variable.{Variable}
use Rattle.cstar_tree.specs.Typed.{type_of}
use Rattle.code_lengths.specs.Ready.{IsReadyButForFields}
use Rattle.lower_base.specs.declared.emit.Out.{Out}
use Rattle.lower_base.specs.declared.emit.Out.TheVariants as O
use Rattle.lower_base.specs.Drafts.{Draft, Made, Makes, in_field, step as step_of, then_make, with_instr}
use Rattle.lower_expr.specs.Joined.{operation_of}
use Rattle.paris_code.specs.declared.instr.Instr.{Instr}
use Rattle.paris_code.specs.declared.instr.Instr.TheVariants as I
use Rattle.paris_code.specs.declared.operands.Field.{Field}
use Rattle.paris_code.specs.declared.program.Owner.TheVariants as W
use Rattle.paris_code.specs.Code.{CodeState}
use Rattle.paris_code.specs.Memory.{is_active, processors}
use Rattle.paris_code.specs.Spans.{IsNamedAt, StandsAt}
use Rattle.source_meaning.specs.Reductions.{int_type}
use Rattle.source_meaning.specs.State as Source
use Rattle.source_meaning.specs.State.{State}
use Rattle.source_meaning.specs.Values.{Parallel, nonzero}
use Rattle.code_follows.proofs.Following.{Extends, Follows, HasRegisters, Sim, held}
use Rattle.code_follows.proofs.Growing.{Extended}
use Rattle.code_follows.proofs.Settings.{OpenAmong, Setting, and_one, layout}
use Rattle.fields_follow.proofs.Clearing.{joined_behind, own_joined}
use Rattle.fields_follow.proofs.ConditionCode.{Bit, Truth, flag_after, joined_in, put_in, stored_behind, turned_in}
use Rattle.fields_follow.proofs.Expressions.{Answers, own_result}
use Rattle.fields_follow.proofs.Instructions.{Puts, extents, shapes}
use Rattle.fields_follow.proofs.Leaving.{PassesTests}
use Rattle.fields_follow.proofs.Meaning.{value_in, word_at}
use Rattle.fields_follow.proofs.Outcomes.{Ended, Given, Known, ended_back, known_follows, meant, then_known}
use Rattle.fields_follow.proofs.Passing.{After, Behind, GivesField, HasOneBit, Passes, after_same, code_longer, fields_longer, flags_of, made_after, names_second, names_third, passes_on}
use Rattle.fields_follow.proofs.PassingTests.{passes_of, tests_on}
use Rattle.fields_follow.proofs.Places.{HoldsTheFields, PlacesFields, names_first, stands_here}
use Rattle.fields_follow.proofs.TestFlags.{LeavesTests}
use Rattle.fields_follow.proofs.TruthPuts.{at_once, bit_moved, flag_stored, puts_bit, puts_flags, puts_joined, puts_turned, through_bit}
use Rattle.fields_follow.proofs.TruthValues.{bit_converted}
use Rattle.fields_follow.proofs.Truths.{either_or_both, truth_still}
use Rattle.fields_follow.proofs.Values.{IsFlag, next_field, one_more, with_entry}
use Rattle.fields_follow.proofs.Locals.{IsNoHome}

-- it is its own word
pub truth_held : (elem : Elem) (w : ℕ) → w ≡ from_bool (nonzero w) → held elem w ≡ w
truth_held elem w is = ap (held elem) is ∙ bit_converted int_type elem (nonzero w) ∙ sym is

module _ (g : Setting) (has : HasRegisters g) (alive : Variable → Type 0) (n : ℕ) (ready : (d : Draft) → IsReadyButForFields g.typed g.instance (layout g) n d) (places : PlacesFields g) (fields : HoldsTheFields g) where
  abbrev Gave : ℕ → ℕ → TExpr → Draft → CodeState → State → Out → Draft → Type 0
  Gave bits set e d s st = Answers g has alive n ready places fields (IsFlag e) bits (length d.fields) d s set st (λ q. word_at (extents g set) st e q)

  abbrev number : ℕ → TExpr → State → ℕ → ℕ
  number set e st = λ q. value_in (extents g set) st e q

  -- the source gives it where it gives another value, and ends where that ends
  pub record ComesFrom (set : ℕ) (e inner : TExpr) (s : CodeState) (st : State) : Type 0 where
    pub gives : meant g fields inner st ≡ Source.Gives (Parallel (number set inner st)) st → meant g fields e st ≡ Source.Gives (Parallel (number set e st)) st
    pub ends : Ended g s (meant g fields inner st) → Ended g s (meant g fields e st)

  -- numbers that are truth values are there as words
  module _ (set : ℕ) (e : TExpr) (d : Draft) (s : CodeState) (st : State) (none : IsNoHome g (OpenAmong g alive) (length d.fields)) (truth : (q : ℕ) → value_in (extents g set) st e q ≡ from_bool (nonzero (value_in (extents g set) st e q))) where
    abbrev Q : ℕ → Out → Draft → Type 0
    Q bits = Known g s (meant g fields e st) (number set e st) st (Gave bits set e d s st)

    as_words : (P : (ℕ → ℕ) → Type 0) → P (number set e st) → P (λ q. word_at (extents g set) st e q)
    as_words P h = subst P (λ j q. sym (truth_held (type_of e).elem (value_in (extents g set) st e q) (truth q)) j) h

    taken_less : (bits : ℕ) → length d.fields ≤ length (with_entry set bits W.Own d).fields
    taken_less bits = let one = one_more set bits W.Own d in omega (arith, one)

    still_less : (bits : ℕ) (from : Draft) (k : ℕ) → Extended (with_entry set bits W.Own d) k from → length d.fields ≤ length from.fields
    still_less bits from k more = let one = one_more set bits W.Own d in let l = fields_longer (with_entry set bits W.Own d) from k more in omega (arith, one, l)

    active : (t : CodeState) → Sim g alive st t → set < length (shapes g) → (q : ℕ) → q < processors (shapes g) set → is_active (shapes g) t.memory set q ≡ true → fields.active set q ≡ true
    active t sim exists q below on = sym (flags_of g alive places fields st t set q sim exists below) ∙ on

    -- behind its test, before which code has left what stands
    module _ (inner : TExpr) (same_truth : (q : ℕ) → q < processors (shapes g) set → nonzero (value_in (extents g set) st inner q) ≡ nonzero (value_in (extents g set) st e q)) (comes : ComesFrom set e inner s st) where
      abbrev Puts_tests : ℕ → Type 1
      Puts_tests bits =
          (from : Draft) (used : Type 0) (before : Passes g alive (length d.fields) (with_entry set bits W.Own d) from s st used) → ((later : ℕ) → IsNamedAt g.unit (length d.fields) later → length from.code ≤ later → used) → (made : Made (Unit {0}))
          → Follows g (Given g (number set inner st) st (λ _ f. LeavesTests g alive fields from before.t set st (number set inner st) f)) before.t (meant g fields inner st) made
          → Follows g (Given g (number set e st) st (Gave bits set e d s st)) s (meant g fields e st) (then_make made (put_in (next_field set bits d)))

      stores_flags : Puts_tests 1
      unfolding Extends step_of passes_on
      stores_flags from used before wanted made tests =
          known_follows g s (meant g fields e st) (number set e st) st (Gave 1 set e d s st) (then_make made (put_in dest)) (after_same g (Q 1) (at_once set (length d.fields) made)
          (then_known g before.t (meant g fields inner st) (number set inner st) st (λ _ f. LeavesTests g alive fields from before.t set st (number set inner st) f) (Q 1) made (flag_stored dest) tests (λ x e2. (1, and_one g i e2))
          (λ given x e2 left. made_after g (Q 1) (O.Field dest) (with_instr i e2) (λ within.
          let exists : set < length (shapes g) = (places.ends (length e2.code) i dest [] (stands_here g i e2 within refl) refl tt refl).0 in
          let on = active left.leaves.t left.leaves.sim exists in
          inl (
            comes.gives given,
            own_result g has alive n ready places fields 1 set d e2 s st (λ q. word_at (extents g set) st e q) i within none
                (passes_on g alive (length d.fields) (length d.fields) (with_entry set 1 W.Own d) from e2 s st used (Unit {0}) (Unit {0}) (omega arith) before (passes_of g alive (length d.fields) from e2 before.t st (Unit {0}) (still_less 1 from before.grown.0 before.grown.1) left.leaves tt)
                (λ u. wanted (length e2.code) (names_first g i dest [] (length e2.code) (stands_here g i e2 within refl) refl) (code_longer from e2 left.leaves.grown.0 left.leaves.grown.1)) (λ u. tt))
                (as_words (λ v. Puts g set i dest left.leaves.t v) (puts_flags g set (length d.fields) left.leaves.t (number set e st) (λ q below active_there. left.flags q below (on q below active_there) ∙ same_truth q below) truth)),
          )))
          (λ early x e2. inr (comes.ends (ended_back g s before.t (meant g fields inner st) before.go early)))))
        where
          dest : Field
          dest = next_field set 1 d

          i : Instr
          i = I.StoreTest dest

      moves_flag : (bits : ℕ) → (bits == 1) ≡ false → Puts_tests bits
      unfolding Extends step_of passes_on
      moves_flag bits several from used before wanted made tests =
          known_follows g s (meant g fields e st) (number set e st) st (Gave bits set e d s st) (then_make made (put_in dest)) (after_same g (Q bits) (through_bit set (length d.fields) bits made several)
          (then_known g before.t (meant g fields inner st) (number set inner st) st (Truth g alive places fields from before.t set st (number set inner st)) (Q bits) (then_make made (stored_behind set)) (bit_moved dest)
          (flag_after g alive places fields (meant g fields inner st) (number set inner st) set (number set inner st) from before.t st made tests) (λ kept e2. (1, and_one g (I.Move false dest kept) e2))
          (λ given kept e2 bit. made_after g (Q bits) (O.Field dest) (with_instr (I.Move false dest kept) e2) (λ within.
          let i : Instr = I.Move false dest kept in
          let behind : Behind g kept e2 = (length e2.code, (names_second g i dest kept [] (length e2.code) (stands_here g i e2 within refl) refl, omega arith)) in
          let on = active bit.passes.t bit.passes.sim bit.exists in
          inl (
            comes.gives given,
            own_result g has alive n ready places fields bits set d e2 s st (λ q. word_at (extents g set) st e q) i within none
                (passes_on g alive (length d.fields) (length d.fields) (with_entry set bits W.Own d) from e2 s st used (Unit {0}) (Unit {0}) (omega arith) before (passes_of g alive (length d.fields) from e2 before.t st (Behind g kept e2) (still_less bits from before.grown.0 before.grown.1) bit.passes behind)
                (λ u. wanted (length e2.code) (names_first g i dest (kept ∷ []) (length e2.code) (stands_here g i e2 within refl) refl) (code_longer from e2 bit.passes.grown.0 bit.passes.grown.1)) (λ u. tt))
                (as_words (λ v. Puts g set i dest bit.passes.t v) (puts_bit g set dest kept bit.passes.t (number set e st) bit.len (λ q below active_there. bit.are behind q below (on q below active_there) ∙ ap from_bool (same_truth q below)) truth)),
          )))
          (λ early x e2. inr (comes.ends (ended_back g s before.t (meant g fields inner st) before.go early)))))
        where
          dest : Field
          dest = next_field set bits d

      pub tests_put : (bits : ℕ) → Puts_tests bits
      tests_put bits = by (bits == 1) refl
        where
          by : (b : Bool) → (bits == 1) ≡ b → Puts_tests bits
          by true one = subst Puts_tests (sym (eqb-true bits 1 one)) stores_flags
          by false several = moves_flag bits several

    -- the complement of a bit
    pub turned_put : (inner : TExpr) → ComesFrom set e inner s st → ((q : ℕ) → from_bool (value_in (extents g set) st inner q == 0) ≡ value_in (extents g set) st e q) → (made : Made Out)
        → Follows g (Given g (number set inner st) st (Bit g alive places fields (with_entry set 1 W.Own d) s set st (number set inner st))) s (meant g fields inner st) made → Follows g (Given g (number set e st) st (Gave 1 set e d s st)) s (meant g fields e st) (then_make made (turned_in g set d))
    unfolding Extends step_of in_field
    turned_put inner comes same made bits =
        known_follows g s (meant g fields e st) (number set e st) st (Gave 1 set e d s st) (then_make made (turned_in g set d))
        (then_known g s (meant g fields inner st) (number set inner st) st (Bit g alive places fields (with_entry set 1 W.Own d) s set st (number set inner st)) (Q 1) made (turned_in g set d) bits grows
        (λ given x e2 (a, (is, bit)). after_same g (Q 1) (ap (λ (o : Out). turned_in g set d o e2) is) (made_after g (Q 1) (O.Field dest) (with_instr (I.Lognot dest a) e2) (λ within.
        let i : Instr = I.Lognot dest a in
        let behind : Behind g a e2 = (length e2.code, (names_second g i dest a [] (length e2.code) (stands_here g i e2 within refl) refl, omega arith)) in
        let on = active bit.passes.t bit.passes.sim bit.exists in
        inl (
          comes.gives given,
          own_result g has alive n ready places fields 1 set d e2 s st (λ q. word_at (extents g set) st e q) i within none
              (passes_of g alive (length d.fields) (with_entry set 1 W.Own d) e2 s st (Behind g a e2) (taken_less 1) bit.passes behind)
              (as_words (λ v. Puts g set i dest bit.passes.t v) (subst (λ (v : ℕ → ℕ). Puts g set i dest bit.passes.t v) (λ j q. same q j) (puts_turned g set (length d.fields) a bit.passes.t (number set inner st) (λ q below active_there. bit.are behind q below (on q below active_there))))),
        ))))
        (λ early x e2. inr (comes.ends early)))
      where
        dest : Field
        dest = next_field set 1 d

        grows : (x : Out) (e2 : Draft) → Extends g e2 (turned_in g set d x e2)
        grows (O.Field a) e2 = (1, and_one g (I.Lognot dest a) e2)
        grows (O.Scalar r) e2 = tt
        grows O.Nothing e2 = tt

    -- two bits joined, in one bit or in the lowest one of several
    module _ (is_or : Bool) (v w : ℕ → ℕ) (same : (q : ℕ) → from_bool (either_or_both is_or (nonzero (v q)) (nonzero (w q))) ≡ value_in (extents g set) st e q) (is_given : meant g fields e st ≡ Source.Gives (Parallel (number set e st)) st) (f h : Field) (e1 e2 : Draft) where
      pub bit_joined : (one : Truth g alive places fields (with_entry set 1 W.Own d) s set st v f e1) → Truth g alive places fields e1 one.passes.t set st w h e2 → After g (Q 1) (joined_in g is_or set d f h e2)
      unfolding step_of tests_on
      bit_joined one two = made_after g (Q 1) (O.Field dest) (with_instr i e2) (λ within.
          let there : StandsAt g.unit (length e2.code) i = stands_here g i e2 within refl in
          let named_f : IsNamedAt g.unit f.offset (length e2.code) = names_second g i dest f (h ∷ []) (length e2.code) there refl in
          let behind_h : Behind g h e2 = (length e2.code, (names_third g i dest f h [] (length e2.code) there refl, omega arith)) in
          let longer = code_longer e1 e2 two.passes.grown.0 two.passes.grown.1 in
          let early_f : Behind g f e1 = (length e2.code, (named_f, longer)) in
          let passes : PassesTests g alive d1 e2 s st (Unit {0}) = tests_on g alive d1 e1 e2 s st (Behind g f e1) (Behind g h e2) (Unit {0}) one.passes two.passes (λ u. early_f) (λ u. behind_h) in
          let on = active two.passes.t two.passes.sim two.exists in
          inl (
            is_given,
            own_result g has alive n ready places fields 1 set d e2 s st (λ q. word_at (extents g set) st e q) i within none (passes_of g alive (length d.fields) d1 e2 s st (Unit {0}) (taken_less 1) passes tt)
                (as_words (λ v. Puts g set i dest two.passes.t v) (subst (λ (v : ℕ → ℕ). Puts g set i dest two.passes.t v) (λ j q. same q j)
                (puts_joined g is_or set (length d.fields) f h two.passes.t v w (λ q below active_there. truth_still g alive places fields d1 e1 e2 s set st v f (Behind g h e2) (length e2.code) one two.passes behind_h named_f (omega arith) q below ∙ one.are early_f q below (on q below active_there))
                (λ q below active_there. two.are behind_h q below (on q below active_there))))),
          ))
        where
          dest : Field
          dest = next_field set 1 d

          d1 : Draft
          d1 = with_entry set 1 W.Own d

          i : Instr
          i = I.Operate (operation_of is_or) dest f h

      pub several_joined : (bits : ℕ) → 0 < bits → (one : Truth g alive places fields (with_entry set bits W.Own d) s set st v f e1) → Truth g alive places fields e1 one.passes.t set st w h e2
          → After g (Q bits) (Makes (O.Field (next_field set bits d)) (joined_behind is_or set (length d.fields) bits f h e2))
      unfolding own_joined
      several_joined bits some one two = made_after g (Q bits) (O.Field (next_field set bits d)) behind (λ within.
          inl (is_given, (next_field set bits d, (refl, as_words OneBit (subst OneBit (λ j q. same q j) (own_joined g places fields alive set bits some is_or f h d e1 e2 s st v w none one two within, λ flag. tt))))))
        where
          behind : Draft
          behind = joined_behind is_or set (length d.fields) bits f h e2

          OneBit : (ℕ → ℕ) → Type 0
          OneBit v = (gives : GivesField g alive bits (length d.fields) d s set st v (next_field set bits d) behind) × (IsFlag e → HasOneBit g alive gives.stands)
