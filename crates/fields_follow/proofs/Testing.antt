-- The code of a condition leaves the test flags.
use Rattle.std.proofs.Common.{[], ◌&&◌, ◌||◌, subst, ◌+◌, ◌%◌, ◌≡◌, ◌∙◌, ℕ, ◌<◌, ◌≤◌, ◌^◌, ◌==◌, Bool, true, false, length, Option, Some, None, refl, sym, ap, arith, if◌then◌else◌, inl, inr, ◌⊎◌}
use Rattle.cstar_base.specs.declared.operators.Op.{Op}
use Rattle.cstar_base.specs.declared.operators.Place.{Place}
use Rattle.cstar_tree.specs.declared.typed.TExpr.{TExpr}
use Rattle.cstar_tree.specs.declared.typed.TExpr as T
use Rattle.cstar_tree.specs.declared.typed.UnaryOp.TheVariants as U
use Rattle.cstar_tree.specs.declared.typed.ValueType.{ValueType}
use Rattle.cstar_tree.specs.declared.typed.VarInfo.{VarInfo}
use Rattle.cstar_tree.specs.declared.typed.Variable.{Variable}
use Rattle.cstar_tree.specs.StatementTypes.{variable_info}
use Rattle.cstar_tree.specs.Typed.{type_of}
use Rattle.code_lengths.specs.Lowerable.{InField}
use Rattle.code_lengths.specs.Naming.{HasVariable, NamesVariables, plain}
use Rattle.code_lengths.specs.Ready.{IsReadyButForFields}
use Rattle.code_lengths.proofs.Agreeing.{lengths_if_made}
use Rattle.lower_base.specs.declared.emit.Out.{Out}
use Rattle.lower_base.specs.declared.emit.Out.TheVariants as O
use Rattle.lower_base.specs.Drafts.{Draft, Made, Makes, in_field, step as step_of, then_make, with_instr}
use Rattle.lower_base.specs.Kinds.{bits_of, kind_of}
use Rattle.lower_expr.specs.Kinds.{relation_kind}
use Rattle.lower_expr.specs.Joined.{flag_by, is_flag}
use Rattle.lower_expr.specs.Operands.{ignores_context, in_place, operand_by, own_of, standing}
use Rattle.lower_expr.specs.Steps.{has_truth}
use Rattle.lower_expr.specs.Values.{condition_by, condition_of, flag_of, next_of, nonzero_tested, tested, tested_by, truth_of, value_of}
use Rattle.paris_code.specs.declared.instr.Instr.TheVariants as I
use Rattle.paris_code.specs.declared.operands.Field.{Field}
use Rattle.paris_code.specs.Code.{CodeState}
use Rattle.source_meaning.specs.Constants.{is_constant}
use Rattle.source_meaning.specs.Expressions.{evaluated}
use Rattle.source_meaning.specs.Narrowing.{and_then, or_then, where_nonzero, where_zero}
use Rattle.source_meaning.specs.State as Source
use Rattle.source_meaning.specs.State.{Outcome, State}
use Rattle.source_meaning.specs.Values.{Active, Parallel, Value, at, nonzero, unary_of}
use Rattle.source_meaning.proofs.ConstantLaws.{Boxed}
use Rattle.std.proofs.Math.Nat.{mod-eq_of_lt}
use Rattle.std.specs.Int.{from_bool}
use Rattle.std.proofs.lemmas.Bool.{eqb-true}
use Rattle.code_follows.proofs.Following.{Extends, Follows, HasRegisters, Sim, extends_then, follows_same, held}
use Rattle.code_follows.proofs.Values.{extends_grown}
use Rattle.code_follows.proofs.Settings.{Setting, and_one, layout, start}
use Rattle.code_follows.specs.Fragment.{NamesAmong}
use Rattle.fields_follow.specs.Fragment.{HasItsKind, HasKnownKind, IsOfFileOrBlock, IsPure, IsPromoted, IsRegistered}
use Rattle.fields_follow.proofs.Starts.{Starts}
use Rattle.fields_follow.proofs.ConditionCode.{Bit, Told, Truth, bit_taken, flag_after, flag_extends, nonzero_after, operand_at, zero_after}
use Rattle.fields_follow.proofs.Conditions.{HaveTheirCode}
use Rattle.fields_follow.proofs.Expressions.{unary_ended}
use Rattle.fields_follow.proofs.Forms.{HasItsCode, not_held, pure_constant, pure_kept}
use Rattle.fields_follow.proofs.Instructions.{extents, place, shapes}
use Rattle.fields_follow.proofs.Lengths.{held_first}
use Rattle.fields_follow.proofs.Meaning.{read_is, unary_means, value_in, word_at}
use Rattle.fields_follow.proofs.Lengths.{relates_plainly}
use Rattle.fields_follow.proofs.Outcomes.{Ended, Given, ended_on, follows_given, follows_like, given_follows, given_weaker, meant, then_known}
use Rattle.fields_follow.proofs.Passing.{After, after_same, made_after, passes_all, passes_from, then_after}
use Rattle.fields_follow.proofs.Places.{HoldsTheFields, PlacesFields, names_first, stands_here}
use Rattle.fields_follow.proofs.Variables.{Carries}
use Rattle.paris_code.specs.Spans.{IsNamedAt}
use Rattle.fields_follow.proofs.Pure.{and_meant, and_so, or_meant, or_so, pure_means}
use Rattle.fields_follow.proofs.NarrowKinds.{AreRelated, zero_told}
use Rattle.fields_follow.proofs.Sizes.{binary_parts}
use Rattle.fields_follow.proofs.Values.{FindsOrFails, Gives, IsFlag, Valued, code_of, finds_read, starts_found, operand_after, operand_of, variable_has}
use Rattle.fields_follow.proofs.TestFlags.{LeavesTests, numbers_tell, puts_nonzero, tested_last}
use Rattle.fields_follow.proofs.Truths.{field_told, field_truth}
use Rattle.fields_follow.proofs.Relations.{kind_some, relation_after, relation_code, relation_most}

module _ (g : Setting) (has : HasRegisters g) (alive : Variable → Type 0) (n : ℕ) (ready : (d : Draft) → IsReadyButForFields g.typed g.instance (layout g) n d) (places : PlacesFields g) (fields : HoldsTheFields g) where
  abbrev operand : ℕ → Bool → TExpr → Draft → Made Out
  operand bits quiet e d = operand_of g has alive n ready places fields bits quiet e d

  abbrev numbers_of : ℕ → TExpr → State → ℕ → ℕ
  numbers_of set e st = λ q. value_in (extents g set) st e q

  -- This is said of code wherever it begins, where the source gives the expression's numbers; else both end early.
  abbrev pub Says : {B : Type 0} → ℕ → TExpr → (Draft → CodeState → State → B → Draft → Type 0) → (Draft → Made B) → Type 0
  Says set e said made = (d : Draft) (s : CodeState) (st : State) → Starts g alive s (length d.code) d.regs (length d.fields) → Sim g alive st s → Follows g (Given g (numbers_of set e st) st (said d s st)) s (meant g fields e st) (made d)

  -- the source gives them
  abbrev pub IsGiven : ℕ → TExpr → State → Type 0
  IsGiven set e st = meant g fields e st ≡ Source.Gives (Parallel (numbers_of set e st)) st

  abbrev pub IsValued : ℕ → ℕ → TExpr → Type 0
  IsValued bits set e = Valued g has alive n ready places fields bits set e (λ d. code_of g has alive n ready places fields bits e d)

  abbrev Condition : ℕ → TExpr → Draft → CodeState → State → Draft → Type 0
  Condition set e d s st f = LeavesTests g alive fields d s set st (numbers_of set e st) f

  abbrev pub IsTested : ℕ → TExpr → Type 0
  IsTested set e = Says set e (λ d s st _ f. Condition set e d s st f) (λ d. tested g.typed (layout g) e d)

  -- The code of so many bits of a value gives them, and that of its test leaves the test flags.
  pub record IsDone (set : ℕ) (e : TExpr) : Type 0 where
    pub value : (bits : ℕ) → 0 < bits → bits ≤ 32 → IsValued bits set e
    pub tests : HasKnownKind e → IsTested set e

  -- ---- words

  -- a field that has the lowest bits of the words of a value tells where it is zero
  pub value_told : (set : ℕ) (e : TExpr) → IsPure set e ⊎ IsPromoted set e → HasKnownKind e ⊎ IsRegistered e → HasItsCode g.typed g.instance alive n e → (code : Draft → Made Out) → Valued g has alive n ready places fields (bits_of (kind_of e)) set e code → Says set e (λ d s st. Told g alive places fields d s set st (numbers_of set e st)) code
  value_told set e operand so c code valued d s st here sim =
      let bits : ℕ = bits_of (kind_of e) in
      given_weaker g s (meant g fields e st) (numbers_of set e st) st (Gives g has alive n ready places fields (IsFlag e) bits (length d.fields) d s set st (λ q. word_at (extents g set) st e q)) (Told g alive places fields d s set st (numbers_of set e st)) (code d)
      (λ x e1 (a, (is, (gives, apart))). (a, (is, field_told g alive places fields bits d s set st (λ q. word_at (extents g set) st e q) (numbers_of set e st) a e1 (λ q below. zero_told g alive n places fields set e st s sim operand so c q) gives))) (valued d s st here sim)

  pub pure_told : (set : ℕ) (e : TExpr) → HasItsKind set e → HasItsCode g.typed g.instance alive n e → IsValued (bits_of (kind_of e)) set e → Says set e (λ d s st. Told g alive places fields d s set st (numbers_of set e st)) (λ d. operand (bits_of (kind_of e)) true e d)
  pure_told set e kinded c whole = value_told set e (inl kinded.0) (inl kinded.1) c (operand (bits_of (kind_of e)) true e) (operand_after g has alive n ready places fields (bits_of (kind_of e)) set e true kinded.0 c whole)

  -- a variable, where it stands
  pub variable_tested : (set : ℕ) (x : Variable) (ty : ValueType) → IsOfFileOrBlock x → ty.shape ≡ Some set → HasItsCode g.typed g.instance alive n (T.Variable ty x) → (d : Draft) (s : CodeState) (st : State) → Starts g alive s (length d.code) d.regs (length d.fields) → Sim g alive st s
      → Follows g (Given g (λ q. st.parallel x 0 q) st (λ _ f. LeavesTests g alive fields d s set st (λ q. st.parallel x 0 q) f)) s (meant g fields (T.Variable ty x) st) (truth_of g.typed (layout g) (T.Variable ty x) d)
  unfolding truth_of then_make step_of passes_from evaluated NamesVariables NamesAmong After
  variable_tested set x ty read shaped c d s st here sim =
      given_follows g s (meant g fields (T.Variable ty x) st) (λ q. st.parallel x 0 q) st Q (truth_of g.typed (layout g) (T.Variable ty x) d)
      (ap (λ (x : Value). Source.Gives x st) (read_is fields.scope fields.active ty set x st shaped))
      (by (finds_read g has alive n ready places fields set x info d read c.among v.named shaped refl s st sim))
    where
      number : ℕ → ℕ
      number = λ q. st.parallel x 0 q

      v : HasVariable g.typed g.instance n x (plain ty)
      v = c.code.names

      info : VarInfo
      info = variable_info v.word (plain ty) v.start

      Q : Unit {0} → Draft → Type 0
      Q = λ _ f. LeavesTests g alive fields d s set st number f

      code : Made Field → Made (Unit {0})
      code m = then_make m (λ source after. Makes tt (with_instr (I.NeZero source) after))

      by : FindsOrFails g has alive n ready places fields set x info d → After g Q (truth_of g.typed (layout g) (T.Variable ty x) d)
      by (inl fails) = after_same g Q (ap code fails) tt
      by (inr found) =
          let d1 : Draft = found.e in
          let source : Field = found.f in
          let starts : Starts g alive s (length d1.code) d1.regs (length d1.fields) = starts_found g has alive n ready places fields set x info d s found here in
          after_same g Q (ap code found.is)
          (made_after g Q tt (with_instr (I.NeZero source) d1) (λ within.
          let carries : Carries g alive x info set source = found.carries (with_instr (I.NeZero source) d1) 1 (and_one g (I.NeZero source) d1) within in
          let named : IsNamedAt g.unit source.offset (length d1.code) = names_first g (I.NeZero source) source [] (length d1.code) (stands_here g (I.NeZero source) d1 within refl) refl in
          let behind : s.at ≤ start g + length d1.code = (let at = starts.stands in omega (arith, at)) in
          let numbers = variable_has g has alive n ready places fields set x info source s st carries (length d1.code) named behind sim in
          let small : (q : ℕ) → number q < 2 ^ info.elem.bits = λ q. carries.small st s sim q in
          tested_last g alive fields places (length d.fields) set d d1 (I.NeZero source) s st number (Unit {0}) (omega arith)
          (passes_from g alive (length d.fields) d d1 d1 s st (Unit {0}) found.grown (passes_all g alive (length d.fields) d1 s st (Unit {0}) starts sim)) tt numbers.0.exists within
          (puts_nonzero g set source s number (numbers_tell g info.elem.bits set source s (λ q. held info.elem (number q)) number (λ q below. ap (λ (m : ℕ). m == 0) (held_first info.elem (number q) info.elem.bits (small q) (omega arith) ∙ mod-eq_of_lt (small q))) numbers.0))))

  -- a value that the test flag does not tell without it
  pub pure_tested : (set : ℕ) (e : TExpr) → IsPure set e → has_truth e ≡ false → HasItsCode g.typed g.instance alive n e → ((bits : ℕ) → 0 < bits → bits ≤ 32 → IsValued bits set e) → HasKnownKind e → IsTested set e
  unfolding tested_by
  pure_tested set e pure no_truth c whole known d s st here sim =
      follows_same g (Given g (numbers_of set e st) st (λ _ f. Condition set e d s st f)) s refl (ap (λ (b : Bool). tested_by b (truth_of g.typed (layout g) e) (next_of g.typed (layout g) (bits_of (kind_of e)) true e) d) no_truth)
      (nonzero_after g alive places fields (meant g fields e st) (numbers_of set e st) set (numbers_of set e st) (operand (bits_of (kind_of e)) true e) d s st (pure_told set e (pure, known) c (whole (bits_of (kind_of e)) (kind_some (kind_of e)) (relation_most (kind_of e))) d s st here sim))

  -- ---- bits

  -- a value of one bit
  pub kinded_bit : (set : ℕ) (e : TExpr) → HasItsKind set e → (bits_of (kind_of e) == 1) ≡ true → HasItsCode g.typed g.instance alive n e → IsValued 1 set e → Says set e (λ d s st. Bit g alive places fields d s set st (numbers_of set e st)) (λ d. operand_at g 1 e d)
  kinded_bit set e kinded one c whole d s st here sim =
      let is_one : bits_of (kind_of e) ≡ 1 = eqb-true (bits_of (kind_of e)) 1 one in
      given_weaker g s (meant g fields e st) (numbers_of set e st) st (Gives g has alive n ready places fields (IsFlag e) 1 (length d.fields) d s set st (λ q. word_at (extents g set) st e q)) (Bit g alive places fields d s set st (numbers_of set e st)) (operand 1 true e d)
      (λ x e1 (a, (is, (gives, narrow))). (
        a,
        (
          is,
          field_truth g alive places fields d s set st (λ q. word_at (extents g set) st e q) (numbers_of set e st) a e1
              (λ q below. ap (λ (m : ℕ). word_at (extents g set) st e q % 2 ^ m == 0) (sym is_one) ∙ zero_told g alive n places fields set e st s sim (inl kinded.0) (inl kinded.1) c q) gives (narrow is_one),
        ),
      ))
      (operand_after g has alive n ready places fields 1 set e true kinded.0 c whole d s st here sim)

  -- ---- brackets, relations and `!`

  brackets_code : (ty : ValueType) (p : Boxed) (inner : TExpr) (d : Draft) → is_constant (T.Brackets' ty p inner) ≡ false → is_constant inner ≡ false → tested g.typed (layout g) (T.Brackets' ty p inner) d ≡ tested g.typed (layout g) inner d
  unfolding tested_by has_truth truth_of value_of kind_of own_of operand_by in_place nonzero_tested
  brackets_code ty p inner d none other = ap made (not_held (layout g) (T.Brackets' ty p inner) none) ∙ sym (ap made (not_held (layout g) inner other))
    where
      made : Option ℕ → Made (Unit {0})
      made o =
          if has_truth inner then truth_of g.typed (layout g) inner d
          else then_make (elim o as (λ _. Made Out) [ Some r ↦ Makes (O.Scalar r) d | None ↦ elim (own_of (bits_of (kind_of inner)) inner) as (λ _. Made Out) [ Some own ↦ standing g.typed (layout g) (bits_of (kind_of inner)) own d | None ↦ value_of g.typed (layout g) (bits_of (kind_of inner)) inner d ] ])
          (λ v after. in_field v (λ source. Makes tt (with_instr (I.NeZero source) after)))

  pub brackets_tested : (set : ℕ) (ty : ValueType) (p : Boxed) (inner : TExpr) → IsPure set (T.Brackets' ty p inner) → IsPure set inner → IsTested set inner → IsTested set (T.Brackets' ty p inner)
  unfolding value_in evaluated
  brackets_tested set ty p inner is part tests d s st here sim =
      follows_same g (Given g (numbers_of set inner st) st (λ _ f. Condition set inner d s st f)) s refl (brackets_code ty p inner d (pure_constant set (T.Brackets' ty p inner) is) (pure_constant set inner part)) (tests d s st here sim)

  -- those that are tested without their values
  pub truth_tested : (set : ℕ) (e : TExpr) → has_truth e ≡ true → Says set e (λ d s st _ f. Condition set e d s st f) (λ d. truth_of g.typed (layout g) e d) → IsTested set e
  unfolding tested_by
  truth_tested set e told truth d s st here sim =
      follows_same g (Given g (numbers_of set e st) st (λ _ f. Condition set e d s st f)) s refl (ap (λ (b : Bool). tested_by b (truth_of g.typed (layout g) e) (next_of g.typed (layout g) (bits_of (kind_of e)) true e) d) told) (truth d s st here sim)

  pub relation_truth : (set : ℕ) (ty : ValueType) (place : Place) (op : Op) (p q : Boxed) (left right : TExpr) → ty.shape ≡ Some set → AreRelated set op left right → HasItsCode g.typed g.instance alive n (T.Binary' ty place op p left q right) → (IsPure set left → IsDone set left) → (IsPure set right → IsDone set right)
      → Says set (T.Binary' ty place op p left q right) (λ d s st _ f. Condition set (T.Binary' ty place op p left q right) d s st f) (λ d. truth_of g.typed (layout g) (T.Binary' ty place op p left q right) d)
  unfolding value_in
  relation_truth set ty place op p q left right shaped is c left_done right_done d s st here sim =
      let parts = binary_parts g alive n places fields ty place op p q left right c in
      let some = kind_some (relation_kind left right) in
      let most = relation_most (relation_kind left right) in
      follows_same g (Given g (numbers_of set whole st) st (λ _ f. Condition set whole d s st f)) s refl
      (relation_code g has alive n ready places fields set op left right is (relates_plainly op is.0) parts.0 parts.1 (λ pure. (left_done pure).value (bits_of (relation_kind left right)) some most) (λ pure. (right_done pure).value (bits_of (relation_kind left right)) some most) d s st here sim ty place p q shaped)
      (relation_after g has alive n ready places fields set op left right is (relates_plainly op is.0) parts.0 parts.1 (λ pure. (left_done pure).value (bits_of (relation_kind left right)) some most) (λ pure. (right_done pure).value (bits_of (relation_kind left right)) some most) d s st here sim ty place p q shaped)
    where
      whole : TExpr
      whole = T.Binary' ty place op p left q right

  -- what `!` means
  pub not_means : {B : Type 0} (set : ℕ) (ty : ValueType) (p : Boxed) (inner : TExpr) (s : CodeState) (st : State) (R : B → Draft → Type 0) (made : Made B) → ty.shape ≡ Some set → Follows g (Given g (numbers_of set inner st) st R) s (meant g fields inner st) made
      → Follows g (Given g (numbers_of set (T.Unary' ty U.Not p inner) st) st R) s (meant g fields (T.Unary' ty U.Not p inner) st) made
  unfolding value_in unary_of
  not_means set ty p inner s st R made shaped h =
      follows_like g s (meant g fields inner st) (meant g fields (T.Unary' ty U.Not p inner) st) (numbers_of set inner st) (numbers_of set (T.Unary' ty U.Not p inner) st) st R R made (λ given. unary_means fields.scope fields.active set ty U.Not p inner (numbers_of set inner st) st shaped given)
      (λ early. unary_ended g has alive n ready places fields ty U.Not p inner s st early) (λ y e said. said) h

  pub not_truth : (set : ℕ) (ty : ValueType) (p : Boxed) (inner : TExpr) → ty.shape ≡ Some set → HasItsKind set inner → HasItsCode g.typed g.instance alive n inner → IsDone set inner → Says set (T.Unary' ty U.Not p inner) (λ d s st _ f. Condition set (T.Unary' ty U.Not p inner) d s st f) (λ d. truth_of g.typed (layout g) (T.Unary' ty U.Not p inner) d)
  unfolding truth_of value_in unary_of
  not_truth set ty p inner shaped kinded c done d s st here sim =
      not_means set ty p inner s st (λ _ f. Condition set (T.Unary' ty U.Not p inner) d s st f) (truth_of g.typed (layout g) (T.Unary' ty U.Not p inner) d) shaped
      (zero_after g alive places fields (meant g fields inner st) (numbers_of set inner st) set (numbers_of set inner st) (operand_at g (bits_of (kind_of inner)) inner) d s st
      (pure_told set inner kinded c (done.value (bits_of (kind_of inner)) (kind_some (kind_of inner)) (relation_most (kind_of inner))) d s st here sim))

  -- ---- `&&` and `||`

  -- an operand is put in a field of one bit
  flagged : (set : ℕ) (e : TExpr) → HasItsKind set e → HasItsCode g.typed g.instance alive n e → IsDone set e → Says set e (λ d s st. Truth g alive places fields d s set st (numbers_of set e st)) (λ d. flag_of set (condition_of g.typed (layout g) e) d)
  unfolding flag_of flag_by condition_by
  flagged set e kinded c done d s st here sim = by (bits_of (kind_of e) == 1) refl
    where
      R : Field → Draft → Type 0
      R = Truth g alive places fields d s set st (numbers_of set e st)

      code : Bool → ℕ → Made Field
      code b m = flag_by b set (operand_at g m e) (tested g.typed (layout g) e) d

      by : (b : Bool) → (bits_of (kind_of e) == 1) ≡ b → Follows g (Given g (numbers_of set e st) st R) s (meant g fields e st) (code (bits_of (kind_of e) == 1) (bits_of (kind_of e)))
      by false word =
          follows_same g (Given g (numbers_of set e st) st R) s refl (ap (λ (b : Bool). code b (bits_of (kind_of e))) word)
          (flag_after g alive places fields (meant g fields e st) (numbers_of set e st) set (numbers_of set e st) d s st (tested g.typed (layout g) e d) (done.tests kinded.1 d s st here sim))
      by true one =
          follows_same g (Given g (numbers_of set e st) st R) s refl (ap (λ (b : Bool). code b (bits_of (kind_of e))) one ∙ ap (λ (m : ℕ). code true m) (eqb-true (bits_of (kind_of e)) 1 one))
          (bit_taken g alive places fields (meant g fields e st) (numbers_of set e st) set (numbers_of set e st) d s st (operand_at g 1 e d) (kinded_bit set e kinded one c (done.value 1 (omega arith) (omega arith)) d s st here sim))

  flag_grows : (set : ℕ) (e : TExpr) → HasItsCode g.typed g.instance alive n e → InField g.typed e → (d : Draft) → Extends g d (flag_of set (condition_of g.typed (layout g) e) d)
  unfolding flag_of condition_by
  flag_grows set e c field d =
      flag_extends g (is_flag e) set (operand_at g (bits_of (kind_of e)) e) (tested g.typed (layout g) e) d (extends_grown g has alive _ d _ _ ((lengths_if_made g.typed g.instance (layout g)).operand (bits_of (kind_of e)) n true e d c.code (ready d)))
      (extends_grown g has alive _ d _ _ ((lengths_if_made g.typed g.instance (layout g)).test n e d c.code field (ready d)))

  -- one that ignores the context has its value under every context
  ignoring_means : (set : ℕ) (e : TExpr) (st : State) (active : Active) → IsPure set e → ignores_context e ≡ true → set < length (shapes g) → evaluated fields.scope e active st ≡ Source.Gives (Parallel (numbers_of set e st)) st
  ignoring_means set e st active is free exists = pure_means fields.scope set (extents g set) (sym (fields.same_extents set exists)) active e st is free

  -- what comes behind two of them
  pub flags_after : (set : ℕ) (left right : TExpr) → HasItsKind set left → HasItsKind set right → ignores_context right ≡ true → HaveTheirCode g.typed g.instance alive n left right → IsDone set left → IsDone set right → (d : Draft) (s : CodeState) (st : State) → Starts g alive s (length d.code) d.regs (length d.fields) → Sim g alive st s
      → (Q : Out → Draft → Type 0) (last : Field → Field → Draft → Made Out) → ((f h : Field) (e : Draft) → Extends g e (last f h e))
      → (IsGiven set left st → set < length (shapes g) → (f h : Field) (e1 e2 : Draft) (one : Truth g alive places fields d s set st (numbers_of set left st) f e1) → Truth g alive places fields e1 one.passes.t set st (numbers_of set right st) h e2 → After g Q (last f h e2))
      → (Ended g s (meant g fields left st) → (x : Out) (e : Draft) → Q x e)
      → After g Q (then_make (flag_of set (condition_of g.typed (layout g) left) d) (λ f between. then_make (flag_of set (condition_of g.typed (layout g) right) between) (λ h after. last f h after)))
  flags_after set left right is also free codes one two d s st here sim Q last grows given ended =
      then_known g s (meant g fields left st) (numbers_of set left st) st (Truth g alive places fields d s set st (numbers_of set left st)) Q (flag_of set (condition_of g.typed (layout g) left) d) (λ f e. then_make (second e) (λ h after. last f h after)) (flagged set left is codes.left_code one d s st here sim)
      (λ f e. extends_then g e (second e) (λ h after. last f h after) (flag_grows set right codes.right_code (codes.right_gives, pure_kept set right also.0) e) (λ h after. grows f h after)) (λ is_left f e1 a.
      then_after g (Truth g alive places fields e1 a.passes.t set st (numbers_of set right st)) Q (second e1) (λ h after. last f h after)
      (follows_given g a.passes.t (meant g fields right st) (numbers_of set right st) st (Truth g alive places fields e1 a.passes.t set st (numbers_of set right st)) (second e1) (ignoring_means set right st fields.active also.0 free a.exists) (flagged set right also codes.right_code two e1 a.passes.t st a.passes.at a.passes.sim))
      (λ h after. grows f h after) (λ h e2 b. given is_left a.exists f h e1 e2 a b)) ended
    where
      second : Draft → Made Field
      second e = flag_of set (condition_of g.typed (layout g) right) e

  -- so both that join
  pub or_given : (set : ℕ) (ty : ValueType) (p q : Boxed) (left right : TExpr) (st : State) → IsPure set left → IsPure set right → ignores_context right ≡ true → IsGiven set left st → set < length (shapes g) → IsGiven set (T.LogicalOr' ty p left q right) st
  unfolding value_in
  or_given set ty p q left right st is also free given exists =
      or_meant fields.scope fields.active set ty p q left right (extents g set) st is given (ignoring_means set right st (where_zero set (Parallel (numbers_of set left st)) fields.active) also free exists)

  pub and_given : (set : ℕ) (ty : ValueType) (p q : Boxed) (left right : TExpr) (st : State) → IsPure set left → IsPure set right → ignores_context right ≡ true → IsGiven set left st → set < length (shapes g) → IsGiven set (T.LogicalAnd' ty p left q right) st
  unfolding value_in
  and_given set ty p q left right st is also free given exists =
      and_meant fields.scope fields.active set ty p q left right (extents g set) st is given (ignoring_means set right st (where_nonzero set (Parallel (numbers_of set left st)) fields.active) also free exists)

  pub or_ended : (ty : ValueType) (p q : Boxed) (left right : TExpr) (s : CodeState) (st : State) → Ended g s (meant g fields left st) → Ended g s (meant g fields (T.LogicalOr' ty p left q right) st)
  unfolding evaluated
  or_ended ty p q left right s st early = ended_on g s (meant g fields left st) (λ x after. or_then ty.shape (type_of left).shape x (λ a after. evaluated fields.scope right a after) fields.active after) early

  pub and_ended : (ty : ValueType) (p q : Boxed) (left right : TExpr) (s : CodeState) (st : State) → Ended g s (meant g fields left st) → Ended g s (meant g fields (T.LogicalAnd' ty p left q right) st)
  unfolding evaluated
  and_ended ty p q left right s st early = ended_on g s (meant g fields left st) (λ x after. and_then ty.shape (type_of left).shape x (λ a after. evaluated fields.scope right a after) fields.active after) early

  -- and where the right one does, where the left one does not decide
  pub or_right_ended : (set : ℕ) (ty : ValueType) (p q : Boxed) (left right : TExpr) (s : CodeState) (st : State) → IsPure set left → IsGiven set left st → Ended g s (evaluated fields.scope right (where_zero set (Parallel (numbers_of set left st)) fields.active) st) → Ended g s (meant g fields (T.LogicalOr' ty p left q right) st)
  or_right_ended set ty p q left right s st is given early =
      subst (λ (o : Outcome Value). Ended g s o) (sym (or_so fields.scope fields.active set ty p q left right (numbers_of set left st) st is given))
      (ended_on g s (evaluated fields.scope right (where_zero set (Parallel (numbers_of set left st)) fields.active) st) (λ y after. Source.Gives (Parallel (λ x. from_bool (nonzero (numbers_of set left st x) || nonzero (at y x)))) after) early)

  pub and_right_ended : (set : ℕ) (ty : ValueType) (p q : Boxed) (left right : TExpr) (s : CodeState) (st : State) → IsPure set left → IsGiven set left st → Ended g s (evaluated fields.scope right (where_nonzero set (Parallel (numbers_of set left st)) fields.active) st) → Ended g s (meant g fields (T.LogicalAnd' ty p left q right) st)
  and_right_ended set ty p q left right s st is given early =
      subst (λ (o : Outcome Value). Ended g s o) (sym (and_so fields.scope fields.active set ty p q left right (numbers_of set left st) st is given))
      (ended_on g s (evaluated fields.scope right (where_nonzero set (Parallel (numbers_of set left st)) fields.active) st) (λ y after. Source.Gives (Parallel (λ x. from_bool (nonzero (numbers_of set left st x) && nonzero (at y x)))) after) early)
