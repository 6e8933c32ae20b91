-- The code of every pure parallel expression leaves the lowest bits of its words in a field, and that of its test leaves
-- the test flags.
use Rattle.fields_follow.proofs.Operands.{promoted_spread, promoted_spreads}
use Rattle.std.proofs.Common.{◌≡◌, ◌∙◌, ℕ, ◌<◌, ◌≤◌, Bool, true, false, not, ◌==◌, ◌&&◌, ◌⊎◌, inl, inr, length, Option, Some, refl, sym, ap, subst, arith, if◌then◌else◌}
use Rattle.std.specs.Int.{from_bool}
use Rattle.std.specs.Prelude.{nat_lt, unwrap_or}
use Rattle.std.proofs.lemmas.Bool.{eqb-true}
use Rattle.cstar_base.specs.declared.operators.Op.{Op}
use Rattle.cstar_base.specs.declared.operators.Place.{Place}
use Rattle.cstar_tree.specs.declared.typed.TExpr.{TExpr, Row_of-TExpr, end_of-TExpr, more_of-TExpr}
use Rattle.cstar_tree.specs.declared.typed.TExpr as T
use Rattle.cstar_tree.specs.declared.typed.UnaryOp.{UnaryOp}
use Rattle.cstar_tree.specs.declared.typed.UnaryOp.TheVariants as U
use Rattle.cstar_tree.specs.declared.typed.ValueType.{ValueType}
use Rattle.cstar_tree.specs.declared.typed.Variable.{Variable}
use Rattle.cstar_tree.specs.declared.typed.Variable.TheVariants as V
use Rattle.cstar_tree.specs.Typed.{type_of}
use Rattle.code_lengths.specs.Ready.{IsReadyButForFields}
use Rattle.lower_base.specs.declared.emit.Out.{Out}
use Rattle.lower_base.specs.declared.emit.Out.TheVariants as O
use Rattle.lower_base.specs.Drafts.{Draft, Made, Makes, a_field, an_entry, first_bits, then_make, with_instr}
use Rattle.lower_base.specs.Kinds.{bits_of, kind_of}
use Rattle.lower_base.specs.Operators.{negates, relates}
use Rattle.lower_expr.specs.Joined.{cleared, joined, operation_of, joins}
use Rattle.lower_expr.specs.Kinds.{operation_bits}
use Rattle.lower_expr.specs.Operands.{ignores_context, operand_by}
use Rattle.lower_expr.specs.Steps.{has_truth, is_kept}
use Rattle.lower_expr.specs.Values.{cast_by, cast_from, condition_by, condition_of, extended, flag_of, logical_by, next_of, register_cast_by, spread_by, spread_into, tested, tested_by, truth_of, truth_put, value_of, zero_tested, nonzero_tested}
use Rattle.paris_code.specs.declared.instr.Instr.TheVariants as I
use Rattle.paris_code.specs.declared.operands.Field.{Field}
use Rattle.paris_code.specs.declared.operands.Konst.TheVariants as K
use Rattle.paris_code.specs.declared.program.Owner.TheVariants as W
use Rattle.paris_code.specs.Code.{CodeState}
use Rattle.source_meaning.specs.Expressions.{evaluated}
use Rattle.source_meaning.specs.State.{State}
use Rattle.source_meaning.specs.Values.{Active, Value, nonzero, unary_of}
use Rattle.source_meaning.proofs.ConstantLaws.{Boxed}
use Rattle.code_follows.proofs.Following.{Extends, Follows, HasRegisters, Sim, follows_same, held}
use Rattle.code_follows.proofs.Settings.{Setting, and_one, layout}
use Rattle.fields_follow.specs.Fragment.{HasItsKind, HasKnownKind, IsNarrowed, IsOfFileOrBlock, IsOperation, IsPromoted, IsPure, IsRegistered, IsRelation, IsWide, IsOperand}
use Rattle.fields_follow.proofs.Starts.{no_home, starts_entry, Starts}
use Rattle.fields_follow.proofs.Choosing.{choice_valued, scalar_choice_valued}
use Rattle.fields_follow.proofs.Clearing.{joined_more}
use Rattle.fields_follow.proofs.ConditionCode.{Bit, Truth, bit_not_value, joined_value, operand_at, put_in, relation_value, word_not_value, nonzero_after}
use Rattle.fields_follow.proofs.Conditions.{HaveTheirCode, and_codes, beside_scalar, conditions_join, joined_free, or_codes}
use Rattle.fields_follow.proofs.Expressions.{Answers, answers_alike, binary_after, convert_after, convert_ended, convert_means, coordinate_after, dot_after, left_index_after, unary_after, unary_ended, converted_after}
use Rattle.fields_follow.proofs.Forms.{HasItsCode, pure_kept, promoted_truth, pure_unregistered}
use Rattle.fields_follow.proofs.Instructions.{alike_same, extents, shapes}
use Rattle.fields_follow.proofs.Leaving.{fields_under, places_under, registers_under, under}
use Rattle.fields_follow.proofs.Lengths.{operation_most, relates_plainly}
use Rattle.fields_follow.proofs.Indexing.{AllCoded, AllValued, all_coded}
use Rattle.fields_follow.proofs.Meaning.{either, unary_means, value_in, word_at}
use Rattle.fields_follow.proofs.Mixed.{mixed_valued}
use Rattle.fields_follow.proofs.NarrowKinds.{are_related}
use Rattle.fields_follow.proofs.Outcomes.{Ended, Given, Known, given_weaker, known_follows, meant}
use Rattle.fields_follow.proofs.Passing.{After, GivesField, after_same, gives_alike, passes_all}
use Rattle.fields_follow.proofs.Places.{HoldsTheFields, PlacesFields}
use Rattle.fields_follow.proofs.Pure.{and_meant, and_number, or_meant, or_number}
use Rattle.fields_follow.proofs.Sizes.{binary_parts, brackets_part, cast_code, choice_parts, convert_part, pure_at, unary_part, operand_small}
use Rattle.fields_follow.proofs.TestFlags.{LeavesTests, is_truth, truth_is}
use Rattle.fields_follow.proofs.Testing.{IsDone, IsGiven, IsValued, Says, and_ended, and_given, and_right_ended, brackets_tested, flags_after, kinded_bit, not_truth, or_ended, or_given, or_right_ended, pure_tested, relation_truth, truth_tested, variable_tested, value_told}
use Rattle.fields_follow.proofs.TruthFields.{ComesFrom, bit_joined, several_joined, tests_put, turned_put}
use Rattle.fields_follow.proofs.TruthValues.{bool_bit, bool_nonzero, by_case}
use Rattle.fields_follow.proofs.Undecided.{LogicalEnds, LogicalGives, LogicalMeans, LogicalValue, scalar_valued, undecided_valued}
use Rattle.fields_follow.proofs.Truths.{either_or_both}
use Rattle.fields_follow.proofs.Values.{IsFlag, next_field, operand_after, variable_after, with_entry, Valued}

module _ (g : Setting) (has : HasRegisters g) (alive : Variable → Type 0) (n : ℕ) (ready : (d : Draft) → IsReadyButForFields g.typed g.instance (layout g) n d) (places : PlacesFields g) (fields : HoldsTheFields g) where
  abbrev code : ℕ → TExpr → Draft → Made Out
  code bits e d = value_of g.typed (layout g) bits e d

  abbrev operand : ℕ → Bool → TExpr → Draft → Made Out
  operand bits quiet e d = operand_by g.typed (layout g) bits (value_of g.typed (layout g) bits e) quiet e d

  abbrev Done : ℕ → TExpr → Type 0
  Done set e = IsDone g has alive n ready places fields set e

  abbrev Valued_at : ℕ → ℕ → TExpr → Type 0
  Valued_at bits set e = IsValued g has alive n ready places fields bits set e

  abbrev number : ℕ → TExpr → State → ℕ → ℕ
  number set e st = λ q. value_in (extents g set) st e q

  abbrev Gave : ℕ → ℕ → TExpr → Draft → CodeState → State → Out → Draft → Type 0
  Gave bits set e d s st = Answers g has alive n ready places fields (IsFlag e) bits (length d.fields) d s set st (λ q. word_at (extents g set) st e q)

  -- ---- the values of truth values

  itself : (set : ℕ) (e : TExpr) (s : CodeState) (st : State) → ComesFrom g has alive n ready places fields set e e s st
  itself set e s st = record { gives = λ given. given; ends = λ early. early }

  relation_valued : (bits set : ℕ) (ty : ValueType) (place : Place) (op : Op) (p q : Boxed) (left right : TExpr) → ty.shape ≡ Some set → relates op ≡ true
      → Says g has alive n ready places fields set (T.Binary' ty place op p left q right) (λ d s st _ f. LeavesTests g alive fields d s set st (number set (T.Binary' ty place op p left q right) st) f) (λ d. truth_of g.typed (layout g) (T.Binary' ty place op p left q right) d) → Valued_at bits set (T.Binary' ty place op p left q right)
  unfolding value_in
  relation_valued bits set ty place op p q left right shaped related truth d s st here sim =
      follows_same g (Given g (number set whole st) st (Gave bits set whole d s st)) s refl (relation_value g set bits ty place op p q left right d shaped related (relates_plainly op related))
      (tests_put g has alive n ready places fields set whole d s st (no_home g alive (length d.fields) (length d.fields) (omega arith) here) (λ x. is_truth op 32 (not (type_of left).elem.signed) (value_in (extents g set) st left x) (value_in (extents g set) st right x) related) whole (λ x below. refl) (itself set whole s st) bits (with_entry set bits W.Own d) (Unit {0}) (passes_all g alive (length d.fields) (with_entry set bits W.Own d) s st (Unit {0}) (starts_entry g alive _ _ here) sim) (λ later named late. tt)
      (truth_of g.typed (layout g) whole (with_entry set bits W.Own d)) (truth (with_entry set bits W.Own d) s st (starts_entry g alive _ _ here) sim))
    where
      whole : TExpr
      whole = T.Binary' ty place op p left q right

  not_valued : (bits set : ℕ) (ty : ValueType) (p : Boxed) (inner : TExpr) → ty.shape ≡ Some set → HasItsKind set inner → HasItsCode g.typed g.instance alive n inner → Done set inner → Valued_at bits set (T.Unary' ty U.Not p inner)
  unfolding truth_of value_in unary_of
  not_valued bits set ty p inner shaped kinded c done = by (bits == 1) (bits_of (kind_of inner) == 1) refl refl
    where
      whole : TExpr
      whole = T.Unary' ty U.Not p inner

      tests : (bits == 1 && bits_of (kind_of inner) == 1) ≡ false → Valued_at bits set whole
      tests no_bit d s st here sim =
          follows_same g (Given g (number set whole st) st (Gave bits set whole d s st)) s refl (word_not_value g set bits ty p inner d shaped (pure_kept set inner kinded.0) no_bit)
          (tests_put g has alive n ready places fields set whole d s st (no_home g alive (length d.fields) (length d.fields) (omega arith) here) (λ x. truth_is _) whole (λ x below. refl) (itself set whole s st) bits (with_entry set bits W.Own d) (Unit {0})
          (passes_all g alive (length d.fields) (with_entry set bits W.Own d) s st (Unit {0}) (starts_entry g alive _ _ here) sim) (λ later named late. tt) (zero_tested (operand_at g (bits_of (kind_of inner)) inner) (with_entry set bits W.Own d))
          (not_truth g has alive n ready places fields set ty p inner shaped kinded c done (with_entry set bits W.Own d) s st (starts_entry g alive _ _ here) sim))

      turns : (bits_of (kind_of inner) == 1) ≡ true → Valued_at 1 set whole
      turns bit d s st here sim =
          follows_same g (Given g (number set whole st) st (Gave 1 set whole d s st)) s refl (bit_not_value g set ty p inner d shaped (pure_kept set inner kinded.0) bit)
          (turned_put g has alive n ready places fields set whole d s st (no_home g alive (length d.fields) (length d.fields) (omega arith) here) (λ x. truth_is _) inner
          (record { gives = λ given. unary_means fields.scope fields.active set ty U.Not p inner (number set inner st) st shaped given; ends = λ early. unary_ended g has alive n ready places fields ty U.Not p inner s st early })
          (λ q. refl) (operand_at g 1 inner (with_entry set 1 W.Own d)) (kinded_bit g has alive n ready places fields set inner kinded bit c (done.value 1 (omega arith) (omega arith)) (with_entry set 1 W.Own d) s st (starts_entry g alive _ _ here) sim))

      by : (a b : Bool) → (bits == 1) ≡ a → (bits_of (kind_of inner) == 1) ≡ b → Valued_at bits set whole
      by true true one bit = subst (λ (k : ℕ). Valued_at k set whole) (sym (eqb-true bits 1 one)) (turns bit)
      by true false one bit = tests (ap (λ (b : Bool). bits == 1 && b) bit ∙ ap (λ (b : Bool). b && false) one)
      by false b one bit = tests (ap (λ (a : Bool). a && bits_of (kind_of inner) == 1) one)

  -- two that are joined
  logical_valued : (is_or : Bool) (bits set : ℕ) (ty : ValueType) (whole left right : TExpr) → 0 < bits → ty.shape ≡ Some set → HasItsKind set left → HasItsKind set right → ignores_context right ≡ true → HaveTheirCode g.typed g.instance alive n left right → Done set left → Done set right
      → ((st : State) (q : ℕ) → from_bool (either_or_both is_or (nonzero (value_in (extents g set) st left q)) (nonzero (value_in (extents g set) st right q))) ≡ value_in (extents g set) st whole q)
      → ((st : State) → IsGiven g has alive n ready places fields set left st → set < length (shapes g) → IsGiven g has alive n ready places fields set whole st) → ((s : CodeState) (st : State) → Ended g s (meant g fields left st) → Ended g s (meant g fields whole st))
      → (d : Draft) (s : CodeState) (st : State) → Starts g alive s (length d.code) d.regs (length d.fields) → Sim g alive st s
      → Follows g (Given g (number set whole st) st (Gave bits set whole d s st)) s (meant g fields whole st) (logical_by is_or ty.shape bits (condition_of g.typed (layout g) left) (condition_of g.typed (layout g) right) d)
  unfolding joined cleared first_bits condition_by Extends
  logical_valued is_or bits set ty whole left right some shaped is also free codes one two same means ends d s st here sim =
      known_follows g s (meant g fields whole st) (number set whole st) st (Gave bits set whole d s st) (logical_by is_or ty.shape bits (condition_of g.typed (layout g) left) (condition_of g.typed (layout g) right) d)
      (after_same g (Q bits) (joined_value g is_or set bits ty.shape (condition_of g.typed (layout g) left) (condition_of g.typed (layout g) right) d shaped (conditions_join set left right is.0 also.0 free))
      (flags_after g has alive n ready places fields set left right is also free codes one two (with_entry set bits W.Own d) s st (starts_entry g alive _ _ here) sim (Q bits) (λ f h e. joined is_or (next_field set bits d) f h e) (λ f h e. grows f h e (bits == 1))
      (λ is_left exists f h e1 e2 a b. last (means st is_left exists) f h e1 e2 a b) (λ early x e. inr (ends s st early))))
    where
      Q : ℕ → Out → Draft → Type 0
      Q k = Known g s (meant g fields whole st) (number set whole st) st (Gave k set whole d s st)

      truth : (q : ℕ) → value_in (extents g set) st whole q ≡ from_bool (nonzero (value_in (extents g set) st whole q))
      truth q = sym (same st q) ∙ truth_is _ ∙ ap (λ (x : ℕ). from_bool (nonzero x)) (same st q)

      put : Field → Field → Draft → Bool → Made Out
      put f h e b = Makes (O.Field (next_field set bits d)) (with_instr (I.Operate (operation_of is_or) (next_field set 1 d) f h) (if b then e else with_instr (I.MoveConstant (next_field set bits d) (K.Imm 0)) e))

      grows : (f h : Field) (e : Draft) (b : Bool) → Extends g e (put f h e b)
      grows f h e true = (1, and_one g (I.Operate (operation_of is_or) (next_field set 1 d) f h) e)
      grows f h e false = (2, joined_more g is_or set (length d.fields) bits f h e)

      Last : ℕ → Type 0
      Last k =
          (f h : Field) (e1 e2 : Draft) (a : Truth g alive places fields (with_entry set k W.Own d) s set st (number set left st) f e1) → Truth g alive places fields e1 a.passes.t set st (number set right st) h e2
          → After g (Q k) (joined is_or (next_field set k d) f h e2)

      last : IsGiven g has alive n ready places fields set whole st → Last bits
      last given = by (bits == 1) refl
        where
          in_one : Last 1
          in_one f h e1 e2 a b = bit_joined g has alive n ready places fields set whole d s st (no_home g alive (length d.fields) (length d.fields) (omega arith) here) truth is_or (number set left st) (number set right st) (same st) given f h e1 e2 a b

          by : (b : Bool) → (bits == 1) ≡ b → Last bits
          by true bit = subst Last (sym (eqb-true bits 1 bit)) in_one
          by false several = λ f h e1 e2 a b. after_same g (Q bits) (ap (put f h e2) several) (several_joined g has alive n ready places fields set whole d s st (no_home g alive (length d.fields) (length d.fields) (omega arith) here) truth is_or (number set left st) (number set right st) (same st) given f h e1 e2 bits some a b)

  -- the ways of two of which the left one is parallel
  logical_ways : (is_or : Bool) (bits set : ℕ) (ty : ValueType) (whole left right : TExpr) → 0 < bits → ty.shape ≡ Some set → IsPure set whole → IsWide set (type_of whole) → HasItsCode g.typed g.instance alive n whole → HaveTheirCode g.typed g.instance alive n left right → HasItsKind set left → Done set left
      → HasItsKind set right ⊎ (IsPromoted set right × IsRegistered right) → (IsPure set right → Done set right) → ((b : Active) → IsPure set right → IsDone (under g b) (registers_under g b has) alive n ready (places_under g b places) (fields_under g b fields.scope fields.same_extents) set right)
      → LogicalValue g has alive n ready places fields set whole left right is_or → LogicalMeans g has alive n ready places fields is_or set whole left right → LogicalEnds g has alive n ready places fields is_or set whole left right
      → (IsPure set right → ignores_context right ≡ true → (st : State) → IsGiven g has alive n ready places fields set left st → set < length (shapes g) → IsGiven g has alive n ready places fields set whole st) → LogicalGives g has alive n ready places fields is_or bits set ty whole left right
  logical_ways is_or bits set ty whole left right some shaped is wide c codes one left_done two right_done right_under value means ends given = either
      (λ also. by_case (joins left right)
      (λ join. logical_valued is_or bits set ty whole left right some shaped one also (joined_free left right join) codes left_done (right_done also.0) value (λ st is_left exists. given also.0 (joined_free left right join) st is_left exists) ends.0)
      (λ apart. undecided_valued g has alive n ready places fields is_or bits set ty whole left right shaped one apart is wide c codes value (left_done.tests one.1) means ends also (λ b. (right_under b also.0).tests also.1)))
      (λ promoted. scalar_valued g has alive n ready places fields is_or bits set ty whole left right shaped one is wide c codes value (left_done.tests one.1) means ends promoted.0 promoted.1) two

  -- a conversion to `bool` is a test
  bool_code : (bits set : ℕ) (ty : ValueType) (p : Boxed) (inner : TExpr) (d : Draft) → ty.shape ≡ Some set → ty.elem.bits ≡ 1 → is_kept inner ≡ false → code bits (T.Convert' ty p inner) d ≡ then_make (tested g.typed (layout g) inner (with_entry set bits W.Own d)) (put_in (next_field set bits d))
  unfolding value_of cast_from spread_by cast_by truth_put then_make an_entry
  bool_code bits set ty p inner d shaped one fresh =
      ap (λ (b : Bool). if b then register_cast_by ty.elem (code bits inner) d else cast_from g.typed (layout g) bits ty inner (truth_of g.typed (layout g) inner) (λ m. value_of g.typed (layout g) m inner) d) fresh
      ∙ ap (λ (k : ℕ). if k == 1 then then_make (a_field at bits d) (λ dest begun. truth_put dest (test is_there) begun) else (if nat_lt k bits then then_make (a_field at bits d) (λ dest begun. extended ty.elem.signed dest (spread is_there (operand k true inner) k) begun) else spread is_there (code bits inner) bits d)) one
      ∙ ap (λ (b : Bool). then_make (a_field at bits d) (λ dest begun. truth_put dest (test b) begun)) fresh
      ∙ ap (λ (o : Option ℕ). then_make (a_field (unwrap_or o 0) bits d) (λ dest begun. truth_put dest (λ e. tested g.typed (layout g) inner e) begun)) shaped
    where
      at : ℕ
      at = unwrap_or ty.shape 0

      is_there : Bool
      is_there = is_kept inner

      spread : Bool → (Draft → Made Out) → ℕ → Draft → Made Out
      spread b code k e = if b then then_make (a_field at k e) (λ dest between. then_make (spread_into code inner dest between) (λ f after. Makes (O.Field f) after)) else code e

      test : Bool → Draft → Made (Unit {0})
      test b = tested_by (has_truth inner) (truth_of g.typed (layout g) inner) (spread b (operand_by g.typed (layout g) (bits_of (kind_of inner)) (value_of g.typed (layout g) (bits_of (kind_of inner)) inner) true inner) (bits_of (kind_of inner)))

  bool_put : (bits set : ℕ) (ty : ValueType) (p : Boxed) (inner : TExpr) → ty.shape ≡ Some set → ty.elem.bits ≡ 1 → IsOperand set inner → HasItsCode g.typed g.instance alive n inner → (test : Draft → Made (Unit {0})) → Says g has alive n ready places fields set inner (λ d s st _ f. LeavesTests g alive fields d s set st (number set inner st) f) test
      → Valued g has alive n ready places fields bits set (T.Convert' ty p inner) (λ d. then_make (test (with_entry set bits W.Own d)) (put_in (next_field set bits d)))
  unfolding value_in
  bool_put bits set ty p inner shaped one operand c test tests d s st here sim =
      tests_put g has alive n ready places fields set (T.Convert' ty p inner) d s st (no_home g alive (length d.fields) (length d.fields) (omega arith) here) (λ x. bool_bit ty.elem (type_of inner).elem (value_in (extents g set) st inner x) one) inner
      (λ x below. bool_nonzero ty.elem (type_of inner).elem (value_in (extents g set) st inner x) one (operand_small g alive n places fields set inner st s sim operand c x))
      (record { gives = λ given. convert_means g has alive n ready places fields set ty p inner st shaped given; ends = λ early. convert_ended g has alive n ready places fields ty p inner s st early }) bits (with_entry set bits W.Own d) (Unit {0})
      (passes_all g alive (length d.fields) (with_entry set bits W.Own d) s st (Unit {0}) (starts_entry g alive _ _ here) sim) (λ later named late. tt) (test (with_entry set bits W.Own d)) (tests (with_entry set bits W.Own d) s st (starts_entry g alive _ _ here) sim)

  bool_valued : (bits set : ℕ) (ty : ValueType) (p : Boxed) (inner : TExpr) → ty.shape ≡ Some set → ty.elem.bits ≡ 1 → HasItsKind set inner → HasItsCode g.typed g.instance alive n inner → Done set inner → Valued_at bits set (T.Convert' ty p inner)
  bool_valued bits set ty p inner shaped one kinded c done d s st here sim =
      follows_same g (Given g (number set (T.Convert' ty p inner) st) st (Gave bits set (T.Convert' ty p inner) d s st)) s refl (bool_code bits set ty p inner d shaped one (pure_kept set inner kinded.0)) (bool_put bits set ty p inner shaped one (inl kinded.0) c (tested g.typed (layout g) inner) (done.tests kinded.1) d s st here sim)

  -- a cast of a promoted scalar, which is spread over a field
  spread_valued : (bits set : ℕ) (ty : ValueType) (p : Boxed) (inner : TExpr) → bits ≤ 32 → ty.shape ≡ Some set → ((ty.elem.bits == 1) ≡ false) ⊎ ((ty.elem.bits ≡ 1) × (HasKnownKind inner ⊎ IsRegistered inner)) → IsPromoted set inner → HasItsCode g.typed g.instance alive n inner → Valued_at bits set (T.ParallelCast' ty p inner)
  unfolding value_of value_in evaluated kind_of cast_from cast_by truth_put tested_by then_make an_entry
  spread_valued bits set ty p inner most shaped kinds promoted c d s st here sim = by kinds
    where
      whole : TExpr
      whole = T.Convert' ty p inner

      R : Value → State → Out → Draft → Type 0
      R = Given g (number set whole st) st (Gave bits set whole d s st)

      known : ℕ
      known = bits_of (kind_of inner)

      spread : ℕ → Draft → Made Out
      spread m e = spread_by (operand m true inner) inner set m e

      wanted : Draft → Made Out
      wanted e = spread_by (code bits inner) inner set bits e

      test : Draft → Made (Unit {0})
      test e = nonzero_tested (spread known) e

      made : Bool → Made Out
      made b = if b then then_make (a_field set bits d) (λ dest begun. truth_put dest test begun) else if nat_lt ty.elem.bits bits then then_make (a_field set bits d) (λ dest begun. extended ty.elem.signed dest (spread ty.elem.bits) begun) else wanted d

      is_made : code bits (T.ParallelCast' ty p inner) d ≡ made (ty.elem.bits == 1)
      is_made =
          ap (λ (o : Option ℕ). cast_by (unwrap_or o 0) bits ty.elem (tested_by (has_truth inner) (truth_of g.typed (layout g) inner) (spread_by (operand known true inner) inner (unwrap_or o 0) known)) (spread_by (operand ty.elem.bits true inner) inner (unwrap_or o 0) ty.elem.bits) (spread_by (code bits inner) inner (unwrap_or o 0) bits) d) shaped
          ∙ ap (λ (b : Bool). cast_by set bits ty.elem (tested_by b (truth_of g.typed (layout g) inner) (spread known)) (spread ty.elem.bits) wanted d) (promoted_truth set inner promoted)

      tests : HasKnownKind inner ⊎ IsRegistered inner → Says g has alive n ready places fields set inner (λ d s st _ f. LeavesTests g alive fields d s set st (number set inner st) f) test
      tests so e t u there same =
          nonzero_after g alive places fields (meant g fields inner u) (number set inner u) set (number set inner u) (spread known) e t u
          (value_told g has alive n ready places fields set inner (inr promoted) so c (spread known) (promoted_spread g has alive n ready places fields known set inner true promoted c) e t u there same)

      by : ((ty.elem.bits == 1) ≡ false) ⊎ ((ty.elem.bits ≡ 1) × (HasKnownKind inner ⊎ IsRegistered inner)) → Follows g R s (meant g fields whole st) (code bits (T.ParallelCast' ty p inner) d)
      by (inl other) =
          follows_same g R s refl (is_made ∙ ap made other)
          (converted_after g has alive n ready places fields bits set ty p inner most shaped other (spread ty.elem.bits) wanted (promoted_spread g has alive n ready places fields ty.elem.bits set inner true promoted c) (promoted_spreads g has alive n ready places fields bits set inner promoted c) d s st here sim)
      by (inr bool) = follows_same g R s refl (is_made ∙ ap (λ (k : ℕ). made (k == 1)) bool.0) (bool_put bits set ty p inner shaped bool.0 (inr promoted) c test (tests bool.1) d s st here sim)

  -- ---- all of them

  -- one that is not tested without its value
  by_value : (set : ℕ) (e : TExpr) → IsPure set e → has_truth e ≡ false → HasItsCode g.typed g.instance alive n e → ((bits : ℕ) → 0 < bits → bits ≤ 32 → Valued_at bits set e) → Done set e
  by_value set e pure no_truth c whole = record { value = whole; tests = pure_tested g has alive n ready places fields set e pure no_truth c whole }

  brackets_valued : (bits set : ℕ) (ty : ValueType) (p : Boxed) (inner : TExpr) → ty ≡ type_of inner → Valued_at bits set inner → Valued_at bits set (T.Brackets' ty p inner)
  unfolding value_of value_in evaluated kind_of
  brackets_valued bits set ty p inner same whole d s st here sim =
      given_weaker g s (meant g fields inner st) (number set inner st) st (Gave bits set inner d s st) (Gave bits set (T.Brackets' ty p inner) d s st) (code bits inner d)
      (answers_alike g has alive n ready places fields (IsFlag inner) (IsFlag (T.Brackets' ty p inner)) (λ one. one) bits (length d.fields) d s set st (λ q. word_at (extents g set) st inner q) (λ q. word_at (extents g set) st (T.Brackets' ty p inner) q) (alike_same g bits set _ _ (λ q below few. ap (λ (y : ValueType). held y.elem (value_in (extents g set) st inner q)) same)))
      (whole d s st here sim)

  unary_done : (set : ℕ) (ty : ValueType) (op : UnaryOp) (p : Boxed) (operand : TExpr) → IsPure set (T.Unary' ty op p operand) → ty.shape ≡ Some set → IsPure set operand → ((negates op ≡ false) × IsWide set (type_of operand)) ⊎ ((negates op ≡ true) × HasKnownKind operand)
      → HasItsCode g.typed g.instance alive n (T.Unary' ty op p operand) → Done set operand → Done set (T.Unary' ty op p operand)
  unfolding has_truth negates
  unary_done set ty op p operand is shaped pure (inl h) c done = by_value set (T.Unary' ty op p operand) is h.0 c (λ bits some most. unary_after g has alive n ready places fields bits set ty op p operand most h.0 h.1 is c (done.value bits some most))
  unary_done set ty U.Not p operand is shaped pure (inr h) c done =
      let part = unary_part g alive n places fields ty U.Not p operand c in
      record {
        value = λ bits some most. not_valued bits set ty p operand shaped (pure, h.1) part done;
        tests = λ known. truth_tested g has alive n ready places fields set (T.Unary' ty U.Not p operand) refl (not_truth g has alive n ready places fields set ty p operand shaped (pure, h.1) part done);
      }
  unary_done set ty U.Plus p operand is shaped pure (inr h) c done = let wrong = h.0 in cc
  unary_done set ty U.Minus p operand is shaped pure (inr h) c done = let wrong = h.0 in cc
  unary_done set ty U.Complement p operand is shaped pure (inr h) c done = let wrong = h.0 in cc

  binary_done : (set : ℕ) (ty : ValueType) (place : Place) (op : Op) (p q : Boxed) (left right : TExpr) → IsPure set (T.Binary' ty place op p left q right) → HasItsCode g.typed g.instance alive n (T.Binary' ty place op p left q right) → (IsPure set left → Done set left) → (IsPure set right → Done set right) → Done set (T.Binary' ty place op p left q right)
  unfolding IsPure has_truth
  binary_done set ty place op p q left right is c left_done right_done = by is.1
    where
      whole : TExpr
      whole = T.Binary' ty place op p left q right

      by : IsOperation op right ⊎ IsRelation set op left right → Done set whole
      by (inl known) = by_value set whole is known.0 c (λ bits some most.
          let works = operation_most bits op right most in
          let more : 0 < operation_bits bits op right = (let less = works.0 in omega (arith, some, less)) in
          binary_after g has alive n ready places fields bits set ty place op p q left right most known is c (λ pure. (left_done pure).value (operation_bits bits op right) more works.1) (λ pure. (right_done pure).value (operation_bits bits op right) more works.1))
      by (inr related) =
          let truth = relation_truth g has alive n ready places fields set ty place op p q left right is.0.0 (are_related set op left right related is.2 is.3 is.4) c left_done right_done in
          record { value = λ bits some most. relation_valued bits set ty place op p q left right is.0.0 related.0 truth; tests = λ known. truth_tested g has alive n ready places fields set whole related.0 truth }

  convert_done : (set : ℕ) (ty : ValueType) (p : Boxed) (inner : TExpr) → IsPure set (T.Convert' ty p inner) → ty.shape ≡ Some set → IsPure set inner → ((ty.elem.bits == 1) ≡ false) ⊎ ((ty.elem.bits ≡ 1) × HasKnownKind inner) → HasItsCode g.typed g.instance alive n (T.Convert' ty p inner) → Done set inner → Done set (T.Convert' ty p inner)
  unfolding has_truth
  convert_done set ty p inner is shaped pure (inl other) c done = by_value set (T.Convert' ty p inner) is refl c (λ bits some most. convert_after g has alive n ready places fields bits set ty p inner some most other is c done.value)
  convert_done set ty p inner is shaped pure (inr bool) c done = by_value set (T.Convert' ty p inner) is refl c (λ bits some most. bool_valued bits set ty p inner shaped bool.0 (pure, bool.1) (convert_part g alive n places fields ty p inner c) done)

  -- a cast to a type of the shape is done as such a conversion, but for that of a promoted scalar
  cast_done : (set : ℕ) (ty : ValueType) (p : Boxed) (inner : TExpr) → IsPure set (T.ParallelCast' ty p inner) → HasItsCode g.typed g.instance alive n (T.ParallelCast' ty p inner) → (IsPure set inner → Done set inner) → Done set (T.ParallelCast' ty p inner)
  unfolding IsPure has_truth value_of value_in evaluated kind_of
  cast_done set ty p inner is c done = by_value set (T.ParallelCast' ty p inner) is refl c (λ bits some most. by bits some most is.2)
    where
      converts : HasItsCode g.typed g.instance alive n (T.Convert' ty p inner)
      converts = cast_code g alive n places fields set ty p inner is.0 is.2 c

      known : IsPure set inner → ((ty.elem.bits == 1) ≡ false) ⊎ ((ty.elem.bits ≡ 1) × (HasKnownKind inner ⊎ IsRegistered inner)) → ((ty.elem.bits == 1) ≡ false) ⊎ ((ty.elem.bits ≡ 1) × HasKnownKind inner)
      known pure (inl other) = inl other
      known pure (inr (one, inl so)) = inr (one, so)
      known pure (inr (one, inr registered)) = absurd (pure_unregistered set inner pure registered)

      by : (bits : ℕ) → 0 < bits → bits ≤ 32 → IsOperand set inner → Valued_at bits set (T.ParallelCast' ty p inner)
      by bits some most (inl pure) d s st here sim =
          follows_same g (Given g (number set (T.Convert' ty p inner) st) st (Gave bits set (T.Convert' ty p inner) d s st)) s refl
          (sym (ap (λ (b : Bool). if b then register_cast_by ty.elem (code bits inner) d else cast_from g.typed (layout g) bits ty inner (truth_of g.typed (layout g) inner) (λ m. value_of g.typed (layout g) m inner) d) (pure_kept set inner pure)))
          ((convert_done set ty p inner (is.0, known pure is.1, pure) is.0 pure (known pure is.1) converts (done pure)).value bits some most d s st here sim)
      by bits some most (inr promoted) d s st here sim = spread_valued bits set ty p inner most is.0 is.1 promoted (convert_part g alive n places fields ty p inner converts) d s st here sim

mutual
  unfolding IsPure IsNarrowed IsOfFileOrBlock has_truth value_of value_in kind_of AllCoded AllValued

  done : (g : Setting) (has : HasRegisters g) (alive : Variable → Type 0) (n : ℕ) (ready : (d : Draft) → IsReadyButForFields g.typed g.instance (layout g) n d) (places : PlacesFields g) (fields : HoldsTheFields g) (set : ℕ) (e : TExpr) → IsPure set e → HasItsCode g.typed g.instance alive n e → IsDone g has alive n ready places fields set e
  done g has alive n ready places fields set (T.Variable ty (V.File k)) is c = record {
    value = λ bits some most. variable_after g has alive n ready places fields bits set (V.File k) ty most tt is c;
    tests = λ known. truth_tested g has alive n ready places fields set (T.Variable ty (V.File k)) refl (variable_tested g has alive n ready places fields set (V.File k) ty tt is c);
  }
  done g has alive n ready places fields set (T.Variable ty (V.Local k)) is c = record {
    value = λ bits some most. variable_after g has alive n ready places fields bits set (V.Local k) ty most tt is c;
    tests = λ known. truth_tested g has alive n ready places fields set (T.Variable ty (V.Local k)) refl (variable_tested g has alive n ready places fields set (V.Local k) ty tt is c);
  }
  done g has alive n ready places fields set (T.Brackets' ty p inner) is c =
      let part = done g has alive n ready places fields set inner is.1 (brackets_part g alive n places fields ty p inner c) in
      record { value = λ bits some most. brackets_valued g has alive n ready places fields bits set ty p inner is.0 (part.value bits some most); tests = λ known. brackets_tested g has alive n ready places fields set ty p inner is is.1 (part.tests known) }
  done g has alive n ready places fields set (T.Unary' ty op p operand) is c = unary_done g has alive n ready places fields set ty op p operand is is.0.0 is.2 is.1 c (done g has alive n ready places fields set operand is.2 (unary_part g alive n places fields ty op p operand c))
  done g has alive n ready places fields set (T.LogicalOr' ty p left q right) is c =
      let codes = or_codes g.typed g.instance alive n set ty p q left right is.0.0 c in
      let ends : (s : CodeState) (st : State) → Ended g s (meant g fields left st) → Ended g s (meant g fields (T.LogicalOr' ty p left q right) st) = λ s st early. or_ended g has alive n ready places fields ty p q left right s st early in
      by_value g has alive n ready places fields set (T.LogicalOr' ty p left q right) is refl c (λ bits some most. either
      (λ one. logical_ways g has alive n ready places fields true bits set ty (T.LogicalOr' ty p left q right) left right some is.0.0 is is.0 c codes one (done g has alive n ready places fields set left one.0 codes.left_code) is.2 (λ pure. done g has alive n ready places fields set right pure codes.right_code)
      (λ b pure. done (under g b) (registers_under g b has) alive n ready (places_under g b places) (fields_under g b fields.scope fields.same_extents) set right pure codes.right_code) (λ st x. or_number (extents g set) st set ty p q left right x one.0)
      (λ st given other. or_meant fields.scope fields.active set ty p q left right (extents g set) st one.0 given other) (ends, λ s st given early. or_right_ended g has alive n ready places fields set ty p q left right s st one.0 given early)
      (λ pure free st given exists. or_given g has alive n ready places fields set ty p q left right st one.0 pure free given exists))
      (λ calm. let also = beside_scalar set left right calm codes.right_field is.2 in
      mixed_valued g has alive n ready places fields true bits set ty p q left right is.0.0 calm also codes ((done g has alive n ready places fields set right also.0 codes.right_code).tests also.1) ends) is.1)
  done g has alive n ready places fields set (T.LogicalAnd' ty p left q right) is c =
      let codes = and_codes g.typed g.instance alive n set ty p q left right is.0.0 c in
      let ends : (s : CodeState) (st : State) → Ended g s (meant g fields left st) → Ended g s (meant g fields (T.LogicalAnd' ty p left q right) st) = λ s st early. and_ended g has alive n ready places fields ty p q left right s st early in
      by_value g has alive n ready places fields set (T.LogicalAnd' ty p left q right) is refl c (λ bits some most. either
      (λ one. logical_ways g has alive n ready places fields false bits set ty (T.LogicalAnd' ty p left q right) left right some is.0.0 is is.0 c codes one (done g has alive n ready places fields set left one.0 codes.left_code) is.2 (λ pure. done g has alive n ready places fields set right pure codes.right_code)
      (λ b pure. done (under g b) (registers_under g b has) alive n ready (places_under g b places) (fields_under g b fields.scope fields.same_extents) set right pure codes.right_code) (λ st x. and_number (extents g set) st set ty p q left right x one.0)
      (λ st given other. and_meant fields.scope fields.active set ty p q left right (extents g set) st one.0 given other) (ends, λ s st given early. and_right_ended g has alive n ready places fields set ty p q left right s st one.0 given early)
      (λ pure free st given exists. and_given g has alive n ready places fields set ty p q left right st one.0 pure free given exists))
      (λ calm. let also = beside_scalar set left right calm codes.right_field is.2 in
      mixed_valued g has alive n ready places fields false bits set ty p q left right is.0.0 calm also codes ((done g has alive n ready places fields set right also.0 codes.right_code).tests also.1) ends) is.1)
  done g has alive n ready places fields set (T.Binary' ty place op p left q right) is c =
      let parts = binary_parts g alive n places fields ty place op p q left right c in
      binary_done g has alive n ready places fields set ty place op p q left right is c (λ pure. done g has alive n ready places fields set left pure parts.0) (λ pure. done g has alive n ready places fields set right pure parts.1)
  done g has alive n ready places fields set (T.Choice' ty p test q first r second) is c =
      let parts = choice_parts g alive n places fields ty p q r test first second c in
      by_value g has alive n ready places fields set (T.Choice' ty p test q first r second) is refl c (λ bits some most. either
      (λ kinded. choice_valued g has alive n ready places fields bits set ty p q r test first second is kinded c (done g has alive n ready places fields set test kinded.0 parts.0).value
      (λ b pure. (done (under g b) (registers_under g b has) alive n ready (places_under g b places) (fields_under g b fields.scope fields.same_extents) set first pure parts.1).value bits some most)
      (λ b pure. (done (under g b) (registers_under g b has) alive n ready (places_under g b places) (fields_under g b fields.scope fields.same_extents) set second pure parts.2).value bits some most))
      (λ calm. scalar_choice_valued g has alive n ready places fields bits set ty p q r test first second is c calm (λ pure. (done g has alive n ready places fields set first pure parts.1).value bits some most) (λ pure. (done g has alive n ready places fields set second pure parts.2).value bits some most)) is.1)
  done g has alive n ready places fields set (T.Convert' ty p operand) is c = convert_done g has alive n ready places fields set ty p operand is is.0 is.2 is.1 c (done g has alive n ready places fields set operand is.2 (convert_part g alive n places fields ty p operand c))
  done g has alive n ready places fields set (T.ParallelCast' ty p operand) is c =
      let part = convert_part g alive n places fields ty p operand (cast_code g alive n places fields set ty p operand is.0 is.2 c) in
      cast_done g has alive n ready places fields set ty p operand is c (λ pure. done g has alive n ready places fields set operand pure part)
  done g has alive n ready places fields set (T.Pcoord ty axis) is c = by_value g has alive n ready places fields set (T.Pcoord ty axis) is refl c (λ bits some most. coordinate_after g has alive n ready places fields bits set axis ty is)
  done g has alive n ready places fields set (T.Dot ty axis) is c = by_value g has alive n ready places fields set (T.Dot ty axis) is refl c (λ bits some most. dot_after g has alive n ready places fields bits set axis ty is)
  done g has alive n ready places fields set (T.LeftIndex' ty place p indexes x of) is c = by_value g has alive n ready places fields set (T.LeftIndex' ty place p indexes x of) is refl c (λ bits some most. left_index_after g has alive n ready places fields bits set ty place p indexes x of most is (each_after g has alive n ready places fields set indexes (all_coded g has alive n ready places fields ty place p indexes x of c)) c)
  done g has alive n ready places fields set _ is c = absurd is

  -- and so it is of each of the indexes of a get
  pub each_after : {k : _} (g : Setting) (has : HasRegisters g) (alive : Variable → Type 0) (n : ℕ) (ready : (d : Draft) → IsReadyButForFields g.typed g.instance (layout g) n d) (places : PlacesFields g) (fields : HoldsTheFields g) (set : ℕ) (row : Row_of-TExpr k) → AllCoded g has alive n ready places fields row → AllValued g has alive n ready places fields set row
  each_after g has alive n ready places fields set end_of-TExpr coded = tt
  each_after g has alive n ready places fields set (more_of-TExpr index rest) coded = (λ pure. (done g has alive n ready places fields set index pure coded.0).value 32 (omega arith) (omega arith), each_after g has alive n ready places fields set rest coded.1)

module _ (g : Setting) (has : HasRegisters g) (alive : Variable → Type 0) (n : ℕ) (ready : (d : Draft) → IsReadyButForFields g.typed g.instance (layout g) n d) (places : PlacesFields g) (fields : HoldsTheFields g) where
  -- the code of so many bits of a pure expression leaves the lowest bits of its words in a field
  pub pure_after : (bits set : ℕ) (e : TExpr) → 0 < bits → bits ≤ 32 → IsPure set e → HasItsCode g.typed g.instance alive n e → IsValued g has alive n ready places fields bits set e
  pure_after bits set e some most is c = (done g has alive n ready places fields set e is c).value bits some most

  -- an operand of 32 bits has its numbers
  pub whole_after : (bits set : ℕ) (e : TExpr) (quiet : Bool) → 0 < bits → bits ≤ 32 → IsPure set e → IsWide set (type_of e) → HasItsCode g.typed g.instance alive n e → (d : Draft) (s : CodeState) (st : State) → Starts g alive s (length d.code) d.regs (length d.fields) → Sim g alive st s
      → Follows g (Given g (λ q. value_in (extents g set) st e q) st (λ out f. (h : Field) × ((out ≡ O.Field h) × GivesField g alive bits (length d.fields) d s set st (λ q. value_in (extents g set) st e q) h f))) s (meant g fields e st) (operand g has alive n ready places fields bits quiet e d)
  whole_after bits set e quiet some most pure wide c d s st here sim =
      given_weaker g s (meant g fields e st) (λ q. value_in (extents g set) st e q) st (Gave g has alive n ready places fields bits set e d s st) (λ out f. (h : Field) × ((out ≡ O.Field h) × GivesField g alive bits (length d.fields) d s set st (λ q. value_in (extents g set) st e q) h f)) (operand g has alive n ready places fields bits quiet e d)
      (λ out f (h, (is, (gives, apart))). (h, (is, (gives_alike g alive places fields bits (length d.fields) d s set st (λ q. word_at (extents g set) st e q) (λ q. value_in (extents g set) st e q) h f (alike_same g bits set _ _ (λ q below few. sym (pure_at g alive n places fields set e st s sim pure wide c q))) gives).0)))
      (operand_after g has alive n ready places fields bits set e quiet pure c (pure_after bits set e some most pure c) d s st here sim)

  -- the code of the test of a value
  pub condition_tested : (set : ℕ) (e : TExpr) → HasItsKind set e → HasItsCode g.typed g.instance alive n e → (d : Draft) (s : CodeState) (st : State) → Starts g alive s (length d.code) d.regs (length d.fields) → Sim g alive st s
      → Follows g (Given g (λ q. value_in (extents g set) st e q) st (λ _ f. LeavesTests g alive fields d s set st (λ q. value_in (extents g set) st e q) f)) s (meant g fields e st) (tested g.typed (layout g) e d)
  condition_tested set e is c = (done g has alive n ready places fields set e is.0 c).tests is.1

  -- one of one bit gives it to the next instruction
  pub condition_bit : (set : ℕ) (e : TExpr) → HasItsKind set e → (bits_of (kind_of e) == 1) ≡ true → HasItsCode g.typed g.instance alive n e → (d : Draft) (s : CodeState) (st : State) → Starts g alive s (length d.code) d.regs (length d.fields) → Sim g alive st s
      → Follows g (Given g (λ q. value_in (extents g set) st e q) st (Bit g alive places fields d s set st (λ q. value_in (extents g set) st e q))) s (meant g fields e st) (next_of g.typed (layout g) 1 true e d)
  condition_bit set e is one c = kinded_bit g has alive n ready places fields set e is one c ((done g has alive n ready places fields set e is.0 c).value 1 (omega arith) (omega arith))

  -- what comes behind two that are put in fields of one bit
  pub both_flagged : (set : ℕ) (left right : TExpr) → HasItsKind set left → HasItsKind set right → ignores_context right ≡ true → HaveTheirCode g.typed g.instance alive n left right → (d : Draft) (s : CodeState) (st : State) → Starts g alive s (length d.code) d.regs (length d.fields) → Sim g alive st s
      → (Q : Out → Draft → Type 0) (last : Field → Field → Draft → Made Out) → ((f h : Field) (e : Draft) → Extends g e (last f h e))
      → (IsGiven g has alive n ready places fields set left st → set < length (shapes g) → (f h : Field) (e1 e2 : Draft) (one : Truth g alive places fields d s set st (λ q. value_in (extents g set) st left q) f e1) → Truth g alive places fields e1 one.passes.t set st (λ q. value_in (extents g set) st right q) h e2 → After g Q (last f h e2))
      → (Ended g s (meant g fields left st) → (x : Out) (e : Draft) → Q x e)
      → After g Q (then_make (flag_of set (condition_of g.typed (layout g) left) d) (λ f between. then_make (flag_of set (condition_of g.typed (layout g) right) between) (λ h after. last f h after)))
  both_flagged set left right is also free codes = flags_after g has alive n ready places fields set left right is also free codes (done g has alive n ready places fields set left is.0 codes.left_code) (done g has alive n ready places fields set right also.0 codes.right_code)
