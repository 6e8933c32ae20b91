-- A truth value that is assigned: the test flags are stored in a field of one bit, which the last instruction moves to
-- the variable; or the variable is cleared, and its lowest bit written by an operation on two such fields. In a variable
-- of one bit the flags are stored at once, and it is not cleared; and `!` of a value of one bit is its complement there.
use Rattle.std.proofs.Common.{◌≡◌, ◌∙◌, ℕ, ◌+◌, ◌<◌, ◌≤◌, ◌%◌, ◌^◌, ◌==◌, ◌||◌, ◌&&◌, ◌⊎◌, Bool, true, false, not, [], ◌∷◌, length, Option, Some, None, refl, sym, ap, subst, arith, inl, inr, if◌then◌else◌}
use Rattle.std.specs.Int.{from_bool}
use Rattle.std.specs.Prelude.{nat_le, unwrap_or}
use Rattle.std.proofs.lemmas.Bool.{eqb-true}
use Rattle.std.proofs.lemmas.Bool.Decides.{nat_tests}
use Rattle.cstar_base.specs.declared.operators.Op.{Op}
use Rattle.cstar_base.specs.declared.operators.Place.{Place}
use Rattle.cstar_base.specs.Operators.{divides}
use Rattle.cstar_tree.specs.declared.typed.TExpr.{TExpr}
use Rattle.cstar_tree.specs.declared.typed.TExpr as T
use Rattle.cstar_tree.specs.declared.typed.UnaryOp.{UnaryOp}
use Rattle.cstar_tree.specs.declared.typed.UnaryOp.TheVariants as U
use Rattle.cstar_tree.specs.declared.typed.ValueType.{ValueType}
use Rattle.cstar_tree.specs.declared.typed.VarInfo.{VarInfo}
use Rattle.cstar_tree.specs.declared.typed.Variable.{Variable}
use Rattle.code_lengths.specs.Ready.{IsReadyButForFields}
use Rattle.lower_base.specs.declared.emit.Out.{Out}
use Rattle.lower_base.specs.declared.emit.Out.TheVariants as O
use Rattle.lower_base.specs.Drafts.{Draft, Made, Makes, a_field, first_bits, in_field, step as step_of, then_make, with_instr}
use Rattle.lower_base.specs.Kinds.{bits_of, kind_of}
use Rattle.lower_base.specs.Operators.{negates, relates}
use Rattle.lower_expr.specs.Effects.{binary_to, bits_for, cast_to, computed_to, converted_to, field_binary_to, fits_field, goes_unchanged, keeps_bits, logical_to, moved, put_to}
use Rattle.lower_expr.specs.Joined.{cleared, joined, joins, operation_of}
use Rattle.lower_expr.specs.Kinds.{done_as, operand_bits, operation_bits, reads_signed, relation_kind, unary_bits}
use Rattle.lower_expr.specs.Operands.{ignores_context, is_plus, is_quiet, operand_by}
use Rattle.lower_expr.specs.Steps.{field_negated, has_truth, is_kept, negated, word_for, word_put}
use Rattle.lower_expr.specs.Values.{Code, condition_of, extended as extended_of, field_binary_of, fields_by, flag_of, joined_by, joined_of, next_of, relation_by, tested, tested_by, truth_of, truth_put, value_of, zero_tested}
use Rattle.paris_code.specs.declared.instr.Instr.{Instr}
use Rattle.paris_code.specs.declared.instr.Instr.TheVariants as I
use Rattle.paris_code.specs.declared.operands.Konst.TheVariants as K
use Rattle.paris_code.specs.declared.operands.Field.{Field}
use Rattle.paris_code.specs.Code.{CodeState}
use Rattle.paris_code.specs.Memory.{is_active, processors}
use Rattle.paris_code.specs.Spans.{IsNamedAt, StandsAt}
use Rattle.phase_meaning.proofs.Widths.{cut_cut}
use Rattle.source_meaning.specs.Expressions.{evaluated}
use Rattle.source_meaning.specs.State as Source
use Rattle.source_meaning.specs.State.{State}
use Rattle.source_meaning.specs.Values.{Parallel, nonzero, unary_of}
use Rattle.source_meaning.proofs.ConstantLaws.{Boxed}
use Rattle.code_follows.proofs.Following.{Extends, HasRegisters, Sim}
use Rattle.code_follows.proofs.Growing.{Extended, extended}
use Rattle.code_follows.proofs.Settings.{Setting, Within, and_one, earlier, layout}
use Rattle.cstar_tree.specs.Typed.{type_of}
use Rattle.fields_follow.specs.Fragment.{HasItsKind, IsNarrowed, IsPure}
use Rattle.fields_follow.proofs.Starts.{Starts}
use Rattle.fields_follow.proofs.Clearing.{both_pass, field_at, joined_behind, joined_more, variable_joined}
use Rattle.fields_follow.proofs.Conditions.{HaveTheirCode, and_codes, conditions_join, joined_free, joined_kinded, joined_pure, or_codes}
use Rattle.fields_follow.proofs.Sizes.{brackets_part, convert_part, unary_part, value_small}
use Rattle.fields_follow.proofs.Pure.{and_number, or_number}
use Rattle.fields_follow.proofs.Places.{HoldsTheFields, PlacesFields, stands_here}
use Rattle.fields_follow.proofs.Computing.{both_flagged, condition_bit, condition_tested}
use Rattle.fields_follow.proofs.Testing.{and_ended, and_given, or_ended, or_given}
use Rattle.fields_follow.proofs.Expressions.{convert_ended, convert_means, unary_ended}
use Rattle.fields_follow.proofs.Lengths.{relates_plainly}
use Rattle.fields_follow.proofs.Outcomes.{Ended, meant, then_known}
use Rattle.fields_follow.proofs.TruthValues.{IsPlain, IsTruth, bool_nonzero, truth_bit, truth_converted, truth_or_plain, truth_word}
use Rattle.fields_follow.proofs.Effects.{CarriesFrom, computed_last}
use Rattle.fields_follow.proofs.NarrowKinds.{zero_told}
use Rattle.std.proofs.lemmas.Nat.{mod_below}
use Rattle.fields_follow.proofs.Truths.{either_or_both, truth_still}
use Rattle.fields_follow.proofs.ConditionCode.{Bit, Truth, flag_after, put_in, relation_put, stored_behind, zero_put}
use Rattle.fields_follow.proofs.Forms.{HasItsCode, pure_kept}
use Rattle.fields_follow.proofs.Instructions.{AreAlike, Puts, extents, number_in, place, puts_alike, shapes}
use Rattle.fields_follow.proofs.Meaning.{unary_means, value_in, word_at}
use Rattle.fields_follow.proofs.Leaving.{PassesTests}
use Rattle.fields_follow.proofs.Passing.{After, Behind, after_same, code_longer, flags_of, made_after, names_second, names_third}
use Rattle.fields_follow.proofs.PassingTests.{tests_on, tests_passed}
use Rattle.fields_follow.proofs.Variables.{Carries}
use Rattle.fields_follow.proofs.VariableWrites.{entry_and_below}
use Rattle.fields_follow.proofs.Writing.{TakesBehind, instr_takes, takes_landed}
use Rattle.fields_follow.proofs.TestFlags.{LeavesTests, truth_is}
use Rattle.fields_follow.proofs.TruthPuts.{at_once, bit_moved, flag_stored, puts_bit, puts_flags, puts_joined, puts_turned, through_bit}

-- ---- what its code is

-- two bits are joined in one of a word, which is cleared before
abbrev joined_last : Bool → ℕ → ℕ → ℕ → Field → Field → Draft → Made Out
joined_last is_or set offset bits a b e = Makes (O.Field (field_at set offset bits)) (joined_behind is_or set offset bits a b e)

-- in one of a field of one bit alone
abbrev bit_joined : Bool → ℕ → ℕ → Field → Field → Draft → Made Out
bit_joined is_or set offset a b e = Makes (O.Field (field_at set offset 1)) (with_instr (I.Operate (operation_of is_or) (field_at set offset 1) a b) e)

-- one bit takes the complement of another
abbrev bit_turned : ℕ → ℕ → Out → Draft → Made Out
bit_turned set offset v e = in_field v (λ source. Makes (O.Field (field_at set offset 1)) (with_instr (I.Lognot (field_at set offset 1) source) e))

module _ (g : Setting) where
  relation_code : (set offset bits : ℕ) (ty : ValueType) (place : Place) (op : Op) (p q : Boxed) (left right : TExpr) (d : Draft) → ty.shape ≡ Some set → relates op ≡ true → divides op ≡ false
      → computed_to g.typed (layout g) (O.Field (field_at set offset bits)) (T.Binary' ty place op p left q right) d ≡ then_make (truth_of g.typed (layout g) (T.Binary' ty place op p left q right) d) (put_in (field_at set offset bits))
  unfolding computed_to binary_to field_binary_to field_binary_of truth_of fits_field operand_bits
  relation_code set offset bits ty place op p q left right d shaped related no_check =
      ap (λ (c : Bool). if c || operation_bits bits op right == bits then then_make (a_field set (operand_bits bits op left right) d) (λ spare after. field_binary_of g.typed (layout g) bits op place left right f spare after) else moved g.typed (layout g) (O.Field f) (T.Binary' ty place op p left q right) d) related
      ∙ ap (λ (c : Bool). let k : ℕ = if c then bits_of (relation_kind left right) else operation_bits bits op right in
      then_make (a_field set k d) (λ spare after. fields_by op (reads_signed op left right) place f spare (operand_by g.typed (layout g) k (value_of g.typed (layout g) k left) (is_quiet right) left) left (operand_by g.typed (layout g) k (value_of g.typed (layout g) k right) true right) right after)) related
      ∙ relation_put set op place f first left second right d related no_check
      ∙ sym (ap (λ (o : Option ℕ). then_make (relation_by (unwrap_or o 0) op first left second right d) (put_in f)) shaped)
    where
      f : Field
      f = field_at set offset bits

      first : Code
      first = operand_by g.typed (layout g) (bits_of (relation_kind left right)) (value_of g.typed (layout g) (bits_of (relation_kind left right)) left) (is_quiet right) left

      second : Code
      second = operand_by g.typed (layout g) (bits_of (relation_kind left right)) (value_of g.typed (layout g) (bits_of (relation_kind left right)) right) true right

  not_code : (set offset bits : ℕ) (ty : ValueType) (p : Boxed) (op : UnaryOp) (operand : TExpr) (d : Draft) → negates op ≡ true → (bits == 1 && bits_of (kind_of operand) == 1) ≡ false → is_kept operand ≡ false
      → computed_to g.typed (layout g) (O.Field (field_at set offset bits)) (T.Unary' ty op p operand) d ≡ then_make (truth_of g.typed (layout g) (T.Unary' ty op p operand) d) (put_in (field_at set offset bits))
  unfolding computed_to truth_of is_plus negates unary_bits bits_for done_as zero_tested
  not_code set offset bits ty p U.Not operand d e no_bit fresh =
      ap done (ap (λ (b : Bool). bits == 1 && (not b && bits_of (kind_of operand) == 1)) fresh ∙ no_bit) ∙ zero_put (layout g) (field_at set offset bits) (next_of g.typed (layout g) (bits_of (kind_of operand)) true operand d)
    where
      done : Bool → Made Out
      done b = then_make (next_of g.typed (layout g) (bits_of (kind_of operand)) true operand d) (λ v after. negated (layout g) (if b then U.Complement else U.Not) (O.Field (field_at set offset bits)) v after)
  not_code set offset bits ty p U.Plus operand d e no_bit fresh = cc
  not_code set offset bits ty p U.Minus operand d e no_bit fresh = cc
  not_code set offset bits ty p U.Complement operand d e no_bit fresh = cc

  bit_not_code : (set offset : ℕ) (ty : ValueType) (p : Boxed) (op : UnaryOp) (operand : TExpr) (d : Draft) → negates op ≡ true → (bits_of (kind_of operand) == 1) ≡ true → is_kept operand ≡ false
      → computed_to g.typed (layout g) (O.Field (field_at set offset 1)) (T.Unary' ty op p operand) d ≡ then_make (next_of g.typed (layout g) 1 true operand d) (bit_turned set offset)
  unfolding computed_to is_plus negates unary_bits bits_for done_as negated field_negated
  bit_not_code set offset ty p U.Not operand d e bit fresh =
      ap (λ (b : Bool). done (not b && bits_of (kind_of operand) == 1) (bits_of (kind_of operand))) fresh ∙ ap (λ (b : Bool). done b (bits_of (kind_of operand))) bit
      ∙ ap (λ (m : ℕ). done true m) (eqb-true (bits_of (kind_of operand)) 1 bit)
    where
      done : Bool → ℕ → Made Out
      done b m = then_make (next_of g.typed (layout g) m true operand d) (λ v after. negated (layout g) (if b then U.Complement else U.Not) (O.Field (field_at set offset 1)) v after)
  bit_not_code set offset ty p U.Plus operand d e bit fresh = cc
  bit_not_code set offset ty p U.Minus operand d e bit fresh = cc
  bit_not_code set offset ty p U.Complement operand d e bit fresh = cc

  -- two conditions joined
  joined_code : (is_or : Bool) (set offset bits : ℕ) (e left right : TExpr) (d : Draft) → joins left right ≡ true → (bits == 1) ≡ false
      → logical_to g.typed (layout g) (O.Field (field_at set offset bits)) e is_or left right d
      ≡ then_make (flag_of set (condition_of g.typed (layout g) left) d) (λ a between. then_make (flag_of set (condition_of g.typed (layout g) right) between) (λ b after. joined_last is_or set offset bits a b after))
  unfolding logical_to joined_of joined_by joined cleared first_bits
  joined_code is_or set offset bits e left right d join several =
      ap (λ (c : Bool). if c then joined_of g.typed (layout g) is_or (field_at set offset bits) left right d else moved g.typed (layout g) (O.Field (field_at set offset bits)) e d) join
      ∙ ap (λ (c : Bool). then_make (flag_of set (condition_of g.typed (layout g) left) d) (λ a between. then_make (flag_of set (condition_of g.typed (layout g) right) between) (λ b after.
      Makes (O.Field (field_at set offset bits)) (with_instr (I.Operate (operation_of is_or) (field_at set offset 1) a b) (if c then after else with_instr (I.MoveConstant (field_at set offset bits) (K.Imm 0)) after))))) several

  joined_bit_code : (is_or : Bool) (set offset : ℕ) (e left right : TExpr) (d : Draft) → joins left right ≡ true
      → logical_to g.typed (layout g) (O.Field (field_at set offset 1)) e is_or left right d
      ≡ then_make (flag_of set (condition_of g.typed (layout g) left) d) (λ a between. then_make (flag_of set (condition_of g.typed (layout g) right) between) (λ b after. bit_joined is_or set offset a b after))
  unfolding logical_to joined_of joined_by joined cleared first_bits
  joined_bit_code is_or set offset e left right d join = ap (λ (c : Bool). if c then joined_of g.typed (layout g) is_or (field_at set offset 1) left right d else moved g.typed (layout g) (O.Field (field_at set offset 1)) e d) join

  -- ---- what it means, and what its code leaves

  module _ (has : HasRegisters g) (alive : Variable → Type 0) (n : ℕ) (ready : (d : Draft) → IsReadyButForFields g.typed g.instance (layout g) n d) (places : PlacesFields g) (fields : HoldsTheFields g) where
    -- What is said where a truth value goes to a variable, behind code of conditions, is said of its code.
    module _ (set offset bits : ℕ) (x : Variable) (living : alive x) (info : VarInfo) (some : 0 < bits) (d : Draft) (s : CodeState) (st : State) (here : Starts g alive s (length d.code) d.regs (length d.fields)) (sim : Sim g alive st s) (carries : CarriesFrom g has alive n ready places fields x info set (field_at set offset bits) d) (Q : Out → Draft → Type 0) where
      abbrev f : Field
      f = field_at set offset bits

      abbrev words_of : TExpr → ℕ → ℕ
      words_of e = λ q. value_in (extents g set) st e q

      -- the source gives them
      abbrev IsGiven : TExpr → Type 0
      IsGiven e = meant g fields e st ≡ Source.Gives (Parallel (words_of e)) st

      abbrev Last : TExpr → Type 1
      Last e = IsGiven e → (e2 f2 : Draft) (used : Type 0) → Within g f2 → (p : PassesTests g alive d e2 s st used) → used → TakesBehind g set f e2 f2 p.t (words_of e) → Q (O.Field f) f2

      -- and what is said where it ends early
      abbrev Ends : TExpr → Type 0
      Ends e = Ended g s (meant g fields e st) → (x : Out) (e2 : Draft) → Q x e2

      -- the field carries the variable behind such code
      carried : (m : ℕ) (e2 f2 : Draft) (used : Type 0) → PassesTests g alive d e2 s st used → Extended e2 m f2 → Within g f2 → Carries g alive x info set f
      carried m e2 f2 used p more within = carries f2 (p.grown.0 + m) (extended d e2 f2 p.grown.0 m p.grown.1 more) within

      -- by an instruction behind it
      takes_behind : (len : ℕ) → len ≡ bits → (i : Instr) (e2 : Draft) (v : ℕ → ℕ) (used : Type 0) (p : PassesTests g alive d e2 s st used) → Within g (with_instr i e2) → Puts g set i (field_at set offset len) p.t v → TakesBehind g set f e2 (with_instr i e2) p.t v
      takes_behind len same i e2 v used p within puts =
          instr_takes g set i f e2 p.t v (entry_and_below g places fields alive x info set f (carried 1 e2 (with_instr i e2) used p (and_one g i e2) within)) within p.at.stands (subst (λ (m : ℕ). Puts g set i (field_at set offset m) p.t v) same puts)

      is_bit : (n : ℕ) → n < 2 ^ 1 → (b : Bool) → (n == 0) ≡ b → n ≡ from_bool (not (n == 0))
      is_bit n few true e = eqb-true n 0 e ∙ sym (ap (λ (b : Bool). from_bool (not b)) e)
      is_bit n few false e = (let one : n ≡ 1 = grind (arith, nat_tests, few, e) in one) ∙ sym (ap (λ (b : Bool). from_bool (not b)) e)

      -- by its test, and a bit that is moved, or the flags
      by_tests : (e inner : TExpr) → HasItsKind set inner → HasItsCode g.typed g.instance alive n inner → ((q : ℕ) → words_of e q ≡ from_bool (nonzero (words_of e q))) → ((q : ℕ) → q < processors (shapes g) set → nonzero (words_of inner q) ≡ nonzero (words_of e q))
          → (IsGiven inner → IsGiven e) → (Ended g s (meant g fields inner st) → Ended g s (meant g fields e st)) → computed_to g.typed (layout g) (O.Field f) e d ≡ then_make (tested g.typed (layout g) inner d) (put_in f) → Last e → Ends e → After g Q (computed_to g.typed (layout g) (O.Field f) e d)
      unfolding step_of Extends
      by_tests e inner is c truth same_truth gives ends code last ended = after_same g Q code (by (bits == 1) refl)
        where
          tests : Made (Unit {0})
          tests = tested g.typed (layout g) inner d

          bit_put : (len : ℕ) → len ≡ bits → len ≡ 1 → After g Q (then_make tests (put_in (field_at set offset len)))
          bit_put len same one =
              after_same g Q (ap (λ (n : ℕ). then_make tests (put_in (field_at set offset n))) one ∙ at_once set offset tests)
              (then_known g s (meant g fields inner st) (words_of inner) st (λ _ x. LeavesTests g alive fields d s set st (words_of inner) x) Q tests (flag_stored (field_at set offset 1)) (condition_tested g has alive n ready places fields set inner is c d s st here sim) (λ x e2. (1, and_one g (I.StoreTest (field_at set offset 1)) e2))
              (λ given x e2 left. made_after g Q (O.Field (field_at set offset 1)) (with_instr (I.StoreTest (field_at set offset 1)) e2) (λ within.
              let is_one : bits ≡ 1 = sym same ∙ one in
              let puts : Puts g set (I.StoreTest (field_at set offset 1)) (field_at set offset 1) left.leaves.t (words_of e) =
              puts_flags g set offset left.leaves.t (words_of e)
              (λ q below on. left.flags q below (sym (flags_of g alive places fields st left.leaves.t set q left.leaves.sim (carried 1 e2 (with_instr (I.StoreTest (field_at set offset 1)) e2) (Unit {0}) left.leaves (and_one g (I.StoreTest (field_at set offset 1)) e2) within).exists below) ∙ on) ∙ same_truth q below) truth in
              subst (λ (m : ℕ). Q (O.Field (field_at set offset m)) (with_instr (I.StoreTest (field_at set offset 1)) e2)) is_one
              (last (gives given) e2 (with_instr (I.StoreTest (field_at set offset 1)) e2) (Unit {0}) within left.leaves tt (takes_behind 1 (sym is_one) (I.StoreTest (field_at set offset 1)) e2 (words_of e) (Unit {0}) left.leaves within puts)))) (λ early. ended (ends early)))

          by : (b : Bool) → (bits == 1) ≡ b → After g Q (then_make tests (put_in f))
          by true one = bit_put bits refl (eqb-true bits 1 one)
          by false several =
              after_same g Q (through_bit set offset bits tests several)
              (then_known g s (meant g fields inner st) (words_of inner) st (Truth g alive places fields d s set st (words_of inner)) Q (then_make tests (stored_behind set)) (bit_moved f) (flag_after g alive places fields (meant g fields inner st) (words_of inner) set (words_of inner) d s st tests (condition_tested g has alive n ready places fields set inner is c d s st here sim))
              (λ kept e2. (1, and_one g (I.Move false f kept) e2))
              (λ given kept e2 bit. made_after g Q (O.Field f) (with_instr (I.Move false f kept) e2) (λ within.
              let behind : Behind g kept e2 = (length e2.code, (names_second g (I.Move false f kept) f kept [] (length e2.code) (stands_here g (I.Move false f kept) e2 within refl) refl, omega arith)) in
              last (gives given) e2 (with_instr (I.Move false f kept) e2) (Behind g kept e2) within bit.passes behind
              (takes_behind bits refl (I.Move false f kept) e2 (words_of e) (Behind g kept e2) bit.passes within
              (puts_bit g set f kept bit.passes.t (words_of e) bit.len (λ q below on. bit.are behind q below (sym (flags_of g alive places fields st bit.passes.t set q bit.passes.sim bit.exists below) ∙ on) ∙ ap from_bool (same_truth q below)) truth)))) (λ early. ended (ends early)))

      by_test : (e : TExpr) → HasItsKind set e → has_truth e ≡ true → HasItsCode g.typed g.instance alive n e → ((q : ℕ) → words_of e q ≡ from_bool (nonzero (words_of e q)))
          → computed_to g.typed (layout g) (O.Field f) e d ≡ then_make (truth_of g.typed (layout g) e d) (put_in f) → Last e → Ends e → After g Q (computed_to g.typed (layout g) (O.Field f) e d)
      unfolding tested_by
      by_test e is told c truth code last ended =
          by_tests e e is c truth (λ q below. refl) (λ given. given) (λ early. early) (code ∙ sym (ap (λ (b : Bool). then_make (tested_by b (truth_of g.typed (layout g) e) (next_of g.typed (layout g) (bits_of (kind_of e)) true e) d) (put_in f)) told)) last ended

      -- by the complement of a bit
      by_complement : (e operand : TExpr) → HasItsKind set operand → (bits_of (kind_of operand) == 1) ≡ true → HasItsCode g.typed g.instance alive n operand → ◌≡◌ {A = ℕ → ℕ} (λ q. from_bool (words_of operand q == 0)) (words_of e)
          → computed_to g.typed (layout g) (O.Field (field_at set offset 1)) e d ≡ then_make (next_of g.typed (layout g) 1 true operand d) (bit_turned set offset) → bits ≡ 1 → (IsGiven operand → IsGiven e) → (Ended g s (meant g fields operand st) → Ended g s (meant g fields e st)) → Last e → Ends e → After g Q (computed_to g.typed (layout g) (O.Field f) e d)
      unfolding Extends step_of in_field
      by_complement e operand is one c value code is_one gives ends last ended =
          after_same g Q (ap (λ (m : ℕ). computed_to g.typed (layout g) (O.Field (field_at set offset m)) e d) is_one ∙ code)
          (then_known g s (meant g fields operand st) (words_of operand) st (Bit g alive places fields d s set st (words_of operand)) Q (next_of g.typed (layout g) 1 true operand d) (bit_turned set offset) (condition_bit g has alive n ready places fields set operand is one c d s st here sim) grows
          (λ given x e2 (a, (same, bit)). after_same g Q (ap (λ (o : Out). bit_turned set offset o e2) same)
          (made_after g Q (O.Field (field_at set offset 1)) (with_instr (I.Lognot (field_at set offset 1) a) e2) (λ within.
          let i : Instr = I.Lognot (field_at set offset 1) a in
          let behind : Behind g a e2 = (length e2.code, (names_second g i _ a [] (length e2.code) (stands_here g i e2 within refl) refl, omega arith)) in
          let puts : Puts g set i (field_at set offset 1) bit.passes.t (words_of e) =
          subst (λ (v : ℕ → ℕ). Puts g set i (field_at set offset 1) bit.passes.t v) value
          (puts_turned g set offset a bit.passes.t (words_of operand) (λ q below on. bit.are behind q below (sym (flags_of g alive places fields st bit.passes.t set q bit.passes.sim bit.exists below) ∙ on))) in
          subst (λ (m : ℕ). Q (O.Field (field_at set offset m)) (with_instr i e2)) is_one
          (last (gives given) e2 (with_instr i e2) (Behind g a e2) within bit.passes behind (takes_behind 1 (sym is_one) i e2 (words_of e) (Behind g a e2) bit.passes within puts))))) (λ early. ended (ends early)))
        where
          grows : (x : Out) (e2 : Draft) → Extends g e2 (bit_turned set offset x e2)
          grows (O.Field a) e2 = (1, and_one g (I.Lognot (field_at set offset 1) a) e2)
          grows (O.Scalar r) e2 = tt
          grows O.Nothing e2 = tt

      -- by the operation on two bits
      by_operation : (is_or : Bool) (e left right : TExpr) → HasItsKind set left → HasItsKind set right → ignores_context right ≡ true → HaveTheirCode g.typed g.instance alive n left right
          → ◌≡◌ {A = ℕ → ℕ} (λ q. from_bool (either_or_both is_or (nonzero (words_of left q)) (nonzero (words_of right q)))) (words_of e) → (IsGiven left → set < length (shapes g) → IsGiven e) → (Ended g s (meant g fields left st) → Ended g s (meant g fields e st)) → Last e → Ends e → After g Q (logical_to g.typed (layout g) (O.Field f) e is_or left right d)
      unfolding Extends step_of tests_on
      by_operation is_or e left right is also same codes value gives ends last ended = by (bits == 1) refl
        where
          join : joins left right ≡ true
          join = conditions_join set left right is.0 also.0 same

          bit_put : (len : ℕ) → len ≡ bits → len ≡ 1 → After g Q (logical_to g.typed (layout g) (O.Field (field_at set offset len)) e is_or left right d)
          bit_put len len_is one =
              after_same g Q (ap (λ (m : ℕ). logical_to g.typed (layout g) (O.Field (field_at set offset m)) e is_or left right d) one ∙ joined_bit_code is_or set offset e left right d join)
              (both_flagged g has alive n ready places fields set left right is also same codes d s st here sim Q (λ a b e2. bit_joined is_or set offset a b e2) (λ a b e2. (1, and_one g (I.Operate (operation_of is_or) (field_at set offset 1) a b) e2))
              (λ given exists a b e1 e2 left_bit right_bit. made_after g Q (O.Field (field_at set offset 1)) (with_instr (I.Operate (operation_of is_or) (field_at set offset 1) a b) e2) (λ within.
              let i : Instr = I.Operate (operation_of is_or) (field_at set offset 1) a b in
              let is_one : bits ≡ 1 = sym len_is ∙ one in
              let there : StandsAt g.unit (length e2.code) i = stands_here g i e2 within refl in
              let named_a : IsNamedAt g.unit a.offset (length e2.code) = names_second g i _ a (b ∷ []) (length e2.code) there refl in
              let behind_b : Behind g b e2 = (length e2.code, (names_third g i _ a b [] (length e2.code) there refl, omega arith)) in
              let longer = code_longer e1 e2 right_bit.passes.grown.0 right_bit.passes.grown.1 in
              let early : Behind g a e1 = (length e2.code, (named_a, longer)) in
              let passes : PassesTests g alive d e2 s st (Unit {0}) = tests_on g alive d e1 e2 s st (Behind g a e1) (Behind g b e2) (Unit {0}) left_bit.passes right_bit.passes (λ u. early) (λ u. behind_b) in
              let still : (q : ℕ) → q < processors (shapes g) set → number_in g a right_bit.passes.t q ≡ number_in g a left_bit.passes.t q = λ q below. truth_still g alive places fields d e1 e2 s set st (words_of left) a (Behind g b e2) (length e2.code) left_bit right_bit.passes behind_b named_a (omega arith) q below in
              let on : (q : ℕ) → q < processors (shapes g) set → is_active (shapes g) right_bit.passes.t.memory set q ≡ true → fields.active set q ≡ true = λ q below active. sym (flags_of g alive places fields st right_bit.passes.t set q right_bit.passes.sim right_bit.exists below) ∙ active in
              let puts : Puts g set i (field_at set offset 1) right_bit.passes.t (words_of e) =
              subst (λ (v : ℕ → ℕ). Puts g set i (field_at set offset 1) right_bit.passes.t v) value
              (puts_joined g is_or set offset a b right_bit.passes.t (words_of left) (words_of right) (λ q below active. still q below ∙ left_bit.are early q below (on q below active)) (λ q below active. right_bit.are behind_b q below (on q below active))) in
              subst (λ (m : ℕ). Q (O.Field (field_at set offset m)) (with_instr i e2)) is_one
              (last (gives given exists) e2 (with_instr i e2) (Unit {0}) within passes tt (takes_behind 1 (sym is_one) i e2 (words_of e) (Unit {0}) passes within puts)))) (λ early. ended (ends early)))

          by : (b : Bool) → (bits == 1) ≡ b → After g Q (logical_to g.typed (layout g) (O.Field f) e is_or left right d)
          by true one = bit_put bits refl (eqb-true bits 1 one)
          by false several =
              after_same g Q (joined_code is_or set offset bits e left right d join several)
              (both_flagged g has alive n ready places fields set left right is also same codes d s st here sim Q (λ a b e2. joined_last is_or set offset bits a b e2) (λ a b e2. (2, joined_more g is_or set offset bits a b e2)) (λ given exists a b e1 e2 one two. made_after g Q (O.Field f) (joined_behind is_or set offset bits a b e2) (λ within.
              let many : 1 < bits = let some_bits = some in grind (arith, nat_tests, several, some_bits) in
              let both = both_pass g places fields alive set offset bits some is_or a b d e1 e2 s st (words_of left) (words_of right) one two within in
              let (passes, takes) = variable_joined g places fields alive set offset bits many x living info (carried 2 e2 (joined_behind is_or set offset bits a b e2) (Unit {0}) both (joined_more g is_or set offset bits a b e2) within) is_or a b d e1 e2 s st (words_of left) (words_of right) here one two within in
              last (gives given exists) e2 (joined_behind is_or set offset bits a b e2) (Unit {0}) within passes tt (subst (λ (v : ℕ → ℕ). TakesBehind g set f e2 (joined_behind is_or set offset bits a b e2) passes.t v) value takes))) (λ early. ended (ends early)))

      truth_computed : (e : TExpr) → IsTruth set bits e → HasItsCode g.typed g.instance alive n e → Last e → Ends e → After g Q (computed_to g.typed (layout g) (O.Field f) e d)
      unfolding IsTruth IsPure IsNarrowed is_plus computed_to value_in has_truth goes_unchanged keeps_bits negates unary_of evaluated converted_to cast_to truth_put tests_passed
      truth_computed (T.Brackets' ty p inner) is c last ended = truth_computed inner is.1 (brackets_part g alive n places fields ty p inner c) last ended
      truth_computed (T.Convert' ty p inner) is c last ended = by is.1 (λ part code final early. truth_computed inner part code final early)
        where
          kept : (a : Bool) → a ≡ true → (b c : Bool) → b ≡ false → (a && (not b || c)) ≡ true
          kept true e false c h = refl
          kept true e true c h = cc
          kept false e b c h = cc

          whole : TExpr
          whole = T.Convert' ty p inner

          goes : Bool → Made Out
          goes b = if b then computed_to g.typed (layout g) (O.Field f) inner d else converted_to g.typed (layout g) (O.Field f) whole ty.elem inner d

          unchanged : Bool
          unchanged = nat_le bits ty.elem.bits && (not (ty.elem.bits == 1) || bits_of (kind_of inner) == 1)

          both_so : (a b c : Bool) → b ≡ true → (a && (not b || c)) ≡ true → (a ≡ true) × (c ≡ true)
          both_so true true true e h = (refl, refl)
          both_so a false c e h = cc
          both_so false true c e h = cc
          both_so true true false e h = cc

          OfInner : Type 1
          OfInner = IsTruth set bits inner → HasItsCode g.typed g.instance alive n inner → Last inner → Ends inner → After g Q (computed_to g.typed (layout g) (O.Field f) inner d)

          of_truth : unchanged ≡ true → IsTruth set bits inner → OfInner → After g Q (computed_to g.typed (layout g) (O.Field f) whole d)
          of_truth stays truth of_inner =
              after_same g Q (ap (λ (b : Bool). if b then computed_to g.typed (layout g) (O.Field f) inner d else converted_to g.typed (layout g) (O.Field f) (T.Convert' ty p inner) ty.elem inner d) stays)
              (of_inner truth (convert_part g alive n places fields ty p inner c)
              (λ given e2 f2 used within passes wanted takes. last (convert_means g has alive n ready places fields set ty p inner st is.0 given) e2 f2 used within passes wanted (subst (λ (v : ℕ → ℕ). TakesBehind g set f e2 f2 passes.t v) (λ j q. sym (truth_converted (extents g set) st set bits ty.elem inner q truth) j) takes)) (λ early. ended (convert_ended g has alive n ready places fields ty p inner s st early)))

          part_code : HasItsCode g.typed g.instance alive n inner
          part_code = convert_part g alive n places fields ty p inner c

          -- of more than one bit, by its test
          by_bool : (ty.elem.bits ≡ 1) × HasItsKind set inner → unchanged ≡ false → After g Q (computed_to g.typed (layout g) (O.Field f) whole d)
          by_bool bool_of changed =
              by_tests whole inner bool_of.1 part_code (λ q. truth_bit (extents g set) st set bits whole q is)
              (λ q below. bool_nonzero ty.elem (type_of inner).elem (words_of inner q) bool_of.0 (value_small g alive n places fields set inner st s sim bool_of.1.0 part_code q))
              (λ given. convert_means g has alive n ready places fields set ty p inner st is.0 given) (λ early. convert_ended g has alive n ready places fields ty p inner s st early)
              (ap goes changed
              ∙ ap (λ (b : Bool). if b then moved g.typed (layout g) (O.Field f) whole d else if ty.elem.bits == 1 then truth_put f (tested g.typed (layout g) inner) d else extended_of ty.elem.signed f (next_of g.typed (layout g) ty.elem.bits true inner) d) (pure_kept set inner bool_of.1.0)
              ∙ ap (λ (m : ℕ). if m == 1 then truth_put f (tested g.typed (layout g) inner) d else extended_of ty.elem.signed f (next_of g.typed (layout g) ty.elem.bits true inner) d) bool_of.0)
              last ended

          -- of one bit, as that is computed
          by_bit : (ty.elem.bits ≡ 1) × HasItsKind set inner → IsPlain bits inner → unchanged ≡ true → bits ≡ 1 → bits_of (kind_of inner) ≡ 1 → After g Q (computed_to g.typed (layout g) (O.Field f) whole d)
          by_bit bool_of plain stays one flag =
              after_same g Q (ap goes stays)
              (computed_last g has alive n ready places fields set offset bits inner some (omega (arith, one)) bool_of.1.0 plain part_code d s st here sim Q
              (λ given e2 i end within passes puts lands. last (convert_means g has alive n ready places fields set ty p inner st is.0 given) e2 end (Unit {0}) within (tests_passed g alive (length d.fields) d e2 s st (Unit {0}) (omega arith) passes) tt
              (takes_landed g set f e2 (with_instr i e2) end passes.t (words_of whole) lands (takes_behind bits refl i e2 (words_of whole) (Unit {0}) (tests_passed g alive (length d.fields) d e2 s st (Unit {0}) (omega arith) passes) (earlier g (with_instr i e2) end lands.more.0 lands.more.1 within) (puts_alike g set i f passes.t (λ q. word_at (extents g set) st inner q) (words_of whole) alike puts))))
              (λ early. ended (convert_ended g has alive n ready places fields ty p inner s st early)))
            where
              alike : AreAlike g bits set (λ q. word_at (extents g set) st inner q) (words_of whole)
              alike q below few =
                  let m : ℕ = word_at (extents g set) st inner q % 2 ^ 1 in
                  let tells : (m == 0) ≡ (words_of inner q == 0) = ap (λ (k : ℕ). word_at (extents g set) st inner q % 2 ^ k == 0) (sym flag) ∙ zero_told g alive n places fields set inner st s sim (inl bool_of.1.0) (inl bool_of.1.1) part_code q in
                  let is_m : words_of whole q ≡ m =
                  truth_bit (extents g set) st set bits whole q is ∙ ap from_bool (sym (bool_nonzero ty.elem (type_of inner).elem (words_of inner q) bool_of.0 (value_small g alive n places fields set inner st s sim bool_of.1.0 part_code q)))
                  ∙ ap (λ (b : Bool). from_bool (not b)) (sym tells) ∙ sym (is_bit m (mod_below (word_at (extents g set) st inner q) (2 ^ 1) (omega arith)) (m == 0) refl) in (
                    ap (λ (k : ℕ). k % 2 ^ bits) is_m ∙ ap (λ (k : ℕ). m % 2 ^ k) one ∙ cut_cut (word_at (extents g set) st inner q) 1 1 (omega arith) ∙ ap (λ (k : ℕ). word_at (extents g set) st inner q % 2 ^ k) (sym one),
                    (let low = mod_below (word_at (extents g set) st inner q) (2 ^ 1) (omega arith) in omega (arith, is_m, low)),
                  )

          by : ((bits ≤ ty.elem.bits) × ((ty.elem.bits == 1) ≡ false) × IsTruth set bits inner) ⊎ ((ty.elem.bits ≡ 1) × HasItsKind set inner) → OfInner → After g Q (computed_to g.typed (layout g) (O.Field f) whole d)
          by (inl part) of_inner = of_truth (kept (nat_le bits ty.elem.bits) (let long = part.0 in grind (arith, nat_tests, long)) (ty.elem.bits == 1) (bits_of (kind_of inner) == 1) part.1) part.2 of_inner
          by (inr bool_of) of_inner = chosen unchanged refl
            where
              chosen : (b : Bool) → unchanged ≡ b → After g Q (computed_to g.typed (layout g) (O.Field f) whole d)
              chosen false changed = by_bool bool_of changed
              chosen true stays = kind_of_it (truth_or_plain set bits inner bool_of.1.0)
                where
                  so : (nat_le bits ty.elem.bits ≡ true) × ((bits_of (kind_of inner) == 1) ≡ true)
                  so = both_so (nat_le bits ty.elem.bits) (ty.elem.bits == 1) (bits_of (kind_of inner) == 1) (ap (λ (m : ℕ). m == 1) bool_of.0) stays

                  less : bits ≤ ty.elem.bits
                  less = let long = so.0 in grind (arith, nat_tests, long)

                  kind_of_it : IsTruth set bits inner ⊎ IsPlain bits inner → After g Q (computed_to g.typed (layout g) (O.Field f) whole d)
                  kind_of_it (inr plain) = by_bit bool_of plain stays (let wide = bool_of.0 in omega (arith, less, some, wide)) (eqb-true (bits_of (kind_of inner)) 1 so.1)
                  kind_of_it (inl truth) = of_truth stays truth of_inner
      truth_computed (T.Unary' ty op p operand) is c last ended = chosen op is.1 c last ended (λ part code final early. truth_computed operand part code final early)
        where
          part_of : (o : UnaryOp) → HasItsCode g.typed g.instance alive n (T.Unary' ty o p operand) → HasItsCode g.typed g.instance alive n operand
          part_of o code = unary_part g alive n places fields ty o p operand code

          -- `!`
          negates_it : HasItsKind set operand → HasItsCode g.typed g.instance alive n (T.Unary' ty U.Not p operand) → Last (T.Unary' ty U.Not p operand) → Ends (T.Unary' ty U.Not p operand) → After g Q (computed_to g.typed (layout g) (O.Field f) (T.Unary' ty U.Not p operand) d)
          negates_it condition code last ended = by (bits == 1) (bits_of (kind_of operand) == 1) refl refl
            where
              whole : TExpr
              whole = T.Unary' ty U.Not p operand

              tests : (bits == 1 && bits_of (kind_of operand) == 1) ≡ false → After g Q (computed_to g.typed (layout g) (O.Field f) whole d)
              tests no_bit =
                  by_test whole ((is.0, inr (refl, condition.1), condition.0), inr refl) refl code (λ q. truth_is _) (not_code set offset bits ty p U.Not operand d refl no_bit (pure_kept set operand condition.0)) last ended

              by : (a b : Bool) → (bits == 1) ≡ a → (bits_of (kind_of operand) == 1) ≡ b → After g Q (computed_to g.typed (layout g) (O.Field f) whole d)
              by true true one bit =
                  by_complement whole operand condition bit (part_of U.Not code) refl (bit_not_code set offset ty p U.Not operand d refl bit (pure_kept set operand condition.0)) (eqb-true bits 1 one)
                  (λ given. unary_means fields.scope fields.active set ty U.Not p operand (words_of operand) st is.0.0 given) (λ early. unary_ended g has alive n ready places fields ty U.Not p operand s st early) last ended
              by true false one bit = tests (ap (λ (b : Bool). bits == 1 && b) bit ∙ ap (λ (b : Bool). b && false) one)
              by false b one bit = tests (ap (λ (a : Bool). a && bits_of (kind_of operand) == 1) one)

          OfOperand : Type 1
          OfOperand = IsTruth set bits operand → HasItsCode g.typed g.instance alive n operand → Last operand → Ends operand → After g Q (computed_to g.typed (layout g) (O.Field f) operand d)

          chosen : (o : UnaryOp) → ((is_plus o ≡ true) × IsTruth set bits operand) ⊎ ((negates o ≡ true) × HasItsKind set operand) → HasItsCode g.typed g.instance alive n (T.Unary' ty o p operand) → Last (T.Unary' ty o p operand) → Ends (T.Unary' ty o p operand) → OfOperand
              → After g Q (computed_to g.typed (layout g) (O.Field f) (T.Unary' ty o p operand) d)
          chosen U.Plus (inl h) code last ended of_operand =
              of_operand h.1 (part_of U.Plus code) (λ given. last (unary_means fields.scope fields.active set ty U.Plus p operand (words_of operand) st is.0.0 given)) (λ early. ended (unary_ended g has alive n ready places fields ty U.Plus p operand s st early))
          chosen U.Minus (inl h) code last ended of_operand = let wrong = h.0 in cc
          chosen U.Complement (inl h) code last ended of_operand = let wrong = h.0 in cc
          chosen U.Not (inl h) code last ended of_operand = let wrong = h.0 in cc
          chosen U.Not (inr h) code last ended of_operand = negates_it h.1 code last ended
          chosen U.Plus (inr h) code last ended of_operand = let wrong = h.0 in cc
          chosen U.Minus (inr h) code last ended of_operand = let wrong = h.0 in cc
          chosen U.Complement (inr h) code last ended of_operand = let wrong = h.0 in cc
      truth_computed (T.LogicalOr' ty p left q right) is c last ended =
          let one = joined_pure set left right is.0.1 is.1 in
          let also = joined_kinded set left right is.0.2 is.1 in
          let free = joined_free left right is.1 in
          by_operation true (T.LogicalOr' ty p left q right) left right one also free (or_codes g.typed g.instance alive n set ty p q left right is.0.0.0 c) (λ j x. or_number (extents g set) st set ty p q left right x one.0 j) (λ given exists. or_given g has alive n ready places fields set ty p q left right st one.0 also.0 free given exists)
          (λ early. or_ended g has alive n ready places fields ty p q left right s st early) last ended
      truth_computed (T.LogicalAnd' ty p left q right) is c last ended =
          let one = joined_pure set left right is.0.1 is.1 in
          let also = joined_kinded set left right is.0.2 is.1 in
          let free = joined_free left right is.1 in
          by_operation false (T.LogicalAnd' ty p left q right) left right one also free (and_codes g.typed g.instance alive n set ty p q left right is.0.0.0 c) (λ j x. and_number (extents g set) st set ty p q left right x one.0 j) (λ given exists. and_given g has alive n ready places fields set ty p q left right st one.0 also.0 free given exists)
          (λ early. and_ended g has alive n ready places fields ty p q left right s st early) last ended
      truth_computed (T.Binary' ty place op p left q right) is c last ended =
          by_test (T.Binary' ty place op p left q right) (is.1, inr (inl is.0)) is.0 c (λ x. truth_bit (extents g set) st set bits (T.Binary' ty place op p left q right) x is) (relation_code set offset bits ty place op p q left right d is.1.0.0 is.0 (relates_plainly op is.0)) last ended
      truth_computed _ is c last ended = absurd is

      pub truth_last : (e : TExpr) → IsTruth set bits e → HasItsCode g.typed g.instance alive n e → Last e → Ends e → After g Q (put_to g.typed (layout g) (O.Field f) e d)
      unfolding put_to word_for
      truth_last e is c last ended =
          after_same g Q (ap (λ (o : Option ℕ). elim o as (λ _. Made Out) [ Some word ↦ word_put (O.Field f) word d | None ↦ computed_to g.typed (layout g) (O.Field f) e d ]) (truth_word set bits e is))
          (truth_computed e is c last ended)
