-- The code by which a condition leaves the test flags, or a bit in a field.
use Rattle.std.proofs.Common.{eqb-true, ◌≡◌, ◌∙◌, ℕ, ◌==◌, ◌&&◌, Bool, true, false, not, [], ◌∷◌, length, Option, Some, refl, sym, ap, arith, if◌then◌else◌}
use Rattle.std.specs.Int.{from_bool}
use Rattle.std.specs.Prelude.{unwrap_or}
use Rattle.cstar_base.specs.declared.operators.Op.{Op}
use Rattle.cstar_base.specs.declared.operators.Place.{Place}
use Rattle.cstar_base.specs.Operators.{divides}
use Rattle.cstar_tree.specs.declared.typed.TExpr.{TExpr}
use Rattle.cstar_tree.specs.declared.typed.TExpr as T
use Rattle.cstar_tree.specs.declared.typed.UnaryOp.TheVariants as U
use Rattle.cstar_tree.specs.declared.typed.ValueType.{ValueType}
use Rattle.cstar_tree.specs.declared.typed.Variable.{Variable}
use Rattle.lower_base.specs.declared.emit.Out.{Out}
use Rattle.lower_base.specs.declared.emit.Out.TheVariants as O
use Rattle.lower_base.specs.declared.operators.Machine.{Machine}
use Rattle.lower_base.specs.Drafts.{Draft, Fails, Made, Makes, Plain, a_field, a_flag, an_entry, first_bits, fresh_for, in_field, shortened, step as step_of, then_make, with_instr}
use Rattle.lower_base.specs.Kinds.{bits_of, kind_of}
use Rattle.lower_base.specs.Layouts.{Layout}
use Rattle.lower_base.specs.Operators.{machine_of, negates, relates}
use Rattle.lower_expr.specs.declared.steps.Right.{Right}
use Rattle.lower_expr.specs.declared.steps.Right.TheVariants as R
use Rattle.lower_expr.specs.Joined.{flag_by, joined, joins, operation_of}
use Rattle.lower_expr.specs.Kinds.{done_as, operand_bits, operation_bits, reads_signed, relation_kind, result_bits, unary_bits}
use Rattle.lower_expr.specs.Operands.{is_plus, is_quiet, operand_by}
use Rattle.lower_expr.specs.Steps.{fields_operated, field_negated, is_kept, negated, on_fields, on_word, put_test, right_operated, with_field_check}
use Rattle.lower_expr.specs.Values.{Code, Condition, binary_by, compared, fields_by, flag_of, joined_by, logical_by, lowest, narrowing_by, next_of, nonzero_tested, parallel_binary_by, parallel_logical_by, relation_by, right_by, spare_for, Test, truth_of, unary_by, value_of, zero_tested}
use Rattle.paris_code.specs.declared.instr.Instr.{Instr}
use Rattle.paris_code.specs.declared.instr.Instr.TheVariants as I
use Rattle.paris_code.specs.declared.operands.Field.{Field}
use Rattle.paris_code.specs.declared.program.Owner.TheVariants as W
use Rattle.paris_code.specs.Code.{CodeState}
use Rattle.paris_code.specs.Spans.{fields_of}
use Rattle.source_meaning.specs.State.{Outcome, State}
use Rattle.source_meaning.specs.Values.{Value}
use Rattle.source_meaning.proofs.ConstantLaws.{Boxed}
use Rattle.code_follows.proofs.Following.{Extends, Follows, extends_then}
use Rattle.code_follows.proofs.Growing.{as_it_was, extended}
use Rattle.code_follows.proofs.Settings.{Setting, and_one, layout}
use Rattle.fields_follow.proofs.Outcomes.{Given, given_through}
use Rattle.fields_follow.proofs.Passing.{Behind, after_same, fields_longer, made_after, then_after}
use Rattle.fields_follow.proofs.PassingTests.{tests_and_entry}
use Rattle.fields_follow.proofs.Places.{HoldsTheFields, PlacesFields, names_first, stands_here}
use Rattle.fields_follow.proofs.Values.{and_entry, next_field, one_more, taken, with_entry}
use Rattle.fields_follow.proofs.TestFlags.{LeavesTests, PutsTest, Tells, compares, puts_nonzero, puts_zero, tested_behind}
use Rattle.fields_follow.proofs.Truths.{GivesTold, GivesTruth, truth_stored}
use Rattle.fields_follow.proofs.Starts.{no_home}

-- ---- what the code is

-- behind code of conditions the test flags are stored in an entry that is taken behind it
abbrev pub stored_behind : ℕ → Unit {0} → Draft → Made Field
stored_behind set _ e = then_make (a_flag set e) (λ f after. Makes f (with_instr (I.StoreTest f) after))

-- behind its test the test flags go to a field
abbrev pub put_in : Field → Unit {0} → Draft → Made Out
put_in f _ e = put_test f e

-- a relation
right_put : (op : Op) (signed : Bool) (place : Place) (f a : Field) (b : Right) (spare : Field) (e : Draft) → relates op ≡ true → divides op ≡ false
    → right_operated op signed place f a b spare e ≡ then_make (compared (machine_of op signed) a b spare e) (put_in f)
unfolding right_operated fields_operated on_fields on_word with_field_check compared then_make
right_put op signed place f a (R.Field b) spare e related no_check =
    ap (λ (c : Bool). on_fields (machine_of op signed) f a b (if c then with_instr (I.CheckDivisor place b) e else e)) no_check
    ∙ ap (λ (m : Machine). on_fields m f a b e) (compares op signed related).is ∙ sym (ap (λ (m : Machine). then_make (compared m a (R.Field b) spare e) (put_in f)) (compares op signed related).is)
right_put op signed place f a (R.Word k) spare e related no_check =
    ap (λ (m : Machine). on_word m op place f a k spare e) (compares op signed related).is
    ∙ ap (λ (c : Bool). put_test f (with_instr (I.Compare (compares op signed related).relation a spare) (if c then with_instr (I.CheckDivisor place spare) (with_instr (I.MoveConstant spare k) e) else with_instr (I.MoveConstant spare k) e))) no_check
    ∙ sym (ap (λ (m : Machine). then_make (compared m a (R.Word k) spare e) (put_in f)) (compares op signed related).is)

-- what is put behind two pieces
both_put : (f : Field) (first : Made Field) (second : Draft → Made Right) (whole : Field → Right → Draft → Made Out) (test : Field → Right → Draft → Made (Unit {0})) → ((a : Field) (b : Right) (e : Draft) → whole a b e ≡ then_make (test a b e) (put_in f))
    → then_make first (λ a e. then_make (second e) (λ b after. whole a b after)) ≡ then_make (then_make first (λ a e. then_make (second e) (λ b after. test a b after))) (put_in f)
unfolding then_make
both_put f Fails second whole test same = refl
both_put f (Makes a e) second whole test same = by (second e)
  where
    by : (made : Made Right) → then_make made (λ b after. whole a b after) ≡ then_make (then_make made (λ b after. test a b after)) (put_in f)
    by Fails = refl
    by (Makes b after) = same a b after

pub relation_put : (set : ℕ) (op : Op) (place : Place) (f : Field) (first : Code) (left : TExpr) (second : Code) (right : TExpr) (d : Draft) → relates op ≡ true → divides op ≡ false
    → then_make (a_field set (bits_of (relation_kind left right)) d) (λ spare after. fields_by op (reads_signed op left right) place f spare first left second right after) ≡ then_make (relation_by set op first left second right d) (put_in f)
unfolding relation_by fields_by then_make an_entry
relation_put set op place f first left second right d related no_check = both_put f _ (λ e. right_by second op right e) _ _ (λ a b e. right_put op (reads_signed op left right) place f a b _ e related no_check)

-- `!` of a word
pub zero_put : (l : Layout) (f : Field) (made : Made Out) → then_make made (λ v after. negated l U.Not (O.Field f) v after) ≡ then_make (then_make made (λ v after. in_field v (λ source. Makes tt (with_instr (I.EqZero source) after)))) (put_in f)
unfolding then_make negated in_field field_negated
zero_put l f (Makes (O.Field h) e) = refl
zero_put l f (Makes (O.Scalar r) e) = refl
zero_put l f (Makes O.Nothing e) = refl
zero_put l f Fails = refl

-- which has as many bits as are wanted
whole_bits : (set bits : ℕ) (d : Draft) (made : Made (Unit {0})) → lowest bits (then_make made (put_in (next_field set bits d))) ≡ then_make made (put_in (next_field set bits d))
unfolding lowest then_make shortened first_bits put_test an_entry
whole_bits set bits d (Makes x e) = by (bits == 1)
  where
    f : Field
    f = next_field set bits d

    by : (b : Bool) → lowest bits (if b then Makes (O.Field f) (with_instr (I.StoreTest f) e) else then_make (a_flag set e) (λ kept after. Makes (O.Field f) (with_instr (I.Move false f kept) (with_instr (I.StoreTest kept) after))))
        ≡ (if b then Makes (O.Field f) (with_instr (I.StoreTest f) e) else then_make (a_flag set e) (λ kept after. Makes (O.Field f) (with_instr (I.Move false f kept) (with_instr (I.StoreTest kept) after))))
    by true = refl
    by false = refl
whole_bits set bits d Fails = refl

-- a relation in a field that is taken first
relation_in : (set bits : ℕ) (op : Op) (place : Place) (first : Code) (left : TExpr) (second : Code) (right : TExpr) (d : Draft) → relates op ≡ true → divides op ≡ false
    → parallel_binary_by set bits op place first left second right d ≡ then_make (relation_by set op first left second right (with_entry set bits W.Own d)) (put_in (next_field set bits d))
unfolding parallel_binary_by spare_for result_bits operand_bits an_entry then_make
relation_in set bits op place first left second right d related no_check =
    ap (λ (c : Bool). then_make (a_field set (if c then bits else operation_bits bits op right) d) (λ dest begun. then_make (if c then a_field dest.set (if c then bits_of (relation_kind left right) else operation_bits bits op right) begun else Makes dest begun) (λ spare between. lowest bits (fields_by op (reads_signed op left right) place dest spare first left second right between)))) related
    ∙ ap (λ (m : Made Out). lowest bits m) (relation_put set op place (next_field set bits d) first left second right (with_entry set bits W.Own d) related no_check)
    ∙ whole_bits set bits d (relation_by set op first left second right (with_entry set bits W.Own d))

module _ (g : Setting) where
  -- so many bits of the value, and the operand of the next instruction
  abbrev value : ℕ → TExpr → Code
  value bits e d = value_of g.typed (layout g) bits e d

  abbrev pub operand_at : ℕ → TExpr → Code
  operand_at bits e d = next_of g.typed (layout g) bits true e d

  pub relation_value : (set bits : ℕ) (ty : ValueType) (place : Place) (op : Op) (p q : Boxed) (left right : TExpr) (d : Draft) → ty.shape ≡ Some set → relates op ≡ true → divides op ≡ false
      → value bits (T.Binary' ty place op p left q right) d ≡ then_make (truth_of g.typed (layout g) (T.Binary' ty place op p left q right) (with_entry set bits W.Own d)) (put_in (next_field set bits d))
  unfolding value_of binary_by truth_of operand_bits
  relation_value set bits ty place op p q left right d shaped related no_check =
      ap (λ (c : Bool). binary_by ty.shape bits op place (operand_by g.typed (layout g) (if c then bits_of (relation_kind left right) else operation_bits bits op right) (value_of g.typed (layout g) (if c then bits_of (relation_kind left right) else operation_bits bits op right) left) (is_quiet right) left) left (operand_by g.typed (layout g) (if c then bits_of (relation_kind left right) else operation_bits bits op right) (value_of g.typed (layout g) (if c then bits_of (relation_kind left right) else operation_bits bits op right) right) true right) right d) related
      ∙ ap (λ (o : Option ℕ). binary_by o bits op place first left second right d) shaped
      ∙ relation_in set bits op place first left second right d related no_check
      ∙ sym (ap (λ (o : Option ℕ). then_make (relation_by (unwrap_or o 0) op first left second right (with_entry set bits W.Own d)) (put_in (next_field set bits d))) shaped)
    where
      first : Code
      first = operand_by g.typed (layout g) (bits_of (relation_kind left right)) (value_of g.typed (layout g) (bits_of (relation_kind left right)) left) (is_quiet right) left

      second : Code
      second = operand_by g.typed (layout g) (bits_of (relation_kind left right)) (value_of g.typed (layout g) (bits_of (relation_kind left right)) right) true right

  -- `!` of a word is its test
  pub word_not_value : (set bits : ℕ) (ty : ValueType) (p : Boxed) (operand : TExpr) (d : Draft) → ty.shape ≡ Some set → is_kept operand ≡ false → (bits == 1 && bits_of (kind_of operand) == 1) ≡ false
      → value bits (T.Unary' ty U.Not p operand) d ≡ then_make (zero_tested (operand_at (bits_of (kind_of operand)) operand) (with_entry set bits W.Own d)) (put_in (next_field set bits d))
  unfolding value_of unary_by unary_bits done_as negates is_plus fresh_for an_entry then_make zero_tested
  word_not_value set bits ty p operand d shaped fresh no_bit =
      ap (λ (c : Bool). done (bits == 1 && (not c && bits_of (kind_of operand) == 1))) fresh ∙ ap done no_bit
      ∙ ap (λ (o : Option ℕ). then_make (fresh_for o bits d) (λ dest between. then_make (operand_at (bits_of (kind_of operand)) operand between) (λ v after. negated (layout g) U.Not dest v after))) shaped
      ∙ zero_put (layout g) (next_field set bits d) (operand_at (bits_of (kind_of operand)) operand (with_entry set bits W.Own d))
    where
      done : Bool → Made Out
      done c = unary_by (layout g) ty bits (if c then U.Complement else U.Not) (value bits operand) (operand_at (bits_of (kind_of operand)) operand) d

  -- that of a bit is its complement
  abbrev pub turned_in : ℕ → Draft → Out → Draft → Made Out
  turned_in set d v e = in_field v (λ source. Makes (O.Field (next_field set 1 d)) (with_instr (I.Lognot (next_field set 1 d) source) e))

  pub bit_not_value : (set : ℕ) (ty : ValueType) (p : Boxed) (operand : TExpr) (d : Draft) → ty.shape ≡ Some set → is_kept operand ≡ false → (bits_of (kind_of operand) == 1) ≡ true
      → value 1 (T.Unary' ty U.Not p operand) d ≡ then_make (operand_at 1 operand (with_entry set 1 W.Own d)) (turned_in set d)
  unfolding value_of unary_by unary_bits done_as negates is_plus fresh_for an_entry then_make negated field_negated
  bit_not_value set ty p operand d shaped fresh truth =
      ap (λ (c : Bool). unary_by (layout g) ty 1 (if not c && bits_of (kind_of operand) == 1 then U.Complement else U.Not) (value 1 operand) (operand_at (bits_of (kind_of operand)) operand) d) fresh
      ∙ ap (λ (b : Bool). unary_by (layout g) ty 1 (if b then U.Complement else U.Not) (value 1 operand) (operand_at (bits_of (kind_of operand)) operand) d) truth
      ∙ ap (λ (m : ℕ). unary_by (layout g) ty 1 U.Complement (value 1 operand) (operand_at m operand) d) (eqb-true (bits_of (kind_of operand)) 1 truth)
      ∙ ap (λ (o : Option ℕ). then_make (fresh_for o 1 d) (λ dest between. then_make (operand_at 1 operand between) (λ v after. negated (layout g) U.Complement dest v after))) shaped

  -- two conditions are joined by one operation
  abbrev pub joined_in : Bool → ℕ → Draft → Field → Field → Draft → Made Out
  joined_in is_or set d f h e = Makes (O.Field (next_field set 1 d)) (with_instr (I.Operate (operation_of is_or) (next_field set 1 d) f h) e)

  pub joined_value : (is_or : Bool) (set bits : ℕ) (shape : Option ℕ) (left right : Condition) (d : Draft) → shape ≡ Some set → joins left.operand right.operand ≡ true
      → logical_by is_or shape bits left right d ≡ then_make (flag_of set left (with_entry set bits W.Own d)) (λ f between. then_make (flag_of set right between) (λ h after. joined is_or (next_field set bits d) f h after))
  unfolding logical_by an_entry then_make parallel_logical_by joined_by
  joined_value is_or set bits shape left right d shaped join =
      ap (λ (o : Option ℕ). logical_by is_or o bits left right d) shaped ∙ ap (λ (c : Bool). if c then joined_by is_or (next_field set bits d) left right (with_entry set bits W.Own d) else narrowing_by is_or (next_field set bits d) left right (with_entry set bits W.Own d)) join

  -- both kinds of operands have code
  taken_extends : (x : Out) (e : Draft) → Extends g e (in_field x (λ f. Makes f e))
  unfolding Extends in_field
  taken_extends (O.Field f) e = (0, as_it_was e)
  taken_extends (O.Scalar r) e = tt
  taken_extends O.Nothing e = tt

  stored_extends : (set : ℕ) (e : Draft) → Extends g e (stored_behind set tt e)
  unfolding Extends then_make an_entry
  stored_extends set e = (1, extended e (with_entry set 1 W.Own e) (with_instr (I.StoreTest (next_field set 1 e)) (with_entry set 1 W.Own e)) 0 1 (and_entry set 1 W.Own e) (and_one g (I.StoreTest (next_field set 1 e)) (with_entry set 1 W.Own e)))

  pub flag_extends : (one : Bool) (set : ℕ) (code : Code) (test : Test) (d : Draft) → Extends g d (code d) → Extends g d (test d) → Extends g d (flag_by one set code test d)
  unfolding flag_by
  flag_extends true set code test d grows tests = extends_then g d (code d) (λ v e. in_field v (λ f. Makes f e)) grows taken_extends
  flag_extends false set code test d grows tests = extends_then g d (test d) (stored_behind set) tests (λ x e. stored_extends set e)

-- ---- what it leaves

module _ (g : Setting) (alive : Variable → Type 0) (places : PlacesFields g) (fields : HoldsTheFields g) where
  abbrev pub Tests : Draft → CodeState → ℕ → State → (ℕ → ℕ) → Draft → Type 0
  Tests d s set st v e = LeavesTests g alive fields d s set st v e

  abbrev pub Told : Draft → CodeState → ℕ → State → (ℕ → ℕ) → Out → Draft → Type 0
  Told d s set st v out e = (f : Field) × ((out ≡ O.Field f) × GivesTold g alive places fields d s set st v f e)

  abbrev pub Truth : Draft → CodeState → ℕ → State → (ℕ → ℕ) → Field → Draft → Type 0
  Truth d s set st v f e = GivesTruth g alive places fields d s set st v f e

  abbrev pub Bit : Draft → CodeState → ℕ → State → (ℕ → ℕ) → Out → Draft → Type 0
  Bit d s set st v out e = (f : Field) × ((out ≡ O.Field f) × Truth d s set st v f e)

  abbrev put : (Field → Instr) → Out → Draft → Made (Unit {0})
  put test x e = in_field x (λ source. Makes tt (with_instr (test source) e))

  -- a test of a field that tells, whatever its value is in the source
  tests_after : (o : Outcome Value) (m : ℕ → ℕ) (test : Field → Instr) (set : ℕ) (v u : ℕ → ℕ) (made : Made Out) (d : Draft) (s : CodeState) (st : State) → ((a : Field) → step_of (test a) ≡ Plain (test a)) → ((a : Field) → fields_of (test a) ≡ a ∷ []) → ((a : Field) (t : CodeState) → Tells g set a t v → PutsTest g set (test a) t u) → Follows g (Given g m st (Told d s set st v)) s o made
      → Follows g (Given g m st (λ _ f. Tests d s set st u f)) s o (then_make made (put test))
  unfolding in_field Extends
  tests_after o m test set v u made d s st plain names puts told =
      given_through g s o m st (Told d s set st v) (λ _ f. Tests d s set st u f) made (put test) next_extends (λ part h.
      then_after g (Told d s set st v) (λ _ f. Tests d s set st u f) part (put test) h next_extends (λ x e1 (a, (is, gives)).
      after_same g (λ _ f. Tests d s set st u f) (ap (λ (o : Out). put test o e1) is)
      (made_after g (λ _ f. Tests d s set st u f) tt (with_instr (test a) e1) (λ within.
      let behind : Behind g a e1 = (length e1.code, (names_first g (test a) a [] (length e1.code) (stands_here g (test a) e1 within (plain a)) (names a), omega arith)) in
      tested_behind g alive fields places set d e1 (test a) s st u (Behind g a e1) gives.passes behind gives.exists within
      (puts a gives.passes.t (gives.tells behind)))))) told
    where
      next_extends : (x : Out) (e1 : Draft) → Extends g e1 (put test x e1)
      next_extends (O.Field f) e1 = (1, and_one g (test f) e1)
      next_extends (O.Scalar r) e1 = tt
      next_extends O.Nothing e1 = tt

  pub nonzero_after : (o : Outcome Value) (m : ℕ → ℕ) (set : ℕ) (v : ℕ → ℕ) (code : Code) (d : Draft) (s : CodeState) (st : State) → Follows g (Given g m st (Told d s set st v)) s o (code d) → Follows g (Given g m st (λ _ f. Tests d s set st v f)) s o (nonzero_tested code d)
  unfolding nonzero_tested step_of
  nonzero_after o m set v code d s st told = tests_after o m (λ a. I.NeZero a) set v v (code d) d s st (λ a. refl) (λ a. refl) (λ a t tells. puts_nonzero g set a t v tells) told

  pub zero_after : (o : Outcome Value) (m : ℕ → ℕ) (set : ℕ) (v : ℕ → ℕ) (code : Code) (d : Draft) (s : CodeState) (st : State) → Follows g (Given g m st (Told d s set st v)) s o (code d) → Follows g (Given g m st (λ _ f. Tests d s set st (λ q. from_bool (v q == 0)) f)) s o (zero_tested code d)
  unfolding zero_tested step_of
  zero_after o m set v code d s st told = tests_after o m (λ a. I.EqZero a) set v (λ q. from_bool (v q == 0)) (code d) d s st (λ a. refl) (λ a. refl) (λ a t tells. puts_zero g set a t v tells) told

  pub flag_after : (o : Outcome Value) (m : ℕ → ℕ) (set : ℕ) (v : ℕ → ℕ) (d : Draft) (s : CodeState) (st : State) (made : Made (Unit {0})) → Follows g (Given g m st (λ _ f. Tests d s set st v f)) s o made → Follows g (Given g m st (Truth d s set st v)) s o (then_make made (stored_behind set))
  unfolding Extends tests_and_entry then_make an_entry
  flag_after o m set v d s st made tests =
      given_through g s o m st (λ _ f. Tests d s set st v f) (Truth d s set st v) made (stored_behind set) (λ x e. stored_extends g set e) (λ part h.
      then_after g (λ _ f. Tests d s set st v f) (Truth d s set st v) part (stored_behind set) h (λ x e. stored_extends g set e) (λ x e left.
      made_after g (Truth d s set st v) (next_field set 1 e) (with_instr (I.StoreTest (next_field set 1 e)) (with_entry set 1 W.Own e)) (λ within.
      truth_stored g alive places fields set d (with_entry set 1 W.Own e) (next_field set 1 e) s st v (tests_and_entry g alive set 1 d e s st (Unit {0}) left.leaves) left.flags (fields_longer d e left.leaves.grown.0 left.leaves.grown.1) (let l = one_more set 1 W.Own e in omega (arith, l))
      (taken g set 1 W.Own e (with_instr (I.StoreTest (next_field set 1 e)) (with_entry set 1 W.Own e)) 1 within (and_one g (I.StoreTest (next_field set 1 e)) (with_entry set 1 W.Own e))) (no_home g alive (length e.fields) (length e.fields) (omega arith) left.leaves.at) refl refl within))) tests

  -- a bit that there is
  abbrev as_bit : Out → Draft → Made Field
  as_bit v e = in_field v (λ f. Makes f e)

  pub bit_taken : (o : Outcome Value) (m : ℕ → ℕ) (set : ℕ) (v : ℕ → ℕ) (d : Draft) (s : CodeState) (st : State) (made : Made Out) → Follows g (Given g m st (Bit d s set st v)) s o made → Follows g (Given g m st (Truth d s set st v)) s o (then_make made as_bit)
  unfolding in_field
  bit_taken o m set v d s st made bit =
      given_through g s o m st (Bit d s set st v) (Truth d s set st v) made as_bit (taken_extends g) (λ part h.
      then_after g (Bit d s set st v) (Truth d s set st v) part as_bit h (taken_extends g)
      (λ x e (a, (is, one)). after_same g (Truth d s set st v) (ap (λ (o : Out). as_bit o e) is) (made_after g (Truth d s set st v) a e (λ within. one)))) bit
