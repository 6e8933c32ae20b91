-- The code of a relation of two parallel operands leaves the test flags.
use Rattle.std.proofs.Common.{◌≡◌, ◌∙◌, ℕ, ◌<◌, ◌≤◌, ◌%◌, ◌^◌, inl, inr, Bool, true, false, not, [], ◌∷◌, length, Option, Some, None, refl, ap, subst, arith, if◌then◌else◌}
use Rattle.std.specs.Prelude.{unwrap_or}
use Rattle.std.specs.Int.{from_bool}
use Rattle.std.proofs.Math.Nat.{mod-eq_of_lt}
use Rattle.cstar_base.specs.declared.elem.Elem.{Elem}
use Rattle.cstar_base.specs.declared.operators.Op.{Op}
use Rattle.cstar_base.specs.declared.operators.Place.{Place}
use Rattle.cstar_base.specs.Operators.{divides, outcome}
use Rattle.cstar_tree.specs.declared.typed.TExpr.{TExpr}
use Rattle.cstar_tree.specs.declared.typed.TExpr as T
use Rattle.cstar_tree.specs.declared.typed.ValueType.{ValueType}
use Rattle.cstar_tree.specs.declared.typed.Variable.{Variable}
use Rattle.cstar_tree.specs.Typed.{type_of}
use Rattle.code_lengths.specs.Ready.{IsReadyButForFields}
use Rattle.cstar_base.proofs.NumberLaws.{kind_bits}
use Rattle.lower_base.specs.declared.emit.Out.{Out}
use Rattle.lower_base.specs.declared.operators.Machine.{Machine}
use Rattle.lower_base.specs.declared.operators.Machine.TheVariants as M
use Rattle.lower_base.specs.Drafts.{Draft, Made, an_entry, step as step_of, then_make, with_instr}
use Rattle.lower_base.specs.Kinds.{bits_of}
use Rattle.lower_base.specs.Operators.{is_signed, relates}
use Rattle.lower_expr.specs.declared.steps.Right.{Right}
use Rattle.lower_expr.specs.declared.steps.Right.TheVariants as R
use Rattle.lower_expr.specs.Kinds.{reads_signed, relation_kind}
use Rattle.lower_expr.specs.Operands.{is_quiet, operand_by}
use Rattle.lower_expr.specs.Values.{compared, relation_by, right_by, spread_into, truth_of, value_of}
use Rattle.paris_code.specs.declared.instr.Instr.{Instr}
use Rattle.paris_code.specs.declared.instr.Instr.TheVariants as I
use Rattle.paris_code.specs.declared.operands.Compare.{Compare}
use Rattle.paris_code.specs.declared.operands.Field.{Field}
use Rattle.paris_code.specs.declared.operands.Konst.{Konst}
use Rattle.paris_code.specs.declared.program.Owner.TheVariants as W
use Rattle.paris_code.specs.Code.{CodeState}
use Rattle.paris_code.specs.Memory.{processors}
use Rattle.paris_code.specs.Operators.{comparison_of}
use Rattle.paris_code.specs.Spans.{StandsAt}
use Rattle.source_meaning.specs.State as Source
use Rattle.source_meaning.specs.State.{Outcome, State}
use Rattle.source_meaning.specs.Values.{Parallel, Value, nonzero}
use Rattle.source_meaning.proofs.ConstantLaws.{Boxed}
use Rattle.code_follows.proofs.Following.{Extends, Follows, HasRegisters, Sim, extends_then}
use Rattle.code_follows.proofs.Growing.{and_instr}
use Rattle.code_follows.proofs.Operators.{wide_signed}
use Rattle.code_follows.proofs.Settings.{OpenAmong, stay, Setting, Within, and_one, earlier, layout, one}
use Rattle.fields_follow.specs.Fragment.{IsPure}
use Rattle.fields_follow.proofs.Expressions.{constant_at, operand_at, operand_grows}
use Rattle.fields_follow.proofs.NarrowKinds.{AreRelated, HaveTheirKinds, narrow_compares, relation_has}
use Rattle.fields_follow.proofs.Forms.{HasItsCode}
use Rattle.fields_follow.proofs.Instructions.{HasNumbers, shapes, extents, place}
use Rattle.fields_follow.proofs.Meaning.{AreOperands, binary_means, left_of, right_of, value_in, word_at}
use Rattle.fields_follow.proofs.Operands.{GivesRight, RightField, Takes, promoted_left, pure_left, pure_right, right_after, right_extends}
use Rattle.fields_follow.proofs.Dividing.{left_ended, right_ended}
use Rattle.fields_follow.proofs.Outcomes.{Ended, Given, Known, ended_back, known_follows, meant, then_known}
use Rattle.fields_follow.proofs.Passing.{After, Behind, GivesField, after_same, code_longer, fields_longer, gives_numbers, made_after, names_second, passes_from, passes_on, still_numbers}
use Rattle.fields_follow.proofs.Places.{HoldsTheFields, PlacesFields, names_first, stands_here}
use Rattle.fields_follow.proofs.Spreading.{GivesWord, HasBoth, spread_behind}
use Rattle.fields_follow.proofs.Values.{Valued, and_entry, code_of, next_field, one_more, operand_of, with_entry}
use Rattle.fields_follow.proofs.TestFlags.{ComparesAs, LeavesTests, compares, is_truth, puts_compare, tested_last}
use Rattle.fields_follow.proofs.Totals.{held_below}
use Rattle.fields_follow.proofs.Starts.{no_home, starts_entry, Starts}
use Rattle.fields_follow.proofs.Locals.{IsNoHome}

-- the two sides of a relation are operands
pub relation_operands : (set : ℕ) (left right : TExpr) → HaveTheirKinds set left right → AreOperands set left right
relation_operands set left right (inl (one, inl other)) = inl (one.0, inl other.0)
relation_operands set left right (inl (one, inr other)) = inl (one.0, inr other)
relation_operands set left right (inr (one, other)) = inr (one, other.0)

-- how it reads them, at so many bits
pub read_as : (op : Op) (left right : TExpr) → relates op ≡ true → reads_signed op left right ≡ (elim (relation_kind left right) as (λ _. Bool) [ None ↦ is_signed (type_of left).elem | Some kind ↦ kind.signed ])
unfolding reads_signed
read_as op left right related = ap (λ (c : Bool). if c then elim (relation_kind left right) as (λ _. Bool) [ None ↦ is_signed (type_of left).elem | Some kind ↦ kind.signed ] else is_signed (type_of left).elem) related

-- the bits of a narrow type are some, and no more than 32
pub kind_some : (o : Option Elem) → 0 < bits_of o
unfolding bits_of
kind_some None = omega arith
kind_some (Some kind) = (kind_bits kind.bits kind.signed kind.kind).0

pub relation_most : (o : Option Elem) → bits_of o ≤ 32
unfolding bits_of
relation_most None = omega arith
relation_most (Some kind) = (kind_bits kind.bits kind.signed kind.kind).1

module _ (g : Setting) (has : HasRegisters g) (alive : Variable → Type 0) (n : ℕ) (ready : (d : Draft) → IsReadyButForFields g.typed g.instance (layout g) n d) (places : PlacesFields g) (fields : HoldsTheFields g) where
  abbrev operand : ℕ → Bool → TExpr → Draft → Made Out
  operand bits quiet e d = operand_of g has alive n ready places fields bits quiet e d

  abbrev IsValued : ℕ → ℕ → TExpr → Type 0
  IsValued bits set e = Valued g has alive n ready places fields bits set e (λ d. code_of g has alive n ready places fields bits e d)

  abbrev pub Tests : Draft → CodeState → ℕ → State → (ℕ → ℕ) → Draft → Type 0
  Tests d s set st v e = LeavesTests g alive fields d s set st v e

  -- the machine's relation of so many bits of these words holds where these numbers are not 0
  abbrev pub Compares : ℕ → ℕ → Compare → (ℕ → ℕ) → (ℕ → ℕ) → (ℕ → ℕ) → Type 0
  Compares bits set relation v w u = (q : ℕ) → q < processors (shapes g) set → outcome (comparison_of relation).0 bits (comparison_of relation).1 (v q % 2 ^ bits) (w q % 2 ^ bits) ≡ from_bool (nonzero (u q))

  -- both operands stand in fields
  pub field_compared : (bits set : ℕ) (relation : Compare) (bound : ℕ) (a b : Field) (v w u : ℕ → ℕ) (d e1 e2 : Draft) (s : CodeState) (st : State) → Compares bits set relation v w u → length d.fields ≤ bound → bound ≤ length e1.fields
      → (left : GivesField g alive bits bound (with_entry set bits W.Own d) s set st v a e1) → GivesField g alive bits (length e1.fields) e1 left.passes.t set st w b e2 → Within g (with_instr (I.Compare relation a b) e2)
      → Tests d s set st u (with_instr (I.Compare relation a b) e2)
  unfolding step_of passes_on passes_from
  field_compared bits set relation bound a b v w u d e1 e2 s st same low less left right within =
      tested_last g alive fields places bound set d e2 compare s st u (Unit {0}) low
      (passes_from g alive bound d d1 e2 s st (Unit {0}) (and_entry set bits W.Own d) (passes_on g alive bound (length e1.fields) d1 e1 e2 s st (Behind g a e1) (Behind g b e2) (Unit {0}) less left.passes right.passes (λ u. early) (λ u. behind_b)))
      tt numbers.exists within (puts_compare g bits set relation a b right.passes.t v w u same numbers (gives_numbers g alive places fields bits (length e1.fields) e1 left.passes.t set st w b e2 right behind_b))
    where
      d1 : Draft
      d1 = with_entry set bits W.Own d

      compare : Instr
      compare = I.Compare relation a b

      there : StandsAt g.unit (length e2.code) compare
      there = stands_here g compare e2 within refl

      behind_a : Behind g a e2
      behind_a = (length e2.code, (names_first g compare a (b ∷ []) (length e2.code) there refl, omega arith))

      behind_b : Behind g b e2
      behind_b = (length e2.code, (names_second g compare a b [] (length e2.code) there refl, omega arith))

      early : Behind g a e1
      early = (behind_a.0, (behind_a.1.0, code_longer e1 e2 right.passes.grown.0 right.passes.grown.1))

      numbers : HasNumbers g bits set a right.passes.t v
      numbers = still_numbers g alive places fields bits bound (length e1.fields) d1 s set st v a e1 e2 (Behind g b e2) left right.passes behind_b (omega arith) behind_a

  -- the left operand stands in a field, and the right one is a word, which is spread first
  pub word_compared : (bits set : ℕ) (relation : Compare) (bound : ℕ) (a : Field) (k : Konst) (v w u : ℕ → ℕ) (d e1 e2 : Draft) (s : CodeState) (st : State) → IsNoHome g (OpenAmong g alive) (length d.fields) → Compares bits set relation v w u → length (with_entry set bits W.Own d).fields ≤ bound → bound ≤ length e1.fields
      → (left : GivesField g alive bits bound (with_entry set bits W.Own d) s set st v a e1) → GivesWord g alive (length e1.fields) e1 left.passes.t st w k e2
      → Within g (with_instr (I.Compare relation a (next_field set bits d)) (with_instr (I.MoveConstant (next_field set bits d) k) e2))
      → Tests d s set st u (with_instr (I.Compare relation a (next_field set bits d)) (with_instr (I.MoveConstant (next_field set bits d) k) e2))
  unfolding step_of passes_from
  word_compared bits set relation bound a k v w u d e1 e2 s st none same low less left right within =
      tested_last g alive fields places (length d.fields) set d e3 compare s st u (Unit {0}) (omega arith) (passes_from g alive (length d.fields) d d1 e3 s st (Unit {0}) (and_entry set bits W.Own d) both.passes) tt both.left.exists within
      (puts_compare g bits set relation a spare both.passes.t v w u same both.left both.right)
    where
      d1 : Draft
      d1 = with_entry set bits W.Own d

      spare : Field
      spare = next_field set bits d

      compare : Instr
      compare = I.Compare relation a spare

      e3 : Draft
      e3 = with_instr (I.MoveConstant spare k) e2

      there : StandsAt g.unit (length e3.code) compare
      there = stands_here g compare e3 within refl

      both : HasBoth g alive bits set (length d.fields) a spare d1 e3 s st v w
      both =
          spread_behind g alive places fields bits set bound a k v w d e1 e2 s st none low less left right (length e3.code) (earlier g e3 (with_instr compare e3) 1 (and_one g compare e3) within) (names_first g compare a (spare ∷ []) (length e3.code) there refl)
          (names_second g compare a spare [] (length e3.code) there refl) (omega arith)

  -- the comparison, wherever the operands stand
  pub compared_extends : (relation : Compare) (a : Field) (right : Right) (spare : Field) (e : Draft) → Extends g e (compared (M.Compare relation) a right spare e)
  unfolding Extends compared
  compared_extends relation a (R.Field b) spare e = (1, and_one g (I.Compare relation a b) e)
  compared_extends relation a (R.Word k) spare e = (2, and_instr (I.Compare relation a spare) e (with_instr (I.MoveConstant spare k) e) 1 (and_one g (I.MoveConstant spare k) e))

  module _ (set : ℕ) (op : Op) (left right : TExpr) (is : AreRelated set op left right) (no_check : divides op ≡ false) (c_left : HasItsCode g.typed g.instance alive n left) (c_right : HasItsCode g.typed g.instance alive n right) (left_valued : IsPure set left → IsValued (bits_of (relation_kind left right)) set left)
      (right_valued : IsPure set right → IsValued (bits_of (relation_kind left right)) set right) (d : Draft) (s : CodeState) (st : State) (here : Starts g alive s (length d.code) d.regs (length d.fields)) (sim : Sim g alive st s) where
    abbrev bits : ℕ
    bits = bits_of (relation_kind left right)

    abbrev c : ComparesAs op (reads_signed op left right)
    c = compares op (reads_signed op left right) is.0

    are : HaveTheirKinds set left right
    are = is.1

    abbrev number : TExpr → ℕ → ℕ
    number e = λ q. value_in (extents g set) st e q

    abbrev v : ℕ → ℕ
    v = λ q. word_at (extents g set) st left q

    abbrev w : ℕ → ℕ
    w = λ q. word_at (extents g set) st right q

    abbrev u : ℕ → ℕ
    u = λ q. outcome op 32 (not (type_of left).elem.signed) (value_in (extents g set) st left q) (value_in (extents g set) st right q)

    abbrev d1 : Draft
    d1 = with_entry set bits W.Own d

    abbrev spare : Field
    spare = next_field set bits d

    abbrev Q : Unit {0} → Draft → Type 0
    Q = λ _ f. Tests d s set st u f

    -- the right operand and the comparison, behind the left one
    abbrev next : Field → Draft → Made (Unit {0})
    next a e = then_make (right_by (operand bits true right) op right e) (λ b after. compared (M.Compare c.relation) a b spare after)

    next_extends : (a : Field) (e : Draft) → Extends g e (next a e)
    next_extends a e =
        extends_then g e (right_by (operand bits true right) op right e) (λ b after. compared (M.Compare c.relation) a b spare after)
        (right_extends g (operand bits true right) op right (λ x. operand_grows g has alive n ready places fields bits right c_right true x) e) (λ b after. compared_extends c.relation a b spare after)

    pub relation_code : (ty : ValueType) (place : Place) (p q : Boxed) → ty.shape ≡ Some set
        → truth_of g.typed (layout g) (T.Binary' ty place op p left q right) d ≡ then_make (spread_into (operand bits (is_quiet right) left) left spare d1) (λ a e. next a e)
    unfolding truth_of relation_by then_make an_entry
    relation_code ty place p q shaped =
        ap (λ (o : Option ℕ). relation_by (unwrap_or o 0) op (operand_by g.typed (layout g) (bits_of (relation_kind left right)) (value_of g.typed (layout g) (bits_of (relation_kind left right)) left) (is_quiet right) left) left (operand_by g.typed (layout g) (bits_of (relation_kind left right)) (value_of g.typed (layout g) (bits_of (relation_kind left right)) right) true right) right d) shaped
        ∙ ap (λ (m : Machine). then_make (spread_into (operand bits (is_quiet right) left) left spare d1) (λ a e. then_make (right_by (operand bits true right) op right e) (λ b after. compared m a b spare after))) c.is

    -- the words compare as the numbers do
    words_compare : Compares bits set c.relation v w u
    unfolding bits_of
    words_compare q below =
        c.same bits (v q % 2 ^ bits) (w q % 2 ^ bits) ∙ ap (λ (b : Bool). outcome op bits (not b) (v q % 2 ^ bits) (w q % 2 ^ bits)) (read_as op left right is.0)
        ∙ by (relation_kind left right) refl
        ∙ ap (λ (m : ℕ). outcome op 32 unsigned m (w q)) (operand_at g has alive n ready places fields set left st s sim (left_of set left right operands) is.2 c_left q)
        ∙ ap (λ (m : ℕ). outcome op 32 unsigned (value_in (extents g set) st left q) m) (operand_at g has alive n ready places fields set right st s sim (right_of set left right operands) is.3 c_right q)
        ∙ is_truth op 32 unsigned (value_in (extents g set) st left q) (value_in (extents g set) st right q) is.0
      where
        operands : AreOperands set left right
        operands = relation_operands set left right are

        unsigned : Bool
        unsigned = not (type_of left).elem.signed

        at_kind : Option Elem → ℕ
        at_kind o = outcome op (bits_of o) (not (elim o as (λ _. Bool) [ None ↦ is_signed (type_of left).elem | Some kind ↦ kind.signed ])) (v q % 2 ^ bits_of o) (w q % 2 ^ bits_of o)

        signs : (kind : Elem) → relation_kind left right ≡ Some kind → kind.signed ≡ true → unsigned ≡ false
        signs kind same signed =
            ap not (subst (λ (o : Option Elem). elim o as (λ _. Type 0) [ None ↦ Unit {0} | Some kind ↦ kind.signed ≡ true → (type_of left).elem.signed ≡ true ]) same is.4 signed)

        by : (o : Option Elem) → relation_kind left right ≡ o → at_kind (relation_kind left right) ≡ outcome op 32 unsigned (v q) (w q)
        by None none =
            ap at_kind none
            ∙ ap (λ (b : Bool). outcome op 32 (not b) (v q % 2 ^ 32) (w q % 2 ^ 32)) (wide_signed (type_of left).elem is.2.1)
            ∙ ap (λ (m : ℕ). outcome op 32 unsigned m (w q % 2 ^ 32)) (mod-eq_of_lt (held_below (type_of left).elem (value_in (extents g set) st left q)))
            ∙ ap (λ (m : ℕ). outcome op 32 unsigned (v q) m) (mod-eq_of_lt (held_below (type_of right).elem (value_in (extents g set) st right q)))
        by (Some kind) some =
            let words = relation_has g alive n places fields set left right st s sim are is.2.1 is.3.1 c_left c_right (λ word is_word x. constant_at g has alive n ready places fields set left st (left_of set left right operands) c_left x word is_word)
            (λ word is_word x. constant_at g has alive n ready places fields set right st (right_of set left right operands) c_right x word is_word) q below kind some in
            ap at_kind some ∙ narrow_compares op kind unsigned (v q) (w q) is.0 (signs kind some) words.0 words.1

    -- the code of a relation
    chosen : (o : Outcome Value) → (meant g fields left st ≡ Source.Gives (Parallel (number left)) st → meant g fields right st ≡ Source.Gives (Parallel (number right)) st → o ≡ Source.Gives (Parallel u) st) → (Ended g s (meant g fields left st) → Ended g s o)
        → (meant g fields left st ≡ Source.Gives (Parallel (number left)) st → Ended g s (meant g fields right st) → Ended g s o) → AreOperands set left right → After g (Known g s o u st Q) (then_make (spread_into (operand bits (is_quiet right) left) left spare d1) (λ a e. next a e))
    unfolding compared
    chosen o gives left_ends right_ends (inl (pure, any_operand)) =
        then_known g s (meant g fields left st) (number left) st (GivesField g alive bits (length d1.fields) d1 s set st v) (Known g s o u st Q) (spread_into (operand bits (is_quiet right) left) left spare d1) (λ a e. next a e)
        (pure_left g has alive n ready places fields bits set left (is_quiet right) pure c_left (left_valued pure) spare d1 s st (starts_entry g alive _ _ here) sim) next_extends
        (λ is_left a e1 one. then_known g one.passes.t (meant g fields right st) (number right) st (λ b f. Takes op b × GivesRight g has alive n ready places fields bits (length e1.fields) e1 one.passes.t set st w b f) (Known g s o u st Q) (right_by (operand bits true right) op right e1) (λ b after. compared (M.Compare c.relation) a b spare after)
        (right_after g has alive n ready places fields bits set op right (inl no_check) any_operand c_right right_valued e1 one.passes.t st one.passes.at one.passes.sim) (λ b after. compared_extends c.relation a b spare after)
        (λ is_right b e2 two. by (gives is_left is_right) a e1 one b e2 two.1) (λ early z f. inr (right_ends is_left (ended_back g s one.passes.t (meant g fields right st) one.passes.go early))))
        (λ early z f. inr (left_ends early))
      where
        by : o ≡ Source.Gives (Parallel u) st → (a : Field) (e1 : Draft) (one : GivesField g alive bits (length d1.fields) d1 s set st v a e1) (b : Right) (e2 : Draft) → GivesRight g has alive n ready places fields bits (length e1.fields) e1 one.passes.t set st w b e2 → After g (Known g s o u st Q) (compared (M.Compare c.relation) a b spare e2)
        by is_given a e1 one b e2 (inl (f, (same, gives))) =
            after_same g (Known g s o u st Q) (ap (λ (x : Right). compared (M.Compare c.relation) a x spare e2) same)
            (made_after g (Known g s o u st Q) tt (with_instr (I.Compare c.relation a f) e2) (λ within. inl (is_given, field_compared bits set c.relation (length d1.fields) a f v w u d e1 e2 s st words_compare (let more = one_more set bits W.Own d in omega (arith, more)) (fields_longer d1 e1 one.passes.grown.0 one.passes.grown.1) one gives within)))
        by is_given a e1 one b e2 (inr (k, (same, gives))) =
            after_same g (Known g s o u st Q) (ap (λ (x : Right). compared (M.Compare c.relation) a x spare e2) same)
            (made_after g (Known g s o u st Q) tt (with_instr (I.Compare c.relation a spare) (with_instr (I.MoveConstant spare k) e2)) (λ within. inl (is_given, word_compared bits set c.relation (length d1.fields) a k v w u d e1 e2 s st (no_home g alive (length d.fields) (length d.fields) (omega arith) here) words_compare (omega arith) (fields_longer d1 e1 one.passes.grown.0 one.passes.grown.1) one gives within)))
    chosen o gives left_ends right_ends (inr (promoted, pure)) =
        then_known g s (meant g fields left st) (number left) st (GivesField g alive bits (length d.fields) d1 s set st v) (Known g s o u st Q) (spread_into (operand bits (is_quiet right) left) left spare d1) (λ a e. next a e)
        (promoted_left g has alive n ready places fields bits set left (is_quiet right) promoted c_left d s st here sim) next_extends
        (λ is_left a e1 one. then_known g one.passes.t (meant g fields right st) (number right) st (RightField g has alive n ready places fields bits e1 one.passes.t set st w) (Known g s o u st Q) (right_by (operand bits true right) op right e1) (λ b after. compared (M.Compare c.relation) a b spare after)
        (pure_right g has alive n ready places fields bits set op right pure c_right (right_valued pure) e1 one.passes.t st one.passes.at one.passes.sim) (λ b after. compared_extends c.relation a b spare after)
        (λ is_right b e2 (f, (same, given)). after_same g (Known g s o u st Q) (ap (λ (x : Right). compared (M.Compare c.relation) a x spare e2) same)
        (made_after g (Known g s o u st Q) tt (with_instr (I.Compare c.relation a f) e2) (λ within. inl (gives is_left is_right, field_compared bits set c.relation (length d.fields) a f v w u d e1 e2 s st words_compare (omega arith) (let first = one_more set bits W.Own d in let more = fields_longer d1 e1 one.passes.grown.0 one.passes.grown.1 in omega (arith, first, more)) one given within))))
        (λ early z f. inr (right_ends is_left (ended_back g s one.passes.t (meant g fields right st) one.passes.go early))))
        (λ early z f. inr (left_ends early))

    pub relation_after : (ty : ValueType) (place : Place) (p q : Boxed) → ty.shape ≡ Some set → Follows g (Given g u st Q) s (meant g fields (T.Binary' ty place op p left q right) st) (then_make (spread_into (operand bits (is_quiet right) left) left spare d1) (λ a e. next a e))
    relation_after ty place p q shaped =
        known_follows g s (meant g fields (T.Binary' ty place op p left q right) st) u st Q (then_make (spread_into (operand bits (is_quiet right) left) left spare d1) (λ a e. next a e))
        (chosen (meant g fields (T.Binary' ty place op p left q right) st) (λ one other. binary_means fields.scope fields.active set ty place op p q left right (number left) (number right) st shaped no_check one other)
        (λ early. left_ended g fields ty place op p q left right s st early) (λ is_left early. right_ended g fields ty place op p q left right (number left) s s st (stay g s) is_left early) (relation_operands set left right are))
