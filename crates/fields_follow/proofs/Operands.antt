-- The operands of a parallel operator: the left one in a field, the right one in a field or as a word, and the
-- instruction that operates on them.
use Rattle.std.proofs.Common.{◌≡◌, ◌∙◌, ℕ, ◌+◌, ◌<◌, ◌≤◌, ◌==◌, ◌&&◌, Bool, true, false, not, [], ◌∷◌, length, Option, Some, None, refl, sym, ap, subst, arith, ◌⊎◌, inl, inr, if◌then◌else◌}
use Rattle.constant_trees.proofs.Bringing.{right_false}
use Rattle.cstar_base.specs.declared.faults.RunFault.TheVariants.{DivZero}
use Rattle.cstar_base.specs.declared.operators.Op.{Op}
use Rattle.cstar_base.specs.declared.operators.Place.{Place}
use Rattle.cstar_base.specs.Operators.{divides, outcome}
use Rattle.cstar_tree.specs.declared.typed.TExpr.{TExpr}
use Rattle.cstar_tree.specs.declared.typed.TExpr as T
use Rattle.cstar_tree.specs.declared.typed.ValueType.{ValueType}
use Rattle.cstar_tree.specs.Typed.{type_of}
use Rattle.cstar_tree.specs.declared.typed.Variable.{Variable}
use Rattle.code_lengths.specs.Ready.{IsReadyButForFields}
use Rattle.lower_base.specs.declared.emit.Out.{Out}
use Rattle.lower_base.specs.declared.emit.Out.TheVariants as O
use Rattle.lower_base.specs.declared.operators.Machine.{Machine}
use Rattle.lower_base.specs.declared.operators.Machine.TheVariants as M
use Rattle.lower_base.specs.Drafts.{Draft, Made, Makes, an_entry, from, step as step_of, then_make, with_instr}
use Rattle.lower_base.specs.Operators.{operation_of, relates}
use Rattle.lower_expr.specs.declared.steps.Right.{Right}
use Rattle.lower_expr.specs.declared.steps.Right.TheVariants as R
use Rattle.lower_expr.specs.Operands.{in_place, is_quiet, operand_by}
use Rattle.lower_expr.specs.Steps.{fields_operated, in_a_field, on_fields, on_word, right_operated, takes_word, with_field_check, word_taken}
use Rattle.lower_expr.specs.Values.{Code, fields_by, right_by, right_given, spread_by, spread_into}
use Rattle.paris_code.specs.declared.instr.Instr.{Instr}
use Rattle.paris_code.specs.declared.instr.Instr.TheVariants as I
use Rattle.paris_code.specs.declared.operands.Field.{Field}
use Rattle.paris_code.specs.declared.operands.Konst.{Konst}
use Rattle.paris_code.specs.declared.operands.Konst.TheVariants as K
use Rattle.paris_code.specs.declared.operands.Operation.{Operation}
use Rattle.paris_code.specs.declared.program.Owner.TheVariants as W
use Rattle.paris_code.specs.Code.{CodeState}
use Rattle.paris_code.specs.Memory.{processors}
use Rattle.paris_code.specs.Spans.{StandsAt}
use Rattle.source_meaning.specs.Constants.{then_value}
use Rattle.source_meaning.specs.State as Source
use Rattle.source_meaning.specs.State.{State}
use Rattle.source_meaning.specs.Values.{Parallel}
use Rattle.source_meaning.proofs.ConstantLaws.{Boxed}
use Rattle.code_follows.proofs.Following.{Extends, Finishes, Follows, HasRegisters, Sim, extends_made, extends_then, follows_same}
use Rattle.code_follows.proofs.Growing.{as_it_was, extended}
use Rattle.code_follows.proofs.Settings.{OpenAmong, Setting, Within, and_one, code_more, earlier, layout}
use Rattle.fields_follow.specs.Fragment.{IsDivisor, IsOperation, IsPromoted, IsPure}
use Rattle.fields_follow.proofs.Dividing.{divided_after, left_ended, never_zero, operator_ends, operator_gives, right_ended, zero_at}
use Rattle.fields_follow.proofs.Forms.{HasItsCode, HasItsWord, divisor_word, promoted_kept, promoted_not_held, pure_word}
use Rattle.fields_follow.proofs.Lengths.{Keeps}
use Rattle.fields_follow.proofs.Hops.{puts_same}
use Rattle.fields_follow.proofs.Instructions.{Puts, extents, operation_is, puts_constant, puts_operate, puts_operate_constant, shapes, word_in}
use Rattle.fields_follow.proofs.Meaning.{AreOperands, value_in, word_at}
use Rattle.fields_follow.proofs.Outcomes.{Ended, Given, given_follows, given_through, given_weaker, meant, then_known}
use Rattle.fields_follow.proofs.Passing.{After, Behind, GivesField, HasOneBit, Passes, after_same, code_longer, fields_longer, gives_from, gives_numbers, gives_on, made_after, names_second, names_third, passes_all, passes_less, passes_on, puts_own, stands_less, still_numbers, then_after, gives_set, next_own}
use Rattle.fields_follow.proofs.Places.{HoldsTheFields, PlacesFields, stands_here}
use Rattle.fields_follow.proofs.Promoted.{IsComputed, computed_after, promoted_stands}
use Rattle.fields_follow.proofs.Spreading.{GivesWord, HasBoth, spread_behind}
use Rattle.fields_follow.proofs.Values.{Gives, IsFlag, Valued, and_entry, code_of, next_field, one_more, operand_after, operand_of, taken, with_entry}
use Rattle.fields_follow.proofs.Starts.{no_home, starts_entry, Starts}
use Rattle.fields_follow.proofs.Locals.{IsNoHome}

-- the instruction that operates on a field and what the right operand is
abbrev pub operating : Op → Bool → Field → Field → Right → Instr
operating op signed dest left (R.Field b) = I.Operate (operation_of op signed) dest left b
operating op signed dest left (R.Word k) = I.OperateConstant (operation_of op signed) dest left k

-- no check is needed: the operator divides nothing, or by a word that is given
abbrev IsUnchecked : Op → Right → Type 0
IsUnchecked op right = (divides op ≡ false) ⊎ ((word : ℕ) × (right ≡ R.Word (K.Imm word)))

-- a divisor that is given is not 0
abbrev pub Takes : Op → Right → Type 0
Takes op right = (word : ℕ) → right ≡ R.Word (K.Imm word) → divides op ≡ true → (word == 0) ≡ false

module _ (g : Setting) where
  pub in_field_extends : (v : Out) (dest : Field) (d : Draft) → Extends g d (in_a_field v dest d)
  unfolding Extends in_a_field
  in_field_extends (O.Field f) dest d = (0, as_it_was d)
  in_field_extends (O.Scalar r) dest d = (1, and_one g (I.MoveConstant dest (K.Reg r)) d)
  in_field_extends O.Nothing dest d = tt

  pub right_extends : (code : Code) (op : Op) (e : TExpr) → ((d : Draft) → Extends g d (code d)) → (d : Draft) → Extends g d (right_by code op e d)
  unfolding right_by Extends from
  right_extends code op e grows d = by (word_taken op e)
    where
      given : (o : Option Right) (after : Draft) → Extends g after (from o (λ right. Makes right after))
      given (Some right) after = (0, as_it_was after)
      given None after = tt

      by : (o : Option ℕ) → Extends g d (elim o as (λ _. Made Right) [ Some word ↦ Makes (R.Word (K.Imm word)) d | None ↦ then_make (code d) (λ v after. from (right_given v) (λ right. Makes right after)) ])
      by (Some word) = (0, as_it_was d)
      by None = extends_then g d (code d) (λ v after. from (right_given v) (λ right. Makes right after)) (grows d) (λ v after. given (right_given v) after)

  -- there is no check, and no field is spread
  pub operated_is : (op : Op) (signed : Bool) (place : Place) (dest left spare : Field) (right : Right) (e : Draft) → relates op ≡ false → IsUnchecked op right → right_operated op signed place dest left right spare e ≡ Makes (O.Field dest) (with_instr (operating op signed dest left right) e)
  unfolding right_operated fields_operated with_field_check on_fields on_word takes_word
  operated_is op signed place dest left spare right e operates takes = by right takes
    where
      not_checked : (c : Bool) (r : ℕ) → c ≡ false → (if not c then Makes (O.Field dest) (with_instr (I.OperateConstant (operation_of op signed) dest left (K.Reg r)) e) else on_fields (M.Operate (operation_of op signed)) dest left spare (with_field_check op place spare (with_instr (I.MoveConstant spare (K.Reg r)) e)))
          ≡ Makes (O.Field dest) (with_instr (I.OperateConstant (operation_of op signed) dest left (K.Reg r)) e)
      not_checked false r e = refl
      not_checked true r e = cc

      given : (word : ℕ) → right_operated op signed place dest left (R.Word (K.Imm word)) spare e ≡ Makes (O.Field dest) (with_instr (I.OperateConstant (operation_of op signed) dest left (K.Imm word)) e)
      given word = ap (λ (m : Machine). on_word m op place dest left (K.Imm word) spare e) (operation_is op signed operates)

      by : (right : Right) → IsUnchecked op right → right_operated op signed place dest left right spare e ≡ Makes (O.Field dest) (with_instr (operating op signed dest left right) e)
      by right (inr (word, same)) = subst (λ (x : Right). right_operated op signed place dest left x spare e ≡ Makes (O.Field dest) (with_instr (operating op signed dest left x) e)) (sym same) (given word)
      by (R.Field b) (inl no_check) =
          ap (λ (m : Machine). on_fields m dest left b (if divides op then with_instr (I.CheckDivisor place b) e else e)) (operation_is op signed operates)
          ∙ ap (λ (c : Bool). Makes (O.Field dest) (with_instr (I.Operate (operation_of op signed) dest left b) (if c then with_instr (I.CheckDivisor place b) e else e))) no_check
      by (R.Word (K.Imm word)) (inl no_check) = given word
      by (R.Word (K.Reg r)) (inl no_check) = ap (λ (m : Machine). on_word m op place dest left (K.Reg r) spare e) (operation_is op signed operates) ∙ not_checked (divides op) r no_check

  -- a divisor in a field is checked, and one in a register is spread first
  checked_is : (op : Op) (signed : Bool) (place : Place) (dest left spare b : Field) (e : Draft) → relates op ≡ false → divides op ≡ true
      → right_operated op signed place dest left (R.Field b) spare e ≡ Makes (O.Field dest) (with_instr (I.Operate (operation_of op signed) dest left b) (with_instr (I.CheckDivisor place b) e))
  unfolding right_operated fields_operated with_field_check on_fields
  checked_is op signed place dest left spare b e operates divided =
      ap (λ (m : Machine). on_fields m dest left b (if divides op then with_instr (I.CheckDivisor place b) e else e)) (operation_is op signed operates)
      ∙ ap (λ (c : Bool). Makes (O.Field dest) (with_instr (I.Operate (operation_of op signed) dest left b) (if c then with_instr (I.CheckDivisor place b) e else e))) divided

  spread_is : (op : Op) (signed : Bool) (place : Place) (dest left spare : Field) (r : ℕ) (e : Draft) → relates op ≡ false → divides op ≡ true
      → right_operated op signed place dest left (R.Word (K.Reg r)) spare e
      ≡ Makes (O.Field dest) (with_instr (I.Operate (operation_of op signed) dest left spare) (with_instr (I.CheckDivisor place spare) (with_instr (I.MoveConstant spare (K.Reg r)) e)))
  unfolding right_operated on_word takes_word with_field_check on_fields
  spread_is op signed place dest left spare r e operates divided =
      ap (λ (m : Machine). on_word m op place dest left (K.Reg r) spare e) (operation_is op signed operates)
      ∙ ap (λ (c : Bool). if not c then Makes (O.Field dest) (with_instr (I.OperateConstant (operation_of op signed) dest left (K.Reg r)) e) else on_fields (M.Operate (operation_of op signed)) dest left spare (if c then with_instr (I.CheckDivisor place spare) (with_instr (I.MoveConstant spare (K.Reg r)) e) else with_instr (I.MoveConstant spare (K.Reg r)) e)) divided

  -- the code goes on, with a check or without
  pub operated_extends : (op : Op) (signed : Bool) (place : Place) (dest left spare : Field) (right : Right) (e : Draft) → relates op ≡ false → Extends g e (right_operated op signed place dest left right spare e)
  unfolding Extends right_operated fields_operated with_field_check on_fields on_word takes_word
  operated_extends op signed place dest left spare right e operates = by right
    where
      act : Operation
      act = operation_of op signed

      checked : (c : Bool) (b : Field) (after : Draft) → Extends g after (on_fields (M.Operate act) dest left b (if c then with_instr (I.CheckDivisor place b) after else after))
      checked true b after = (1 + 1, extended after (with_instr (I.CheckDivisor place b) after) (with_instr (I.Operate act dest left b) (with_instr (I.CheckDivisor place b) after)) 1 1 (and_one g (I.CheckDivisor place b) after) (and_one g (I.Operate act dest left b) (with_instr (I.CheckDivisor place b) after)))
      checked false b after = (1, and_one g (I.Operate act dest left b) after)

      spread : (c : Bool) (r : ℕ) → Extends g e (if not c then Makes (O.Field dest) (with_instr (I.OperateConstant act dest left (K.Reg r)) e) else on_fields (M.Operate act) dest left spare (with_field_check op place spare (with_instr (I.MoveConstant spare (K.Reg r)) e)))
      spread false r = (1, and_one g (I.OperateConstant act dest left (K.Reg r)) e)
      spread true r = extends_made g e (with_instr (I.MoveConstant spare (K.Reg r)) e) 1 (on_fields (M.Operate act) dest left spare (with_field_check op place spare (with_instr (I.MoveConstant spare (K.Reg r)) e))) (and_one g (I.MoveConstant spare (K.Reg r)) e) (checked (divides op) spare (with_instr (I.MoveConstant spare (K.Reg r)) e))

      by : (right : Right) → Extends g e (right_operated op signed place dest left right spare e)
      by (R.Field b) = subst (λ (m : Machine). Extends g e (on_fields m dest left b (if divides op then with_instr (I.CheckDivisor place b) e else e))) (sym (operation_is op signed operates)) (checked (divides op) b e)
      by (R.Word (K.Imm word)) = subst (λ (m : Machine). Extends g e (on_word m op place dest left (K.Imm word) spare e)) (sym (operation_is op signed operates)) (1, and_one g (I.OperateConstant act dest left (K.Imm word)) e)
      by (R.Word (K.Reg r)) = subst (λ (m : Machine). Extends g e (on_word m op place dest left (K.Reg r) spare e)) (sym (operation_is op signed operates)) (spread (divides op) r)

  module _ (has : HasRegisters g) (alive : Variable → Type 0) (n : ℕ) (ready : (d : Draft) → IsReadyButForFields g.typed g.instance (layout g) n d) (places : PlacesFields g) (fields : HoldsTheFields g) where
    abbrev operand : ℕ → Bool → TExpr → Code
    operand bits quiet e = operand_of g has alive n ready places fields bits quiet e

    abbrev IsValued : ℕ → ℕ → TExpr → Type 0
    IsValued bits set e = Valued g has alive n ready places fields bits set e (λ d. code_of g has alive n ready places fields bits e d)

    -- the field is given by code, and a variable in which it stands has one bit
    abbrev pub GivesOwn : ℕ → ℕ → Draft → CodeState → ℕ → State → (ℕ → ℕ) → Field → Draft → Type 0
    GivesOwn bits bound d s set st v f e = (gives : GivesField g alive bits bound d s set st v f e) × HasOneBit g alive gives.stands

    -- a word at every position of a fresh entry, behind the code that gives it
    pub word_spread : (bits set : ℕ) (d e : Draft) (k : Konst) (v : ℕ → ℕ) (s : CodeState) (st : State) → IsNoHome g (OpenAmong g alive) (length d.fields) → GivesWord g alive (length d.fields) (with_entry set bits W.Own d) s st v k e → Within g (with_instr (I.MoveConstant (next_field set bits d) k) e)
        → GivesOwn bits (length d.fields) (with_entry set bits W.Own d) s set st v (next_field set bits d) (with_instr (I.MoveConstant (next_field set bits d) k) e)
    unfolding puts_own next_own gives_on stands_less
    word_spread bits set d e k v s st none h within =
        let d1 : Draft = with_entry set bits W.Own d in
        let i : Instr = I.MoveConstant (next_field set bits d) k in
        let first = one_more set bits W.Own d in
        let more = fields_longer d1 e h.passes.grown.0 h.passes.grown.1 in (
          gives_on g alive bits (length d.fields) (length d.fields) d1 e (with_instr i e) s set st v (next_field set bits d) (Unit {0}) (omega arith) h.passes (λ behind. tt)
              (puts_own g alive places fields bits (length d.fields) set i (next_field set bits d) e h.passes.t st v (omega arith) (omega (arith, first, more))
              (taken g set bits W.Own d (with_instr i e) (h.passes.grown.0 + 1) within (extended d1 e (with_instr i e) h.passes.grown.0 1 h.passes.grown.1 (and_one g i e))) none refl refl within h.passes.at h.passes.sim
              (puts_same g set i (next_field set bits d) h.passes.t (λ q. word_in g k h.passes.t) v (λ q below. sym (h.same q)) (puts_constant g set (next_field set bits d) k h.passes.t h.small))),
          tt,
        )

    -- a constant has its word wherever the code stands
    pub constant_given : (bound : ℕ) (set : ℕ) (e : TExpr) (h : HasItsWord e) (d : Draft) (s : CodeState) (st : State) → Starts g alive s (length d.code) d.regs (length d.fields) → Sim g alive st s → GivesWord g alive bound d s st (λ q. word_at (extents g set) st e q) (K.Imm h.word) d
    unfolding word_in
    constant_given bound set e h d s st here sim = record { passes = passes_all g alive bound d s st (Unit {0}) here sim; small = h.small; same = λ q. h.value (extents g set) st q; lasts = λ t sim keeps. refl }

    -- a left operand that is not promoted stands in a field, and the fresh one is not used
    pub pure_left : (bits set : ℕ) (e : TExpr) (quiet : Bool) → IsPure set e → HasItsCode g.typed g.instance alive n e → IsValued bits set e → (dest : Field) (d : Draft) (s : CodeState) (st : State) → Starts g alive s (length d.code) d.regs (length d.fields) → Sim g alive st s
        → Follows g (Given g (λ q. value_in (extents g set) st e q) st (GivesField g alive bits (length d.fields) d s set st (λ q. word_at (extents g set) st e q))) s (meant g fields e st) (spread_into (operand bits quiet e) e dest d)
    unfolding spread_into in_a_field
    pure_left bits set e quiet pure c whole dest d s st here sim =
        follows_same g (Given g v st Q) s refl (ap (λ (o : Option ℕ). elim o as (λ _. Made Field) [ Some word ↦ Makes dest (with_instr (I.MoveConstant dest (K.Imm word)) d) | None ↦ then_make (operand bits quiet e d) (λ x after. in_a_field x dest after) ]) (pure_word set e pure))
        (given_through g s (meant g fields e st) v st P Q (operand bits quiet e d) (λ x after. in_a_field x dest after) (λ x after. in_field_extends x dest after)
        (λ part h. then_after g P Q part (λ x after. in_a_field x dest after) h (λ x after. in_field_extends x dest after) (λ x after (f, (is, (gives, apart))). after_same g Q (ap (λ (o : Out). in_a_field o dest after) is) (made_after g Q f after (λ within. gives))))
        (operand_after g has alive n ready places fields bits set e quiet pure c whole d s st here sim))
      where
        v : ℕ → ℕ
        v = λ q. value_in (extents g set) st e q

        P : Out → Draft → Type 0
        P = Gives g has alive n ready places fields (IsFlag e) bits (length d.fields) d s set st (λ q. word_at (extents g set) st e q)

        Q : Field → Draft → Type 0
        Q = GivesField g alive bits (length d.fields) d s set st (λ q. word_at (extents g set) st e q)

    -- one that is stands in the fresh one
    promoted_own : (bits set : ℕ) (e : TExpr) (quiet : Bool) → IsPromoted set e → HasItsCode g.typed g.instance alive n e → (d : Draft) (s : CodeState) (st : State) → Starts g alive s (length d.code) d.regs (length d.fields) → Sim g alive st s
        → Follows g (Given g (λ q. value_in (extents g set) st e q) st (GivesOwn bits (length d.fields) (with_entry set bits W.Own d) s set st (λ q. word_at (extents g set) st e q))) s (meant g fields e st) (spread_into (operand bits quiet e) e (next_field set bits d) (with_entry set bits W.Own d))
    unfolding spread_into in_a_field then_make
    promoted_own bits set e quiet promoted c d s st here sim = by (promoted_stands g alive n set e promoted c)
      where
        d1 : Draft
        d1 = with_entry set bits W.Own d

        dest : Field
        dest = next_field set bits d

        v : ℕ → ℕ
        v = λ q. value_in (extents g set) st e q

        Q : Field → Draft → Type 0
        Q = GivesOwn bits (length d.fields) d1 s set st (λ q. word_at (extents g set) st e q)

        P : Out → Draft → Type 0
        P out f = (r : ℕ) × ((out ≡ O.Scalar r) × GivesWord g alive (length d.fields) d1 s st (λ q. word_at (extents g set) st e q) (K.Reg r) f)

        code : Option ℕ → Made Field
        code o = elim o as (λ _. Made Field) [ Some word ↦ Makes dest (with_instr (I.MoveConstant dest (K.Imm word)) d1) | None ↦ then_make (operand bits quiet e d1) (λ x after. in_a_field x dest after) ]

        by : HasItsWord e ⊎ IsComputed g alive n set e → Follows g (Given g v st Q) s (meant g fields e st) (spread_into (operand bits quiet e) e dest d1)
        by (inl h) =
            given_follows g s (meant g fields e st) v st Q (spread_into (operand bits quiet e) e dest d1) (h.means fields.scope fields.active (extents g set) st)
            (after_same g Q (ap code h.is) (made_after g Q dest (with_instr (I.MoveConstant dest (K.Imm h.word)) d1) (λ within. word_spread bits set d d1 (K.Imm h.word) (λ q. word_at (extents g set) st e q) s st (no_home g alive (length d.fields) (length d.fields) (omega arith) here) (constant_given (length d.fields) set e h d1 s st (starts_entry g alive _ _ here) sim) within)))
        by (inr h) =
            follows_same g (Given g v st Q) s refl (ap code h.no_word)
            (given_through g s (meant g fields e st) v st P Q (operand bits quiet e d1) (λ x after. in_a_field x dest after) (λ x after. in_field_extends x dest after)
            (λ part said. then_after g P Q part (λ x after. in_a_field x dest after) said (λ x after. in_field_extends x dest after) (λ x after (r, (is, gives)). after_same g Q (ap (λ (o : Out). in_a_field o dest after) is)
            (made_after g Q dest (with_instr (I.MoveConstant dest (K.Reg r)) after) (λ within. word_spread bits set d after (K.Reg r) (λ q. word_at (extents g set) st e q) s st (no_home g alive (length d.fields) (length d.fields) (omega arith) here) gives within))))
            (computed_after g alive n has ready fields set bits (length d.fields) quiet e h d1 s st (starts_entry g alive _ _ here) sim))

    pub promoted_left : (bits set : ℕ) (e : TExpr) (quiet : Bool) → IsPromoted set e → HasItsCode g.typed g.instance alive n e → (d : Draft) (s : CodeState) (st : State) → Starts g alive s (length d.code) d.regs (length d.fields) → Sim g alive st s
        → Follows g (Given g (λ q. value_in (extents g set) st e q) st (GivesField g alive bits (length d.fields) (with_entry set bits W.Own d) s set st (λ q. word_at (extents g set) st e q))) s (meant g fields e st) (spread_into (operand bits quiet e) e (next_field set bits d) (with_entry set bits W.Own d))
    promoted_left bits set e quiet promoted c d s st here sim =
        given_weaker g s (meant g fields e st) (λ q. value_in (extents g set) st e q) st (GivesOwn bits (length d.fields) (with_entry set bits W.Own d) s set st (λ q. word_at (extents g set) st e q)) (GivesField g alive bits (length d.fields) (with_entry set bits W.Own d) s set st (λ q. word_at (extents g set) st e q))
        (spread_into (operand bits quiet e) e (next_field set bits d) (with_entry set bits W.Own d)) (λ f after own. own.0) (promoted_own bits set e quiet promoted c d s st here sim)

    -- so it does where it is spread by itself, from the code of an operand and from that of the value
    pub promoted_spread : (bits set : ℕ) (e : TExpr) (quiet : Bool) → IsPromoted set e → HasItsCode g.typed g.instance alive n e → Valued g has alive n ready places fields bits set e (λ d. spread_by (operand bits quiet e) e set bits d)
    unfolding spread_by an_entry then_make Extends gives_from
    promoted_spread bits set e quiet promoted c d s st here sim =
        follows_same g (Given g v st Q) s refl
        (ap (λ (b : Bool). if b then then_make (an_entry set bits W.Own d) (λ dest between. then_make (spread_into (operand bits quiet e) e dest between) put) else operand bits quiet e d) (promoted_kept set e promoted))
        (given_through g s (meant g fields e st) v st P Q (spread_into (operand bits quiet e) e dest d1) put (λ f after. (0, as_it_was after))
        (λ part h. then_after g P Q part put h (λ f after. (0, as_it_was after)) (λ f after own. made_after g Q (O.Field f) after (λ within. (f, (refl, (gives_from g alive bits (length d.fields) d d1 after s set st (λ q. word_at (extents g set) st e q) f (and_entry set bits W.Own d) own.0, λ one. own.1))))))
        (promoted_own bits set e quiet promoted c d s st here sim))
      where
        d1 : Draft
        d1 = with_entry set bits W.Own d

        dest : Field
        dest = next_field set bits d

        put : Field → Draft → Made Out
        put f after = Makes (O.Field f) after

        v : ℕ → ℕ
        v q = value_in (extents g set) st e q

        P : Field → Draft → Type 0
        P f after = GivesOwn bits (length d.fields) d1 s set st (λ q. word_at (extents g set) st e q) f after

        Q : Out → Draft → Type 0
        Q out f = Gives g has alive n ready places fields (IsFlag e) bits (length d.fields) d s set st (λ q. word_at (extents g set) st e q) out f

    pub promoted_spreads : (bits set : ℕ) (e : TExpr) → IsPromoted set e → HasItsCode g.typed g.instance alive n e → Valued g has alive n ready places fields bits set e (λ d. spread_by (code_of g has alive n ready places fields bits e) e set bits d)
    unfolding operand_by in_place
    promoted_spreads bits set e promoted c =
        subst (λ (code : Code). Valued g has alive n ready places fields bits set e (λ d. spread_by code e set bits d))
        (λ j d. elim (promoted_not_held set (layout g) e promoted j) as (λ _. Made Out) [ Some r ↦ Makes (O.Scalar r) d | None ↦ code_of g has alive n ready places fields bits e d ]) (promoted_spread bits set e false promoted c)

    -- the right operand stands in a field, or is a word that is the same at every position
    abbrev pub GivesRight : ℕ → ℕ → Draft → CodeState → ℕ → State → (ℕ → ℕ) → Right → Draft → Type 0
    GivesRight bits bound d s set st v right e =
        ((b : Field) × ((right ≡ R.Field b) × GivesField g alive bits bound d s set st v b e)) ⊎ ((k : Konst) × ((right ≡ R.Word k) × GivesWord g alive bound d s st v k e))

    -- one that is not promoted stands in a field
    abbrev pub RightField : ℕ → Draft → CodeState → ℕ → State → (ℕ → ℕ) → Right → Draft → Type 0
    RightField bits d s set st v right e = (b : Field) × ((right ≡ R.Field b) × GivesField g alive bits (length d.fields) d s set st v b e)

    pub pure_right : (bits set : ℕ) (op : Op) (e : TExpr) → IsPure set e → HasItsCode g.typed g.instance alive n e → IsValued bits set e → (d : Draft) (s : CodeState) (st : State) → Starts g alive s (length d.code) d.regs (length d.fields) → Sim g alive st s
        → Follows g (Given g (λ q. value_in (extents g set) st e q) st (RightField bits d s set st (λ q. word_at (extents g set) st e q))) s (meant g fields e st) (right_by (operand bits true e) op e d)
    unfolding right_by word_taken then_make right_given from Extends
    pure_right bits set op e pure c whole d s st here sim =
        follows_same g (Given g v st Q) s refl
        (ap (λ (o : Option ℕ). elim (then_value o (λ w. if divides op && w == 0 then None else Some w)) as (λ _. Made Right) [ Some word ↦ Makes (R.Word (K.Imm word)) d | None ↦ then_make (operand bits true e d) next ]) (pure_word set e pure))
        (given_through g s (meant g fields e st) v st P Q (operand bits true e d) next (λ x after. given (right_given x) after)
        (λ part h. then_after g P Q part next h (λ x after. given (right_given x) after) (λ x after (f, (is, (gives, apart))). after_same g Q (ap (λ (o : Out). next o after) is) (made_after g Q (R.Field f) after (λ within. (f, (refl, gives))))))
        (operand_after g has alive n ready places fields bits set e true pure c whole d s st here sim))
      where
        v : ℕ → ℕ
        v = λ q. value_in (extents g set) st e q

        P : Out → Draft → Type 0
        P = Gives g has alive n ready places fields (IsFlag e) bits (length d.fields) d s set st (λ q. word_at (extents g set) st e q)

        Q : Right → Draft → Type 0
        Q = RightField bits d s set st (λ q. word_at (extents g set) st e q)

        next : Out → Draft → Made Right
        next x after = from (right_given x) (λ right. Makes right after)

        given : (o : Option Right) (after : Draft) → Extends g after (from o (λ right. Makes right after))
        given (Some right) after = (0, as_it_was after)
        given None after = tt

    -- a promoted one is a word: a constant has no code
    pub promoted_right : (bits set : ℕ) (op : Op) (e : TExpr) → IsPromoted set e → (divides op ≡ false) ⊎ IsDivisor e → HasItsCode g.typed g.instance alive n e → (d : Draft) (s : CodeState) (st : State) → Starts g alive s (length d.code) d.regs (length d.fields) → Sim g alive st s
        → Follows g (Given g (λ q. value_in (extents g set) st e q) st (λ right f. Takes op right × GivesRight bits (length d.fields) d s set st (λ q. word_at (extents g set) st e q) right f)) s (meant g fields e st) (right_by (operand bits true e) op e d)
    unfolding right_by word_taken then_make right_given from Extends
    promoted_right bits set op e promoted is c d s st here sim = by (promoted_stands g alive n set e promoted c)
      where
        v : ℕ → ℕ
        v = λ q. word_at (extents g set) st e q

        Q : Right → Draft → Type 0
        Q right f = Takes op right × GivesRight bits (length d.fields) d s set st v right f

        code : Option ℕ → Made Right
        code o = elim (then_value o (λ w. if divides op && w == 0 then None else Some w)) as (λ _. Made Right) [ Some word ↦ Makes (R.Word (K.Imm word)) d | None ↦ then_make (operand bits true e d) (λ x after. from (right_given x) (λ right. Makes right after)) ]

        some : (h : HasItsWord e) → (divides op ≡ false) ⊎ IsDivisor e → divides op ≡ true → (h.word == 0) ≡ false
        some h (inl plain) divided = cc
        some h (inr divisor) divided = divisor_word set e h.word promoted divisor h.is

        unless : (h : HasItsWord e) → (d z : Bool) → divides op ≡ d → (h.word == 0) ≡ z → (divides op && h.word == 0) ≡ false
        unless h true z divided is_z = ap (λ (b : Bool). divides op && b) (some h is divided) ∙ right_false (divides op) false refl
        unless h false z plain is_z = ap (λ (b : Bool). b && h.word == 0) plain

        imm_same : (a b : ℕ) → R.Word (K.Imm a) ≡ R.Word (K.Imm b) → a ≡ b
        imm_same a b same = ap (λ (r : Right). elim r as (λ _. ℕ) [ R.Field f ↦ a | R.Word k ↦ elim k as (λ _. ℕ) [ K.Imm x ↦ x | K.Reg x ↦ a ] ]) same

        P : Out → Draft → Type 0
        P out f = (r : ℕ) × ((out ≡ O.Scalar r) × GivesWord g alive (length d.fields) d s st v (K.Reg r) f)

        next : Out → Draft → Made Right
        next x after = from (right_given x) (λ right. Makes right after)

        given : (o : Option Right) (after : Draft) → Extends g after (from o (λ right. Makes right after))
        given (Some right) after = (0, as_it_was after)
        given None after = tt

        by : HasItsWord e ⊎ IsComputed g alive n set e → Follows g (Given g (λ q. value_in (extents g set) st e q) st Q) s (meant g fields e st) (right_by (operand bits true e) op e d)
        by (inl h) =
            given_follows g s (meant g fields e st) (λ q. value_in (extents g set) st e q) st Q (right_by (operand bits true e) op e d) (h.means fields.scope fields.active (extents g set) st)
            (after_same g Q
            (ap code h.is ∙ ap (λ (b : Bool). elim (if b then None else Some h.word) as (λ _. Made Right) [ Some word ↦ Makes (R.Word (K.Imm word)) d | None ↦ then_make (operand bits true e d) next ]) (unless h (divides op) (h.word == 0) refl refl))
            (made_after g Q (R.Word (K.Imm h.word)) d (λ within. (
              λ word same divided. ap (λ (x : ℕ). x == 0) (sym (imm_same h.word word same)) ∙ some h is divided,
              inr (K.Imm h.word, (refl, constant_given (length d.fields) set e h d s st here sim)),
            ))))
        by (inr h) =
            follows_same g (Given g (λ q. value_in (extents g set) st e q) st Q) s refl (ap code h.no_word)
            (given_through g s (meant g fields e st) (λ q. value_in (extents g set) st e q) st P Q (operand bits true e d) next (λ x after. given (right_given x) after)
            (λ part said. then_after g P Q part next said (λ x after. given (right_given x) after) (λ x after (r, (is_r, gives)). after_same g Q (ap (λ (o : Out). next o after) is_r)
            (made_after g Q (R.Word (K.Reg r)) after (λ within. ((λ word same divided. cc), inr (K.Reg r, (refl, gives)))))))
            (computed_after g alive n has ready fields set bits (length d.fields) true e h d s st here sim))

    -- any right operand
    pub right_after : (bits set : ℕ) (op : Op) (e : TExpr) → (divides op ≡ false) ⊎ IsDivisor e → IsPure set e ⊎ IsPromoted set e → HasItsCode g.typed g.instance alive n e → (IsPure set e → IsValued bits set e) → (d : Draft) (s : CodeState) (st : State) → Starts g alive s (length d.code) d.regs (length d.fields) → Sim g alive st s
        → Follows g (Given g (λ q. value_in (extents g set) st e q) st (λ right f. Takes op right × GivesRight bits (length d.fields) d s set st (λ q. word_at (extents g set) st e q) right f)) s (meant g fields e st) (right_by (operand bits true e) op e d)
    right_after bits set op e is (inl pure) c whole d s st here sim =
        given_weaker g s (meant g fields e st) (λ q. value_in (extents g set) st e q) st (RightField bits d s set st (λ q. word_at (extents g set) st e q)) (λ right f. Takes op right × GivesRight bits (length d.fields) d s set st (λ q. word_at (extents g set) st e q) right f) (right_by (operand bits true e) op e d)
        (λ right f h. ((λ word same divided. let wrong = sym h.1.0 ∙ same in cc), inl h)) (pure_right bits set op e pure c (whole pure) d s st here sim)
    right_after bits set op e is (inr promoted) c whole d s st here sim = promoted_right bits set op e promoted is c d s st here sim

    -- A word is spread over the entry that was taken first only where the left operand does not stand there.
    abbrev pub Spares : ℕ → ℕ → ℕ → Draft → Right → Type 0
    Spares bits set bound d right = (k : Konst) → right ≡ R.Word k → length (with_entry set bits W.Own d).fields ≤ bound

    -- The instruction that operates on both: it puts the operator's numbers wherever it stands, and what stood
    -- before both is as it was. Where it divides, the divisor is checked before it.
    pub operated_after : (bits bound set : ℕ) (op : Op) (signed : Bool) (place : Place) (dest a : Field) (v w : ℕ → ℕ) (d e1 e2 : Draft) (s : CodeState) (st : State) → IsNoHome g (OpenAmong g alive) (length d.fields) → relates op ≡ false → (divides op ≡ true → bits ≡ 32) → ((q : ℕ) → Keeps op signed bits (w q)) → dest.len ≡ bits → length d.fields ≤ bound → bound ≤ length e1.fields
        → (left : GivesField g alive bits bound (with_entry set bits W.Own d) s set st v a e1) (right : Right) → Spares bits set bound d right → Takes op right → GivesRight bits (length e1.fields) e1 left.passes.t set st w right e2 → (Q : Out → Draft → Type 0)
        → (set < length (shapes g) → (divides op ≡ true → zero_at g fields set w ≡ None) → (e3 : Draft) (i : Instr) → Within g (with_instr i e3) → (p : Passes g alive (length d.fields) (with_entry set bits W.Own d) e3 s st (Unit {0})) → Puts g set i dest p.t (λ q. outcome op 32 (not signed) (v q) (w q)) → Q (O.Field dest) (with_instr i e3))
        → (set < length (shapes g) → divides op ≡ true → (q : ℕ) → zero_at g fields set w ≡ Some q → Finishes g (Source.Fault DivZero place (Some q)) st s → (x : Out) (f : Draft) → Q x f)
        → After g Q (right_operated op signed place dest a right (next_field set bits d) e2)
    unfolding step_of passes_on passes_less word_in
    operated_after bits bound set op signed place dest a v w d e1 e2 s st none_open operates wide keeps long low less left right spares takes given Q last fault = by (divides op) refl right spares takes given
      where
        d1 : Draft
        d1 = with_entry set bits W.Own d

        spare : Field
        spare = next_field set bits d

        Gives_right : Right → Type 0
        Gives_right right = GivesRight bits (length e1.fields) e1 left.passes.t set st w right e2

        there : set < length (shapes g)
        there = (gives_set g alive places fields bits bound d1 s set st v a e1 left).1

        -- behind a right one in a field, where both are named later
        both_behind : (b : Field) → (gives : GivesField g alive bits (length e1.fields) e1 left.passes.t set st w b e2) → Behind g a e2 → Behind g b e2 → HasBoth g alive bits set (length d.fields) a b d1 e2 s st v w
        both_behind b gives behind_a behind_b = record {
          passes = passes_less g alive (length d.fields) bound d1 e2 s st (Unit {0}) low (passes_on g alive bound (length e1.fields) d1 e1 e2 s st (Behind g a e1) (Behind g b e2) (Unit {0}) less left.passes gives.passes
              (λ u. (behind_a.0, (behind_a.1.0, (let longer = code_longer e1 e2 gives.passes.grown.0 gives.passes.grown.1 in let later = behind_a.1.1 in omega (arith, longer, later))))) (λ u. behind_b));
          left = still_numbers g alive places fields bits bound (length e1.fields) d1 s set st v a e1 e2 (Behind g b e2) left gives.passes behind_b (omega arith) behind_a;
          right = gives_numbers g alive places fields bits (length e1.fields) e1 left.passes.t set st w b e2 gives behind_b;
        }

        -- without a check
        plainly : (divides op ≡ true → zero_at g fields set w ≡ None) → (right : Right) → Gives_right right → Within g (with_instr (operating op signed dest a right) e2) → Q (O.Field dest) (with_instr (operating op signed dest a right) e2)
        plainly never right (inl (b, (same, gives))) within =
            subst (λ (x : Right). Within g (with_instr (operating op signed dest a x) e2) → Q (O.Field dest) (with_instr (operating op signed dest a x) e2)) (sym same) (λ within.
            let i : Instr = I.Operate (operation_of op signed) dest a b in
            let stands : StandsAt g.unit (length e2.code) i = stands_here g i e2 within refl in
            let both : HasBoth g alive bits set (length d.fields) a b d1 e2 s st v w = both_behind b gives (length e2.code, (names_second g i dest a (b ∷ []) (length e2.code) stands refl, omega arith)) (length e2.code, (names_third g i dest a b [] (length e2.code) stands refl, omega arith)) in
            last there never e2 i within both.passes (puts_operate g bits set op signed dest a b both.passes.t v w operates keeps long both.left both.right)) within
        plainly never right (inr (k, (same, gives))) within =
            subst (λ (x : Right). Within g (with_instr (operating op signed dest a x) e2) → Q (O.Field dest) (with_instr (operating op signed dest a x) e2)) (sym same) (λ within.
            let i : Instr = I.OperateConstant (operation_of op signed) dest a k in
            let stands : StandsAt g.unit (length e2.code) i = stands_here g i e2 within refl in
            let longer = code_longer e1 e2 gives.passes.grown.0 gives.passes.grown.1 in
            let behind_a : Behind g a e2 = (length e2.code, (names_second g i dest a [] (length e2.code) stands refl, omega arith)) in
            let early_a : Behind g a e1 = (length e2.code, (behind_a.1.0, longer)) in
            let same_all : (λ (q : ℕ). outcome op 32 (not signed) (v q) (word_in g k gives.passes.t)) ≡ (λ q. outcome op 32 (not signed) (v q) (w q)) = λ j q. outcome op 32 (not signed) (v q) (sym (gives.same q) j) in
            last there never e2 i within (passes_less g alive (length d.fields) bound d1 e2 s st (Unit {0}) low (passes_on g alive bound (length e1.fields) d1 e1 e2 s st (Behind g a e1) (Unit {0}) (Unit {0}) less left.passes gives.passes (λ u. early_a) (λ u. tt)))
            (subst (λ (x : ℕ → ℕ). Puts g set i dest gives.passes.t x) same_all
            (puts_operate_constant g bits set op signed dest a k gives.passes.t v operates (subst (λ (x : ℕ). Keeps op signed bits x) (gives.same 0) (keeps 0)) long
            (still_numbers g alive places fields bits bound (length e1.fields) d1 s set st v a e1 e2 (Unit {0}) left gives.passes tt (omega arith) behind_a) gives.small))) within

        unchecked : (divides op ≡ true → zero_at g fields set w ≡ None) → (right : Right) → IsUnchecked op right → Gives_right right → After g Q (right_operated op signed place dest a right spare e2)
        unchecked never right plain given = after_same g Q (operated_is op signed place dest a spare right e2 operates plain) (made_after g Q (O.Field dest) (with_instr (operating op signed dest a right) e2) (λ within. plainly never right given within))

        -- with one of a field, behind code that passes
        checked : (b : Field) (e : Draft) (within : Within g (with_instr (I.Operate (operation_of op signed) dest a b) (with_instr (I.CheckDivisor place b) e))) → divides op ≡ true → HasBoth g alive bits set (length d.fields) a b d1 e s st v w
            → Q (O.Field dest) (with_instr (I.Operate (operation_of op signed) dest a b) (with_instr (I.CheckDivisor place b) e))
        checked b e within divided both =
            divided_after g fields alive places bits set (length d.fields) (wide divided) op signed place dest a b v w d1 e s st (Q (O.Field dest) (with_instr (I.Operate (operation_of op signed) dest a b) (with_instr (I.CheckDivisor place b) e))) operates keeps long both within
            (λ none p puts. last there (λ h. none) (with_instr (I.CheckDivisor place b) e) (I.Operate (operation_of op signed) dest a b) within p puts) (λ q some ends. fault there divided q some ends (O.Field dest) (with_instr (I.Operate (operation_of op signed) dest a b) (with_instr (I.CheckDivisor place b) e)))

        in_field : divides op ≡ true → (b : Field) → Gives_right (R.Field b) → After g Q (right_operated op signed place dest a (R.Field b) spare e2)
        in_field divided b (inl (f, (same, gives))) =
            let is_b : f ≡ b = ap (λ (x : Right). elim x as (λ _. Field) [ R.Field h ↦ h | R.Word k ↦ b ]) (sym same) in
            after_same g Q (checked_is op signed place dest a spare b e2 operates divided)
            (made_after g Q (O.Field dest) (with_instr (I.Operate (operation_of op signed) dest a b) checks) (λ within.
            let i : Instr = I.Operate (operation_of op signed) dest a b in
            let stands : StandsAt g.unit (length checks.code) i = stands_here g i checks within refl in
            let long_checks = code_more g (I.CheckDivisor place b) e2 in
            checked b e2 within divided (both_behind b (subst (λ (x : Field). GivesField g alive bits (length e1.fields) e1 left.passes.t set st w x e2) is_b gives) (length checks.code, (names_second g i dest a (b ∷ []) (length checks.code) stands refl, omega (arith, long_checks))) (length checks.code, (names_third g i dest a b [] (length checks.code) stands refl, omega (arith, long_checks))))))
          where
            checks : Draft
            checks = with_instr (I.CheckDivisor place b) e2
        in_field divided b (inr (k, (same, gives))) = cc

        in_register : divides op ≡ true → (r : ℕ) → Spares bits set bound d (R.Word (K.Reg r)) → Gives_right (R.Word (K.Reg r)) → After g Q (right_operated op signed place dest a (R.Word (K.Reg r)) spare e2)
        in_register divided r spares (inl (f, (same, gives))) = cc
        in_register divided r spares (inr (k, (same, gives))) =
            let is_k : k ≡ K.Reg r = ap (λ (x : Right). elim x as (λ _. Konst) [ R.Field h ↦ k | R.Word y ↦ y ]) (sym same) in
            after_same g Q (spread_is op signed place dest a spare r e2 operates divided)
            (made_after g Q (O.Field dest) (with_instr (I.Operate (operation_of op signed) dest a spare) checks) (λ within.
            let i : Instr = I.Operate (operation_of op signed) dest a spare in
            let stands : StandsAt g.unit (length checks.code) i = stands_here g i checks within refl in
            let within3 : Within g e3 = earlier g e3 checks 1 (and_one g (I.CheckDivisor place spare) e3) (earlier g checks (with_instr i checks) 1 (and_one g i checks) within) in
            let long_checks = code_more g (I.CheckDivisor place spare) e3 in
            checked spare e3 within divided
            (spread_behind g alive places fields bits set bound a (K.Reg r) v w d e1 e2 s st none_open (spares (K.Reg r) refl) less left (subst (λ (x : Konst). GivesWord g alive (length e1.fields) e1 left.passes.t st w x e2) is_k gives) (length checks.code) within3
            (names_second g i dest a (spare ∷ []) (length checks.code) stands refl) (names_third g i dest a spare [] (length checks.code) stands refl) (omega (arith, long_checks)))))
          where
            e3 : Draft
            e3 = with_instr (I.MoveConstant spare (K.Reg r)) e2

            checks : Draft
            checks = with_instr (I.CheckDivisor place spare) e3

        word_never : (word : ℕ) → Takes op (R.Word (K.Imm word)) → Gives_right (R.Word (K.Imm word)) → divides op ≡ true → zero_at g fields set w ≡ None
        word_never word takes (inl (f, (same, gives))) divided = cc
        word_never word takes (inr (k, (same, gives))) divided =
            let is_k : k ≡ K.Imm word = ap (λ (x : Right). elim x as (λ _. Konst) [ R.Field h ↦ k | R.Word y ↦ y ]) (sym same) in
            never_zero g fields set w (λ q. ap (λ (n : ℕ). n == 0) (gives.same q ∙ ap (λ (x : Konst). word_in g x gives.passes.t) is_k) ∙ takes word refl divided)

        by : (c : Bool) → divides op ≡ c → (right : Right) → Spares bits set bound d right → Takes op right → Gives_right right → After g Q (right_operated op signed place dest a right spare e2)
        by false plain right spares takes given = unchecked (λ divided. cc) right (inl plain) given
        by true divided (R.Field b) spares takes given = in_field divided b given
        by true divided (R.Word (K.Imm word)) spares takes given = unchecked (word_never word takes given) (R.Word (K.Imm word)) (inr (word, refl)) given
        by true divided (R.Word (K.Reg r)) spares takes given = in_register divided r spares given

    -- an operator on two operands, from the entry that is taken for a promoted left one
    pub fields_after : (bits set : ℕ) (ty : ValueType) (place : Place) (op : Op) (p q : Boxed) (dest : Field) (left right : TExpr) (d : Draft) (s : CodeState) (st : State) → ty.shape ≡ Some set → IsOperation op right → (divides op ≡ true → bits ≡ 32)
        → ((x : ℕ) → Keeps op (type_of left).elem.signed bits (word_at (extents g set) st right x)) → ((x : ℕ) → x < processors (shapes g) set → word_at (extents g set) st right x ≡ value_in (extents g set) st right x) → dest.len ≡ bits → AreOperands set left right
        → HasItsCode g.typed g.instance alive n left → HasItsCode g.typed g.instance alive n right → (IsPure set left → IsValued bits set left) → (IsPure set right → IsValued bits set right)
        → ((quiet : Bool) (after : Draft) → Extends g after (operand bits quiet left after)) → ((quiet : Bool) (after : Draft) → Extends g after (operand bits quiet right after))
        → Starts g alive s (length d.code) d.regs (length d.fields) → Sim g alive st s → (Q : Out → Draft → Type 0)
        → (meant g fields (T.Binary' ty place op p left q right) st ≡ Source.Gives (Parallel (λ x. value_in (extents g set) st (T.Binary' ty place op p left q right) x)) st → (e2 : Draft) (i : Instr) → Within g (with_instr i e2) → (passes : Passes g alive (length d.fields) (with_entry set bits W.Own d) e2 s st (Unit {0}))
        → Puts g set i dest passes.t (λ x. outcome op 32 (not (type_of left).elem.signed) (word_at (extents g set) st left x) (word_at (extents g set) st right x)) → Q (O.Field dest) (with_instr i e2))
        → (Ended g s (meant g fields (T.Binary' ty place op p left q right) st) → (x : Out) (f : Draft) → Q x f)
        → After g Q (fields_by op (type_of left).elem.signed place dest (next_field set bits d) (operand bits (is_quiet right) left) left (operand bits true right) right (with_entry set bits W.Own d))
    unfolding fields_by value_in
    fields_after bits set ty place op p q dest left right d s st shaped is wide keeps words long operands c_left c_right whole_left whole_right left_grows right_grows here sim Q last ended = by operands
      where
        d1 : Draft
        d1 = with_entry set bits W.Own d

        spare : Field
        spare = next_field set bits d

        signed : Bool
        signed = (type_of left).elem.signed

        whole : TExpr
        whole = T.Binary' ty place op p left q right

        v : ℕ → ℕ
        v = λ x. value_in (extents g set) st left x

        w : ℕ → ℕ
        w = λ x. value_in (extents g set) st right x

        first : length d1.fields ≡ length d.fields + 1
        first = one_more set bits W.Own d

        operates : Field → Right → Draft → Made Out
        operates a b after = right_operated op signed place dest a b spare after

        next : Field → Draft → Made Out
        next a between = then_make (right_by (operand bits true right) op right between) (λ b after. operates a b after)

        next_extends : (a : Field) (between : Draft) → Extends g between (next a between)
        next_extends a between =
            extends_then g between (right_by (operand bits true right) op right between) (λ b after. operates a b after) (right_extends (operand bits true right) op right (right_grows true) between) (λ b after. operated_extends op signed place dest a spare b after is.0)

        -- behind the left one
        behind : (bound : ℕ) → length d.fields ≤ bound → (a : Field) (e1 : Draft) → meant g fields left st ≡ Source.Gives (Parallel v) st → bound ≤ length e1.fields → (one : GivesField g alive bits bound d1 s set st (λ x. word_at (extents g set) st left x) a e1)
            → Follows g (Given g w st (λ b f. Spares bits set bound d b × (Takes op b × GivesRight bits (length e1.fields) e1 one.passes.t set st (λ x. word_at (extents g set) st right x) b f))) one.passes.t (meant g fields right st) (right_by (operand bits true right) op right e1)
            → After g Q (next a e1)
        behind bound low a e1 is_left less one follows =
            then_known g one.passes.t (meant g fields right st) w st (λ b f. Spares bits set bound d b × (Takes op b × GivesRight bits (length e1.fields) e1 one.passes.t set st (λ x. word_at (extents g set) st right x) b f)) Q (right_by (operand bits true right) op right e1) (λ b after. operates a b after) follows
            (λ b after. operated_extends op signed place dest a spare b after is.0)
            (λ is_right b e2 two.
            operated_after bits bound set op signed place dest a (λ x. word_at (extents g set) st left x) (λ x. word_at (extents g set) st right x) d e1 e2 s st (no_home g alive (length d.fields) (length d.fields) (omega arith) here) is.0 wide keeps long low less one b two.0 two.1.0 two.1.1 Q
            (λ there never e3 i within passes puts. last (operator_gives g fields set ty place op p q left right v w (λ x. word_at (extents g set) st right x) st shaped there words never is_left is_right) e3 i within passes puts)
            (λ there divided x none ends. ended (record { early = Source.Fault DivZero place (Some x); state = st; is = operator_ends g fields set ty place op p q left right v w (λ y. word_at (extents g set) st right y) st x shaped there words divided none is_left is_right; finishes = ends })))
            (λ early z f. ended (right_ended g fields ty place op p q left right v s one.passes.t st one.passes.go is_left early) z f)

        by : AreOperands set left right → After g Q (then_make (spread_into (operand bits (is_quiet right) left) left spare d1) (λ a between. next a between))
        by (inl (pure, any)) =
            then_known g s (meant g fields left st) v st (GivesField g alive bits (length d1.fields) d1 s set st (λ x. word_at (extents g set) st left x)) Q (spread_into (operand bits (is_quiet right) left) left spare d1) (λ a between. next a between)
            (pure_left bits set left (is_quiet right) pure c_left (whole_left pure) spare d1 s st (starts_entry g alive _ _ here) sim) next_extends
            (λ is_left a e1 one. behind (length d1.fields) (omega (arith, first)) a e1 is_left (fields_longer d1 e1 one.passes.grown.0 one.passes.grown.1) one
            (given_weaker g one.passes.t (meant g fields right st) w st (λ b f. Takes op b × GivesRight bits (length e1.fields) e1 one.passes.t set st (λ x. word_at (extents g set) st right x) b f)
            (λ b f. Spares bits set (length d1.fields) d b × (Takes op b × GivesRight bits (length e1.fields) e1 one.passes.t set st (λ x. word_at (extents g set) st right x) b f)) (right_by (operand bits true right) op right e1) (λ b f h. ((λ k same. omega arith), h))
            (right_after bits set op right is.1 any c_right whole_right e1 one.passes.t st one.passes.at one.passes.sim)))
            (λ early z f. ended (left_ended g fields ty place op p q left right s st early) z f)
        by (inr (promoted, pure)) =
            then_known g s (meant g fields left st) v st (GivesField g alive bits (length d.fields) d1 s set st (λ x. word_at (extents g set) st left x)) Q (spread_into (operand bits (is_quiet right) left) left spare d1) (λ a between. next a between)
            (promoted_left bits set left (is_quiet right) promoted c_left d s st here sim) next_extends
            (λ is_left a e1 one. behind (length d.fields) (omega arith) a e1 is_left (let more = fields_longer d1 e1 one.passes.grown.0 one.passes.grown.1 in omega (arith, first, more)) one
            (given_weaker g one.passes.t (meant g fields right st) w st (RightField bits e1 one.passes.t set st (λ x. word_at (extents g set) st right x))
            (λ b f. Spares bits set (length d.fields) d b × (Takes op b × GivesRight bits (length e1.fields) e1 one.passes.t set st (λ x. word_at (extents g set) st right x) b f)) (right_by (operand bits true right) op right e1)
            (λ b f h. ((λ k same. let wrong = sym h.1.0 ∙ same in cc), ((λ word same divided. let wrong = sym h.1.0 ∙ same in cc), inl h)))
            (pure_right bits set op right pure c_right (whole_right pure) e1 one.passes.t st one.passes.at one.passes.sim)))
            (λ early z f. ended (left_ended g fields ty place op p q left right s st early) z f)
