-- Code that becomes the value of a field: its last instruction puts the lowest bits of its words there. So does an arm of
-- `?:`.
use Rattle.std.proofs.Common.{◌≡◌, ℕ, ◌+◌, Option, Some, None, true, not, length, refl, sym, ap, subst, arith, ◌⊎◌, inl, inr, if◌then◌else◌}
use Rattle.std.specs.Prelude.{is_none}
use Rattle.cstar_tree.specs.declared.typed.TExpr.{TExpr}
use Rattle.cstar_tree.specs.declared.typed.ValueType.{ValueType}
use Rattle.cstar_tree.specs.declared.typed.Variable.{Variable}
use Rattle.code_lengths.specs.Growth.{GrowsOr}
use Rattle.code_lengths.specs.Ready.{Arrives as IsAtEnd, IsReadyButForFields}
use Rattle.code_lengths.proofs.Agreeing.{lengths_if_made}
use Rattle.lower_base.specs.declared.emit.Out.{Out}
use Rattle.lower_base.specs.declared.emit.Out.TheVariants as O
use Rattle.lower_base.specs.Drafts.{Draft, Fails, Made, Makes, step as step_of, then_make, with_instr}
use Rattle.lower_expr.specs.Lengths.{arm_length, arm_length_of, used_length_of}
use Rattle.lower_expr.specs.Steps.{has_word, put_in_field, put_value, word_for, word_of, word_put}
use Rattle.lower_expr.specs.Values.{arm_by}
use Rattle.paris_code.specs.declared.instr.Instr.{Instr}
use Rattle.paris_code.specs.declared.instr.Instr.TheVariants as I
use Rattle.paris_code.specs.declared.operands.Field.{Field}
use Rattle.paris_code.specs.declared.operands.Konst.{Konst}
use Rattle.paris_code.specs.declared.operands.Konst.TheVariants as K
use Rattle.paris_code.specs.Code.{CodeState}
use Rattle.source_meaning.specs.State.{State}
use Rattle.code_follows.proofs.Following.{Extends, HasRegisters, Sim, extends_then}
use Rattle.code_follows.proofs.Growing.{Extended, extended, from_growth}
use Rattle.code_follows.proofs.Settings.{Setting, Within, and_one, layout}
use Rattle.fields_follow.specs.Fragment.{IsPromoted, IsPure}
use Rattle.fields_follow.proofs.Expressions.{IsMeant, IsValued, from_operand, operand_grows}
use Rattle.fields_follow.proofs.Forms.{HasItsCode, HasItsWord, pure_word}
use Rattle.fields_follow.proofs.Instructions.{Puts, extents, puts_constant, puts_move, word_in}
use Rattle.fields_follow.proofs.Meaning.{value_in, word_at}
use Rattle.fields_follow.proofs.Operands.{constant_given}
use Rattle.fields_follow.proofs.Outcomes.{Ended, meant, then_known}
use Rattle.fields_follow.proofs.Passing.{After, Passes, after_same, made_after}
use Rattle.fields_follow.proofs.Places.{HoldsTheFields, PlacesFields}
use Rattle.fields_follow.proofs.Promoted.{IsComputed, computed_after, promoted_stands}
use Rattle.fields_follow.proofs.Spreading.{GivesWord}
use Rattle.fields_follow.proofs.Starts.{Starts}
use Rattle.fields_follow.proofs.Values.{operand_after, operand_of}
use Rattle.fields_follow.proofs.Writing.{Lands, lands_here}

abbrev pub field_at : ℕ → ℕ → ℕ → Field
field_at set offset bits = record { set = set; offset = offset; len = bits }

module _ (g : Setting) (has : HasRegisters g) (alive : Variable → Type 0) (n : ℕ) (ready : (d : Draft) → IsReadyButForFields g.typed g.instance (layout g) n d) (places : PlacesFields g) (fields : HoldsTheFields g) where
  abbrev operand : ℕ → TExpr → Draft → Made Out
  operand bits e d = operand_of g has alive n ready places fields bits true e d

  abbrev pub words_of : ℕ → TExpr → State → ℕ → ℕ
  words_of set e st q = word_at (extents g set) st e q

  -- The code puts the lowest bits of the words of an expression in a field by its last instruction: what is said where an
  -- instruction does, behind code that leaves all as it was, is said of it, and what is said where it ends early.
  abbrev pub PutsLast : ℕ → Field → TExpr → (Draft → Made Out) → Type 1
  PutsLast set f e made =
      (d : Draft) (s : CodeState) (st : State) → Starts g alive s (length d.code) d.regs (length d.fields) → Sim g alive st s → (Q : Out → Draft → Type 0)
      → (IsMeant g has alive n ready places fields set e st → (e2 : Draft) (i : Instr) → Within g (with_instr i e2) → (p : Passes g alive (length d.fields) d e2 s st (Unit {0})) → Puts g set i f p.t (words_of set e st) → Q (O.Field f) (with_instr i e2))
      → (Ended g s (meant g fields e st) → (x : Out) (after : Draft) → Q x after) → After g Q (made d)

  pub value_put : (f : Field) (x : Out) (after : Draft) → Extends g after (put_value (O.Field f) x after)
  unfolding Extends put_value put_in_field
  value_put f (O.Scalar r) after = (1, and_one g (I.MoveConstant f (K.Reg r)) after)
  value_put f (O.Field source) after = (1, and_one g (I.Move true f source) after)
  value_put f O.Nothing after = tt

  -- so it is said of code that puts them, and then lands at the end of a draft
  abbrev pub PutsAndLands : ℕ → Field → TExpr → (Draft → Made Out) → Type 1
  PutsAndLands set f e made =
      (d : Draft) (s : CodeState) (st : State) → Starts g alive s (length d.code) d.regs (length d.fields) → Sim g alive st s → (Q : Out → Draft → Type 0)
      → (IsMeant g has alive n ready places fields set e st → (e2 : Draft) (i : Instr) (end : Draft) → Within g end → (p : Passes g alive (length d.fields) d e2 s st (Unit {0})) → Puts g set i f p.t (words_of set e st) → Lands g (with_instr i e2) end → Q (O.Field f) end)
      → (Ended g s (meant g fields e st) → (x : Out) (after : Draft) → Q x after) → After g Q (made d)

  pub last_lands : (set : ℕ) (f : Field) (e : TExpr) (made : Draft → Made Out) → PutsLast set f e made → PutsAndLands set f e made
  last_lands set f e made puts d s st here sim Q last ended = puts d s st here sim Q (λ is e2 i within p put. last is e2 i (with_instr i e2) within p put (lands_here g (with_instr i e2))) ended

  -- a value of as many bits is moved there
  abbrev pub value_moved : Field → ℕ → TExpr → Draft → Made Out
  value_moved f bits e d = then_make (operand bits e d) (λ v after. put_value (O.Field f) v after)

  pub value_last : (set offset bits : ℕ) (e : TExpr) → IsPure set e → HasItsCode g.typed g.instance alive n e → IsValued g has alive n ready places fields bits set e → PutsLast set (field_at set offset bits) e (λ d. value_moved (field_at set offset bits) bits e d)
  unfolding put_value put_in_field step_of
  value_last set offset bits e pure c whole d s st here sim Q last ended =
      from_operand g has alive n ready places fields bits set e f (λ a. I.Move true f a) (λ v after. put_value (O.Field f) v after) (length d.fields) d s st (words_of set e st) (λ a. refl) (λ a. refl) (λ x after. value_put f x after) (λ a after. refl)
      (λ a t numbers sim_there. puts_move g bits set true f a t (words_of set e st) refl numbers) (operand bits e) (operand_after g has alive n ready places fields bits set e true pure c whole) (omega arith) here sim Q last ended
    where
      f : Field
      f = field_at set offset bits

  -- an arm
  abbrev pub arm : Field → ℕ → TExpr → Draft → Made Out
  arm f bits e d = arm_by (operand bits e) e (O.Field f) d

  -- by the word of a constant, if it has one
  abbrev arm_with : Field → ℕ → TExpr → Draft → Option ℕ → Made Out
  arm_with f bits e d o = elim o as (λ _. Made Out) [ Some word ↦ word_put (O.Field f) word d | None ↦ value_moved f bits e d ]

  pub arm_grows : (f : Field) (bits : ℕ) (e : TExpr) → HasItsCode g.typed g.instance alive n e → (d : Draft) → Extends g d (arm f bits e d)
  unfolding arm_by word_for word_put Extends
  arm_grows f bits e c d = by (word_of e)
    where
      by : (o : Option ℕ) → Extends g d (arm_with f bits e d o)
      by (Some word) = (1, and_one g (I.MoveConstant f (K.Imm word)) d)
      by None = extends_then g d (operand bits e d) (λ v after. put_value (O.Field f) v after) (operand_grows g has alive n ready places fields bits e c true d) (λ v after. value_put f v after)

  -- where its code is made it is as long as described, and ends with the field
  pub record ArmMade (f : Field) (long : ℕ) (d : Draft) (made : Made Out) : Type 0 where
    pub behind : Draft
    pub is : made ≡ Makes (O.Field f) behind
    pub extended : Extended d long behind

  pub arm_made : (set : ℕ) (ty : ValueType) (f : Field) (bits : ℕ) (e : TExpr) → ty.shape ≡ Some set → HasItsCode g.typed g.instance alive n e → (d : Draft) → ArmMade f (arm_length_of g.typed (layout g) ty bits e) d (arm f bits e d) ⊎ (arm f bits e d ≡ Fails)
  unfolding arm_length_of arm_by word_for word_put put_value put_in_field then_make arm_length has_word GrowsOr
  arm_made set ty f bits e shaped c d = subst (λ (o : Option ℕ). ArmMade f (arm_length (is_none o) long e) d (arm f bits e d) ⊎ (arm f bits e d ≡ Fails)) (sym shaped) (by (word_of e))
    where
      long : ℕ
      long = used_length_of g.typed (layout g) bits true e

      put : (made : Made Out) → GrowsOr (Unit {0}) d long (IsAtEnd g.typed e) made → ArmMade f (long + 1) d (then_make made (λ v after. put_value (O.Field f) v after)) ⊎ (then_make made (λ v after. put_value (O.Field f) v after) ≡ Fails)
      put (Makes (O.Scalar r) e1) grows = inl (record { behind = with_instr (I.MoveConstant f (K.Reg r)) e1; is = refl; extended = extended d e1 _ long 1 (from_growth d e1 long grows.1) (and_one g (I.MoveConstant f (K.Reg r)) e1) })
      put (Makes (O.Field a) e1) grows = inl (record { behind = with_instr (I.Move true f a) e1; is = refl; extended = extended d e1 _ long 1 (from_growth d e1 long grows.1) (and_one g (I.Move true f a) e1) })
      put (Makes O.Nothing e1) grows = inr refl
      put Fails grows = inr refl

      by : (o : Option ℕ) → ArmMade f (if not (is_none o) then 1 else long + 1) d (arm_with f bits e d o) ⊎ (arm_with f bits e d o ≡ Fails)
      by (Some word) = inl (record { behind = with_instr (I.MoveConstant f (K.Imm word)) d; is = refl; extended = and_one g (I.MoveConstant f (K.Imm word)) d })
      by None = put (operand bits e d) ((lengths_if_made g.typed g.instance (layout g)).operand bits n true e d c.code (ready d))

  -- that is a promoted scalar
  pub promoted_last : (set offset bits : ℕ) (e : TExpr) → IsPromoted set e → HasItsCode g.typed g.instance alive n e → PutsLast set (field_at set offset bits) e (λ d. arm (field_at set offset bits) bits e d)
  unfolding arm_by word_for word_put put_value put_in_field
  promoted_last set offset bits e promoted c d s st here sim Q last ended = by (promoted_stands g alive n set e promoted c)
    where
      f : Field
      f = field_at set offset bits

      P : Out → Draft → Type 0
      P out e1 = (r : ℕ) × ((out ≡ O.Scalar r) × GivesWord g alive (length d.fields) d s st (words_of set e st) (K.Reg r) e1)

      -- the word of a register, or a constant, goes to the field
      move : (k : Konst) (e1 : Draft) → IsMeant g has alive n ready places fields set e st → (gives : GivesWord g alive (length d.fields) d s st (words_of set e st) k e1) → Within g (with_instr (I.MoveConstant f k) e1) → Q (O.Field f) (with_instr (I.MoveConstant f k) e1)
      move k e1 is gives within =
          let same_all : (λ (q : ℕ). word_in g k gives.passes.t) ≡ words_of set e st = λ j q. sym (gives.same q) j in
          last is e1 (I.MoveConstant f k) within gives.passes (subst (λ (v : ℕ → ℕ). Puts g set (I.MoveConstant f k) f gives.passes.t v) same_all (puts_constant g set f k gives.passes.t gives.small))

      by : HasItsWord e ⊎ IsComputed g alive n set e → After g Q (arm f bits e d)
      by (inl h) = after_same g Q (ap (arm_with f bits e d) h.is)
          (made_after g Q (O.Field f) (with_instr (I.MoveConstant f (K.Imm h.word)) d) (λ within. move (K.Imm h.word) d (h.means fields.scope fields.active (extents g set) st) (constant_given g has alive n ready places fields (length d.fields) set e h d s st here sim) within))
      by (inr h) = after_same g Q (ap (arm_with f bits e d) h.no_word)
          (then_known g s (meant g fields e st) (λ q. value_in (extents g set) st e q) st P Q (operand bits e d) (λ v after. put_value (O.Field f) v after)
          (computed_after g alive n has ready fields set bits (length d.fields) true e h d s st here sim) (λ x after. value_put f x after)
          (λ is x e1 (r, (is_r, gives)). after_same g Q (ap (λ (o : Out). put_value (O.Field f) o e1) is_r) (made_after g Q (O.Field f) (with_instr (I.MoveConstant f (K.Reg r)) e1) (λ within. move (K.Reg r) e1 is gives within))) ended)

  pub arm_last : (set offset bits : ℕ) (e : TExpr) → IsPure set e ⊎ IsPromoted set e → HasItsCode g.typed g.instance alive n e → (IsPure set e → IsValued g has alive n ready places fields bits set e) → PutsLast set (field_at set offset bits) e (λ d. arm (field_at set offset bits) bits e d)
  unfolding arm_by word_for
  arm_last set offset bits e (inl pure) c whole d s st here sim Q last ended =
      after_same g Q (ap (arm_with (field_at set offset bits) bits e d) (pure_word set e pure)) (value_last set offset bits e pure c (whole pure) d s st here sim Q last ended)
  arm_last set offset bits e (inr promoted) c whole d s st here sim Q last ended = promoted_last set offset bits e promoted c d s st here sim Q last ended
