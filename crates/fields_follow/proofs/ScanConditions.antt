-- The code of conditions with scans in them leaves the test flags.
use Rattle.std.proofs.Common.{◌≡◌, ◌∙◌, ℕ, ◌<◌, ◌≤◌, ◌%◌, ◌^◌, ◌==◌, Bool, true, false, not, length, Option, Some, None, refl, ap, subst, arith, ◌⊎◌, inl, inr, if◌then◌else◌}
use Rattle.std.proofs.Math.Nat.{mod-eq_of_lt}
use Rattle.std.specs.Prelude.{unwrap_or}
use Rattle.cstar_base.specs.declared.elem.Elem.{Elem}
use Rattle.cstar_base.specs.declared.operators.Op.{Op}
use Rattle.cstar_base.specs.declared.operators.Place.{Place}
use Rattle.cstar_base.specs.Operators.{divides, outcome}
use Rattle.cstar_tree.specs.declared.typed.TExpr.{TExpr}
use Rattle.cstar_tree.specs.declared.typed.TExpr as T
use Rattle.cstar_tree.specs.declared.typed.ValueType.{ValueType}
use Rattle.cstar_tree.specs.declared.typed.Variable.{Variable}
use Rattle.cstar_tree.specs.Typed.{type_of}
use Rattle.code_lengths.specs.Ready.{IsReadyButForFields}
use Rattle.lower_base.specs.declared.operators.Machine.{Machine}
use Rattle.lower_base.specs.declared.operators.Machine.TheVariants as M
use Rattle.lower_base.specs.Drafts.{Draft, Made, an_entry, then_make, with_instr}
use Rattle.lower_base.specs.Kinds.{bits_of, common_kind, kind_of}
use Rattle.lower_base.specs.Operators.{is_signed, machine_of, relates}
use Rattle.lower_expr.specs.declared.steps.Right.{Right}
use Rattle.lower_expr.specs.Kinds.{kind_with, reads_signed, relation_kind}
use Rattle.lower_expr.specs.Operands.{is_quiet}
use Rattle.lower_expr.specs.Steps.{has_truth, word_of}
use Rattle.lower_expr.specs.Values.{compared, next_of, relation_by, right_by, spread_into, tested, tested_by, truth_of}
use Rattle.paris_code.specs.declared.instr.Instr.TheVariants as I
use Rattle.paris_code.specs.declared.operands.Field.{Field}
use Rattle.paris_code.specs.declared.program.Owner.TheVariants as W
use Rattle.paris_code.specs.Code.{CodeState}
use Rattle.source_meaning.specs.Expressions.{evaluated}
use Rattle.source_meaning.specs.State as Source
use Rattle.source_meaning.specs.State.{State}
use Rattle.source_meaning.specs.Values.{Parallel}
use Rattle.source_meaning.proofs.ConstantLaws.{Boxed}
use Rattle.code_follows.proofs.Following.{Follows, HasRegisters, Sim, follows_same}
use Rattle.code_follows.proofs.Operators.{wide_signed}
use Rattle.code_follows.proofs.Settings.{Setting, layout}
use Rattle.fields_follow.specs.Fragment.{IsCondition, IsOperand, IsScan, IsScanRelation, IsWide}
use Rattle.fields_follow.proofs.Computing.{condition_tested}
use Rattle.fields_follow.proofs.ConditionCode.{Told, nonzero_after}
use Rattle.fields_follow.proofs.Dividing.{left_ended, right_ended}
use Rattle.fields_follow.proofs.Forms.{HasItsCode}
use Rattle.fields_follow.proofs.Lengths.{relates_plainly}
use Rattle.fields_follow.proofs.Meaning.{binary_means}
use Rattle.fields_follow.proofs.Operands.{GivesRight, Spares}
use Rattle.fields_follow.proofs.Outcomes.{Given, Known, given_weaker, known_follows, meant}
use Rattle.fields_follow.proofs.Passing.{After, GivesField, after_same, made_after}
use Rattle.fields_follow.proofs.Places.{HoldsTheFields, PlacesFields}
use Rattle.fields_follow.proofs.Relations.{Compares, compared_extends, field_compared, word_compared}
use Rattle.fields_follow.proofs.ScanForms.{common_none, none_common, scan_kind, scan_word}
use Rattle.fields_follow.proofs.Scanned.{left_side, plain_few, right_side, scan_valued, scan_words}
use Rattle.fields_follow.proofs.Scanning.{scanned_in}
use Rattle.fields_follow.proofs.ScanOperands.{AreSides, GivesScan, own_numbers, scan_operand, sides_given}
use Rattle.fields_follow.proofs.Sizes.{binary_parts, brackets_part}
use Rattle.fields_follow.proofs.Starts.{Starts, no_home}
use Rattle.fields_follow.proofs.TestFlags.{ComparesAs, LeavesTests, compares, is_truth}
use Rattle.fields_follow.proofs.Truths.{field_told}
use Rattle.fields_follow.proofs.Values.{next_field, operand_of, with_entry}

module _ (g : Setting) (has : HasRegisters g) (alive : Variable → Type 0) (n : ℕ) (ready : (d : Draft) → IsReadyButForFields g.typed g.instance (layout g) n d) (places : PlacesFields g) (fields : HoldsTheFields g) (set : ℕ) where
  abbrev number : TExpr → State → ℕ → ℕ
  number e st q = scanned_in g alive places fields set st e q

  abbrev Sides : TExpr → TExpr → Type 0
  Sides left right = AreSides g has alive n ready places fields set left right

  abbrev Leaves : TExpr → Draft → CodeState → State → Unit {0} → Draft → Type 0
  Leaves e d s st _ f = LeavesTests g alive fields d s set st (λ q. number e st q) f

  -- The code leaves in the test flags where its numbers are not zero.
  abbrev pub IsScanTested : TExpr → (Draft → Made (Unit {0})) → Type 0
  IsScanTested e made = (d : Draft) (s : CodeState) (st : State) → Starts g alive s (length d.code) d.regs (length d.fields) → Sim g alive st s → Follows g (Given g (λ q. number e st q) st (Leaves e d s st)) s (meant g fields e st) (made d)

  -- they are compared at 32 bits
  scans_kind : (left right : TExpr) → Sides left right → relation_kind left right ≡ None
  unfolding relation_kind kind_with
  scans_kind left right (inl (scans, any)) =
      by (word_of right)
    where
      chosen : Option ℕ → Option ℕ → Option Elem → Option Elem → Option Elem
      chosen a b x y = elim a as (λ _. Option Elem) [ Some word ↦ kind_with x word | None ↦ elim b as (λ _. Option Elem) [ Some word ↦ kind_with y word | None ↦ common_kind x y ] ]

      by : (o : Option ℕ) → chosen o (word_of left) (kind_of left) (kind_of right) ≡ None
      by (Some word) = ap (λ (x : Option Elem). kind_with x word) (scan_kind set left scans)
      by None =
          ap (λ (b : Option ℕ). chosen None b (kind_of left) (kind_of right)) (scan_word set left scans)
          ∙ ap (λ (x : Option Elem). common_kind x (kind_of right)) (scan_kind set left scans) ∙ none_common (kind_of right)
  scans_kind left right (inr (any, scans)) =
      ap (λ (a : Option ℕ). chosen a (word_of left) (kind_of left) (kind_of right)) (scan_word set right scans) ∙ by (word_of left)
    where
      chosen : Option ℕ → Option ℕ → Option Elem → Option Elem → Option Elem
      chosen a b x y = elim a as (λ _. Option Elem) [ Some word ↦ kind_with x word | None ↦ elim b as (λ _. Option Elem) [ Some word ↦ kind_with y word | None ↦ common_kind x y ] ]

      by : (o : Option ℕ) → chosen None o (kind_of left) (kind_of right) ≡ None
      by (Some word) = ap (λ (x : Option Elem). kind_with x word) (scan_kind set right scans)
      by None = ap (λ (x : Option Elem). common_kind (kind_of left) x) (scan_kind set right scans) ∙ common_none (kind_of left)

  -- a relation
  relation_tested : (ty : ValueType) (place : Place) (op : Op) (p q : Boxed) (left right : TExpr) → ty.shape ≡ Some set → relates op ≡ true → Sides left right → IsWide set (type_of left) → IsWide set (type_of right) → HasItsCode g.typed g.instance alive n (T.Binary' ty place op p left q right)
      → IsScanTested (T.Binary' ty place op p left q right) (λ d. truth_of g.typed (layout g) (T.Binary' ty place op p left q right) d)
  unfolding scanned_in truth_of relation_by reads_signed compared then_make an_entry bits_of
  relation_tested ty place op p q left right shaped related sides wide_left wide_right code d s st here sim =
      follows_same g (Given g u st (Leaves whole d s st)) s refl is_code
      (known_follows g s (meant g fields whole st) u st (Leaves whole d s st) (both (M.Compare c.relation) 32)
      (sides_given g has alive n ready places fields set 32 op left right d s st (omega arith) (omega arith) (inl no_check) sides wide_left wide_right parts.0 parts.1 (λ scans. scan_valued g has alive n ready places fields set 32 left (omega arith) (omega arith) scans parts.0)
      (λ scans. scan_valued g has alive n ready places fields set 32 right (omega arith) (omega arith) scans parts.1) here sim Q (λ a b after. compared (M.Compare c.relation) a b spare after) (λ a b after. compared_extends g has alive n ready places fields c.relation a b spare after)
      (λ bound a e1 low less is_left is_right one b e2 spares two. by (binary_means fields.scope fields.active set ty place op p q left right v w st shaped no_check is_left is_right) bound a e1 low less one b e2 spares two.1)
      (λ early z f. inr (left_ended g fields ty place op p q left right s st early)) (λ is_left t go early z f. inr (right_ended g fields ty place op p q left right v s t st go is_left early))))
    where
      whole : TExpr
      whole = T.Binary' ty place op p left q right

      parts : HasItsCode g.typed g.instance alive n left × HasItsCode g.typed g.instance alive n right
      parts = binary_parts g alive n places fields ty place op p q left right code

      no_check : divides op ≡ false
      no_check = relates_plainly op related

      unsigned : Bool
      unsigned = not (type_of left).elem.signed

      v : ℕ → ℕ
      v = λ x. number left st x

      w : ℕ → ℕ
      w = λ x. number right st x

      u : ℕ → ℕ
      u = λ x. outcome op 32 unsigned (v x) (w x)

      c : ComparesAs op (type_of left).elem.signed
      c = compares op (type_of left).elem.signed related

      spare : Field
      spare = next_field set 32 d

      Q : Unit {0} → Draft → Type 0
      Q = Known g s (meant g fields whole st) u st (Leaves whole d s st)

      both : Machine → ℕ → Made (Unit {0})
      both m k =
          then_make (spread_into (operand_of g has alive n ready places fields k (is_quiet right) left) left (next_field set k d) (with_entry set k W.Own d))
          (λ a between. then_make (right_by (operand_of g has alive n ready places fields k true right) op right between) (λ b after. compared m a b (next_field set k d) after))

      signed : reads_signed op left right ≡ (type_of left).elem.signed
      signed =
          ap (λ (b : Bool). if b then elim (relation_kind left right) as (λ _. Bool) [ None ↦ is_signed (type_of left).elem | Some kind ↦ kind.signed ] else is_signed (type_of left).elem) related
          ∙ ap (λ (o : Option Elem). elim o as (λ _. Bool) [ None ↦ is_signed (type_of left).elem | Some kind ↦ kind.signed ]) (scans_kind left right sides) ∙ wide_signed (type_of left).elem wide_left.1

      is_code : truth_of g.typed (layout g) whole d ≡ both (M.Compare c.relation) 32
      is_code =
          ap (λ (o : Option ℕ). relation_by (unwrap_or o 0) op (operand_of g has alive n ready places fields (bits_of (relation_kind left right)) (is_quiet right) left) left (operand_of g has alive n ready places fields (bits_of (relation_kind left right)) true right) right d) shaped
          ∙ ap (λ (b : Bool). both (machine_of op b) (bits_of (relation_kind left right))) signed ∙ ap (λ (m : Machine). both m (bits_of (relation_kind left right))) c.is ∙ ap (λ (o : Option Elem). both (M.Compare c.relation) (bits_of o)) (scans_kind left right sides)

      words_compare : Compares g has alive n ready places fields 32 set c.relation v w u
      words_compare x below =
          c.same 32 (v x % 2 ^ 32) (w x % 2 ^ 32) ∙ ap (λ (m : ℕ). outcome op 32 unsigned m (w x % 2 ^ 32)) (mod-eq_of_lt (few left (left_side set left right sides) wide_left parts.0 x))
          ∙ ap (λ (m : ℕ). outcome op 32 unsigned (v x) m) (mod-eq_of_lt (few right (right_side set left right sides) wide_right parts.1 x)) ∙ is_truth op 32 unsigned (v x) (w x) related
        where
          few : (e : TExpr) → IsScan set e ⊎ IsOperand set e → IsWide set (type_of e) → HasItsCode g.typed g.instance alive n e → (y : ℕ) → number e st y < 2 ^ 32
          few e (inl scans) wide part y = scan_words g has alive n ready places fields set e st s sim scans part y
          few e (inr plain) wide part y = plain_few g has alive n ready places fields set e st s sim plain wide part y

      by : meant g fields whole st ≡ Source.Gives (Parallel u) st → (bound : ℕ) (a : Field) (e1 : Draft) → length d.fields ≤ bound → bound ≤ length e1.fields → (one : GivesField g alive 32 bound (with_entry set 32 W.Own d) s set st v a e1) (b : Right) (e2 : Draft) → Spares g has alive n ready places fields 32 set bound d b
          → GivesRight g has alive n ready places fields 32 (length e1.fields) e1 one.passes.t set st w b e2 → After g Q (compared (M.Compare c.relation) a b spare e2)
      by given bound a e1 low less one b e2 spares (inl (f, (same, gives))) =
          after_same g Q (ap (λ (x : Right). compared (M.Compare c.relation) a x spare e2) same)
          (made_after g Q tt (with_instr (I.Compare c.relation a f) e2) (λ within. inl (given, field_compared g has alive n ready places fields 32 set c.relation bound a f v w u d e1 e2 s st words_compare low less one gives within)))
      by given bound a e1 low less one b e2 spares (inr (k, (same, gives))) =
          after_same g Q (ap (λ (x : Right). compared (M.Compare c.relation) a x spare e2) same)
          (made_after g Q tt (with_instr (I.Compare c.relation a spare) (with_instr (I.MoveConstant spare k) e2))
          (λ within. inl (given, word_compared g has alive n ready places fields 32 set c.relation bound a k v w u d e1 e2 s st (no_home g alive (length d.fields) (length d.fields) (omega arith) here) words_compare (spares k same) less one gives within)))

  pub scan_relation_tested : (e : TExpr) → IsScanRelation set e → HasItsCode g.typed g.instance alive n e → IsScanTested e (λ d. truth_of g.typed (layout g) e d)
  unfolding IsScanRelation truth_of scanned_in evaluated
  scan_relation_tested (T.Brackets' ty p inner) is c = scan_relation_tested inner is.1 (brackets_part g alive n places fields ty p inner c)
  scan_relation_tested (T.Binary' ty place op p left q right) is c = relation_tested ty place op p q left right is.0.0 is.1 is.2 is.3 is.4 c
  scan_relation_tested _ is c = absurd is

  scan_relation_truth : (e : TExpr) → IsScanRelation set e → has_truth e ≡ true
  unfolding IsScanRelation has_truth
  scan_relation_truth (T.Brackets' ty p inner) is = scan_relation_truth inner is.1
  scan_relation_truth (T.Binary' ty place op p left q right) is = is.1
  scan_relation_truth _ is = absurd is

  scan_no_truth : (e : TExpr) → IsScan set e → has_truth e ≡ false
  unfolding IsScan has_truth
  scan_no_truth (T.Brackets' ty p inner) is = scan_no_truth inner is.1
  scan_no_truth (T.Scan' ty p source axis combiner direction mode bit way) is = refl
  scan_no_truth (T.Enumerate ty axis direction way mode bit) is = refl
  scan_no_truth (T.Convert' ty p operand) is = refl
  scan_no_truth (T.Unary' ty op p operand) is = is.1
  scan_no_truth (T.Binary' ty place op p left q right) is = is.1.0
  scan_no_truth _ is = absurd is

  -- a value with scans in it, of which its field tells
  pub scan_told : (e : TExpr) → IsScan set e → HasItsCode g.typed g.instance alive n e → (d : Draft) (s : CodeState) (st : State) → Starts g alive s (length d.code) d.regs (length d.fields) → Sim g alive st s
      → Follows g (Given g (λ q. number e st q) st (Told g alive places fields d s set st (λ q. number e st q))) s (meant g fields e st) (next_of g.typed (layout g) 32 true e d)
  scan_told e scans c d s st here sim =
      given_weaker g s (meant g fields e st) v st (GivesScan g has alive n ready places fields set 32 e d s st) (Told g alive places fields d s set st v) (next_of g.typed (layout g) 32 true e d)
      (λ x e1 (a, (is, (gives, apart))). (a, (is, field_told g alive places fields 32 d s set st v v a e1 (λ q below. ap (λ (m : ℕ). m == 0) (mod-eq_of_lt (scan_words g has alive n ready places fields set e st s sim scans c q))) gives)))
      (scan_operand g has alive n ready places fields set 32 true e scans (scan_valued g has alive n ready places fields set 32 e (omega arith) (omega arith) scans c) d s st here sim)
    where
      v : ℕ → ℕ
      v = λ q. number e st q

  scan_tested : (e : TExpr) → IsScan set e → HasItsCode g.typed g.instance alive n e → IsScanTested e (λ d. tested g.typed (layout g) e d)
  unfolding tested_by bits_of
  scan_tested e scans c d s st here sim =
      follows_same g (Given g v st (Leaves e d s st)) s refl
      (ap (λ (b : Bool). tested_by b (truth_of g.typed (layout g) e) (next_of g.typed (layout g) (bits_of (kind_of e)) true e) d) (scan_no_truth e scans) ∙ ap (λ (o : Option Elem). tested_by false (truth_of g.typed (layout g) e) (next_of g.typed (layout g) (bits_of o) true e) d) (scan_kind set e scans))
      (nonzero_after g alive places fields (meant g fields e st) v set v (next_of g.typed (layout g) 32 true e) d s st (scan_told e scans c d s st here sim))
    where
      v : ℕ → ℕ
      v = λ q. number e st q

  -- each condition
  pub condition_after : (e : TExpr) → IsCondition set e → HasItsCode g.typed g.instance alive n e → IsScanTested e (λ d. tested g.typed (layout g) e d)
  unfolding tested_by
  condition_after e (inl kinded) c d s st here sim =
      subst (λ (v : ℕ → ℕ). Follows g (Given g v st (λ _ f. LeavesTests g alive fields d s set st v f)) s (meant g fields e st) (tested g.typed (layout g) e d)) (own_numbers g has alive n ready places fields set e st (inl kinded.0))
      (condition_tested g has alive n ready places fields set e kinded c d s st here sim)
  condition_after e (inr (inl scans)) c d s st here sim = scan_tested e scans c d s st here sim
  condition_after e (inr (inr relation)) c d s st here sim =
      follows_same g (Given g (λ q. number e st q) st (Leaves e d s st)) s refl (ap (λ (b : Bool). tested_by b (truth_of g.typed (layout g) e) (next_of g.typed (layout g) (bits_of (kind_of e)) true e) d) (scan_relation_truth e relation)) (scan_relation_tested e relation c d s st here sim)
