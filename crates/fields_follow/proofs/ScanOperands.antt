-- The code of the operands of an operator, where one of them has a scan in it.
use Rattle.std.proofs.Common.{◌<◌, ◌≡◌, ◌∙◌, ℕ, ◌+◌, ◌≤◌, ◌==◌, ◌&&◌, Bool, true, false, not, length, Option, Some, None, refl, sym, ap, subst, arith, ◌⊎◌, inl, inr, if◌then◌else◌}
use Rattle.cstar_base.specs.declared.faults.RunFault.TheVariants.{DivZero}
use Rattle.cstar_base.specs.declared.operators.Op.{Op}
use Rattle.cstar_base.specs.declared.operators.Place.{Place}
use Rattle.cstar_base.specs.Operators.{divides, outcome}
use Rattle.cstar_tree.specs.declared.typed.TExpr.{TExpr}
use Rattle.cstar_tree.specs.declared.typed.TExpr as T
use Rattle.cstar_tree.specs.declared.typed.ValueType.{ValueType}
use Rattle.cstar_tree.specs.declared.typed.Variable.{Variable}
use Rattle.cstar_tree.specs.Typed.{type_of}
use Rattle.code_lengths.specs.Ready.{IsReadyButForFields}
use Rattle.lower_base.specs.declared.emit.Out.{Out}
use Rattle.lower_base.specs.declared.emit.Out.TheVariants as O
use Rattle.lower_base.specs.Drafts.{Draft, Made, Makes, from, then_make, with_instr}
use Rattle.lower_expr.specs.declared.operands.Own.{Own}
use Rattle.lower_expr.specs.declared.steps.Right.{Right}
use Rattle.lower_expr.specs.declared.steps.Right.TheVariants as R
use Rattle.lower_expr.specs.Kinds.{operation_bits}
use Rattle.lower_expr.specs.Operands.{in_place, is_quiet, operand_by, own_of, standing}
use Rattle.lower_expr.specs.Steps.{in_a_field, right_operated, word_taken}
use Rattle.lower_expr.specs.Values.{fields_by, right_by, right_given, spread_into, value_of}
use Rattle.paris_code.specs.declared.instr.Instr.{Instr}
use Rattle.paris_code.specs.declared.instr.Instr.TheVariants as I
use Rattle.paris_code.specs.declared.operands.Field.{Field}
use Rattle.paris_code.specs.declared.operands.Konst.TheVariants as K
use Rattle.paris_code.specs.declared.program.Owner.TheVariants as W
use Rattle.paris_code.specs.Code.{CodeState}
use Rattle.source_meaning.specs.Constants.{then_value}
use Rattle.source_meaning.specs.State as Source
use Rattle.source_meaning.specs.State.{State}
use Rattle.source_meaning.specs.Values.{Parallel}
use Rattle.source_meaning.proofs.ConstantLaws.{Boxed}
use Rattle.code_follows.proofs.Following.{Extends, Follows, HasRegisters, Sim, extends_then, follows_same}
use Rattle.code_follows.proofs.Growing.{as_it_was}
use Rattle.code_follows.proofs.Settings.{Reaches, Setting, Within, layout}
use Rattle.fields_follow.specs.Fragment.{IsDivisor, IsOperand, IsOperation, IsPure, IsScan, IsWide}
use Rattle.fields_follow.proofs.Dividing.{left_ended, operator_ends, operator_gives, right_ended}
use Rattle.fields_follow.proofs.Expressions.{operand_at, operand_grows, operands_keep}
use Rattle.fields_follow.proofs.Computing.{pure_after}
use Rattle.fields_follow.proofs.Forms.{HasItsCode, not_held}
use Rattle.fields_follow.proofs.Instructions.{Puts, extents, whole_keeps}
use Rattle.fields_follow.proofs.Lengths.{Keeps, operation_keeps}
use Rattle.fields_follow.proofs.Meaning.{value_in, word_at}
use Rattle.fields_follow.proofs.Operands.{GivesRight, RightField, Spares, Takes, in_field_extends, operated_after, operated_extends, promoted_left, pure_left, right_after, right_extends}
use Rattle.fields_follow.proofs.Outcomes.{Ended, Given, given_through, given_weaker, meant, then_known}
use Rattle.fields_follow.proofs.Passing.{After, GivesField, Passes, after_same, fields_longer, made_after, then_after}
use Rattle.fields_follow.proofs.Places.{HoldsTheFields, PlacesFields}
use Rattle.fields_follow.proofs.ScanForms.{operand_number, scan_constant, scan_own, scan_word}
use Rattle.fields_follow.proofs.Scanning.{scanned_in}
use Rattle.fields_follow.proofs.Starts.{no_home, starts_entry, Starts}
use Rattle.fields_follow.proofs.Values.{Gives, IsFlag, next_field, one_more, operand_of, with_entry}

module _ (g : Setting) (has : HasRegisters g) (alive : Variable → Type 0) (n : ℕ) (ready : (d : Draft) → IsReadyButForFields g.typed g.instance (layout g) n d) (places : PlacesFields g) (fields : HoldsTheFields g) (set : ℕ) where
  abbrev number : TExpr → State → ℕ → ℕ
  number e st q = scanned_in g alive places fields set st e q

  abbrev operand : ℕ → Bool → TExpr → Draft → Made Out
  operand bits quiet e d = operand_of g has alive n ready places fields bits quiet e d

  -- so many bits of its value are given in a field
  abbrev pub GivesScan : ℕ → TExpr → Draft → CodeState → State → Out → Draft → Type 0
  GivesScan bits e d s st out x = Gives g has alive n ready places fields (IsFlag e) bits (length d.fields) d s set st (λ q. number e st q) out x

  abbrev pub ScanValued : ℕ → TExpr → (Draft → Made Out) → Type 0
  ScanValued bits e code = (d : Draft) (s : CodeState) (st : State) → Starts g alive s (length d.code) d.regs (length d.fields) → Sim g alive st s → Follows g (Given g (λ q. number e st q) st (GivesScan bits e d s st)) s (meant g fields e st) (code d)

  -- as an operand it is its value
  pub scan_operand : (bits : ℕ) (quiet : Bool) (e : TExpr) → IsScan set e → ScanValued bits e (λ d. value_of g.typed (layout g) bits e d) → ScanValued bits e (λ d. operand bits quiet e d)
  unfolding operand_by in_place
  scan_operand bits quiet e is valued d s st here sim =
      follows_same g (Given g (λ q. number e st q) st (GivesScan bits e d s st)) s refl
      (ap (λ (o : Option ℕ). elim o as (λ _. Made Out) [ Some r ↦ Makes (O.Scalar r) d | None ↦ elim (if quiet then own_of bits e else None) as (λ _. Made Out) [ Some own ↦ standing g.typed (layout g) bits own d | None ↦ value_of g.typed (layout g) bits e d ] ]) (not_held (layout g) e (scan_constant set e is))
      ∙ by quiet) (valued d s st here sim)
    where
      chosen : Option Own → Made Out
      chosen o = elim o as (λ _. Made Out) [ Some own ↦ standing g.typed (layout g) bits own d | None ↦ value_of g.typed (layout g) bits e d ]

      by : (b : Bool) → chosen (if b then own_of bits e else None) ≡ value_of g.typed (layout g) bits e d
      by true = ap chosen (scan_own bits set e is)
      by false = refl

  -- one that has no scan in it has its own numbers
  pub own_numbers : (e : TExpr) (st : State) → IsOperand set e → ◌≡◌ {A = ℕ → ℕ} (λ q. value_in (extents g set) st e q) (λ q. number e st q)
  own_numbers e st is = λ j q. sym (operand_number g alive places fields set e st q is) j

  own_words : (e : TExpr) (st : State) (s : CodeState) → Sim g alive st s → IsOperand set e → IsWide set (type_of e) → HasItsCode g.typed g.instance alive n e → ◌≡◌ {A = ℕ → ℕ} (λ q. word_at (extents g set) st e q) (λ q. number e st q)
  own_words e st s sim is wide c = λ j q. (operand_at g has alive n ready places fields set e st s sim is wide c q ∙ sym (operand_number g alive places fields set e st q is)) j

  -- a left operand that is not promoted
  abbrev LeftGiven : ℕ → TExpr → Bool → Field → Type 0
  LeftGiven bits e quiet dest = (d : Draft) (s : CodeState) (st : State) → Starts g alive s (length d.code) d.regs (length d.fields) → Sim g alive st s
      → Follows g (Given g (λ q. number e st q) st (GivesField g alive bits (length d.fields) d s set st (λ q. number e st q))) s (meant g fields e st) (spread_into (operand bits quiet e) e dest d)

  scan_left : (bits : ℕ) (e : TExpr) (quiet : Bool) (dest : Field) → IsScan set e → ScanValued bits e (λ d. value_of g.typed (layout g) bits e d) → LeftGiven bits e quiet dest
  unfolding spread_into in_a_field
  scan_left bits e quiet dest is valued d s st here sim =
      follows_same g (Given g v st Q) s refl (ap (λ (o : Option ℕ). elim o as (λ _. Made Field) [ Some word ↦ Makes dest (with_instr (I.MoveConstant dest (K.Imm word)) d) | None ↦ then_make (operand bits quiet e d) (λ x after. in_a_field x dest after) ]) (scan_word set e is))
      (given_through g s (meant g fields e st) v st (GivesScan bits e d s st) Q (operand bits quiet e d) (λ x after. in_a_field x dest after) (λ x after. in_field_extends g x dest after)
      (λ part h. then_after g (GivesScan bits e d s st) Q part (λ x after. in_a_field x dest after) h (λ x after. in_field_extends g x dest after) (λ x after (f, (same, (gives, apart))). after_same g Q (ap (λ (o : Out). in_a_field o dest after) same) (made_after g Q f after (λ within. gives))))
      (scan_operand bits quiet e is valued d s st here sim))
    where
      v : ℕ → ℕ
      v = λ q. number e st q

      Q : Field → Draft → Type 0
      Q = GivesField g alive bits (length d.fields) d s set st v

  plain_left : (bits : ℕ) (e : TExpr) (quiet : Bool) (dest : Field) → 0 < bits → bits ≤ 32 → IsPure set e → IsWide set (type_of e) → HasItsCode g.typed g.instance alive n e → LeftGiven bits e quiet dest
  plain_left bits e quiet dest some most pure wide c d s st here sim =
      subst (λ (v : ℕ → ℕ). Follows g (Given g v st (GivesField g alive bits (length d.fields) d s set st (λ q. number e st q))) s (meant g fields e st) (spread_into (operand bits quiet e) e dest d)) (own_numbers e st (inl pure))
      (subst (λ (w : ℕ → ℕ). Follows g (Given g (λ q. value_in (extents g set) st e q) st (GivesField g alive bits (length d.fields) d s set st w)) s (meant g fields e st) (spread_into (operand bits quiet e) e dest d)) (own_words e st s sim (inl pure) wide c)
      (pure_left g has alive n ready places fields bits set e quiet pure c (pure_after g has alive n ready places fields bits set e some most pure c) dest d s st here sim))

  -- a right operand
  abbrev IsRight : ℕ → Op → TExpr → Draft → CodeState → State → Right → Draft → Type 0
  IsRight bits op e d s st right f = Takes op right × GivesRight g has alive n ready places fields bits (length d.fields) d s set st (λ q. number e st q) right f

  pub scan_right : (bits : ℕ) (op : Op) (e : TExpr) → IsScan set e → ScanValued bits e (λ d. value_of g.typed (layout g) bits e d) → (d : Draft) (s : CodeState) (st : State) → Starts g alive s (length d.code) d.regs (length d.fields) → Sim g alive st s
      → Follows g (Given g (λ q. number e st q) st (RightField g has alive n ready places fields bits d s set st (λ q. number e st q))) s (meant g fields e st) (right_by (operand bits true e) op e d)
  unfolding right_by word_taken then_make right_given from Extends
  scan_right bits op e is valued d s st here sim =
      follows_same g (Given g v st Q) s refl
      (ap (λ (o : Option ℕ). elim (then_value o (λ w. if divides op && w == 0 then None else Some w)) as (λ _. Made Right) [ Some word ↦ Makes (R.Word (K.Imm word)) d | None ↦ then_make (operand bits true e d) next ]) (scan_word set e is))
      (given_through g s (meant g fields e st) v st (GivesScan bits e d s st) Q (operand bits true e d) next (λ x after. given (right_given x) after)
      (λ part h. then_after g (GivesScan bits e d s st) Q part next h (λ x after. given (right_given x) after) (λ x after (f, (same, (gives, apart))). after_same g Q (ap (λ (o : Out). next o after) same) (made_after g Q (R.Field f) after (λ within. (f, (refl, gives))))))
      (scan_operand bits true e is valued d s st here sim))
    where
      v : ℕ → ℕ
      v = λ q. number e st q

      Q : Right → Draft → Type 0
      Q = RightField g has alive n ready places fields bits d s set st v

      next : Out → Draft → Made Right
      next x after = from (right_given x) (λ right. Makes right after)

      given : (o : Option Right) (after : Draft) → Extends g after (from o (λ right. Makes right after))
      given (Some right) after = (0, as_it_was after)
      given None after = tt

  plain_right : (bits : ℕ) (op : Op) (e : TExpr) → 0 < bits → bits ≤ 32 → (divides op ≡ false) ⊎ IsDivisor e → IsOperand set e → IsWide set (type_of e) → HasItsCode g.typed g.instance alive n e → (d : Draft) (s : CodeState) (st : State) → Starts g alive s (length d.code) d.regs (length d.fields) → Sim g alive st s
      → Follows g (Given g (λ q. number e st q) st (IsRight bits op e d s st)) s (meant g fields e st) (right_by (operand bits true e) op e d)
  plain_right bits op e some most operates is wide c d s st here sim =
      subst (λ (v : ℕ → ℕ). Follows g (Given g v st (IsRight bits op e d s st)) s (meant g fields e st) (right_by (operand bits true e) op e d)) (own_numbers e st is)
      (subst (λ (w : ℕ → ℕ). Follows g (Given g (λ q. value_in (extents g set) st e q) st (λ right f. Takes op right × GivesRight g has alive n ready places fields bits (length d.fields) d s set st w right f)) s (meant g fields e st) (right_by (operand bits true e) op e d)) (own_words e st s sim is wide c)
      (right_after g has alive n ready places fields bits set op e operates is c (λ pure. pure_after g has alive n ready places fields bits set e some most pure c) d s st here sim))

  -- an operation keeps the lowest bits
  pub right_keeps : (bits : ℕ) (op : Op) (signed : Bool) (right : TExpr) (st : State) (s : CodeState) → Sim g alive st s → bits ≤ 32 → IsOperation op right → IsScan set right ⊎ IsOperand set right → IsWide set (type_of right) → HasItsCode g.typed g.instance alive n right → (q : ℕ) → Keeps op signed (operation_bits bits op right) (number right st q)
  right_keeps bits op signed right st s sim most operates (inl is) wide c q = operation_keeps bits op signed right (number right st q) most (λ word is_word. absurd (let none = sym (scan_word set right is) ∙ is_word in cc)) (whole_keeps op signed (number right st q) operates.0)
  right_keeps bits op signed right st s sim most operates (inr is) wide c q =
      subst (λ (f : ℕ → ℕ). Keeps op signed (operation_bits bits op right) (f q)) (own_words right st s sim is wide c) (operands_keep g has alive n ready places fields bits set op signed right st most operates is c q)

  -- An operator on two of them, from the entry that is taken for a promoted left one.
  abbrev pub AreSides : TExpr → TExpr → Type 0
  AreSides left right = (IsScan set left × (IsScan set right ⊎ IsOperand set right)) ⊎ (IsOperand set left × IsScan set right)

  -- What is said behind both is said of their code.
  pub sides_given : {C : Type 0} (bits : ℕ) (op : Op) (left right : TExpr) (d : Draft) (s : CodeState) (st : State) → 0 < bits → bits ≤ 32 → (divides op ≡ false) ⊎ IsDivisor right → AreSides left right → IsWide set (type_of left) → IsWide set (type_of right) → HasItsCode g.typed g.instance alive n left → HasItsCode g.typed g.instance alive n right
      → (IsScan set left → ScanValued bits left (λ d. value_of g.typed (layout g) bits left d)) → (IsScan set right → ScanValued bits right (λ d. value_of g.typed (layout g) bits right d))
      → Starts g alive s (length d.code) d.regs (length d.fields) → Sim g alive st s → (Q : C → Draft → Type 0) (last : Field → Right → Draft → Made C) → ((a : Field) (b : Right) (after : Draft) → Extends g after (last a b after))
      → ((bound : ℕ) (a : Field) (e1 : Draft) → length d.fields ≤ bound → bound ≤ length e1.fields → meant g fields left st ≡ Source.Gives (Parallel (λ x. number left st x)) st → meant g fields right st ≡ Source.Gives (Parallel (λ x. number right st x)) st
      → (one : GivesField g alive bits bound (with_entry set bits W.Own d) s set st (λ x. number left st x) a e1) (b : Right) (e2 : Draft) → Spares g has alive n ready places fields bits set bound d b → IsRight bits op right e1 one.passes.t st b e2 → After g Q (last a b e2))
      → (Ended g s (meant g fields left st) → (z : C) (f : Draft) → Q z f) → (meant g fields left st ≡ Source.Gives (Parallel (λ x. number left st x)) st → (t : CodeState) → Reaches g s t → Ended g t (meant g fields right st) → (z : C) (f : Draft) → Q z f)
      → After g Q (then_make (spread_into (operand bits (is_quiet right) left) left (next_field set bits d) (with_entry set bits W.Own d)) (λ a between. then_make (right_by (operand bits true right) op right between) (λ b after. last a b after)))
  sides_given {C = C} bits op left right d s st some most is sides wide_left wide_right c_left c_right left_valued right_valued here sim Q last grows given left_ends right_ends = by sides
    where
      d1 : Draft
      d1 = with_entry set bits W.Own d

      spare : Field
      spare = next_field set bits d

      v : ℕ → ℕ
      v = λ x. number left st x

      w : ℕ → ℕ
      w = λ x. number right st x

      first : length d1.fields ≡ length d.fields + 1
      first = one_more set bits W.Own d

      next : Field → Draft → Made C
      next a between = then_make (right_by (operand bits true right) op right between) (λ b after. last a b after)

      next_extends : (a : Field) (between : Draft) → Extends g between (next a between)
      next_extends a between =
          extends_then g between (right_by (operand bits true right) op right between) (λ b after. last a b after) (right_extends g (operand bits true right) op right (λ after. operand_grows g has alive n ready places fields bits right c_right true after) between) (λ b after. grows a b after)

      -- behind the left one
      behind : (bound : ℕ) → length d.fields ≤ bound → (a : Field) (e1 : Draft) → meant g fields left st ≡ Source.Gives (Parallel v) st → bound ≤ length e1.fields → (one : GivesField g alive bits bound d1 s set st v a e1)
          → Follows g (Given g w st (λ b f. Spares g has alive n ready places fields bits set bound d b × IsRight bits op right e1 one.passes.t st b f)) one.passes.t (meant g fields right st) (right_by (operand bits true right) op right e1)
          → After g Q (next a e1)
      behind bound low a e1 is_left less one follows =
          then_known g one.passes.t (meant g fields right st) w st (λ b f. Spares g has alive n ready places fields bits set bound d b × IsRight bits op right e1 one.passes.t st b f) Q (right_by (operand bits true right) op right e1) (λ b after. last a b after) follows (λ b after. grows a b after)
          (λ is_right b e2 two. given bound a e1 low less is_left is_right one b e2 two.0 two.1) (λ early z f. right_ends is_left one.passes.t one.passes.go early z f)

      -- a scan behind it is in a field
      scan_behind : (bound : ℕ) (e1 : Draft) (t : CodeState) → IsScan set right → Starts g alive t (length e1.code) e1.regs (length e1.fields) → Sim g alive st t
          → Follows g (Given g w st (λ b f. Spares g has alive n ready places fields bits set bound d b × IsRight bits op right e1 t st b f)) t (meant g fields right st) (right_by (operand bits true right) op right e1)
      scan_behind bound e1 t scans there sim_there =
          given_weaker g t (meant g fields right st) w st (RightField g has alive n ready places fields bits e1 t set st w) (λ b f. Spares g has alive n ready places fields bits set bound d b × IsRight bits op right e1 t st b f) (right_by (operand bits true right) op right e1)
          (λ b f h. ((λ k same. let wrong = sym h.1.0 ∙ same in cc), ((λ word same divided. let wrong = sym h.1.0 ∙ same in cc), inl h)))
          (scan_right bits op right scans (right_valued scans) e1 t st there sim_there)

      any_behind : (e1 : Draft) (t : CodeState) → IsScan set right ⊎ IsOperand set right → Starts g alive t (length e1.code) e1.regs (length e1.fields) → Sim g alive st t
          → Follows g (Given g w st (λ b f. Spares g has alive n ready places fields bits set (length d1.fields) d b × IsRight bits op right e1 t st b f)) t (meant g fields right st) (right_by (operand bits true right) op right e1)
      any_behind e1 t (inl scans) there sim_there = scan_behind (length d1.fields) e1 t scans there sim_there
      any_behind e1 t (inr plain) there sim_there =
          given_weaker g t (meant g fields right st) w st (IsRight bits op right e1 t st) (λ b f. Spares g has alive n ready places fields bits set (length d1.fields) d b × IsRight bits op right e1 t st b f) (right_by (operand bits true right) op right e1)
          (λ b f h. ((λ k same. omega arith), h)) (plain_right bits op right some most is plain wide_right c_right e1 t st there sim_there)

      -- a left one in a field
      in_field : LeftGiven bits left (is_quiet right) spare → IsScan set right ⊎ IsOperand set right → After g Q (then_make (spread_into (operand bits (is_quiet right) left) left spare d1) (λ a between. next a between))
      in_field follows any =
          then_known g s (meant g fields left st) v st (GivesField g alive bits (length d1.fields) d1 s set st v) Q (spread_into (operand bits (is_quiet right) left) left spare d1) (λ a between. next a between) (follows d1 s st (starts_entry g alive _ _ here) sim) next_extends
          (λ is_left a e1 one. behind (length d1.fields) (omega (arith, first)) a e1 is_left (fields_longer d1 e1 one.passes.grown.0 one.passes.grown.1) one (any_behind e1 one.passes.t any one.passes.at one.passes.sim)) left_ends

      by : AreSides left right → After g Q (then_make (spread_into (operand bits (is_quiet right) left) left spare d1) (λ a between. next a between))
      by (inl (scans, any)) = in_field (scan_left bits left (is_quiet right) spare scans (left_valued scans)) any
      by (inr (inl pure, scans)) = in_field (plain_left bits left (is_quiet right) spare some most pure wide_left c_left) (inl scans)
      by (inr (inr promoted, scans)) =
          then_known g s (meant g fields left st) v st (GivesField g alive bits (length d.fields) d1 s set st v) Q (spread_into (operand bits (is_quiet right) left) left spare d1) (λ a between. next a between)
          (subst (λ (f : ℕ → ℕ). Follows g (Given g f st (GivesField g alive bits (length d.fields) d1 s set st v)) s (meant g fields left st) (spread_into (operand bits (is_quiet right) left) left spare d1)) (own_numbers left st (inr promoted))
          (subst (λ (f : ℕ → ℕ). Follows g (Given g (λ q. value_in (extents g set) st left q) st (GivesField g alive bits (length d.fields) d1 s set st f)) s (meant g fields left st) (spread_into (operand bits (is_quiet right) left) left spare d1)) (own_words left st s sim (inr promoted) wide_left c_left)
          (promoted_left g has alive n ready places fields bits set left (is_quiet right) promoted c_left d s st here sim))) next_extends
          (λ is_left a e1 one. behind (length d.fields) (omega arith) a e1 is_left (let more = fields_longer d1 e1 one.passes.grown.0 one.passes.grown.1 in omega (arith, first, more)) one (scan_behind (length d.fields) e1 one.passes.t scans one.passes.at one.passes.sim)) left_ends

  -- and an operator on them
  pub sides_after : (bits : ℕ) (ty : ValueType) (place : Place) (op : Op) (p q : Boxed) (dest : Field) (left right : TExpr) (d : Draft) (s : CodeState) (st : State) → 0 < bits → bits ≤ 32 → ty.shape ≡ Some set → IsOperation op right → (divides op ≡ true → bits ≡ 32)
      → ((x : ℕ) → Keeps op (type_of left).elem.signed bits (number right st x)) → dest.len ≡ bits → AreSides left right → IsWide set (type_of left) → IsWide set (type_of right) → HasItsCode g.typed g.instance alive n left → HasItsCode g.typed g.instance alive n right
      → (IsScan set left → ScanValued bits left (λ d. value_of g.typed (layout g) bits left d)) → (IsScan set right → ScanValued bits right (λ d. value_of g.typed (layout g) bits right d))
      → Starts g alive s (length d.code) d.regs (length d.fields) → Sim g alive st s → (Q : Out → Draft → Type 0)
      → (meant g fields (T.Binary' ty place op p left q right) st ≡ Source.Gives (Parallel (λ x. outcome op 32 (not (type_of left).elem.signed) (number left st x) (number right st x))) st → (e2 : Draft) (i : Instr) → Within g (with_instr i e2) → (passes : Passes g alive (length d.fields) (with_entry set bits W.Own d) e2 s st (Unit {0}))
      → Puts g set i dest passes.t (λ x. outcome op 32 (not (type_of left).elem.signed) (number left st x) (number right st x)) → Q (O.Field dest) (with_instr i e2))
      → (Ended g s (meant g fields (T.Binary' ty place op p left q right) st) → (x : Out) (f : Draft) → Q x f)
      → After g Q (fields_by op (type_of left).elem.signed place dest (next_field set bits d) (operand bits (is_quiet right) left) left (operand bits true right) right (with_entry set bits W.Own d))
  unfolding fields_by
  sides_after bits ty place op p q dest left right d s st some most shaped is wide keeps long sides wide_left wide_right c_left c_right left_valued right_valued here sim Q last ended =
      sides_given bits op left right d s st some most is.1 sides wide_left wide_right c_left c_right left_valued right_valued here sim Q (λ a b after. right_operated op (type_of left).elem.signed place dest a b (next_field set bits d) after)
      (λ a b after. operated_extends g op (type_of left).elem.signed place dest a (next_field set bits d) b after is.0)
      (λ bound a e1 low less is_left is_right one b e2 spares two.
      operated_after g has alive n ready places fields bits bound set op (type_of left).elem.signed place dest a v w d e1 e2 s st (no_home g alive (length d.fields) (length d.fields) (omega arith) here) is.0 wide keeps long low less one b spares two.0 two.1 Q
      (λ there never e3 i within passes puts. last (operator_gives g fields set ty place op p q left right v w w st shaped there (λ x below. refl) never is_left is_right) e3 i within passes puts)
      (λ there divided x none ends. ended (record { early = Source.Fault DivZero place (Some x); state = st; is = operator_ends g fields set ty place op p q left right v w w st x shaped there (λ y below. refl) divided none is_left is_right; finishes = ends })))
      (λ early z f. ended (left_ended g fields ty place op p q left right s st early) z f) (λ is_left t go early z f. ended (right_ended g fields ty place op p q left right v s t st go is_left early) z f)
    where
      v : ℕ → ℕ
      v = λ x. number left st x

      w : ℕ → ℕ
      w = λ x. number right st x
