-- The code of an assignment to a parallel variable, or of a step of one, follows: its last instruction writes the
-- variable itself.
use Rattle.std.proofs.Common.{[], ◌≡◌, ◌∙◌, ℕ, ◌<◌, ◌≤◌, ◌==◌, ◌||◌, Bool, true, false, not, length, Option, Some, None, refl, sym, ap, subst, arith, ◌⊎◌, inl, inr, if◌then◌else◌, ◌&&◌, ◌+◌}
use Rattle.cstar_base.specs.declared.operators.Op.{Op}
use Rattle.cstar_base.specs.declared.operators.Place.{Place}
use Rattle.cstar_base.specs.declared.faults.RunFault.TheVariants.{DivZero}
use Rattle.cstar_base.specs.Operators.{divides, outcome}
use Rattle.cstar_tree.specs.declared.typed.TExpr.{TExpr, Row_of-TExpr}
use Rattle.cstar_tree.specs.declared.typed.TExpr as T
use Rattle.cstar_tree.specs.declared.typed.UnaryOp.{UnaryOp}
use Rattle.cstar_tree.specs.declared.typed.UnaryOp.TheVariants as U
use Rattle.cstar_tree.specs.declared.typed.ValueType.{ValueType}
use Rattle.cstar_tree.specs.declared.typed.VarInfo.{VarInfo}
use Rattle.cstar_tree.specs.declared.typed.Variable.{Variable}
use Rattle.cstar_tree.specs.declared.typed.Variable.TheVariants as V
use Rattle.cstar_tree.specs.StatementTypes.{variable_info}
use Rattle.cstar_tree.specs.Typed.{type_of}
use Rattle.code_lengths.specs.Naming.{HasVariable, NamesVariables, plain}
use Rattle.code_lengths.specs.Ready.{IsReadyButForFields}
use Rattle.lower_base.specs.declared.emit.Out.{Out}
use Rattle.lower_base.specs.declared.emit.Out.TheVariants as O
use Rattle.lower_base.specs.Drafts.{Draft, Fails, Made, Makes, a_field, an_entry, in_field, step as step_of, then_make, with_instr}
use Rattle.lower_base.specs.Operators.{negates, relates}
use Rattle.lower_expr.specs.Effects.{binary_to, bits_for, cast_to, computed_to, converted_to, field_binary_to, field_operated, fits_field, goes_unchanged, gone_to, keeps_bits, logical_to, moved, put_to}
use Rattle.lower_expr.specs.Kinds.{done_as, operand_bits, operation_bits, reads_signed, unary_bits}
use Rattle.lower_expr.specs.Operands.{is_plus, is_quiet, operand_by}
use Rattle.lower_expr.specs.Spots.{field_loaded, loaded, variable_spot}
use Rattle.lower_expr.specs.Steps.{is_kept, put_value, right_operated, word_for, word_put}
use Rattle.lower_base.specs.Layouts.{field_of}
use Rattle.lower_expr.specs.Values.{arm_by, extended, field_binary_of, fields_by, joined_of, next_of, read_to, right_by, scalar_choice_of, spot_of, tested, truth_put, value_of}
use Rattle.paris_code.specs.declared.instr.Instr.{Instr}
use Rattle.paris_code.specs.declared.instr.Instr.TheVariants as I
use Rattle.paris_code.specs.declared.operands.Field.{Field}
use Rattle.paris_code.specs.declared.program.Owner.TheVariants as W
use Rattle.paris_code.specs.Code.{CodeState}
use Rattle.source_meaning.specs.Expressions.{evaluated}
use Rattle.source_meaning.specs.State as Source
use Rattle.source_meaning.specs.State.{State}
use Rattle.source_meaning.specs.Values.{Parallel, Value}
use Rattle.source_meaning.proofs.ConstantLaws.{Boxed}
use Rattle.vp_sets.specs.Positions.{coordinate}
use Rattle.code_follows.proofs.Following.{Finishes, Follows, HasRegisters, Sim, extends_then, held}
use Rattle.code_follows.proofs.Growing.{Extended}
use Rattle.code_follows.proofs.Words.{held_wide, kept}
use Rattle.code_follows.proofs.Settings.{Setting, Within, and_one, layout, start}
use Rattle.code_follows.specs.Fragment.{NamesAmong}
use Rattle.fields_follow.specs.Fragment.{HasKnownKind, IsOfFileOrBlock, IsOperation, IsPromoted, IsPure, IsRelation, IsWide, alone}
use Rattle.fields_follow.proofs.Arms.{PutsAndLands as Puts_and_lands, PutsLast as Puts_last, field_at, last_lands, promoted_last, value_last}
use Rattle.fields_follow.proofs.Forms.{HasItsCode, HasItsWord, pure_kept, pure_word}
use Rattle.fields_follow.proofs.Dividing.{zero_at}
use Rattle.fields_follow.proofs.Outcomes.{Ended, Given, ended_back, meant, then_known}
use Rattle.fields_follow.proofs.Hops.{puts_same}
use Rattle.fields_follow.proofs.Instructions.{AreAlike, Puts, alike_same, extents, shapes, puts_alike, puts_coordinate, puts_extended}
use Rattle.fields_follow.proofs.Lengths.{Keeps, divides_wide}
use Rattle.fields_follow.proofs.Meaning.{as_shaped, either, read_is, right_of, unary_means, value_in, word_at}
use Rattle.fields_follow.proofs.Indexing.{all_coded}
use Rattle.fields_follow.proofs.Router.{indexed_last}
use Rattle.fields_follow.proofs.Operands.{GivesRight, Takes, fields_after, operated_after, operated_extends, right_extends}
use Rattle.fields_follow.proofs.Passing.{After, Behind, GivesField, Passes, after_same, fields_longer, made_after, passes_all, passes_from, then_after, names_second}
use Rattle.fields_follow.proofs.Places.{HoldsTheFields, PlacesFields, stands_here}
use Rattle.fields_follow.proofs.Promoted.{IsComputed, promoted_stands}
use Rattle.fields_follow.proofs.Choosing.{choice_lands}
use Rattle.fields_follow.proofs.Calm.{calm_alone}
use Rattle.fields_follow.proofs.Writing.{lands_here}
use Rattle.fields_follow.proofs.Sizes.{binary_parts, brackets_part, choice_parts, convert_part, unary_part}
use Rattle.fields_follow.proofs.Totals.{held_below}
use Rattle.fields_follow.proofs.Values.{FindsOrFails, and_entry, finds_read, next_field, one_more, operand_after, operand_of, starts_found, variable_has, with_entry}
use Rattle.fields_follow.proofs.Expressions.{IsMeant, binary_at, convert_alike, convert_ended, convert_means, coordinate_means, operand_at, unary_ended, extended_after, negated_after, operand_grows, operands_keep, plus_alike, signed_as, unary_at, wide_operands}
use Rattle.fields_follow.proofs.Computing.{each_after, pure_after}
use Rattle.fields_follow.proofs.TruthValues.{IsPlain}
use Rattle.lower_expr.specs.Joined.{is_flag, joins}
use Rattle.cstar_base.proofs.NumberLaws.{kind_bits}
use Rattle.std.proofs.lemmas.Bool.{eqb-true}
use Rattle.std.proofs.lemmas.Bool.Decides.{nat_tests}
use Rattle.std.specs.Prelude.{nat_le}
use Rattle.fields_follow.proofs.Starts.{no_home, starts_entry, Starts}
use Rattle.fields_follow.proofs.Variables.{Carries}
use Rattle.paris_code.specs.Spans.{IsNamedAt}

module _ (g : Setting) (has : HasRegisters g) (alive : Variable → Type 0) (n : ℕ) (ready : (d : Draft) → IsReadyButForFields g.typed g.instance (layout g) n d) (places : PlacesFields g) (fields : HoldsTheFields g) where
  abbrev operand : ℕ → Bool → TExpr → Draft → Made Out
  operand bits quiet e d = operand_of g has alive n ready places fields bits quiet e d

  -- the expression gives its numbers in the source
  abbrev IsGiven : ℕ → TExpr → State → Type 0
  IsGiven set e st = IsMeant g has alive n ready places fields set e st

  abbrev PutsLast : ℕ → Field → TExpr → (Draft → Made Out) → Type 1
  PutsLast set f e made = Puts_last g has alive n ready places fields set f e made

  abbrev words_of : ℕ → TExpr → State → ℕ → ℕ
  words_of set e st q = word_at (extents g set) st e q

  -- the code of an expression that becomes the value of the field
  abbrev PutsWords : ℕ → ℕ → ℕ → TExpr → Type 1
  PutsWords set offset bits e = PutsLast set (field_at set offset bits) e (λ d. computed_to g.typed (layout g) (O.Field (field_at set offset bits)) e d)

  -- or that lands there behind it
  abbrev PutsAndLands : ℕ → ℕ → ℕ → TExpr → (Draft → Made Out) → Type 1
  PutsAndLands set offset bits e made = Puts_and_lands g has alive n ready places fields set (field_at set offset bits) e made

  abbrev LandsWords : ℕ → ℕ → ℕ → TExpr → Type 1
  LandsWords set offset bits e = PutsAndLands set offset bits e (λ d. computed_to g.typed (layout g) (O.Field (field_at set offset bits)) e d)

  words_land : (set offset bits : ℕ) (e : TExpr) → PutsWords set offset bits e → LandsWords set offset bits e
  words_land set offset bits e puts = last_lands g has alive n ready places fields set (field_at set offset bits) e (λ d. computed_to g.typed (layout g) (O.Field (field_at set offset bits)) e d) puts

  -- a copy of a variable, cut or extended
  copied_last : (set offset bits : ℕ) (x : Variable) (ty : ValueType) → bits ≤ 32 → IsOfFileOrBlock x → ty.shape ≡ Some set → HasItsCode g.typed g.instance alive n (T.Variable ty x) → PutsWords set offset bits (T.Variable ty x)
  unfolding computed_to read_to spot_of variable_spot loaded in_field field_loaded then_make passes_from value_in evaluated step_of NamesVariables NamesAmong After
  copied_last set offset bits x ty most read shaped c d s st here sim Q last ended =
      after_same g Q (ap (λ (y : ValueType). computed_to g.typed (layout g) (O.Field f) (T.Variable y x) d) (as_shaped ty set shaped))
      (by (finds_read g has alive n ready places fields set x info d read c.among v.named shaped refl s st sim))
    where
      f : Field
      f = field_at set offset bits

      v : HasVariable g.typed g.instance n x (plain ty)
      v = c.code.names

      info : VarInfo
      info = variable_info v.word (plain ty) v.start

      code : Made Field → Made Out
      code m = then_make m (λ h after. Makes (O.Field f) (with_instr (I.Move ty.elem.signed f h) after))

      by : FindsOrFails g has alive n ready places fields set x info d → After g Q (code (field_of g.typed (layout g) x 0 d))
      by (inl fails) = after_same g Q (ap code fails) tt
      by (inr found) =
          let d2 : Draft = found.e in
          let source : Field = found.f in
          let i : Instr = I.Move ty.elem.signed f source in
          let starts : Starts g alive s (length d2.code) d2.regs (length d2.fields) = starts_found g has alive n ready places fields set x info d s found here in
          after_same g Q (ap code found.is)
          (made_after g Q (O.Field f) (with_instr i d2) (λ within.
          let carries : Carries g alive x info set source = found.carries (with_instr i d2) 1 (and_one g i d2) within in
          let named : IsNamedAt g.unit source.offset (length d2.code) = names_second g i f source [] (length d2.code) (stands_here g i d2 within refl) refl in
          let behind : s.at ≤ start g + length d2.code = (let at = starts.stands in omega (arith, at)) in
          let numbers = variable_has g has alive n ready places fields set x info source s st carries (length d2.code) named behind sim in
          last (ap (λ (y : Value). Source.Gives y st) (read_is fields.scope fields.active ty set x st shaped)) d2 i within (passes_from g alive (length d.fields) d d2 d2 s st (Unit {0}) found.grown (passes_all g alive (length d.fields) d2 s st (Unit {0}) starts sim))
          (puts_extended g info.elem set f source s (λ q. held info.elem (st.parallel x 0 q)) most (λ q below on. numbers.1 q below) numbers.0)))

  -- what is put for one expression is put for another with the same words
  puts_like : (set offset bits : ℕ) (made : Draft → Made Out) (e other : TExpr) → ((st : State) → IsGiven set e st → IsGiven set other st) → ((s : CodeState) (st : State) → Ended g s (meant g fields e st) → Ended g s (meant g fields other st))
      → ((st : State) (s : CodeState) → Sim g alive st s → AreAlike g bits set (words_of set e st) (words_of set other st)) → PutsAndLands set offset bits e made → PutsAndLands set offset bits other made
  puts_like set offset bits made e other gives ends alike whole d s st here sim Q last ended =
      whole d s st here sim Q (λ is e2 i end within passes puts lands. last (gives st is) e2 i end within passes (puts_alike g set i (field_at set offset bits) passes.t (words_of set e st) (words_of set other st) (alike st passes.t passes.sim) puts) lands) (λ early. ended (ends s st early))

  -- a unary operator
  negated_last : (set offset bits : ℕ) (ty : ValueType) (op : UnaryOp) (p : Boxed) (inner : TExpr) → 0 < bits → bits ≤ 32 → negates op ≡ false → IsWide set (type_of inner) → IsPure set (T.Unary' ty op p inner) → HasItsCode g.typed g.instance alive n (T.Unary' ty op p inner) → (is_plus op ≡ true → LandsWords set offset bits inner) → LandsWords set offset bits (T.Unary' ty op p inner)
  unfolding computed_to is_plus negates unary_bits bits_for done_as IsPure value_in
  negated_last set offset bits ty U.Plus p inner some most plain wide is c whole d s st here sim Q last ended =
      puts_like set offset bits (λ d. computed_to g.typed (layout g) (O.Field (field_at set offset bits)) inner d) inner (T.Unary' ty U.Plus p inner)
      (λ st given. unary_means fields.scope fields.active set ty U.Plus p inner (λ q. value_in (extents g set) st inner q) st is.0.0 given) (λ s st early. unary_ended g has alive n ready places fields ty U.Plus p inner s st early) (λ st s sim. plus_alike g has alive n ready places fields bits set ty p inner st s sim wide is c) (whole refl) d s st here sim Q last ended
  negated_last set offset bits ty U.Minus p inner some most plain wide is c whole d s st here sim Q last ended =
      negated_after g has alive n ready places fields bits set ty U.Minus p (field_at set offset bits) inner (length d.fields) d s st is.0.0 most (refl, refl) refl is.2 wide (unary_part g alive n places fields ty U.Minus p inner c) (pure_after g has alive n ready places fields bits set inner some most is.2 (unary_part g alive n places fields ty U.Minus p inner c)) (omega arith) here sim Q
      (λ given e1 i within passes puts. last given e1 i (with_instr i e1) within passes (puts_same g set i (field_at set offset bits) passes.t _ (words_of set (T.Unary' ty U.Minus p inner) st) (λ q below. unary_at g has alive n ready places fields set ty U.Minus p inner st passes.t passes.sim is c q) puts) (lands_here g (with_instr i e1))) ended
  negated_last set offset bits ty U.Complement p inner some most plain wide is c whole d s st here sim Q last ended =
      negated_after g has alive n ready places fields bits set ty U.Complement p (field_at set offset bits) inner (length d.fields) d s st is.0.0 most (refl, refl) refl is.2 wide (unary_part g alive n places fields ty U.Complement p inner c) (pure_after g has alive n ready places fields bits set inner some most is.2 (unary_part g alive n places fields ty U.Complement p inner c)) (omega arith) here sim Q
      (λ given e1 i within passes puts. last given e1 i (with_instr i e1) within passes (puts_same g set i (field_at set offset bits) passes.t _ (words_of set (T.Unary' ty U.Complement p inner) st) (λ q below. unary_at g has alive n ready places fields set ty U.Complement p inner st passes.t passes.sim is c q) puts) (lands_here g (with_instr i e1))) ended
  negated_last set offset bits ty U.Not p inner some most plain wide is c whole d s st here sim Q last ended = cc

  -- a value of as many bits that is moved
  moved_last : (set offset bits : ℕ) (e : TExpr) → 0 < bits → bits ≤ 32 → IsPure set e → HasItsCode g.typed g.instance alive n e → PutsLast set (field_at set offset bits) e (λ d. moved g.typed (layout g) (O.Field (field_at set offset bits)) e d)
  unfolding moved bits_for
  moved_last set offset bits e some most pure c d s st here sim Q last ended = value_last g has alive n ready places fields set offset bits e pure c (pure_after g has alive n ready places fields bits set e some most pure c) d s st here sim Q last ended

  -- a binary operator
  operated_last : (set offset bits : ℕ) (ty : ValueType) (place : Place) (op : Op) (p q : Boxed) (left right : TExpr) → 0 < bits → bits ≤ 32 → IsOperation op right → IsPure set (T.Binary' ty place op p left q right) → HasItsCode g.typed g.instance alive n (T.Binary' ty place op p left q right) → PutsWords set offset bits (T.Binary' ty place op p left q right)
  unfolding computed_to binary_to field_binary_to field_binary_of then_make an_entry passes_from IsPure fits_field
  operated_last set offset bits ty place op p q left right some most known is c d s st here sim Q last ended = by (operation_bits bits op right == bits) refl
    where
      f : Field
      f = field_at set offset bits

      whole : TExpr
      whole = T.Binary' ty place op p left q right

      parts : HasItsCode g.typed g.instance alive n left × HasItsCode g.typed g.instance alive n right
      parts = binary_parts g alive n places fields ty place op p q left right c

      fitting : Bool → Made Out
      fitting b = if b then then_make (a_field set (operand_bits bits op left right) d) (λ spare after. field_binary_of g.typed (layout g) bits op place left right f spare after) else moved g.typed (layout g) (O.Field f) whole d

      chosen : (b : Bool) → operation_bits bits op right == bits ≡ b → computed_to g.typed (layout g) (O.Field f) whole d ≡ fitting b
      chosen b fits = ap (λ (c : Bool). fitting (c || operation_bits bits op right == bits)) known.0 ∙ ap fitting fits

      by : (b : Bool) → operation_bits bits op right == bits ≡ b → After g Q (computed_to g.typed (layout g) (O.Field f) whole d)
      by true fits =
          let works : operation_bits bits op right ≡ bits = eqb-true (operation_bits bits op right) bits fits in
          after_same g Q
          (chosen true fits
          ∙ ap (λ (k : ℕ). then_make (a_field set k d) (λ spare after. fields_by op (reads_signed op left right) place f spare (operand_by g.typed (layout g) k (value_of g.typed (layout g) k left) (is_quiet right) left) left (operand_by g.typed (layout g) k (value_of g.typed (layout g) k right) true right) right after)) (wide_operands bits op left right known.0 ∙ works)
          ∙ ap (λ (signed : Bool). fields_by op signed place f (next_field set bits d) (operand bits (is_quiet right) left) left (operand bits true right) right (with_entry set bits W.Own d)) (signed_as op left right known.0 is.3.1))
          (fields_after g has alive n ready places fields bits set ty place op p q f left right d s st is.0.0 known (λ divided. sym works ∙ divides_wide bits op right divided) (λ x. subst (λ (k : ℕ). Keeps op (type_of left).elem.signed k (word_at (extents g set) st right x)) works (operands_keep g has alive n ready places fields bits set op (type_of left).elem.signed right st most known (right_of set left right is.2) parts.1 x))
          (λ x below. operand_at g has alive n ready places fields set right st s sim (right_of set left right is.2) is.4 parts.1 x) refl is.2 parts.0 parts.1
          (λ pure. pure_after g has alive n ready places fields bits set left some most pure parts.0) (λ pure. pure_after g has alive n ready places fields bits set right some most pure parts.1)
          (operand_grows g has alive n ready places fields bits left parts.0) (operand_grows g has alive n ready places fields bits right parts.1) here sim Q
          (λ given e2 i within passes puts. last given e2 i within (passes_from g alive (length d.fields) d (with_entry set bits W.Own d) e2 s st (Unit {0}) (and_entry set bits W.Own d) passes)
          (puts_same g set i f passes.t _ (words_of set whole st) (λ x below. binary_at g has alive n ready places fields set ty place op p q left right st passes.t passes.sim is c x) puts)) ended)
      by false other = after_same g Q (chosen false other) (moved_last set offset bits whole some most is c d s st here sim Q last ended)

  -- `&&` and `||` of operands that are not joined
  logical_last : (set offset bits : ℕ) (is_or : Bool) (e left right : TExpr) → 0 < bits → bits ≤ 32 → IsPure set e → joins left right ≡ false → HasItsCode g.typed g.instance alive n e → PutsLast set (field_at set offset bits) e (λ d. logical_to g.typed (layout g) (O.Field (field_at set offset bits)) e is_or left right d)
  unfolding logical_to
  logical_last set offset bits is_or e left right some most is apart c d s st here sim Q last ended =
      after_same g Q (ap (λ (b : Bool). if b then joined_of g.typed (layout g) is_or f left right d else moved g.typed (layout g) (O.Field f) e d) apart) (moved_last set offset bits e some most is c d s st here sim Q last ended)
    where
      f : Field
      f = field_at set offset bits

  -- `?:`
  choice_words : (set offset bits : ℕ) (ty : ValueType) (p q r : Boxed) (test first second : TExpr) → 0 < bits → bits ≤ 32 → IsPure set (T.Choice' ty p test q first r second) → HasItsCode g.typed g.instance alive n (T.Choice' ty p test q first r second) → LandsWords set offset bits (T.Choice' ty p test q first r second)
  unfolding computed_to IsPure scalar_choice_of bits_for
  choice_words set offset bits ty p q r test first second some most is c d s st here sim Q last ended =
      either (λ kinded. after_same g Q (ap code (pure_kept set test kinded.0)) (last_lands g has alive n ready places fields set f whole (λ e. moved g.typed (layout g) (O.Field f) whole e) (moved_last set offset bits whole some most is c) d s st here sim Q last ended))
      (λ calm. let parts = choice_parts g alive n places fields ty p q r test first second c in
      after_same g Q (ap code (kept alone test (calm_alone test calm)))
      (choice_lands g has alive n ready places fields set offset bits ty p q r test first second is c is.0 calm is.2 is.3 is.4 is.5 (λ pure. pure_after g has alive n ready places fields bits set first some most pure parts.1) (λ pure. pure_after g has alive n ready places fields bits set second some most pure parts.2) d s st here sim Q last ended)) is.1
    where
      f : Field
      f = field_at set offset bits

      whole : TExpr
      whole = T.Choice' ty p test q first r second

      code : Bool → Made Out
      code b = if b then scalar_choice_of g.typed (layout g) ty bits test first second (O.Field f) d else moved g.typed (layout g) (O.Field f) whole d

  -- the own coordinates
  coordinate_last : (set offset bits axis : ℕ) (ty : ValueType) → IsWide set ty → PutsWords set offset bits (T.Pcoord ty axis)
  unfolding computed_to in_field value_in step_of
  coordinate_last set offset bits axis ty wide d s st here sim Q last ended =
      made_after g Q (O.Field f) (with_instr (I.MyNewsCoordinate f axis) d) (λ within.
      last (coordinate_means g has alive n ready places fields set axis ty st wide.0 (places.ends (length d.code) (I.MyNewsCoordinate f axis) f [] (stands_here g (I.MyNewsCoordinate f axis) d within refl) refl tt refl).0) d (I.MyNewsCoordinate f axis) within
      (passes_all g alive (length d.fields) d s st (Unit {0}) here sim)
      (puts_same g set (I.MyNewsCoordinate f axis) f s (λ q. coordinate (extents g set).own q axis) (words_of set (T.Pcoord ty axis) st) (λ q below. sym (held_wide ty.elem (coordinate (extents g set).own q axis) wide.1 (places.few set axis q)))
      (puts_coordinate g set axis f s refl (λ p below. places.few set axis p))))
    where
      f : Field
      f = field_at set offset bits

  -- a conversion
  converted_last : (set offset bits : ℕ) (ty : ValueType) (p : Boxed) (inner : TExpr) → bits ≤ 32 → (ty.elem.bits == 1) ≡ false → IsPure set (T.Convert' ty p inner) → HasItsCode g.typed g.instance alive n (T.Convert' ty p inner) → (nat_le bits ty.elem.bits ≡ true → LandsWords set offset bits inner) → LandsWords set offset bits (T.Convert' ty p inner)
  unfolding computed_to goes_unchanged keeps_bits converted_to cast_to IsPure
  converted_last set offset bits ty p inner most no_truth is c whole d s st here sim Q last ended = by (nat_le bits ty.elem.bits) refl
    where
      f : Field
      f = field_at set offset bits

      e : TExpr
      e = T.Convert' ty p inner

      fresh : is_kept inner ≡ false
      fresh = pure_kept set inner is.2

      kept : (b : Bool) → nat_le bits ty.elem.bits ≡ b → (nat_le bits ty.elem.bits && (not (ty.elem.bits == 1) || is_flag inner)) ≡ b
      kept b is_b = ap (λ (t : Bool). nat_le bits ty.elem.bits && (not t || is_flag inner)) no_truth ∙ by_both (nat_le bits ty.elem.bits) b is_b
        where
          by_both : (a b : Bool) → a ≡ b → (a && true) ≡ b
          by_both true b h = h
          by_both false b h = h

      part : HasItsCode g.typed g.instance alive n inner
      part = convert_part g alive n places fields ty p inner c

      by : (b : Bool) → nat_le bits ty.elem.bits ≡ b → After g Q (computed_to g.typed (layout g) (O.Field f) e d)
      by true enough =
          after_same g Q (ap (λ (b : Bool). if b then computed_to g.typed (layout g) (O.Field f) inner d else converted_to g.typed (layout g) (O.Field f) e ty.elem inner d) (kept true enough))
          (puts_like set offset bits (λ d. computed_to g.typed (layout g) (O.Field f) inner d) inner e (λ st given. convert_means g has alive n ready places fields set ty p inner st is.0 given) (λ s st early. convert_ended g has alive n ready places fields ty p inner s st early) (λ st s sim. convert_alike g has alive n ready places fields bits set ty p inner st no_truth (grind (arith, nat_tests, enough))) (whole enough) d s st here sim Q last ended)
      by false less =
          after_same g Q
          (ap (λ (b : Bool). if b then computed_to g.typed (layout g) (O.Field f) inner d else converted_to g.typed (layout g) (O.Field f) e ty.elem inner d) (kept false less)
          ∙ ap (λ (b : Bool). if b then moved g.typed (layout g) (O.Field f) e d else if ty.elem.bits == 1 then truth_put f (tested g.typed (layout g) inner) d else extended ty.elem.signed f (next_of g.typed (layout g) ty.elem.bits true inner) d) fresh
          ∙ ap (λ (b : Bool). if b then truth_put f (tested g.typed (layout g) inner) d else extended ty.elem.signed f (next_of g.typed (layout g) ty.elem.bits true inner) d) no_truth)
          (extended_after g has alive n ready places fields set ty p inner f (length d.fields) d s st is.0 no_truth most (operand ty.elem.bits true inner)
          (operand_after g has alive n ready places fields ty.elem.bits set inner true is.2 part (pure_after g has alive n ready places fields ty.elem.bits set inner (kind_bits ty.elem.bits ty.elem.signed ty.elem.kind).0 (kind_bits ty.elem.bits ty.elem.signed ty.elem.kind).1 is.2 part)) (omega arith) here sim Q
          (λ given e2 i within passes puts. last given e2 i (with_instr i e2) within passes puts (lands_here g (with_instr i e2))) ended)

  -- a get from neighbours
  pub gone_same : (dest : Out) (Q : Out → Draft → Type 0) (made : Made Out) → After g (λ out e. Q dest e) made → After g Q (gone_to dest made)
  unfolding gone_to After then_make
  gone_same dest Q (Makes out e) h = h
  gone_same dest Q Fails h = tt

  -- a get
  left_index_computed : (set offset bits : ℕ) (ty : ValueType) (place : Place) (p : _) (indexes : Row_of-TExpr _) (x : Variable) (of : ℕ) → bits ≤ 32 → IsPure set (T.LeftIndex' ty place p indexes x of) → HasItsCode g.typed g.instance alive n (T.LeftIndex' ty place p indexes x of)
      → PutsWords set offset bits (T.LeftIndex' ty place p indexes x of)
  unfolding computed_to spot_of
  left_index_computed set offset bits ty place p indexes x of most is c d s st here sim Q last ended =
      gone_same (O.Field (field_at set offset bits)) Q _
      (indexed_last g has alive n ready places fields ty place p indexes x set of offset bits (length d.fields) (λ after. spot_of g.typed (layout g) (T.LeftIndex' ty place p indexes x of) after) d s st most is c
      (each_after g has alive n ready places fields set indexes (all_coded g has alive n ready places fields ty place p indexes x of c)) refl (omega arith) here sim (λ out e. Q (O.Field (field_at set offset bits)) e) last (λ early y after. ended early (O.Field (field_at set offset bits)) after))

  -- a value that is no truth value
  pub computed_last : (set offset bits : ℕ) (e : TExpr) → 0 < bits → bits ≤ 32 → IsPure set e → IsPlain bits e → HasItsCode g.typed g.instance alive n e → LandsWords set offset bits e
  unfolding IsPure IsPlain IsOfFileOrBlock computed_to value_in NamesVariables evaluated
  computed_last set offset bits (T.Variable ty (V.File k)) some most is plain c = words_land set offset bits (T.Variable ty (V.File k)) (copied_last set offset bits (V.File k) ty most tt is c)
  computed_last set offset bits (T.Variable ty (V.Local k)) some most is plain c = words_land set offset bits (T.Variable ty (V.Local k)) (copied_last set offset bits (V.Local k) ty most tt is c)
  computed_last set offset bits (T.Brackets' ty p inner) some most is plain c =
      puts_like set offset bits (λ d. computed_to g.typed (layout g) (O.Field (field_at set offset bits)) inner d) inner (T.Brackets' ty p inner) (λ st given. given) (λ s st early. early) (λ st s sim. alike_same g bits set _ _ (λ q below few. ap (λ (y : ValueType). held y.elem (value_in (extents g set) st inner q)) is.0))
      (computed_last set offset bits inner some most is.1 plain (brackets_part g alive n places fields ty p inner c))
  computed_last set offset bits (T.Unary' ty op p inner) some most is plain c = by is.1 (λ plus. computed_last set offset bits inner some most is.2 (plain.1 plus) (unary_part g alive n places fields ty op p inner c))
    where
      by : ((negates op ≡ false) × IsWide set (type_of inner)) ⊎ ((negates op ≡ true) × HasKnownKind inner) → (is_plus op ≡ true → LandsWords set offset bits inner) → LandsWords set offset bits (T.Unary' ty op p inner)
      by (inl h) whole = negated_last set offset bits ty op p inner some most plain.0 h.1 is c whole
      by (inr h) whole = let wrong = sym plain.0 ∙ h.0 in cc
  computed_last set offset bits (T.Binary' ty place op p left q right) some most is plain c = by is.1
    where
      by : IsOperation op right ⊎ IsRelation set op left right → LandsWords set offset bits (T.Binary' ty place op p left q right)
      by (inl known) = words_land set offset bits (T.Binary' ty place op p left q right) (operated_last set offset bits ty place op p q left right some most known is c)
      by (inr related) = let wrong = sym plain ∙ related.0 in cc
  computed_last set offset bits (T.Choice' ty p test q first r second) some most is plain c = choice_words set offset bits ty p q r test first second some most is c
  computed_last set offset bits (T.Convert' ty p inner) some most is plain c = converted_last set offset bits ty p inner most plain.0 is c (λ enough. computed_last set offset bits inner some most is.2 (plain.1 enough) (convert_part g alive n places fields ty p inner c))
  computed_last set offset bits (T.ParallelCast' ty p inner) some most is plain c = words_land set offset bits (T.ParallelCast' ty p inner) (moved_last set offset bits (T.ParallelCast' ty p inner) some most is c)
  computed_last set offset bits (T.Pcoord ty axis) some most is plain c = words_land set offset bits (T.Pcoord ty axis) (coordinate_last set offset bits axis ty is)
  computed_last set offset bits (T.Dot ty axis) some most is plain c = words_land set offset bits (T.Dot ty axis) (moved_last set offset bits (T.Dot ty axis) some most is c)
  computed_last set offset bits (T.LeftIndex' ty place p indexes x of) some most is plain c = words_land set offset bits (T.LeftIndex' ty place p indexes x of) (left_index_computed set offset bits ty place p indexes x of most is c)
  computed_last set offset bits (T.LogicalOr' ty p left q right) some most is plain c = words_land set offset bits (T.LogicalOr' ty p left q right) (logical_last set offset bits true (T.LogicalOr' ty p left q right) left right some most is plain c)
  computed_last set offset bits (T.LogicalAnd' ty p left q right) some most is plain c = words_land set offset bits (T.LogicalAnd' ty p left q right) (logical_last set offset bits false (T.LogicalAnd' ty p left q right) left right some most is plain c)
  computed_last set offset bits _ some most is plain c = absurd is

  -- any operand that is no truth value
  pub put_last : (set offset bits : ℕ) (e : TExpr) → 0 < bits → bits ≤ 32 → (IsPure set e × IsPlain bits e) ⊎ IsPromoted set e → HasItsCode g.typed g.instance alive n e → PutsAndLands set offset bits e (λ d. put_to g.typed (layout g) (O.Field (field_at set offset bits)) e d)
  unfolding put_to word_for arm_by
  put_last set offset bits e some most (inl (pure, plain)) c d s st here sim Q last ended =
      let f : Field = field_at set offset bits in
      after_same g Q (ap (λ (o : Option ℕ). elim o as (λ _. Made Out) [ Some word ↦ word_put (O.Field f) word d | None ↦ computed_to g.typed (layout g) (O.Field f) e d ]) (pure_word set e pure))
      (computed_last set offset bits e some most pure plain c d s st here sim Q last ended)
  put_last set offset bits e some most (inr promoted) c d s st here sim Q last ended = after_same g Q (same (promoted_stands g alive n set e promoted c))
      (last_lands g has alive n ready places fields set f e (λ d. arm_by (operand bits true e) e (O.Field f) d) (promoted_last g has alive n ready places fields set offset bits e promoted c) d s st here sim Q last ended)
    where
      f : Field
      f = field_at set offset bits

      code : Made Out → Option ℕ → Made Out
      code made o = elim o as (λ _. Made Out) [ Some word ↦ word_put (O.Field f) word d | None ↦ made ]

      put : Made Out
      put = computed_to g.typed (layout g) (O.Field f) e d

      moves : Made Out
      moves = then_make (operand bits true e d) (λ v after. put_value (O.Field f) v after)

      same : HasItsWord e ⊎ IsComputed g alive n set e → put_to g.typed (layout g) (O.Field f) e d ≡ arm_by (operand bits true e) e (O.Field f) d
      same (inl h) = ap (code put) h.is ∙ sym (ap (code moves) h.is)
      same (inr h) = ap (code put) h.no_word ∙ h.computed f d ∙ ap (λ (m : Made Out). then_make m (λ v after. put_value (O.Field f) v after)) (sym (h.code true bits d)) ∙ sym (ap (code moves) h.no_word)

  -- the field carries a variable there
  abbrev pub CarriesFrom : Variable → VarInfo → ℕ → Field → Draft → Type 0
  CarriesFrom x info set f d = (e : Draft) (m : ℕ) → Extended d m e → Within g e → Carries g alive x info set f

  -- the code of a right operand gives it, where the source gives it these numbers, whose words these are
  abbrev pub GivesOperand : ℕ → ℕ → Op → TExpr → State → (ℕ → ℕ) → (ℕ → ℕ) → Type 0
  GivesOperand bits set op value st v w =
      (e : Draft) (t : CodeState) → Starts g alive t (length e.code) e.regs (length e.fields) → Sim g alive st t
      → Follows g (Given g v st (λ right f. Takes op right × GivesRight g has alive n ready places fields bits (length e.fields) e t set st w right f)) t (meant g fields value st) (right_by (operand bits true value) op value e)

  -- an operator on the field of a variable and such a value
  pub in_place_last : (set offset : ℕ) (x : Variable) (info : VarInfo) (op : Op) (signed : Bool) (place : Place) (value : TExpr) (number w : ℕ → ℕ) (d : Draft) (s : CodeState) (st : State) → CarriesFrom x info set (field_at set offset info.elem.bits) d → relates op ≡ false → operation_bits info.elem.bits op value ≡ info.elem.bits
      → ((q : ℕ) → Keeps op signed (operation_bits info.elem.bits op value) (w q)) → GivesOperand info.elem.bits set op value st number w → HasItsCode g.typed g.instance alive n value → Starts g alive s (length d.code) d.regs (length d.fields) → Sim g alive st s → (Q : Out → Draft → Type 0)
      → (meant g fields value st ≡ Source.Gives (Parallel number) st → set < length (shapes g) → (divides op ≡ true → zero_at g fields set w ≡ None) → (e2 : Draft) (i : Instr) → Within g (with_instr i e2) → (p : Passes g alive (length d.fields) d e2 s st (Unit {0})) → Puts g set i (field_at set offset info.elem.bits) p.t (λ q. outcome op 32 (not signed) (held info.elem (st.parallel x 0 q)) (w q)) → Q (O.Field (field_at set offset info.elem.bits)) (with_instr i e2))
      → (Ended g s (meant g fields value st) → (x : Out) (after : Draft) → Q x after)
      → (meant g fields value st ≡ Source.Gives (Parallel number) st → set < length (shapes g) → divides op ≡ true → (q : ℕ) → zero_at g fields set w ≡ Some q → Finishes g (Source.Fault DivZero place (Some q)) st s → (x : Out) (after : Draft) → Q x after)
      → After g Q (field_operated g.typed (layout g) op signed place (field_at set offset info.elem.bits) value d)
  unfolding field_operated then_make an_entry passes_from
  in_place_last set offset x info op signed place value number w d s st carries operates works keeps right c here sim Q last ended fault =
      then_after g (GivesField g alive bits (length d1.fields) d1 s set st v) Q (Makes f d1) (λ a begun. then_make (right_by (operand bits true value) op value begun) (λ right after. right_operated op signed place f a right spare after))
      (made_after g (GivesField g alive bits (length d1.fields) d1 s set st v) f d1 (λ within. record {
        passes = passes_all g alive (length d1.fields) d1 s st (Behind g f d1) (starts_entry g alive _ _ here) sim;
        stands = inr (record { x = x; info = info; carries = carries d1 0 (and_entry set bits W.Own d) within; len = refl; fits = omega arith; same = λ q below. (refl, held_below info.elem (st.parallel x 0 q)) });
      }))
      (λ a begun. extends_then g begun (right_by (operand bits true value) op value begun) (λ right after. right_operated op signed place f a right spare after) (right_extends g (operand bits true value) op value (λ after. operand_grows g has alive n ready places fields bits value c true after) begun) (λ right after. operated_extends g op signed place f a spare right after operates))
      (λ a e1 one. then_known g one.passes.t (meant g fields value st) number st (λ right e. Takes op right × GivesRight g has alive n ready places fields bits (length e1.fields) e1 one.passes.t set st w right e) Q (right_by (operand bits true value) op value e1) (λ right after. right_operated op signed place f a right spare after)
      (right e1 one.passes.t one.passes.at one.passes.sim) (λ right after. operated_extends g op signed place f a spare right after operates)
      (λ given right e2 two. operated_after g has alive n ready places fields bits (length d1.fields) set op signed place f a v w d e1 e2 s st (no_home g alive (length d.fields) (length d.fields) (omega arith) here) operates (λ divided. sym works ∙ divides_wide bits op value divided)
      (λ q. subst (λ (x : ℕ). Keeps op signed x (w q)) works (keeps q)) refl (let first = one_more set bits W.Own d in omega (arith, first)) (fields_longer d1 e1 one.passes.grown.0 one.passes.grown.1) one right
      (λ y same. omega arith) two.0 two.1 Q
      (λ there never e3 i within p puts. last given there never e3 i within (passes_from g alive (length d.fields) d d1 e3 s st (Unit {0}) (and_entry set bits W.Own d) p) puts) (λ there divided q none ends. fault given there divided q none ends))
      (λ early. ended (ended_back g s one.passes.t (meant g fields value st) one.passes.go early)))
    where
      bits : ℕ
      bits = info.elem.bits

      f : Field
      f = field_at set offset bits

      d1 : Draft
      d1 = with_entry set bits W.Own d

      spare : Field
      spare = next_field set bits d

      v : ℕ → ℕ
      v = λ q. held info.elem (st.parallel x 0 q)
