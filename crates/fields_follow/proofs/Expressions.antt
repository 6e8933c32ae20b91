-- The code of a pure parallel expression follows.
use Rattle.std.proofs.Common.{List, ◌≡◌, ◌∙◌, ℕ, ◌+◌, ◌<◌, ◌≤◌, Bool, ◌==◌, ◌&&◌, true, false, not, [], ◌∷◌, length, Option, Some, None, refl, sym, ap, subst, arith, ◌⊎◌, inl, inr, if◌then◌else◌}
use Rattle.cstar_base.specs.declared.operators.Op.{Op}
use Rattle.cstar_base.specs.declared.operators.Place.{Place}
use Rattle.cstar_base.specs.Operators.{outcome}
use Rattle.cstar_tree.specs.declared.typed.TExpr.{TExpr, Row_of-TExpr}
use Rattle.cstar_tree.specs.declared.typed.TExpr as T
use Rattle.cstar_tree.specs.declared.typed.UnaryOp.{UnaryOp}
use Rattle.cstar_tree.specs.declared.typed.UnaryOp.TheVariants as U
use Rattle.cstar_tree.specs.declared.typed.ValueType.{ValueType}
use Rattle.cstar_tree.specs.declared.typed.Variable.{Variable}
use Rattle.cstar_tree.specs.Typed.{type_of}
use Rattle.code_lengths.specs.Naming.{plain}
use Rattle.code_lengths.specs.Ready.{IsReadyButForFields}
use Rattle.code_lengths.proofs.Agreeing.{lengths_if_made}
use Rattle.lower_base.specs.declared.emit.Out.{Out}
use Rattle.lower_base.specs.declared.emit.Out.TheVariants as O
use Rattle.lower_base.specs.Drafts.{Draft, Made, Makes, Plain, a_field, an_entry, fresh_for, in_field, step as step_of, then_make, with_instr}
use Rattle.lower_base.specs.Kinds.{bits_of, kind_of}
use Rattle.lower_base.specs.Operators.{is_signed, negates, relates}
use Rattle.lower_expr.specs.Kinds.{done_as, operand_bits, operation_bits, reads_signed, relation_kind, result_bits, unary_bits}
use Rattle.lower_expr.specs.Operands.{are_quiet, is_plus, is_quiet, operand_by}
use Rattle.lower_expr.specs.Steps.{field_negated, has_truth, is_kept, negated, word_of}
use Rattle.lower_expr.specs.declared.spots.Spot.{Spot}
use Rattle.lower_expr.specs.Values.{binary_by, cast_by, cast_from, coordinate_in, extended, fields_by, index_read_by, index_read_to, indexed_spot, lowest, parallel_binary_by, register_cast_by, spare_for, spread_by, spread_into, tested_by, truth_of, truth_put, unary_by, value_of, values_of}
use Rattle.paris_code.specs.declared.instr.Instr.{Instr}
use Rattle.paris_code.specs.declared.instr.Instr.TheVariants as I
use Rattle.paris_code.specs.declared.operands.Field.{Field}
use Rattle.paris_code.specs.declared.program.Owner.TheVariants as W
use Rattle.paris_code.specs.Code.{CodeState}
use Rattle.paris_code.specs.Spans.{StandsAt, fields_of}
use Rattle.source_meaning.specs.Expressions.{evaluated, mapped}
use Rattle.source_meaning.specs.State as Source
use Rattle.source_meaning.specs.State.{Outcome, State, then_do}
use Rattle.source_meaning.specs.Values.{Parallel, Value, at, convert_to, each, own_coordinate, unary_of}
use Rattle.source_meaning.proofs.ConstantLaws.{Boxed}
use Rattle.vp_sets.specs.Positions.{coordinate}
use Rattle.constant_trees.proofs.Words.{converted_below}
use Rattle.code_follows.proofs.Following.{Extends, Follows, HasRegisters, Sim, follows_same}
use Rattle.code_follows.proofs.Growing.{Extended, extended as extended_on}
use Rattle.code_follows.proofs.Operators.{wide_signed}
use Rattle.code_follows.proofs.Settings.{OpenAmong, Setting, Within, and_one, layout}
use Rattle.code_follows.proofs.Standing.{some_same}
use Rattle.code_follows.proofs.Values.{extends_grown}
use Rattle.code_follows.proofs.Words.{below_word, held_wide}
use Rattle.fields_follow.specs.Fragment.{IsOperation, IsPromoted, IsPure, IsWide}
use Rattle.fields_follow.proofs.Forms.{HasItsCode, HasItsWord, flag_converted, pure_kept, pure_shape, pure_word}
use Rattle.fields_follow.proofs.Hops.{puts_same}
use Rattle.fields_follow.proofs.Indexing.{AllValued}
use Rattle.fields_follow.proofs.Instructions.{AreAlike, HasNumbers, Puts, alike_same, extents, has_alike, puts_coordinate, puts_extended, puts_lognot, puts_negate, shapes, whole_keeps}
use Rattle.fields_follow.proofs.Lengths.{Keeps, converted_first, divides_wide, held_has, operation_keeps, operation_most}
use Rattle.fields_follow.proofs.Meaning.{as_shaped, left_of, right_of, unary_means, value_in, word_at}
use Rattle.fields_follow.proofs.Operands.{fields_after}
use Rattle.fields_follow.proofs.Outcomes.{Ended, Given, Known, ended_on, follows_like, known_follows, meant, then_known}
use Rattle.fields_follow.proofs.Passing.{After, Behind, Passes, after_same, fields_longer, gives_alike, gives_from, gives_numbers, gives_on, gives_set, made_after, names_second, next_own, passes_all, puts_own, stands_less}
use Rattle.fields_follow.proofs.Places.{HoldsTheFields, PlacesFields, stands_here}
use Rattle.fields_follow.proofs.Promoted.{IsComputed, promoted_stands}
use Rattle.fields_follow.proofs.Router.{indexed_last}
use Rattle.fields_follow.proofs.Sizes.{binary_parts, convert_part, promoted_small, pure_at, unary_part}
use Rattle.fields_follow.proofs.Totals.{held_below}
use Rattle.fields_follow.proofs.Values.{Gives, IsFlag, Valued, and_entry, code_of, first_given, next_field, one_more, operand_after, operand_of, taken, with_entry}
use Rattle.cstar_base.specs.Numbers.{converted}
use Rattle.cstar_base.proofs.NumberLaws.{kind_bits}
use Rattle.std.specs.Prelude.{nat_lt, unwrap_or}
use Rattle.std.proofs.lemmas.Bool.Decides.{nat_tests}
use Rattle.fields_follow.proofs.Starts.{no_home, starts_entry, Starts}
use Rattle.fields_follow.proofs.Locals.{IsNoHome}

-- the operands of an operator have the same bits and signs as their types say
pub wide_operands : (bits : ℕ) (op : Op) (left right : TExpr) → relates op ≡ false → operand_bits bits op left right ≡ operation_bits bits op right
unfolding operand_bits
wide_operands bits op left right operates = ap (λ (c : Bool). if c then bits_of (relation_kind left right) else operation_bits bits op right) operates

wide_result : (bits : ℕ) (op : Op) (right : TExpr) → relates op ≡ false → result_bits bits op right ≡ operation_bits bits op right
unfolding result_bits
wide_result bits op right operates = ap (λ (c : Bool). if c then bits else operation_bits bits op right) operates

-- operands are read as the type of the left one says
pub signed_as : (op : Op) (left right : TExpr) → relates op ≡ false → (type_of left).elem.bits ≡ 32 → reads_signed op left right ≡ (type_of left).elem.signed
unfolding reads_signed
signed_as op left right operates wide =
    ap (λ (c : Bool). if c then elim (relation_kind left right) [ None ↦ is_signed (type_of left).elem | Some kind ↦ kind.signed ] else is_signed (type_of left).elem) operates ∙ wide_signed (type_of left).elem wide

module _ (g : Setting) (has : HasRegisters g) (alive : Variable → Type 0) (n : ℕ) (ready : (d : Draft) → IsReadyButForFields g.typed g.instance (layout g) n d) (places : PlacesFields g) (fields : HoldsTheFields g) where
  abbrev code : ℕ → TExpr → Draft → Made Out
  code bits e d = code_of g has alive n ready places fields bits e d

  abbrev operand : ℕ → Bool → TExpr → Draft → Made Out
  operand bits quiet e d = operand_of g has alive n ready places fields bits quiet e d

  abbrev pub Answers : Type 0 → ℕ → ℕ → Draft → CodeState → ℕ → State → (ℕ → ℕ) → Out → Draft → Type 0
  Answers flag bits bound d s set st v out e = Gives g has alive n ready places fields flag bits bound d s set st v out e

  abbrev pub IsValued : ℕ → ℕ → TExpr → Type 0
  IsValued bits set e = Valued g has alive n ready places fields bits set e (code bits e)

  -- its value, and it is known or the code ends
  abbrev number : ℕ → TExpr → State → ℕ → ℕ
  number set e st = λ q. value_in (extents g set) st e q

  abbrev Knows : ℕ → Draft → CodeState → ℕ → State → TExpr → Out → Draft → Type 0
  Knows bits d s set st e out f = Known g s (meant g fields e st) (number set e st) st (Answers (IsFlag e) bits (length d.fields) d s set st (λ q. word_at (extents g set) st e q)) out f

  -- in the source it gives that value
  abbrev pub IsMeant : ℕ → TExpr → State → Type 0
  IsMeant set e st = meant g fields e st ≡ Source.Gives (Parallel (number set e st)) st

  pub operand_grows : (bits : ℕ) (e : TExpr) → HasItsCode g.typed g.instance alive n e → (quiet : Bool) (d : Draft) → Extends g d (operand bits quiet e d)
  operand_grows bits e c quiet d = extends_grown g has alive _ d _ _ ((lengths_if_made g.typed g.instance (layout g)).operand bits n quiet e d c.code (ready d))

  -- what the last instruction writes to the entry that was taken first is the value
  pub own_result : {flag : Type 0} (bits set : ℕ) (d e2 : Draft) (s : CodeState) (st : State) (v : ℕ → ℕ) (i : Instr) → Within g (with_instr i e2) → IsNoHome g (OpenAmong g alive) (length d.fields) → (p : Passes g alive (length d.fields) (with_entry set bits W.Own d) e2 s st (Unit {0})) → Puts g set i (next_field set bits d) p.t v
      → Answers flag bits (length d.fields) d s set st v (O.Field (next_field set bits d)) (with_instr i e2)
  unfolding puts_own next_own gives_on gives_from stands_less
  own_result bits set d e2 s st v i within none p puts =
      let d1 : Draft = with_entry set bits W.Own d in
      let dest : Field = next_field set bits d in
      let later : Extended d1 (p.grown.0 + 1) (with_instr i e2) = extended_on d1 e2 (with_instr i e2) p.grown.0 1 p.grown.1 (and_one g i e2) in
      let longer = fields_longer d1 e2 p.grown.0 p.grown.1 in
      let first = one_more set bits W.Own d in (
        dest,
        (
          refl,
          (
            gives_from g alive bits (length d.fields) d d1 (with_instr i e2) s set st v dest (and_entry set bits W.Own d)
                (gives_on g alive bits (length d.fields) (length d.fields) d1 e2 (with_instr i e2) s set st v dest (Unit {0}) (omega arith) p (λ b. tt)
                (puts_own g alive places fields bits (length d.fields) set i dest e2 p.t st v (omega arith) (omega (arith, longer, first)) (taken g set bits W.Own d (with_instr i e2) (p.grown.0 + 1) within later) none refl refl within p.at p.sim puts)),
            λ one. tt,
          ),
        ),
      )

  -- an operator works at the bits that it needs
  pub binary_code : (bits set : ℕ) (ty : ValueType) (place : Place) (op : Op) (p q : Boxed) (left right : TExpr) (d : Draft) → ty.shape ≡ Some set → relates op ≡ false → (type_of left).elem.bits ≡ 32
      → code bits (T.Binary' ty place op p left q right) d
      ≡ lowest bits (fields_by op (type_of left).elem.signed place (next_field set (operation_bits bits op right) d) (next_field set (operation_bits bits op right) d) (operand (operation_bits bits op right) (is_quiet right) left) left (operand (operation_bits bits op right) true right) right (with_entry set (operation_bits bits op right) W.Own d))
  unfolding value_of binary_by parallel_binary_by spare_for then_make an_entry
  binary_code bits set ty place op p q left right d shaped operates wide =
      ap (λ (k : ℕ). binary_by ty.shape bits op place (operand_by g.typed (layout g) k (value_of g.typed (layout g) k left) (is_quiet right) left) left (operand_by g.typed (layout g) k (value_of g.typed (layout g) k right) true right) right d) (wide_operands bits op left right operates)
      ∙ ap (λ (o : Option ℕ). binary_by o bits op place (operand works (is_quiet right) left) left (operand works true right) right d) shaped
      ∙ ap (λ (k : ℕ). then_make (a_field set k d) (λ dest begun. then_make (spare_for op dest (operand_bits bits op left right) begun) (λ spare between. lowest bits (fields_by op (reads_signed op left right) place dest spare (operand works (is_quiet right) left) left (operand works true right) right between)))) (wide_result bits op right operates)
      ∙ ap (λ (c : Bool). then_make (if c then a_field set (operand_bits bits op left right) (with_entry set works W.Own d) else Makes (next_field set works d) (with_entry set works W.Own d)) (λ spare between. lowest bits (fields_by op (reads_signed op left right) place (next_field set works d) spare (operand works (is_quiet right) left) left (operand works true right) right between))) operates
      ∙ ap (λ (signed : Bool). lowest bits (fields_by op signed place (next_field set works d) (next_field set works d) (operand works (is_quiet right) left) left (operand works true right) right (with_entry set works W.Own d))) (signed_as op left right operates wide)
    where
      works : ℕ
      works = operation_bits bits op right

  -- the instruction of a unary operator
  abbrev pub negating : UnaryOp → Field → Field → Instr
  negating U.Minus dest a = I.Negate dest a
  negating _ dest a = I.Lognot dest a

  abbrev pub IsSign : UnaryOp → Type 0
  IsSign op = (is_plus op ≡ false) × (negates op ≡ false)

  pub negated_is : (op : UnaryOp) (dest a : Field) (e : Draft) → IsSign op → field_negated op dest a e ≡ Makes (O.Field dest) (with_instr (negating op dest a) e)
  unfolding field_negated is_plus negates
  negated_is U.Minus dest a e is = refl
  negated_is U.Complement dest a e is = refl
  negated_is U.Plus dest a e is = cc
  negated_is U.Not dest a e is = cc

  pub puts_negating : (bits set : ℕ) (op : UnaryOp) (dest a : Field) (s : CodeState) (v : ℕ → ℕ) → bits ≤ 32 → IsSign op → dest.len ≡ bits → HasNumbers g bits set a s v → Puts g set (negating op dest a) dest s (λ q. unary_of op (v q))
  unfolding is_plus negates
  puts_negating bits set U.Minus dest a s v most is long numbers = puts_negate g bits set dest a s v most long numbers
  puts_negating bits set U.Complement dest a s v most is long numbers = puts_lognot g bits set dest a s v most long numbers
  puts_negating bits set U.Plus dest a s v most is long numbers = cc
  puts_negating bits set U.Not dest a s v most is long numbers = cc

  -- an instruction from the field of an operand to another field, behind the operand's code
  pub from_operand : (bits set : ℕ) (inner : TExpr) (dest : Field) (i : Field → Instr) (next : Out → Draft → Made Out) (bound : ℕ) (d : Draft) (s : CodeState) (st : State) (w : ℕ → ℕ) → ((a : Field) → step_of (i a) ≡ Plain (i a)) → ((a : Field) → fields_of (i a) ≡ dest ∷ a ∷ [])
      → ((x : Out) (after : Draft) → Extends g after (next x after)) → ((a : Field) (after : Draft) → next (O.Field a) after ≡ Makes (O.Field dest) (with_instr (i a) after))
      → ((a : Field) (t : CodeState) → HasNumbers g bits set a t (λ q. word_at (extents g set) st inner q) → Sim g alive st t → Puts g set (i a) dest t w)
      → (given : Draft → Made Out) → Valued g has alive n ready places fields bits set inner given → bound ≤ length d.fields → Starts g alive s (length d.code) d.regs (length d.fields) → Sim g alive st s → (Q : Out → Draft → Type 0)
      → (IsMeant set inner st → (e1 : Draft) (i : Instr) → Within g (with_instr i e1) → (p : Passes g alive bound d e1 s st (Unit {0})) → Puts g set i dest p.t w → Q (O.Field dest) (with_instr i e1)) → (Ended g s (meant g fields inner st) → (x : Out) (f : Draft) → Q x f)
      → After g Q (then_make (given d) (λ v after. next v after))
  unfolding step_of
  from_operand bits set inner dest i next bound d s st w plain both grows is_next puts given valued less here sim Q last ended =
      then_known g s (meant g fields inner st) (number set inner st) st (Answers (IsFlag inner) bits (length d.fields) d s set st v) Q (given d) (λ x after. next x after) (valued d s st here sim) grows
      (λ is_meant x e1 (a, (is, (gives, apart))). after_same g Q (ap (λ (o : Out). next o e1) is ∙ is_next a e1) (made_after g Q (O.Field dest) (with_instr (i a) e1) (λ within.
      let there : StandsAt g.unit (length e1.code) (i a) = stands_here g (i a) e1 within (plain a) in
      let behind : Behind g a e1 = (length e1.code, (names_second g (i a) dest a [] (length e1.code) there (both a), omega arith)) in
      last is_meant e1 (i a) within (record {
        grown = gives.passes.grown;
        t = gives.passes.t;
        go = gives.passes.go;
        at = gives.passes.at;
        registers = gives.passes.registers;
        sim = gives.passes.sim;
        stays = λ u h first later p below. gives.passes.stays behind h first later p (omega (arith, below, less));
      }) (puts a gives.passes.t (gives_numbers g alive places fields bits (length d.fields) d s set st v a e1 gives behind) gives.passes.sim)))) ended
    where
      v : ℕ → ℕ
      v = λ q. word_at (extents g set) st inner q

  -- a unary operator ends where its operand does
  pub unary_ended : (ty : ValueType) (op : UnaryOp) (p : Boxed) (inner : TExpr) (s : CodeState) (st : State) → Ended g s (meant g fields inner st) → Ended g s (meant g fields (T.Unary' ty op p inner) st)
  unfolding evaluated
  unary_ended ty op p inner s st early = ended_on g s (meant g fields inner st) (λ v after. Source.Gives (mapped ty (unary_of op) v) after) early

  pub negated_after : (bits set : ℕ) (ty : ValueType) (op : UnaryOp) (p : Boxed) (dest : Field) (inner : TExpr) (bound : ℕ) (d : Draft) (s : CodeState) (st : State) → ty.shape ≡ Some set → bits ≤ 32 → IsSign op → dest.len ≡ bits → IsPure set inner → IsWide set (type_of inner) → HasItsCode g.typed g.instance alive n inner → IsValued bits set inner
      → bound ≤ length d.fields → Starts g alive s (length d.code) d.regs (length d.fields) → Sim g alive st s → (Q : Out → Draft → Type 0)
      → (IsMeant set (T.Unary' ty op p inner) st → (e1 : Draft) (i : Instr) → Within g (with_instr i e1) → (p : Passes g alive bound d e1 s st (Unit {0})) → Puts g set i dest p.t (λ q. unary_of op (value_in (extents g set) st inner q)) → Q (O.Field dest) (with_instr i e1))
      → (Ended g s (meant g fields (T.Unary' ty op p inner) st) → (x : Out) (f : Draft) → Q x f)
      → After g Q (then_make (operand bits true inner d) (λ v after. negated (layout g) op (O.Field dest) v after))
  unfolding negated in_field Extends step_of value_in
  negated_after bits set ty op p dest inner bound d s st shaped most sign long pure wide c whole less here sim Q last ended =
      from_operand bits set inner dest (λ a. negating op dest a) (λ v after. negated (layout g) op (O.Field dest) v after) bound d s st (λ q. unary_of op (value_in (extents g set) st inner q)) (λ a. plain op a sign) (λ a. both op a sign) grows (λ a after. negated_is op dest a after sign)
      (λ a t numbers sim_there.
      puts_negating bits set op dest a t (λ q. value_in (extents g set) st inner q) most sign long
      (has_alike g bits set a t (λ q. word_at (extents g set) st inner q) (λ q. value_in (extents g set) st inner q) (alike_same g bits set _ _ (λ q below few. sym (pure_at g alive n places fields set inner st t sim_there pure wide c q))) numbers))
      (operand bits true inner) (operand_after g has alive n ready places fields bits set inner true pure c whole) less here sim Q (λ is. last (unary_means fields.scope fields.active set ty op p inner (number set inner st) st shaped is)) (λ early. ended (unary_ended ty op p inner s st early))
    where
      one_more_instr : (op : UnaryOp) (f : Field) (after : Draft) → IsSign op → Extends g after (field_negated op dest f after)
      one_more_instr op f after sign = subst (λ (m : Made Out). Extends g after m) (sym (negated_is op dest f after sign)) (1, and_one g (negating op dest f) after)

      grows : (x : Out) (after : Draft) → Extends g after (negated (layout g) op (O.Field dest) x after)
      grows (O.Scalar r) after = tt
      grows (O.Field f) after = one_more_instr op f after sign
      grows O.Nothing after = tt

      plain : (op : UnaryOp) (a : Field) → IsSign op → step_of (negating op dest a) ≡ Plain (negating op dest a)
      plain U.Minus a is = refl
      plain U.Complement a is = refl
      plain U.Plus a is = refl
      plain U.Not a is = refl

      both : (op : UnaryOp) (a : Field) → IsSign op → fields_of (negating op dest a) ≡ dest ∷ a ∷ []
      both U.Minus a is = refl
      both U.Complement a is = refl
      both U.Plus a is = refl
      both U.Not a is = refl

  -- the word of an operator's result is what it gives
  pub unary_at : (set : ℕ) (ty : ValueType) (op : UnaryOp) (p : Boxed) (inner : TExpr) (st : State) (s : CodeState) → Sim g alive st s → IsPure set (T.Unary' ty op p inner) → HasItsCode g.typed g.instance alive n (T.Unary' ty op p inner) → (q : ℕ)
      → unary_of op (value_in (extents g set) st inner q) ≡ word_at (extents g set) st (T.Unary' ty op p inner) q
  unfolding IsPure value_in
  unary_at set ty op p inner st s sim is c q = sym (pure_at g alive n places fields set (T.Unary' ty op p inner) st s sim is is.0 c q)

  -- an operator other than `!` is done as it is
  pub done_as_it_is : (bits : ℕ) (op : UnaryOp) (operand : TExpr) → negates op ≡ false → done_as bits op operand ≡ op
  unfolding done_as
  done_as_it_is bits op operand plain = ap (λ (b : Bool). if b && (bits == 1 && (not (is_kept operand) && bits_of (kind_of operand) == 1)) then U.Complement else op) plain

  signed_after : (bits set : ℕ) (ty : ValueType) (op : UnaryOp) (p : Boxed) (inner : TExpr) → bits ≤ 32 → IsSign op → IsWide set (type_of inner) → IsPure set (T.Unary' ty op p inner) → HasItsCode g.typed g.instance alive n (T.Unary' ty op p inner) → IsValued bits set inner → IsValued bits set (T.Unary' ty op p inner)
  unfolding value_of unary_by unary_bits fresh_for then_make an_entry IsPure
  signed_after bits set ty op p inner most sign wide is c whole d s st here sim =
      known_follows g s (meant g fields (T.Unary' ty op p inner) st) (number set (T.Unary' ty op p inner) st) st (Answers (IsFlag (T.Unary' ty op p inner)) bits (length d.fields) d s set st v) (code bits (T.Unary' ty op p inner) d)
      (after_same g (Knows bits d s set st (T.Unary' ty op p inner))
      (ap (λ (o : UnaryOp). if is_plus o then code bits inner d else then_make (fresh_for ty.shape bits d) (λ dest between. then_make (operand_by g.typed (layout g) (unary_bits bits op inner) (value_of g.typed (layout g) (unary_bits bits op inner) inner) true inner between) (λ x after. negated (layout g) o dest x after))) (done_as_it_is bits op inner sign.1)
      ∙ ap (λ (b : Bool). if b then code bits inner d else then_make (fresh_for ty.shape bits d) (λ dest between. then_make (operand_by g.typed (layout g) (unary_bits bits op inner) (value_of g.typed (layout g) (unary_bits bits op inner) inner) true inner between) (λ x after. negated (layout g) op dest x after))) sign.0
      ∙ ap (λ (b : Bool). then_make (fresh_for ty.shape bits d) (λ dest between. then_make (operand_by g.typed (layout g) (if b then bits_of (kind_of inner) else bits) (value_of g.typed (layout g) (if b then bits_of (kind_of inner) else bits) inner) true inner between) (λ x after. negated (layout g) op dest x after))) sign.1
      ∙ ap (λ (o : Option ℕ). then_make (fresh_for o bits d) (λ dest between. then_make (operand bits true inner between) (λ x after. negated (layout g) op dest x after))) is.0.0)
      (negated_after bits set ty op p (next_field set bits d) inner (length d.fields) (with_entry set bits W.Own d) s st is.0.0 most sign refl is.2 wide (unary_part g alive n places fields ty op p inner c) whole (let one = one_more set bits W.Own d in omega (arith, one)) (starts_entry g alive _ _ here) sim (Knows bits d s set st (T.Unary' ty op p inner))
      (λ is_meant e1 i within passes puts. inl (is_meant, own_result bits set d e1 s st v i within (no_home g alive (length d.fields) (length d.fields) (omega arith) here) passes (puts_same g set i (next_field set bits d) passes.t _ v (λ q below. unary_at set ty op p inner st passes.t passes.sim is c q) puts))) (λ early x f. inr early)))
    where
      v : ℕ → ℕ
      v = λ q. word_at (extents g set) st (T.Unary' ty op p inner) q

  -- a plus changes no word
  pub plus_alike : (bits set : ℕ) (ty : ValueType) (p : Boxed) (inner : TExpr) (st : State) (s : CodeState) → Sim g alive st s → IsWide set (type_of inner) → IsPure set (T.Unary' ty U.Plus p inner) → HasItsCode g.typed g.instance alive n (T.Unary' ty U.Plus p inner)
      → AreAlike g bits set (λ q. word_at (extents g set) st inner q) (λ q. word_at (extents g set) st (T.Unary' ty U.Plus p inner) q)
  unfolding value_in unary_of IsPure
  plus_alike bits set ty p inner st s sim wide is c =
      alike_same g bits set _ _ (λ q below few.
      pure_at g alive n places fields set (T.Unary' ty U.Plus p inner) st s sim is is.0 c q
      ∙ sym (pure_at g alive n places fields set inner st s sim is.2 wide (unary_part g alive n places fields ty U.Plus p inner c) q))

  -- words that are alike are given alike
  pub answers_alike : (one other : Type 0) → (other → one) → (bits bound : ℕ) (d : Draft) (s : CodeState) (set : ℕ) (st : State) (v w : ℕ → ℕ) → AreAlike g bits set v w → (out : Out) (e : Draft) → Answers one bits bound d s set st v out e → Answers other bits bound d s set st w out e
  answers_alike one other less bits bound d s set st v w alike out e (f, (is, (gives, narrow))) = let both = gives_alike g alive places fields bits bound d s set st v w f e alike gives in (f, (is, (both.0, λ flag. both.1 (narrow (less flag)))))

  pub unary_after : (bits set : ℕ) (ty : ValueType) (op : UnaryOp) (p : Boxed) (inner : TExpr) → bits ≤ 32 → negates op ≡ false → IsWide set (type_of inner) → IsPure set (T.Unary' ty op p inner) → HasItsCode g.typed g.instance alive n (T.Unary' ty op p inner) → IsValued bits set inner → IsValued bits set (T.Unary' ty op p inner)
  unfolding value_of unary_by is_plus negates done_as IsPure value_in kind_of bits_of
  unary_after bits set ty U.Plus p inner most plain wide is c whole d s st here sim =
      follows_like g s (meant g fields inner st) (meant g fields (T.Unary' ty U.Plus p inner) st) (number set inner st) (number set (T.Unary' ty U.Plus p inner) st) st (Answers (IsFlag inner) bits (length d.fields) d s set st (λ q. word_at (extents g set) st inner q))
      (Answers (IsFlag (T.Unary' ty U.Plus p inner)) bits (length d.fields) d s set st (λ q. word_at (extents g set) st (T.Unary' ty U.Plus p inner) q)) (code bits inner d)
      (λ is_meant. unary_means fields.scope fields.active set ty U.Plus p inner (number set inner st) st is.0.0 is_meant) (λ early. unary_ended ty U.Plus p inner s st early)
      (answers_alike (IsFlag inner) (IsFlag (T.Unary' ty U.Plus p inner)) (λ one. let wrong = one in absurd (omega (arith, wrong))) bits (length d.fields) d s set st (λ q. word_at (extents g set) st inner q) (λ q. word_at (extents g set) st (T.Unary' ty U.Plus p inner) q) (plus_alike bits set ty p inner st s sim wide is c)) (whole d s st here sim)
  unary_after bits set ty U.Minus p inner most plain wide is c whole d s st here sim = signed_after bits set ty U.Minus p inner most (refl, refl) wide is c whole d s st here sim
  unary_after bits set ty U.Complement p inner most plain wide is c whole d s st here sim = signed_after bits set ty U.Complement p inner most (refl, refl) wide is c whole d s st here sim
  unary_after bits set ty U.Not p inner most plain wide is c whole d s st here sim = cc

  -- an operand of 32 bits is its word
  pub operand_at : (set : ℕ) (e : TExpr) (st : State) (s : CodeState) → Sim g alive st s → IsPure set e ⊎ IsPromoted set e → IsWide set (type_of e) → HasItsCode g.typed g.instance alive n e → (q : ℕ) → word_at (extents g set) st e q ≡ value_in (extents g set) st e q
  operand_at set e st s sim (inl pure) wide c q = pure_at g alive n places fields set e st s sim pure wide c q
  operand_at set e st s sim (inr promoted) wide c q = held_wide (type_of e).elem (value_in (extents g set) st e q) wide.1 (below_word (type_of e).elem.bits _ wide.1 (promoted_small g alive n places fields set e st s sim promoted c q))

  -- a constant operand has its word
  pub constant_at : (set : ℕ) (e : TExpr) (st : State) → IsPure set e ⊎ IsPromoted set e → HasItsCode g.typed g.instance alive n e → (q word : ℕ) → word_of e ≡ Some word → word_at (extents g set) st e q ≡ word
  constant_at set e st (inl pure) c q word is = let none = sym (pure_word set e pure) ∙ is in cc
  constant_at set e st (inr promoted) c q word is = by (promoted_stands g alive n set e promoted c)
    where
      by : HasItsWord e ⊎ IsComputed g alive n set e → word_at (extents g set) st e q ≡ word
      by (inl h) = h.value (extents g set) st q ∙ some_same h.word word (sym h.is ∙ is)
      by (inr h) = let none = sym h.no_word ∙ is in cc

  -- an operation on such operands keeps the lowest bits
  pub operands_keep : (bits set : ℕ) (op : Op) (signed : Bool) (right : TExpr) (st : State) → bits ≤ 32 → IsOperation op right → IsPure set right ⊎ IsPromoted set right → HasItsCode g.typed g.instance alive n right → (q : ℕ) → Keeps op signed (operation_bits bits op right) (word_at (extents g set) st right q)
  operands_keep bits set op signed right st most is operand c q =
      operation_keeps bits op signed right (word_at (extents g set) st right q) most (λ word is_word. constant_at set right st operand c q word is_word)
      (whole_keeps op signed (word_at (extents g set) st right q) is.0)

  pub binary_at : (set : ℕ) (ty : ValueType) (place : Place) (op : Op) (p q : Boxed) (left right : TExpr) (st : State) (s : CodeState) → Sim g alive st s → IsPure set (T.Binary' ty place op p left q right) → HasItsCode g.typed g.instance alive n (T.Binary' ty place op p left q right) → (x : ℕ)
      → outcome op 32 (not (type_of left).elem.signed) (word_at (extents g set) st left x) (word_at (extents g set) st right x) ≡ word_at (extents g set) st (T.Binary' ty place op p left q right) x
  unfolding IsPure value_in
  binary_at set ty place op p q left right st s sim is c x =
      let parts = binary_parts g alive n places fields ty place op p q left right c in
      ap (λ (a : ℕ). outcome op 32 (not (type_of left).elem.signed) a (word_at (extents g set) st right x)) (operand_at set left st s sim (left_of set left right is.2) is.3 parts.0 x)
      ∙ ap (λ (b : ℕ). outcome op 32 (not (type_of left).elem.signed) (value_in (extents g set) st left x) b) (operand_at set right st s sim (right_of set left right is.2) is.4 parts.1 x)
      ∙ sym (pure_at g alive n places fields set (T.Binary' ty place op p left q right) st s sim is is.0 c x)

  pub binary_after : (bits set : ℕ) (ty : ValueType) (place : Place) (op : Op) (p q : Boxed) (left right : TExpr) → bits ≤ 32 → IsOperation op right → IsPure set (T.Binary' ty place op p left q right) → HasItsCode g.typed g.instance alive n (T.Binary' ty place op p left q right)
      → (IsPure set left → IsValued (operation_bits bits op right) set left) → (IsPure set right → IsValued (operation_bits bits op right) set right) → IsValued bits set (T.Binary' ty place op p left q right)
  unfolding IsPure
  binary_after bits set ty place op p q left right most known is c whole_left whole_right d s st here sim =
      known_follows g s (meant g fields whole st) (number set whole st) st (Answers (IsFlag whole) bits (length d.fields) d s set st v) (code bits whole d)
      (after_same g (Knows bits d s set st whole) (binary_code bits set ty place op p q left right d is.0.0 known.0 is.3.1)
      (first_given g has alive n ready places fields works bits (length d.fields) d s set st v (IsFlag whole) (IsMeant set whole st) (Ended g s (meant g fields whole st)) made (operation_most bits op right most).0
      (fields_after g has alive n ready places fields works set ty place op p q (next_field set works d) left right d s st is.0.0 known (divides_wide bits op right) (λ x. operands_keep bits set op (type_of left).elem.signed right st most known (right_of set left right is.2) parts.1 x)
      (λ x below. operand_at set right st s sim (right_of set left right is.2) is.4 parts.1 x) refl is.2 parts.0 parts.1 whole_left whole_right (operand_grows works left parts.0) (operand_grows works right parts.1) here sim (Knows works d s set st whole)
      (λ is_meant e2 i within passes puts. inl (is_meant, own_result works set d e2 s st v i within (no_home g alive (length d.fields) (length d.fields) (omega arith) here) passes (puts_same g set i (next_field set works d) passes.t _ v (λ x below. binary_at set ty place op p q left right st passes.t passes.sim is c x) puts)))
      (λ early x f. inr early))))
    where
      whole : TExpr
      whole = T.Binary' ty place op p left q right

      works : ℕ
      works = operation_bits bits op right

      parts : HasItsCode g.typed g.instance alive n left × HasItsCode g.typed g.instance alive n right
      parts = binary_parts g alive n places fields ty place op p q left right c

      v : ℕ → ℕ
      v = λ x. word_at (extents g set) st (T.Binary' ty place op p left q right) x

      made : Made Out
      made = fields_by op (type_of left).elem.signed place (next_field set works d) (next_field set works d) (operand works (is_quiet right) left) left (operand works true right) right (with_entry set works W.Own d)

  -- the own coordinates, of a shape of the image
  pub coordinate_means : (set axis : ℕ) (ty : ValueType) (st : State) → ty.shape ≡ Some set → set < length (shapes g) → IsMeant set (T.Pcoord ty axis) st
  unfolding evaluated own_coordinate value_in
  coordinate_means set axis ty st shaped exists = ap (λ (o : Option ℕ). Source.Gives (own_coordinate fields.scope o axis) st) shaped ∙ ap (λ (xs : List ℕ). Source.Gives (Parallel (λ q. coordinate xs q axis)) st) (fields.same_extents set exists)

  pub coordinate_after : (bits set axis : ℕ) (ty : ValueType) → IsWide set ty → IsValued bits set (T.Pcoord ty axis)
  unfolding value_of coordinate_in then_make an_entry value_in
  coordinate_after bits set axis ty wide d s st here sim =
      known_follows g s (meant g fields (T.Pcoord ty axis) st) (number set (T.Pcoord ty axis) st) st (Answers (IsFlag (T.Pcoord ty axis)) bits (length d.fields) d s set st v) (code bits (T.Pcoord ty axis) d)
      (after_same g (Knows bits d s set st (T.Pcoord ty axis)) (ap (λ (o : Option ℕ). coordinate_in o bits axis d) wide.0)
      (made_after g (Knows bits d s set st (T.Pcoord ty axis)) (O.Field dest) (with_instr i d1) (λ within.
      let given = own_result {flag = IsFlag (T.Pcoord ty axis)} bits set d d1 s st v i within (no_home g alive (length d.fields) (length d.fields) (omega arith) here) (passes_all g alive (length d.fields) d1 s st (Unit {0}) (starts_entry g alive _ _ here) sim)
      (puts_same g set i dest s (λ q. coordinate (extents g set).own q axis) v (λ q below. sym (held_wide ty.elem (coordinate (extents g set).own q axis) wide.1 (places.few set axis q))) (puts_coordinate g set axis dest s refl (λ p below. places.few set axis p))) in
      inl (coordinate_means set axis ty st wide.0 (gives_set g alive places fields bits (length d.fields) d s set st v given.0 (with_instr i d1) given.1.1.0).1, given))))
    where
      d1 : Draft
      d1 = with_entry set bits W.Own d

      dest : Field
      dest = next_field set bits d

      i : Instr
      i = I.MyNewsCoordinate dest axis

      v : ℕ → ℕ
      v = λ q. word_at (extents g set) st (T.Pcoord ty axis) q

  -- and so it is of `.`
  pub dot_after : (bits set axis : ℕ) (ty : ValueType) → IsWide set ty → IsValued bits set (T.Dot ty axis)
  unfolding value_of value_in evaluated kind_of
  dot_after bits set axis ty wide = coordinate_after bits set axis ty wide

  -- a conversion to another type takes what is wanted of the operand, or extends as many bits as the type has
  pub convert_code : (bits : ℕ) (ty : ValueType) (p : Boxed) (inner : TExpr) (d : Draft) → (ty.elem.bits == 1) ≡ false → is_kept inner ≡ false
      → code bits (T.Convert' ty p inner) d ≡ (if nat_lt ty.elem.bits bits then then_make (a_field (unwrap_or ty.shape 0) bits d) (λ dest begun. extended ty.elem.signed dest (operand ty.elem.bits true inner) begun) else code bits inner d)
  unfolding value_of cast_from spread_by cast_by
  convert_code bits ty p inner d no_truth fresh =
      ap (λ (b : Bool). if b then register_cast_by ty.elem (code bits inner) d else cast_from g.typed (layout g) bits ty inner (truth_of g.typed (layout g) inner) (λ m. value_of g.typed (layout g) m inner) d) fresh
      ∙ ap (λ (b : Bool). if b then then_make (a_field set bits d) (λ dest begun. truth_put dest test begun) else (if nat_lt ty.elem.bits bits then then_make (a_field set bits d) (λ dest begun. extended ty.elem.signed dest (spread is_there (operand ty.elem.bits true inner) ty.elem.bits) begun) else spread is_there (code bits inner) bits d)) no_truth
      ∙ ap (λ (b : Bool). if nat_lt ty.elem.bits bits then then_make (a_field set bits d) (λ dest begun. extended ty.elem.signed dest (spread b (operand ty.elem.bits true inner) ty.elem.bits) begun) else spread b (code bits inner) bits d) fresh
    where
      set : ℕ
      set = unwrap_or ty.shape 0

      is_there : Bool
      is_there = is_kept inner

      spread : Bool → (Draft → Made Out) → ℕ → Draft → Made Out
      spread b code k e = if b then then_make (a_field set k e) (λ dest between. then_make (spread_into code inner dest between) (λ f after. Makes (O.Field f) after)) else code e

      test : Draft → Made (Unit {0})
      test = tested_by (has_truth inner) (truth_of g.typed (layout g) inner) (spread is_there (operand_by g.typed (layout g) (bits_of (kind_of inner)) (value_of g.typed (layout g) (bits_of (kind_of inner)) inner) true inner) (bits_of (kind_of inner)))

  -- so many bits of a converted value are those of the value, where the type has so many
  pub convert_alike : (bits set : ℕ) (ty : ValueType) (p : Boxed) (inner : TExpr) (st : State) → (ty.elem.bits == 1) ≡ false → bits ≤ ty.elem.bits → AreAlike g bits set (λ q. word_at (extents g set) st inner q) (λ q. word_at (extents g set) st (T.Convert' ty p inner) q)
  unfolding value_in
  convert_alike bits set ty p inner st no_truth less q below few = (converted_first ty.elem (type_of inner).elem (value_in (extents g set) st inner q) bits no_truth less, held_below ty.elem (converted ty.elem (type_of inner).elem (value_in (extents g set) st inner q)))

  -- what a conversion means
  pub convert_means : (set : ℕ) (ty : ValueType) (p : Boxed) (inner : TExpr) (st : State) → ty.shape ≡ Some set → IsMeant set inner st → IsMeant set (T.Convert' ty p inner) st
  unfolding evaluated then_do convert_to each at value_in
  convert_means set ty p inner st shaped is =
      ap (λ (o : Outcome Value). then_do o (λ v after. Source.Gives (convert_to ty (type_of inner).elem v) after)) is
      ∙ ap (λ (y : ValueType). Source.Gives (convert_to y (type_of inner).elem (Parallel (number set inner st))) st) (as_shaped ty set shaped)

  pub convert_ended : (ty : ValueType) (p : Boxed) (inner : TExpr) (s : CodeState) (st : State) → Ended g s (meant g fields inner st) → Ended g s (meant g fields (T.Convert' ty p inner) st)
  unfolding evaluated
  convert_ended ty p inner s st early = ended_on g s (meant g fields inner st) (λ v after. Source.Gives (convert_to ty (type_of inner).elem v) after) early

  -- a field of as many bits as the type has is extended
  pub extended_after : (set : ℕ) (ty : ValueType) (p : Boxed) (inner : TExpr) (dest : Field) (bound : ℕ) (d : Draft) (s : CodeState) (st : State) → ty.shape ≡ Some set → (ty.elem.bits == 1) ≡ false → dest.len ≤ 32 → (given : Draft → Made Out) → Valued g has alive n ready places fields ty.elem.bits set inner given
      → bound ≤ length d.fields → Starts g alive s (length d.code) d.regs (length d.fields) → Sim g alive st s → (Q : Out → Draft → Type 0)
      → (IsMeant set (T.Convert' ty p inner) st → (e1 : Draft) (i : Instr) → Within g (with_instr i e1) → (passes : Passes g alive bound d e1 s st (Unit {0})) → Puts g set i dest passes.t (λ q. word_at (extents g set) st (T.Convert' ty p inner) q) → Q (O.Field dest) (with_instr i e1))
      → (Ended g s (meant g fields (T.Convert' ty p inner) st) → (x : Out) (f : Draft) → Q x f)
      → After g Q (extended ty.elem.signed dest given d)
  unfolding extended in_field Extends step_of value_in
  extended_after set ty p inner dest bound d s st shaped no_truth most given valued less here sim Q last ended =
      from_operand ty.elem.bits set inner dest (λ a. I.Move ty.elem.signed dest a) (λ v after. in_field v (λ source. Makes (O.Field dest) (with_instr (I.Move ty.elem.signed dest source) after))) bound d s st w (λ a. refl) (λ a. refl) grows (λ a after. refl)
      (λ a t numbers sim_there.
      puts_extended g ty.elem set dest a t w most (λ q below on. held_has ty.elem (converted ty.elem (type_of inner).elem (value_in (extents g set) st inner q)) (converted_below ty.elem (type_of inner).elem (value_in (extents g set) st inner q)))
      (has_alike g ty.elem.bits set a t (λ q. word_at (extents g set) st inner q) w (convert_alike ty.elem.bits set ty p inner st no_truth (omega arith)) numbers))
      given valued less here sim Q (λ is. last (convert_means set ty p inner st shaped is)) (λ early. ended (convert_ended ty p inner s st early))
    where
      w : ℕ → ℕ
      w = λ q. word_at (extents g set) st (T.Convert' ty p inner) q

      grows : (x : Out) (after : Draft) → Extends g after (in_field x (λ source. Makes (O.Field dest) (with_instr (I.Move ty.elem.signed dest source) after)))
      grows (O.Scalar r) after = tt
      grows (O.Field f) after = (1, and_one g (I.Move ty.elem.signed dest f) after)
      grows O.Nothing after = tt

  -- a conversion by code that gives as many bits as the type has, and by code that gives those that are wanted
  pub converted_after : (bits set : ℕ) (ty : ValueType) (p : Boxed) (inner : TExpr) → bits ≤ 32 → ty.shape ≡ Some set → (ty.elem.bits == 1) ≡ false → (own wanted : Draft → Made Out) → Valued g has alive n ready places fields ty.elem.bits set inner own → Valued g has alive n ready places fields bits set inner wanted
      → Valued g has alive n ready places fields bits set (T.Convert' ty p inner) (λ d. if nat_lt ty.elem.bits bits then then_make (a_field set bits d) (λ dest begun. extended ty.elem.signed dest own begun) else wanted d)
  unfolding an_entry then_make kind_of
  converted_after bits set ty p inner most shaped no_truth own wanted own_valued valued d s st here sim = by (nat_lt ty.elem.bits bits) refl
    where
      e : TExpr
      e = T.Convert' ty p inner

      w : ℕ → ℕ
      w = λ q. word_at (extents g set) st e q

      R : Value → State → Out → Draft → Type 0
      R = Given g (number set e st) st (Answers (IsFlag e) bits (length d.fields) d s set st w)

      made : Bool → Made Out
      made b = if b then then_make (a_field set bits d) (λ dest begun. extended ty.elem.signed dest own begun) else wanted d

      by : (b : Bool) → nat_lt ty.elem.bits bits ≡ b → Follows g R s (meant g fields e st) (made (nat_lt ty.elem.bits bits))
      by true more =
          known_follows g s (meant g fields e st) (number set e st) st (Answers (IsFlag e) bits (length d.fields) d s set st w) (made (nat_lt ty.elem.bits bits))
          (after_same g (Knows bits d s set st e) (ap made more)
          (extended_after set ty p inner (next_field set bits d) (length d.fields) (with_entry set bits W.Own d) s st shaped no_truth most own own_valued (let one = one_more set bits W.Own d in omega (arith, one)) (starts_entry g alive _ _ here) sim (Knows bits d s set st e)
          (λ is_meant e1 i within passes puts. inl (is_meant, own_result bits set d e1 s st w i within (no_home g alive (length d.fields) (length d.fields) (omega arith) here) passes puts)) (λ early x f. inr early)))
      by false enough =
          follows_same g R s refl (ap made enough)
          (follows_like g s (meant g fields inner st) (meant g fields e st) (number set inner st) (number set e st) st (Answers (IsFlag inner) bits (length d.fields) d s set st (λ q. word_at (extents g set) st inner q)) (Answers (IsFlag e) bits (length d.fields) d s set st w) (wanted d)
          (λ is_meant. convert_means set ty p inner st shaped is_meant) (λ early. convert_ended ty p inner s st early)
          (answers_alike (IsFlag inner) (IsFlag e) (λ one. flag_converted ty.elem (kind_of inner) no_truth one) bits (length d.fields) d s set st (λ q. word_at (extents g set) st inner q) w (convert_alike bits set ty p inner st no_truth (grind (arith, nat_tests, enough)))) (valued d s st here sim))

  pub convert_after : (bits set : ℕ) (ty : ValueType) (p : Boxed) (inner : TExpr) → 0 < bits → bits ≤ 32 → (ty.elem.bits == 1) ≡ false → IsPure set (T.Convert' ty p inner) → HasItsCode g.typed g.instance alive n (T.Convert' ty p inner) → ((k : ℕ) → 0 < k → k ≤ 32 → IsValued k set inner) → IsValued bits set (T.Convert' ty p inner)
  unfolding IsPure
  convert_after bits set ty p inner some most no_truth is c whole d s st here sim =
      let own = kind_bits ty.elem.bits ty.elem.signed ty.elem.kind in
      follows_same g (Given g (number set (T.Convert' ty p inner) st) st (Answers (IsFlag (T.Convert' ty p inner)) bits (length d.fields) d s set st (λ q. word_at (extents g set) st (T.Convert' ty p inner) q))) s refl
      (convert_code bits ty p inner d no_truth (pure_kept set inner is.2)
      ∙ ap (λ (o : Option ℕ). if nat_lt ty.elem.bits bits then then_make (a_field (unwrap_or o 0) bits d) (λ dest begun. extended ty.elem.signed dest (operand ty.elem.bits true inner) begun) else code bits inner d) is.0)
      (converted_after bits set ty p inner most is.0 no_truth (operand ty.elem.bits true inner) (code bits inner)
      (operand_after g has alive n ready places fields ty.elem.bits set inner true is.2 (convert_part g alive n places fields ty p inner c) (whole ty.elem.bits own.0 own.1)) (whole bits some most) d s st here sim)

  -- a get
  pub left_index_after : (bits set : ℕ) (ty : ValueType) (place : Place) (p : _) (indexes : Row_of-TExpr _) (x : Variable) (of : ℕ) → bits ≤ 32 → IsPure set (T.LeftIndex' ty place p indexes x of) → AllValued g has alive n ready places fields set indexes
      → HasItsCode g.typed g.instance alive n (T.LeftIndex' ty place p indexes x of) → IsValued bits set (T.LeftIndex' ty place p indexes x of)
  unfolding value_of index_read_by fresh_for then_make an_entry
  left_index_after bits set ty place p indexes x of most is valued c d s st here sim =
      known_follows g s (meant g fields e st) (number set e st) st (Answers (IsFlag e) bits (length d.fields) d s set st v) (code bits e d)
      (after_same g (Knows bits d s set st e) (ap (λ (o : Option ℕ). then_make (fresh_for o bits d) (λ dest begun. index_read_to g.typed (layout g) e spot dest begun)) (pure_shape set e is))
      (indexed_last g has alive n ready places fields ty place p indexes x set of (length d.fields) bits (length d.fields) spot (with_entry set bits W.Own d) s st most is c valued refl (let one = one_more set bits W.Own d in omega (arith, one)) (starts_entry g alive _ _ here) sim
      (Knows bits d s set st e) (λ is_meant e2 i within passes puts. inl (is_meant, own_result bits set d e2 s st v i within (no_home g alive (length d.fields) (length d.fields) (omega arith) here) passes puts)) (λ early x f. inr early)))
    where
      e : TExpr
      e = T.LeftIndex' ty place p indexes x of

      spot : Draft → Made Spot
      spot = indexed_spot g.typed (layout g) e (values_of g.typed (layout g) false (are_quiet indexes) indexes)

      v : ℕ → ℕ
      v = λ q. word_at (extents g set) st e q
