-- The code of a fold of a parallel value passes, and then puts its number in the register that is to have it.
use Rattle.std.proofs.Common.{◌≡◌, ◌∙◌, ℕ, zero, suc, ◌+◌, ◌<◌, ◌^◌, Bool, true, not, List, [], ◌∷◌, length, slice_index, Option, None, refl, sym, ap, subst, arith, Some}
use Rattle.std.specs.Prelude.{pos, neg_ℤ, slice_set}
use denote.Hole.Carrier
use Rattle.cstar_base.specs.declared.elem.Elem.{Elem}
use Rattle.cstar_base.specs.Numbers.{residue}
use Rattle.cstar_base.specs.Operators.{difference_of}
use Rattle.cstar_base.proofs.OperatorLaws.{difference_by_residues}
use Rattle.cstar_tree.specs.declared.syntax.ReduceOp.{ReduceOp}
use Rattle.cstar_tree.specs.declared.syntax.ReduceOp.TheVariants as F
use Rattle.cstar_tree.specs.declared.typed.TExpr.{TExpr, out-TExpr}
use Rattle.cstar_tree.specs.declared.typed.TExpr as T
use Rattle.cstar_tree.specs.declared.typed.UnaryOp.TheVariants as U
use Rattle.cstar_tree.specs.declared.typed.ValueType.{ValueType}
use Rattle.cstar_tree.specs.declared.typed.Variable.{Variable}
use Rattle.cstar_tree.specs.Typed.{type_of}
use Rattle.constant_trees.proofs.Words.{unary_below}
use Rattle.lower_base.specs.declared.emit.Out.{Out}
use Rattle.lower_base.specs.declared.emit.Out.TheVariants as O
use Rattle.lower_base.specs.Drafts.{Draft, Fails, Made, Makes, Plain, from, in_field, in_register, step as step_of, then_make, with_instr}
use Rattle.lower_base.specs.Kinds.{folded_bits, folded_kind, kind_of}
use Rattle.lower_expr.specs.Kinds.{has_number}
use Rattle.lower_base.specs.Operators.{fold_of, reduce_op_of}
use Rattle.lower_comm.specs.Messages.{communicated, negated_by, part_field, reduced as reduced_in, with_fold, with_sign}
use Rattle.lower_expr.specs.Effects.{computed_to, gone_to}
use Rattle.lower_expr.specs.Kinds.{reduced_bits}
use Rattle.lower_expr.specs.Values.{message_to, next_of}
use Rattle.paris_code.specs.declared.instr.Instr.{Instr}
use Rattle.paris_code.specs.declared.instr.Instr.TheVariants as I
use Rattle.paris_code.specs.declared.operands.Field.{Field}
use Rattle.paris_code.specs.Code.{CodeState, Goes, applied, begun, with_register}
use Rattle.paris_code.specs.Fetching.{global_fold}
use Rattle.paris_code.specs.Meaning.{after}
use Rattle.paris_code.specs.Memory.{is_active, processors}
use Rattle.paris_code.specs.Scalar.{rounded}
use Rattle.short_values.specs.Short.{put_back}
use Rattle.source_meaning.specs.Reductions.{combiner_of, folded, reduced}
use Rattle.source_meaning.specs.State.{Outcome, State}
use Rattle.source_meaning.specs.Values.{Scalar, Value, unary_of}
use Rattle.source_meaning.proofs.ConstantLaws.{Boxed}
use Rattle.code_follows.proofs.Following.{Follows, follows_same, Extends, HasRegisters, Sim}
use Rattle.code_follows.proofs.Growing.{Extended, and_instr, as_it_was, extended}
use Rattle.code_follows.proofs.Operators.{minus_same, wide_signed}
use Rattle.code_follows.proofs.Settings.{At, Reaches, Setting, Within, and_one, at_next, begins_here, earlier, layout, one, onto, placed_instr, start}
use Rattle.code_follows.proofs.Values.{Dest}
use Rattle.code_follows.proofs.Words.{below_bits, held_wide}
use Rattle.fields_follow.specs.Fragment.{IsWide}
use Rattle.fields_follow.proofs.Folds.{folding, global_is, narrow_is}
use Rattle.fields_follow.proofs.Instructions.{HasNumbers, has_words, place, shapes}
use Rattle.fields_follow.proofs.Outcomes.{Given, given_through}
use Rattle.fields_follow.proofs.Passing.{After, Behind, GivesField, Passes, after_same, flags_of, gives_numbers, made_after, then_after}
use Rattle.fields_follow.proofs.Places.{HoldsTheFields, PlacesFields, names_first, stands_here}

-- what is written twice is what it was written last
set_again : (xs : List ℕ) (r a b : ℕ) → slice_set (slice_set xs r a) r b ≡ slice_set xs r b
set_again [] r a b = refl
set_again (x ∷ xs) zero a b = refl
set_again (x ∷ xs) (suc r) a b = ap (λ (rest : List ℕ). x ∷ rest) (set_again xs r a b)

-- what is read of an element behind a write to it, and written there again: where there is none, nothing is
read_back : (f : ℕ → ℕ) (xs : List ℕ) (r a : ℕ) → slice_set (slice_set xs r a) r (f (slice_index (slice_set xs r a) r)) ≡ slice_set (slice_set xs r a) r (f a)
read_back f [] r a = refl
read_back f (x ∷ xs) zero a = refl
read_back f (x ∷ xs) (suc r) a = ap (λ (rest : List ℕ). x ∷ rest) (read_back f xs r a)

-- the negative of a number is what is left of 0
negative_same : (unsigned : Bool) (w : ℕ) → w < 2 ^ 32 → unary_of U.Minus w ≡ difference_of 32 unsigned 0 w
unfolding unary_of
negative_same unsigned w few = difference_by_residues 32 true 0 w (omega arith) ∙ sym (difference_by_residues 32 unsigned 0 w (omega arith))

-- what a reduction gives by the fold
unfoldable ended : ReduceOp → Bool → ℕ → ℕ
ended F.Sub unsigned w = difference_of 32 unsigned 0 w
ended _ unsigned w = w

reduced_is : (op : ReduceOp) (unsigned : Bool) (passes : ℕ → Bool) (value : ℕ → ℕ) (n : ℕ) → reduced op unsigned passes value n ≡ ended op unsigned (folded (combiner_of op) unsigned passes value n)
unfolding reduced combiner_of ended
reduced_is F.Sub unsigned passes value n = refl
reduced_is _ unsigned passes value n = refl

negated_more : (op : ReduceOp) (r n : ℕ) (d e : Draft) → Extended d n e → (m : ℕ) × Extended d m (negated_by op r e)
unfolding negated_by
negated_more F.Sub r n d e x = (n + 1, and_instr (I.FrontNegate r r) d e n x)
negated_more _ r n d e x = (n, x)

pub sign_more : (k : Option Elem) (r n : ℕ) (d e : Draft) → Extended d n e → (m : ℕ) × Extended d m (with_sign k r e)
unfolding with_sign
sign_more None r n d e x = (n, x)
sign_more (Some kind) r n d e x = (n + 1, and_instr (I.FrontConvert r r kind) d e n x)

gone_inside : (dest : Out) (made : Made Out) (next : Out → Draft → Made Out) → gone_to dest (then_make made next) ≡ then_make made (λ v after. gone_to dest (next v after))
unfolding gone_to then_make
gone_inside dest (Makes v e) next = refl
gone_inside dest Fails next = refl

module _ (g : Setting) (alive : Variable → Type 0) where
  -- the state at another place, where a register has a word
  abbrev pub put_at : ℕ → ℕ → ℕ → CodeState → CodeState
  put_at r word at s = record s { at = at; registers = slice_set s.registers r word }

  -- Instructions that write no field put a word in a register, and go on behind a draft.
  pub record PutsNumber (e f : Draft) (t : CodeState) (r w : ℕ) : Type 0 where
    pub more : (k : ℕ) × Extended e k f
    pub place : ℕ
    pub go : Reaches g t (put_at r w place t)
    pub at : place ≡ start g + length f.code
    pub few : w < 2 ^ 32

  -- The code from one draft to another passes, and its last instructions put a word in a register.
  pub record GivesNumber (d : Draft) (s : CodeState) (st : State) (r w : ℕ) (f : Draft) : Type 0 where
    pub middle : Draft
    pub passes : Passes g alive (length d.fields) d middle s st (Unit {0})
    pub puts : PutsNumber middle f passes.t r w

  -- it goes to a register that is to have it
  pub number_to : (has : HasRegisters g) (elem : Elem) (d : Draft) (s : CodeState) (st : State) (R : Value → State → Out → Draft → Type 0) (r w : ℕ) (f : Draft) → elem.bits ≡ 32 → Dest g has alive elem d s R r → GivesNumber d s st r w f → Within g f → R (Scalar w) st (O.Scalar r) f
  number_to has elem d s st R r w f wide dest h within =
      dest.takes h.middle f h.passes.grown.0 h.puts.more.0 h.passes.t h.puts.place st w h.passes.go h.passes.at.stands h.passes.sim h.passes.grown.1 h.passes.registers h.puts.more.1 within
      (subst (λ (n : ℕ). Reaches g h.passes.t (put_at r n h.puts.place h.passes.t)) (sym (held_wide elem w wide h.puts.few)) h.puts.go) h.puts.at (below_bits elem.bits w wide h.puts.few)

  module _ (op : ReduceOp) (signed : Bool) where
    -- the instruction of the fold, and the draft behind it and what follows it
    abbrev global : ℕ → Field → Instr
    global r f = I.Global (folding op signed) r f

    abbrev made : Option Elem → ℕ → Field → Draft → Draft
    made k r f e = negated_by op r (with_sign k r (with_instr (global r f) e))

    made_more : (k : Option Elem) (r : ℕ) (f : Field) (n : ℕ) (d e : Draft) → Extended d n (with_instr (global r f) e) → (m : ℕ) × Extended d m (made k r f e)
    made_more k r f n d e x = let sign = sign_more k r n d (with_instr (global r f) e) x in negated_more op r sign.0 d (with_sign k r (with_instr (global r f) e)) sign.1

    negate_puts : (r a : ℕ) (t : CodeState) → a < 2 ^ 32 → begun g.image (placed_instr g (I.FrontNegate r r)) (with_register r a t) ≡ Goes (put_at r (difference_of 32 (not signed) 0 a) (t.at + 1 + 1) t)
    unfolding begun
    negate_puts r a t few =
        ap (λ (registers : List ℕ). Goes (record t { at = t.at + 1 + 1; registers = registers })) (read_back (λ (w : ℕ). residue 32 (neg_ℤ (pos w))) t.registers r a)
        ∙ ap (λ (registers : List ℕ). Goes (record t { at = t.at + 1 + 1; registers = registers })) (set_again t.registers r a (residue 32 (neg_ℤ (pos a))))
        ∙ ap (λ (w : ℕ). Goes (put_at r w (t.at + 1 + 1) t)) (minus_same a ∙ negative_same (not signed) a few)

    -- the instruction that puts the fold there, and what follows it
    ends : (o : ReduceOp) (i : Instr) (e : Draft) (t : CodeState) (r a : ℕ) → step_of i ≡ Plain i → begun g.image (placed_instr g i) t ≡ Goes (with_register r a t) → a < 2 ^ 32 → At g t (length e.code) → Within g (negated_by o r (with_instr i e))
        → PutsNumber e (negated_by o r (with_instr i e)) t r (ended o (not signed) a)
    unfolding negated_by ended step_of
    ends F.Sub i e t r a plain puts few here within =
        let between : Draft = with_instr i e in
        let negate : Instr = I.FrontNegate r r in
        let middle : CodeState = with_register r a t in
        let last : CodeState = put_at r (difference_of 32 (not signed) 0 a) (t.at + 1 + 1) t in
        let early : Within g between = earlier g between (with_instr negate between) 1 (and_one g negate between) within in
        let there : At g middle (length between.code) = at_next g i e t (t.at + 1) here refl in
        record {
          more = (2, extended e between (with_instr negate between) 1 1 (and_one g i e) (and_one g negate between));
          place = t.at + 1 + 1;
          go = onto g t middle last (one g t middle (begins_here g i e t early plain here ∙ puts) refl) (one g middle last (begins_here g negate between middle within refl there ∙ negate_puts r a t few) refl);
          at = at_next g negate between middle (t.at + 1 + 1) there refl;
          few = subst (λ (n : ℕ). n < 2 ^ 32) (negative_same (not signed) a few) (unary_below U.Minus a few);
        }
    ends _ i e t r a plain puts few here within = record {
      more = (1, and_one g i e);
      place = t.at + 1;
      go = one g t (with_register r a t) (begins_here g i e t within plain here ∙ puts) refl;
      at = at_next g i e t (t.at + 1) here refl;
      few = few;
    }

    sign_puts : (kind : Elem) (r a : ℕ) (t : CodeState) → begun g.image (placed_instr g (I.FrontConvert r r kind)) (with_register r a t) ≡ Goes (with_register r (rounded kind a) (with_register r a t))
    unfolding begun
    sign_puts kind r a t = ap (λ (registers : List ℕ). Goes (record t { at = t.at + 1 + 1; registers = registers })) (read_back (λ (w : ℕ). rounded kind w) t.registers r a)

    -- the sign that is put back stands between
    signed_ends : (k : Option Elem) (o : ReduceOp) (i : Instr) (e : Draft) (t : CodeState) (r a : ℕ) → step_of i ≡ Plain i → begun g.image (placed_instr g i) t ≡ Goes (with_register r a t) → put_back k a < 2 ^ 32 → At g t (length e.code) → Within g (negated_by o r (with_sign k r (with_instr i e)))
        → PutsNumber e (negated_by o r (with_sign k r (with_instr i e))) t r (ended o (not signed) (put_back k a))
    unfolding with_sign put_back step_of
    signed_ends None o i e t r a plain puts few here within = ends o i e t r a plain puts few here within
    signed_ends (Some kind) o i e t r a plain puts few here within = record {
      more = (1 + rest.more.0, extended e between (negated_by o r (with_instr convert between)) 1 rest.more.0 (and_one g i e) rest.more.1);
      place = rest.place;
      go = onto g t middle (put_at r (ended o (not signed) (rounded kind a)) rest.place t) (one g t middle (begins_here g i e t early plain here ∙ puts) refl)
          (subst (λ (registers : List ℕ). Reaches g middle (record t { at = rest.place; registers = registers })) (set_again t.registers r a (ended o (not signed) (rounded kind a))) rest.go);
      at = rest.at;
      few = rest.few;
    }
      where
        between : Draft
        between = with_instr i e

        convert : Instr
        convert = I.FrontConvert r r kind

        middle : CodeState
        middle = with_register r a t

        early : Within g between
        early = let x = negated_more o r 1 between (with_instr convert between) (and_one g convert between) in earlier g between (negated_by o r (with_instr convert between)) x.0 x.1 within

        rest : PutsNumber between (negated_by o r (with_instr convert between)) middle r (ended o (not signed) (rounded kind a))
        rest = ends o convert between middle r (rounded kind a) refl (sign_puts kind r a t) few (at_next g i e t (t.at + 1) here refl) within

    module _ (places : PlacesFields g) (fields : HoldsTheFields g) (set : ℕ) (v : ℕ → ℕ) where
      -- the fold of these numbers by itself
      abbrev pub whole : ℕ
      whole = folded (combiner_of op) (not signed) (fields.active set) v (processors (shapes g) set)

      -- the number that the reduction gives of these
      abbrev pub number : ℕ
      number = reduced op (not signed) (fields.active set) v (processors (shapes g) set)

      -- the fold of a field that has so many of their lowest bits, with the sign of a type put back, is theirs, and a word
      abbrev pub FoldsWords : ℕ → Option Elem → Type 0
      FoldsWords bits k = (f : Field) (t : CodeState) (st : State) → HasNumbers g bits set f t v → Sim g alive st t → (put_back k (global_fold (shapes g) t.memory (folding op signed) (place g f)) ≡ whole) × (whole < 2 ^ 32)

      -- so it is of all bits
      pub whole_is : FoldsWords 32 None
      unfolding put_back
      whole_is f t st h sim =
          subst (λ (n : ℕ). (global_fold (shapes g) t.memory (folding op signed) (place g f) ≡ folded (combiner_of op) (not signed) (fields.active set) v n) × (folded (combiner_of op) (not signed) (fields.active set) v n < 2 ^ 32))
          (ap (λ (k : ℕ). processors (shapes g) k) h.of_set)
          (global_is (shapes g) t.memory op signed (place g f) (fields.active set) v h.len (λ q below. ap (λ (k : ℕ). is_active (shapes g) t.memory k q) h.of_set ∙ alike q (inside q below)) (λ q below on. has_words g set f t v h q (inside q below) (alike q (inside q below) ∙ on)) (λ q below on. h.small q (inside q below) (alike q (inside q below) ∙ on)))
        where
          inside : (q : ℕ) → q < processors (shapes g) f.set → q < processors (shapes g) set
          inside q below = subst (λ (k : ℕ). q < processors (shapes g) k) h.of_set below

          alike : (q : ℕ) → q < processors (shapes g) set → is_active (shapes g) t.memory set q ≡ fields.active set q
          alike q below = flags_of g alive places fields st t set q sim h.exists below

      -- and of those at which the words of a narrow type are folded
      pub narrow_whole : (kind : Elem) → kind.bits < 32 → ((q : ℕ) → q < processors (shapes g) set → has_number kind (v q) ≡ true) → FoldsWords (folded_bits (folding op signed) (Some kind)) (folded_kind (folding op signed) (Some kind))
      narrow_whole kind few has f t st h sim =
          subst (λ (n : ℕ). (put_back (folded_kind (folding op signed) (Some kind)) (global_fold (shapes g) t.memory (folding op signed) (place g f)) ≡ folded (combiner_of op) (not signed) (fields.active set) v n) × (folded (combiner_of op) (not signed) (fields.active set) v n < 2 ^ 32))
          (ap (λ (k : ℕ). processors (shapes g) k) h.of_set)
          (narrow_is (shapes g) t.memory op signed kind (place g f) (fields.active set) v few h.len (λ q below. ap (λ (k : ℕ). is_active (shapes g) t.memory k q) h.of_set ∙ alike q (inside q below)) (λ q below on. h.are q (inside q below) (alike q (inside q below) ∙ on))
          (λ q below on. has q (inside q below)) (λ q below on. h.small q (inside q below) (alike q (inside q below) ∙ on)))
        where
          inside : (q : ℕ) → q < processors (shapes g) f.set → q < processors (shapes g) set
          inside q below = subst (λ (k : ℕ). q < processors (shapes g) k) h.of_set below

          alike : (q : ℕ) → q < processors (shapes g) set → is_active (shapes g) t.memory set q ≡ fields.active set q
          alike q below = flags_of g alive places fields st t set q sim h.exists below

      abbrev fold_of_field : Field → CodeState → ℕ
      fold_of_field f t = global_fold (shapes g) t.memory (folding op signed) (place g f)

      global_puts : (r : ℕ) (f : Field) (t : CodeState) → begun g.image (placed_instr g (global r f)) t ≡ Goes (with_register r (fold_of_field f t) t)
      unfolding begun applied after
      global_puts r f t = refl

      -- the fold behind the code that gives the field
      reduces : (bits : ℕ) (k : Option Elem) → FoldsWords bits k → (d e : Draft) (s : CodeState) (st : State) (r w : ℕ) (f : Field) → (set < length (shapes g) → number ≡ w) → GivesField g alive bits (length d.fields) d s set st v f e → Within g (made k r f e) → GivesNumber d s st r w (made k r f e)
      unfolding step_of
      reduces bits k folds d e s st r w f is h within = record {
        middle = e;
        passes = record { grown = h.passes.grown; t = h.passes.t; go = h.passes.go; at = h.passes.at; registers = h.passes.registers; sim = h.passes.sim; stays = λ used. h.passes.stays behind };
        puts = subst (λ (n : ℕ). PutsNumber e (made k r f e) h.passes.t r n) (ap (λ (n : ℕ). ended op (not signed) n) total.0 ∙ sym (reduced_is op (not signed) (fields.active set) v (processors (shapes g) set)) ∙ is has.exists)
            (signed_ends k op (global r f) e h.passes.t r (fold_of_field f h.passes.t) refl (global_puts r f h.passes.t) (subst (λ (n : ℕ). n < 2 ^ 32) (sym total.0) total.1) h.passes.at.stands within);
      }
        where
          after_fold : Within g (with_instr (global r f) e)
          after_fold = let x = made_more k r f 0 (with_instr (global r f) e) e (as_it_was (with_instr (global r f) e)) in earlier g (with_instr (global r f) e) (made k r f e) x.0 x.1 within

          behind : Behind g f e
          behind = (length e.code, (names_first g (global r f) f [] (length e.code) (stands_here g (global r f) e after_fold refl) refl, omega arith))

          has : HasNumbers g bits set f h.passes.t v
          has = gives_numbers g alive places fields bits (length d.fields) d s set st v f e h behind

          total : (put_back k (fold_of_field f h.passes.t) ≡ whole) × (whole < 2 ^ 32)
          total = folds f h.passes.t st has h.passes.sim

  module _ (places : PlacesFields g) (fields : HoldsTheFields g) (ty : ValueType) (op : ReduceOp) (p : Boxed) (operand : TExpr) (set : ℕ) (wide : IsWide set (type_of operand)) where
    abbrev signed_operand : Bool
    signed_operand = (type_of operand).elem.signed

    -- the type whose sign is put back
    abbrev sign : Option Elem
    sign = folded_kind (folding op signed_operand) (kind_of operand)

    abbrev next : ℕ → Out → Draft → Made Out
    next r v e = gone_to (O.Scalar r) (communicated g.typed (layout g) (T.Reduce' ty op p operand) O.Nothing (v ∷ []) (O.Scalar r) e)

    made_is : (r : ℕ) (f : Field) (e : Draft) → next r (O.Field f) e ≡ Makes (O.Scalar r) (made op signed_operand sign r f e)
    unfolding gone_to then_make communicated reduced_in part_field from in_field in_register out-TExpr Carrier.out with_fold
    made_is r f e = ap (λ (b : Bool). Makes (O.Scalar r) (negated_by op r (with_sign (folded_kind (fold_of (reduce_op_of op) b) (kind_of operand)) r (with_instr (I.Global (fold_of (reduce_op_of op) b) r f) e)))) (wide_signed (type_of operand).elem wide.1)

    next_grows : (r : ℕ) (v : Out) (e : Draft) → Extends g e (next r v e)
    unfolding Extends gone_to then_make communicated reduced_in part_field from in_field out-TExpr Carrier.out
    next_grows r (O.Field f) e = subst (λ (m : Made Out). Extends g e m) (sym (made_is r f e)) (made_more op signed_operand sign r f 1 e e (and_one g (I.Global (folding op signed_operand) r f) e))
    next_grows r (O.Scalar q) e = tt
    next_grows r O.Nothing e = tt

    module _ (d : Draft) (s : CodeState) (st : State) (v : ℕ → ℕ) (bits : ℕ) (folds : FoldsWords op signed_operand places fields set v bits sign) (r w : ℕ) (number_is : set < length (shapes g) → number op signed_operand places fields set v ≡ w) where
      abbrev InField : Out → Draft → Type 0
      InField out x = (f : Field) × ((out ≡ O.Field f) × GivesField g alive bits (length d.fields) d s set st v f x)

      abbrev Reduced : Out → Draft → Type 0
      Reduced out x = (out ≡ O.Scalar r) × GivesNumber d s st r w x

      reduced_next : (out : Out) (x : Draft) (f : Field) → out ≡ O.Field f → GivesField g alive bits (length d.fields) d s set st v f x → After g Reduced (next r out x)
      reduced_next out x f is h =
          after_same g Reduced (ap (λ (o : Out). next r o x) is ∙ made_is r f x)
          (made_after g Reduced (O.Scalar r) (made op signed_operand sign r f x) (λ within. (refl, reduces op signed_operand places fields set v bits sign folds d x s st r w f number_is h within)))

      -- The code of a fold, where that of its operand gives a field: it passes, and its last instructions put the number
      -- of the reduction in the register that is to have it.
      pub fold_passes : (o : Outcome Value) (m : ℕ → ℕ) → Follows g (Given g m st InField) s o (next_of g.typed (layout g) (reduced_bits op operand) true operand d) → Follows g (Given g m st Reduced) s o (computed_to g.typed (layout g) (O.Scalar r) (T.Reduce' ty op p operand) d)
      unfolding computed_to message_to
      fold_passes o m gives =
          follows_same g (Given g m st Reduced) s refl (gone_inside (O.Scalar r) (next_of g.typed (layout g) (reduced_bits op operand) true operand d) (λ u after. communicated g.typed (layout g) (T.Reduce' ty op p operand) O.Nothing (u ∷ []) (O.Scalar r) after))
          (given_through g s o m st InField Reduced (next_of g.typed (layout g) (reduced_bits op operand) true operand d) (λ u after. next r u after) (λ u after. next_grows r u after)
          (λ part h. then_after g InField Reduced part (λ u after. next r u after) h (λ u after. next_grows r u after) (λ out x h. reduced_next out x h.0 h.1.0 h.1.1)) gives)
