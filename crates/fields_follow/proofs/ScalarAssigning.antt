-- Assignments of a scalar that may change variables, and fold, to a parallel variable, also with an operator: the scalar is
-- computed, and then it goes to each active position.
use Rattle.std.proofs.Common.{◌≡◌, ◌∙◌, ℕ, ◌<◌, ◌^◌, ◌==◌, true, false, length, Option, Some, None, refl, sym, ap, subst, arith, inl, inr, ◌⊎◌, not, Bool, ◌&&◌, if◌then◌else◌, ◌≤◌, ◌+◌, ◌%◌}
use Rattle.std.proofs.Math.Nat.{mod-eq_of_lt}
use Rattle.cstar_base.specs.declared.elem.Elem.{Elem}
use Rattle.cstar_base.specs.declared.operators.Op.{Op}
use Rattle.cstar_base.specs.declared.operators.Place.{Place}
use Rattle.cstar_tree.specs.declared.syntax.AssignOp.{AssignOp}
use Rattle.cstar_tree.specs.declared.typed.TExpr.{TExpr}
use Rattle.cstar_tree.specs.declared.typed.TExpr as T
use Rattle.cstar_tree.specs.declared.typed.ValueType.{ValueType}
use Rattle.cstar_tree.specs.declared.typed.Variable.{Variable}
use Rattle.cstar_tree.specs.Typed.{type_of}
use Rattle.code_lengths.specs.Ready.{IsReadyButForFields}
use Rattle.lower_base.specs.declared.emit.Out.{Out}
use Rattle.lower_base.specs.declared.emit.Out.TheVariants as O
use Rattle.lower_base.specs.Drafts.{Draft, Made, Makes, then_make, with_instr, Fails, an_entry, from}
use Rattle.lower_base.specs.Operators.{assign_op_of}
use Rattle.lower_expr.specs.Effects.{computed_to, effect_of, put_to, variable_operated, field_operated}
use Rattle.lower_expr.specs.Kinds.{operation_bits}
use Rattle.lower_expr.specs.Operands.{operand_by}
use Rattle.lower_expr.specs.Steps.{put_in_field, put_value, word_for, word_put, assigned_signed, right_operated, word_taken}
use Rattle.lower_expr.specs.Values.{value_of, right_by, right_given}
use Rattle.paris_code.specs.declared.instr.Instr.TheVariants as I
use Rattle.paris_code.specs.declared.operands.Field.{Field}
use Rattle.paris_code.specs.declared.operands.Konst.TheVariants as K
use Rattle.paris_code.specs.declared.program.Owner.TheVariants as W
use Rattle.paris_code.specs.Code.{CodeState}
use Rattle.source_meaning.specs.Expressions.{evaluated}
use Rattle.source_meaning.specs.Reductions.{updated}
use Rattle.source_meaning.specs.State as Source
use Rattle.source_meaning.specs.State.{Gives, Outcome, State, then_do, with_positions}
use Rattle.source_meaning.specs.Targets.{OfElement, Target, assigned}
use Rattle.source_meaning.specs.Values.{Parallel, Value, at, Scalar}
use Rattle.source_meaning.proofs.ConstantLaws.{Boxed}
use Rattle.code_follows.specs.Fragment.{IsIn}
use Rattle.code_follows.proofs.Following.{Follows, HasRegisters, Sim, follows_same, held, then_follows, Extends}
use Rattle.code_follows.proofs.Settings.{Setting, Within, layout, stay, earlier}
use Rattle.fields_follow.specs.Fragment.{HasOperation, IsChanging, IsFold, IsOperation, calling_nothing, IsChangingAssigned}
use Rattle.fields_follow.proofs.Assigning.{Begins, carried, code, code_is, entry_of, is_elem, leaves_value, plainly, shaped, where_assigned}
use Rattle.fields_follow.proofs.Arms.{value_put}
use Rattle.fields_follow.proofs.Forms.{HasItsCode}
use Rattle.fields_follow.proofs.Instructions.{Puts, puts_constant, operation_below, shapes, whole_keeps}
use Rattle.fields_follow.proofs.Leaving.{Leaves, UpdateLeaves}
use Rattle.fields_follow.proofs.Lengths.{held_first, Keeps, divides_wide, operation_keeps}
use Rattle.fields_follow.proofs.Places.{HoldsTheFields, PlacesFields}
use Rattle.fields_follow.proofs.Promoted.{Spreads, changing_stands, everywhere}
use Rattle.fields_follow.proofs.Scalars.{GivesChanged}
use Rattle.fields_follow.proofs.FoldingScalars.{folding_follows}
use Rattle.source_meaning.specs.Programs.{calls}
use Rattle.fields_follow.proofs.Starts.{starts_entry, Starts, no_home}
use Rattle.fields_follow.proofs.Updates.{assigned_is, divides_never, assigned_divides, divides_as, updated_is}
use Rattle.fields_follow.proofs.Values.{next_field, with_entry, and_entry, one_more}
use Rattle.cstar_base.specs.declared.faults.RunFault.TheVariants.{DivZero}
use Rattle.lower_expr.specs.declared.steps.Right.{Right}
use Rattle.lower_expr.specs.declared.steps.Right.TheVariants as Rt
use Rattle.fields_follow.proofs.Dividing.{zero_at, zero_there}
use Rattle.fields_follow.proofs.Outcomes.{Ended, outcome_follows}
use Rattle.std.proofs.lemmas.Nat.{pow_pos, mod_below}
use Rattle.cstar_base.proofs.NumberLaws.{kind_bits}
use Rattle.cstar_base.specs.Operators.{divides, outcome}
use Rattle.source_meaning.specs.Constants.{then_value}
use Rattle.code_follows.proofs.Growing.{extended}
use Rattle.code_follows.proofs.Words.{held_wide}
use Rattle.fields_follow.proofs.Operands.{operated_after, operated_extends}
use Rattle.fields_follow.proofs.Passing.{After, fields_longer, passes_all, passes_from}
use Rattle.fields_follow.proofs.Totals.{held_below}
use Rattle.fields_follow.proofs.Writing.{lands_here}

-- what is done with what is given, and what with that
then_both : {A B C : Type 0} (o : Outcome A) (f : A → B) (k : B → State → Outcome C) → then_do (then_do o (λ x after. Gives (f x) after)) k ≡ then_do o (λ x after. k (f x) after)
unfolding then_do
then_both (Source.Gives x u) f k = refl
then_both (Source.Ends early u) f k = refl

make_both : {A B C : Type 0} (m : Made A) (f : A → Draft → Made B) (k : B → Draft → Made C) → then_make (then_make m f) k ≡ then_make m (λ x e. then_make (f x e) k)
unfolding then_make
make_both (Makes x e) f k = refl
make_both Fails f k = refl

module _ (g : Setting) (has : HasRegisters g) (alive : Variable → Type 0) (n : ℕ) (ready : (d : Draft) → IsReadyButForFields g.typed g.instance (layout g) n d) (places : PlacesFields g) (fields : HoldsTheFields g) (around : fields.scope.call ≡ calls g.typed g.most) where
  made_follows : {A B : Type 0} (Q : A → State → B → Draft → Type 0) (s : CodeState) (x : A) (u : State) (y : B) (e : Draft) → (Within g e → Q x u y e) → Follows g Q s (Source.Gives x u) (Makes y e)
  unfolding Follows
  made_follows Q s x u y e h = h

  -- what is said of code may be said where the draft before it is within the unit
  after_within : {B : Type 0} (Q : B → Draft → Type 0) (e : Draft) (made : Made B) → Extends g e made → (Within g e → After g Q made) → After g Q made
  unfolding After Extends
  after_within Q e (Makes y f) grows h = λ w. h (earlier g e f grows.0 grows.1 w) w
  after_within Q e Fails grows h = tt

  module _ (ty : ValueType) (place : Place) (op : AssignOp) (p q : Boxed) (target value : TExpr) (set : ℕ) (same : ty ≡ type_of target) (operates : HasOperation op ty.elem value) (is : IsChanging set value) (c : HasItsCode g.typed g.instance alive n value) (d : Draft) (s : CodeState) (st : State) (b : Begins g has alive n ready places fields set target d s st) where
    abbrev whole : TExpr
    whole = T.Assign' ty place op p target q value

    v : Spreads g alive n (λ operand. IsIn (calling_nothing IsFold) operand) set value
    v = changing_stands g alive n set value is c

    abbrev y : Variable
    y = b.to.x

    abbrev elem : Elem
    elem = b.to.info.elem

    elem_same : ty.elem ≡ elem
    elem_same = is_elem g has alive n ready places fields ty place op p q target value set same operates d s st b

    of_shape : ty.shape ≡ Some set
    of_shape = shaped g has alive n ready places fields ty place op p q target value set same operates d s st b

    abbrev f : Field
    f = entry_of g has alive n ready places fields set target d s st b

    abbrev Done : Value → State → Out → Draft → Type 0
    Done x u out e = Leaves g alive d e s u

    -- with the scalar it is assigned
    abbrev assigns_it : Value → State → Outcome Value
    assigns_it x after = assigned fields.scope fields.active place op ty (type_of value) (OfElement y 0 set) (everywhere x) after

    abbrev made : Draft → Made Out
    made e = operand_by g.typed (layout g) elem.bits (λ after. value_of g.typed (layout g) elem.bits v.operand after) true v.operand e

    means : evaluated fields.scope whole fields.active st ≡ then_do (evaluated fields.scope v.operand fields.active st) assigns_it
    unfolding evaluated then_do
    means =
        ap (λ (o : Outcome Target). then_do o (λ place_of between. then_do (evaluated fields.scope value fields.active between) (λ x after. assigned fields.scope fields.active place op ty (type_of value) place_of x after))) (b.to.means fields.scope fields.active st)
        ∙ ap (λ (o : Outcome Value). then_do o (λ x after. assigned fields.scope fields.active place op ty (type_of value) (OfElement y 0 set) x after)) (v.means fields.scope fields.active st)
        ∙ then_both (evaluated fields.scope v.operand fields.active st) everywhere (λ x after. assigned fields.scope fields.active place op ty (type_of value) (OfElement y 0 set) x after)

    abbrev effect : effect_of g.typed (layout g) whole d ≡ code g has alive n ready places fields ty place op p q target value set same operates d s st b (assign_op_of op)
    effect = code_is g has alive n ready places fields ty place op p q target value set same operates d s st b

    -- what it stores then
    abbrev stored : State → ℕ → ℕ → ℕ
    stored u w z = updated op ty.elem (type_of value).elem (u.parallel y 0 z) w

    abbrev left : State → ℕ → State
    left u w = with_positions y 0 (fields.active set) (stored u w) u

    assigns : assign_op_of op ≡ None → (type_of value).elem.bits ≡ ty.elem.bits → UpdateLeaves g alive fields whole d s st
    unfolding put_to word_for then_do put_value put_in_field at
    assigns none long =
        follows_same g Done s means
        (effect ∙ ap (λ (o : Option Op). code g has alive n ready places fields ty place op p q target value set same operates d s st b o) none
        ∙ ap (λ (o : Option ℕ). elim o as (λ _. Made Out) [ Some word ↦ word_put (O.Field f) word b.found.e | None ↦ computed_to g.typed (layout g) (O.Field f) value b.found.e ]) v.no_word ∙ v.computed f b.found.e)
        (then_follows g R Done s s (evaluated fields.scope v.operand fields.active st) assigns_it (made b.found.e) (λ x after. put_value (O.Field f) x after) (stay g s)
        (folding_follows g has places fields around alive n ready true elem.bits v.operand v.is v.among v.has b.found.e s st b.here b.sim) (λ x after. value_put g has alive n ready places fields f x after) gives)
      where
        R : Value → State → Out → Draft → Type 0
        R = GivesChanged g has alive n ready fields (length b.found.e.fields) b.found.e s v.operand

        of_value : (type_of v.operand).elem.bits ≡ elem.bits
        of_value = ap (λ (e : Elem). e.bits) (sym v.elem) ∙ long ∙ ap (λ (e : Elem). e.bits) elem_same

        gives : (x : Value) (u : State) (out : Out) (e : Draft) → R x u out e → Follows g Done s (assigns_it x u) (put_value (O.Field f) out e)
        gives x u out e (w, (is_w, (few, (r, (is_r, word))))) =
            follows_same g Done s (ap (λ (z : Value). assigns_it z u) is_w ∙ assigned_is fields.scope fields.active set y place op ty (type_of value) (λ z. w) u of_shape (λ z. divides_never op w none)) (ap (λ (o : Out). put_value (O.Field f) o e) is_r)
            (made_follows Done s (Parallel (stored u w)) (left u w) (O.Field f) (with_instr (I.MoveConstant f (K.Reg r)) e) (λ within.
            leaves_value g has alive n ready places fields set y b.to.info b.to.living d b.inside b.found s u (λ z. held (type_of v.operand).elem w) (stored u w) ((λ z below small. is_stored z ∙ sym (held_first (type_of v.operand).elem w elem.bits few (omega (arith, of_value)) ∙ mod-eq_of_lt less)), λ z. subst (λ (m : ℕ). m < 2 ^ elem.bits) (sym (is_stored z)) less)
            e (I.MoveConstant f (K.Reg r)) (with_instr (I.MoveConstant f (K.Reg r)) e) within word.passes (subst (λ (z : ℕ → ℕ). Puts g set (I.MoveConstant f (K.Reg r)) f word.passes.t z) (λ i z. sym (word.same z) i) (puts_constant g set f (K.Reg r) word.passes.t word.small)) (lands_here g (with_instr (I.MoveConstant f (K.Reg r)) e))))
          where
            is_stored : (z : ℕ) → stored u w z ≡ w
            is_stored z = plainly g has alive n ready places fields op ty.elem (type_of value).elem (u.parallel y 0 z) w none

            less : w < 2 ^ elem.bits
            less = subst (λ (m : ℕ). w < 2 ^ m) of_value few

    operated : (x : Op) → assign_op_of op ≡ Some x → IsOperation x value × ((type_of value).elem.bits ≡ 32) × ((ty.elem.bits == 1) ≡ false) × (operation_bits ty.elem.bits x value ≡ ty.elem.bits) → UpdateLeaves g alive fields whole d s st
    unfolding variable_operated field_operated right_by word_taken an_entry then_do then_make right_given from at passes_from Extends
    operated x is_op known =
        follows_same g Done s means
        (effect ∙ ap (λ (o : Option Op). code g has alive n ready places fields ty place op p q target value set same operates d s st b o) is_op
        ∙ ap (λ (o : Option ℕ). then_make (right_code o) (λ a e. right_operated x signed place f f a spare e)) v.no_word
        ∙ make_both (operand_by g.typed (layout g) elem.bits (λ after. value_of g.typed (layout g) elem.bits value after) true value d2) (λ z after. from (right_given z) (λ right. Makes right after)) (λ a e. right_operated x signed place f f a spare e)
        ∙ ap (λ (m : Made Out). then_make m (λ z after. next z after)) (v.code true elem.bits d2))
        (then_follows g R Done s s (evaluated fields.scope v.operand fields.active st) assigns_it (made d2) (λ z after. next z after) (stay g s)
        (folding_follows g has places fields around alive n ready true elem.bits v.operand v.is v.among v.has d2 s st (starts_entry g alive _ _ b.here) b.sim) grows gives)
      where
        d2 : Draft
        d2 = with_entry set elem.bits W.Own b.found.e

        spare : Field
        spare = next_field set elem.bits b.found.e

        signed : Bool
        signed = assigned_signed x (type_of target).elem (type_of value).elem

        R : Value → State → Out → Draft → Type 0
        R = GivesChanged g has alive n ready fields (length d2.fields) d2 s v.operand

        next : Out → Draft → Made Out
        next z after = then_make (from (right_given z) (λ right. Makes right after)) (λ a e. right_operated x signed place f f a spare e)

        grows : (z : Out) (after : Draft) → Extends g after (next z after)
        grows (O.Field a) after = operated_extends g x signed place f f spare (Rt.Field a) after known.0.0
        grows (O.Scalar r) after = operated_extends g x signed place f f spare (Rt.Word (K.Reg r)) after known.0.0
        grows O.Nothing after = tt

        right_code : Option ℕ → Made Right
        right_code o = elim (then_value o (λ w. if divides x && w == 0 then None else Some w)) as (λ _. Made Right) [ Some word ↦ Makes (Rt.Word (K.Imm word)) d2 | None ↦ then_make (operand_by g.typed (layout g) elem.bits (λ after. value_of g.typed (layout g) elem.bits value after) true value d2) (λ z after. from (right_given z) (λ right. Makes right after)) ]

        most : elem.bits ≤ 32
        most = (kind_bits elem.bits elem.signed elem.kind).1

        works : operation_bits elem.bits x value ≡ elem.bits
        works = subst (λ (e : Elem). operation_bits e.bits x value ≡ e.bits) elem_same known.3

        gives : (z : Value) (u : State) (out : Out) (e : Draft) → R z u out e → Follows g Done s (assigns_it z u) (next out e)
        gives z u out e (w, (is_w, (few, (r, (is_r, word))))) =
            follows_same g Done s (ap (λ (a : Value). assigns_it a u) is_w) (ap (λ (o : Out). next o e) is_r)
            (outcome_follows g s o (Parallel (stored u w)) (left u w) (λ a e3. Leaves g alive d e3 s (left u w)) Done last (λ a e3 said. said)
            (after_within P e last (operated_extends g x signed place f f spare (Rt.Word (K.Reg r)) e known.0.0) (λ within_e.
            operated_after g has alive n ready places fields elem.bits (length d2.fields) set x signed place f f old (λ a. cw) b.found.e e e s u (no_home g alive (length b.found.e.fields) (length b.found.e.fields) (omega arith) b.here) known.0.0 (λ divided. sym works ∙ divides_wide elem.bits x value divided) (λ a. keeps) refl (let one = one_more set elem.bits W.Own b.found.e in omega (arith, one)) (fields_longer d2 e word.passes.grown.0 word.passes.grown.1)
            (record {
              passes = record { grown = word.passes.grown; t = word.passes.t; go = word.passes.go; at = word.passes.at; registers = word.passes.registers; sim = word.passes.sim; stays = λ used. word.passes.stays tt };
              stands = inr (record { x = y; info = b.to.info; carries = carried g has alive n ready places fields set y b.to.info b.to.living d b.inside b.found e (0 + word.passes.grown.0) (extended b.found.e d2 e 0 word.passes.grown.0 (and_entry set elem.bits W.Own b.found.e) word.passes.grown.1) within_e; len = refl; fits = omega arith; same = λ a below. (refl, held_below elem (u.parallel y 0 a)) });
            })
            (Rt.Word (K.Reg r)) (λ a same_word. omega arith) (λ imm same_word divided. cc)
            (inr (K.Reg r, (refl, record { passes = passes_all g alive (length e.fields) e word.passes.t u (Unit {0}) word.passes.at word.passes.sim; small = word.small; same = word.same; lasts = word.lasts }))) P
            (λ there never e3 i within p3 puts. inl (
              stores there never,
              leaves_value g has alive n ready places fields set y b.to.info b.to.living d b.inside b.found s u (λ a. outcome x 32 (not signed) (old a) cw) (stored u w) ((λ a below small. lowest a), λ a. subst (λ (m : ℕ). m < 2 ^ elem.bits) (sym (lowest a)) (mod_below (outcome x 32 (not signed) (old a) cw) (2 ^ elem.bits) (pow_pos elem.bits)))
                  e3 i (with_instr i e3) within (passes_from g alive (length b.found.e.fields) b.found.e d2 e3 s u (Unit {0}) (and_entry set elem.bits W.Own b.found.e) p3) puts (lands_here g (with_instr i e3)),
            ))
            (λ there divided a none finishes z e3. inr (record { early = Source.Fault DivZero place (Some a); state = u; is = divided_so there divided ∙ ap by_zero none; finishes = finishes })))))
          where
            cw : ℕ
            cw = held (type_of v.operand).elem w

            old : ℕ → ℕ
            old a = held elem (u.parallel y 0 a)

            o : Outcome Value
            o = assigns_it (Scalar w) u

            last : Made Out
            last = right_operated x signed place f f (Rt.Word (K.Reg r)) spare e

            P : Out → Draft → Type 0
            P a e3 = ((o ≡ Gives (Parallel (stored u w)) (left u w)) × Leaves g alive d e3 s (left u w)) ⊎ Ended g s o

            wide_operand : (type_of v.operand).elem.bits ≡ 32
            wide_operand = ap (λ (e : Elem). e.bits) (sym v.elem) ∙ known.1

            small_w : w < 2 ^ 32
            small_w = subst (λ (m : ℕ). w < 2 ^ m) wide_operand few

            is_cw : cw ≡ w
            is_cw = held_wide (type_of v.operand).elem w wide_operand small_w

            -- where it divides by 0 at an active position it ends there
            by_zero : Option ℕ → Outcome Value
            by_zero zero = elim zero as (λ _. Outcome Value) [ None ↦ Gives (Parallel (stored u w)) (left u w) | Some a ↦ Source.Ends (Source.Fault DivZero place (Some a)) u ]

            divided_so : set < length (shapes g) → divides x ≡ true → o ≡ by_zero (zero_at g fields set (λ a. cw))
            divided_so there divided =
                assigned_divides fields.scope fields.active set y place op ty (type_of value) (λ a. w) u of_shape (λ a. divides_as op x w is_op ∙ ap (λ (c : Bool). c && w == 0) divided)
                ∙ ap by_zero (zero_there g fields set (λ a. w) (λ a. cw) there (λ a below. is_cw))

            stores : set < length (shapes g) → (divides x ≡ true → zero_at g fields set (λ a. cw) ≡ None) → o ≡ Gives (Parallel (stored u w)) (left u w)
            stores there never = by (divides x) refl
              where
                by : (c : Bool) → divides x ≡ c → o ≡ Gives (Parallel (stored u w)) (left u w)
                by true divided = divided_so there divided ∙ ap by_zero (never divided)
                by false plain = assigned_is fields.scope fields.active set y place op ty (type_of value) (λ a. w) u of_shape (λ a. divides_as op x w is_op ∙ ap (λ (c : Bool). c && w == 0) plain)

            keeps : Keeps x signed elem.bits cw
            keeps = subst (λ (m : ℕ). Keeps x signed m cw) works (operation_keeps elem.bits x signed value cw most (λ imm is_imm. let wrong = sym v.no_word ∙ is_imm in cc) (whole_keeps x signed cw known.0.0))

            lowest : (a : ℕ) → stored u w a ≡ outcome x 32 (not signed) (old a) cw % 2 ^ elem.bits
            lowest a =
                ap (λ (e : Elem). updated op e (type_of value).elem (u.parallel y 0 a) w) elem_same
                ∙ updated_is op x elem (type_of value).elem (u.parallel y 0 a) w is_op (ap (λ (e : Elem). e.bits == 1) (sym elem_same) ∙ known.2) known.1
                (operation_below x (assigned_signed x elem (type_of value).elem) (old a) w known.0.0 (held_below elem (u.parallel y 0 a)) small_w)
                ∙ ap (λ (e : Elem). outcome x 32 (not (assigned_signed x e (type_of value).elem)) (old a) w % 2 ^ elem.bits) (sym b.to.elem)
                ∙ ap (λ (m : ℕ). outcome x 32 (not signed) (old a) m % 2 ^ elem.bits) (sym is_cw)

  -- such an assignment leaves what it leaves in the source
  pub changing_leaves : (e : TExpr) → IsChangingAssigned e → HasItsCode g.typed g.instance alive n e → (d : Draft) (s : CodeState) (st : State) → Starts g alive s (length d.code) d.regs (length d.fields) → Sim g alive st s → UpdateLeaves g alive fields e d s st
  unfolding IsChangingAssigned
  changing_leaves (T.Assign' ty place op p target q value) (same, operates, (set, (is_target, is))) c d s st here sim =
      where_assigned g has alive n ready places fields ty place op p q target value set same operates is_target c d s st here sim (λ b part. by b part (assign_op_of op) refl operates)
    where
      by : Begins g has alive n ready places fields set target d s st → HasItsCode g.typed g.instance alive n value → (o : Option Op) → assign_op_of op ≡ o
          → (elim o as (λ _. Type 0) [ None ↦ (type_of value).elem.bits ≡ ty.elem.bits | Some x ↦ IsOperation x value × ((type_of value).elem.bits ≡ 32) × ((ty.elem.bits == 1) ≡ false) × (operation_bits ty.elem.bits x value ≡ ty.elem.bits) ]) → UpdateLeaves g alive fields (T.Assign' ty place op p target q value) d s st
      by b part None none long = assigns ty place op p q target value set same operates is part d s st b none long
      by b part (Some x) some known = operated ty place op p q target value set same operates is part d s st b x some known
  changing_leaves _ is c d s st here sim = absurd is
