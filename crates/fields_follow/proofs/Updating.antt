-- Assignments of parallel expressions to parallel variables, and steps of these, follow.
use Rattle.std.proofs.Common.{◌⊎◌, ◌≡◌, ◌∙◌, ℕ, ◌+◌, ◌<◌, ◌≤◌, ◌%◌, ◌^◌, ◌==◌, ◌||◌, Bool, true, false, not, length, Option, Some, None, refl, sym, ap, subst, arith, inl, inr, if◌then◌else◌, lit<, ◌∷◌, []}
use Rattle.std.specs.Int.{from_bool}
use Rattle.std.specs.Prelude.{is_none}
use Rattle.std.proofs.Math.Nat.{mod-eq_of_lt, pow-le-pow_right}
use Rattle.std.proofs.lemmas.Nat.{mod_below, pow_pos}
use Rattle.source_meaning.specs.Values.{nonzero}
use Rattle.cstar_base.specs.declared.elem.Elem.{Elem}
use Rattle.cstar_base.specs.declared.operators.Op.{Op}
use Rattle.cstar_base.specs.declared.operators.Op.TheVariants as P
use Rattle.cstar_base.specs.declared.operators.Place.{Place}
use Rattle.cstar_base.specs.Operators.{outcome}
use Rattle.cstar_tree.specs.declared.syntax.AssignOp.{AssignOp}
use Rattle.cstar_tree.specs.declared.syntax.StepOp.{StepOp}
use Rattle.cstar_tree.specs.declared.syntax.StepOp.TheVariants as Sp
use Rattle.cstar_tree.specs.declared.typed.StepOrder.{StepOrder}
use Rattle.cstar_tree.specs.declared.typed.TExpr.{TExpr}
use Rattle.cstar_tree.specs.declared.typed.TExpr as T
use Rattle.cstar_tree.specs.declared.typed.ValueType.{ValueType}
use Rattle.cstar_tree.specs.declared.typed.Variable.{Variable}
use Rattle.cstar_tree.specs.Typed.{type_of}
use Rattle.code_lengths.specs.Naming.{NamesVariables}
use Rattle.code_lengths.specs.Ready.{IsReadyButForFields}
use Rattle.lower_base.specs.declared.emit.Out.{Out}
use Rattle.lower_base.specs.declared.emit.Out.TheVariants as O
use Rattle.lower_base.specs.Drafts.{Draft, Made, Makes, step as step_of, then_make, with_instr}
use Rattle.lower_base.specs.Operators.{assign_op_of, operation_of, relates}
use Rattle.lower_expr.specs.declared.operands.Own.{Own}
use Rattle.lower_expr.specs.Effects.{effect_of, step_effect, stepped_own, variable_stepped, whole_of}
use Rattle.lower_expr.specs.Kinds.{is_modular, operation_bits}
use Rattle.lower_expr.specs.Operands.{own_of}
use Rattle.lower_expr.specs.Steps.{assigned_signed}
use Rattle.lower_expr.specs.Values.{right_by, step_operation, value_of}
use Rattle.paris_code.specs.declared.instr.Instr.{Instr}
use Rattle.paris_code.specs.declared.instr.Instr.TheVariants as I
use Rattle.paris_code.specs.declared.operands.Field.{Field}
use Rattle.paris_code.specs.declared.operands.Konst.TheVariants as K
use Rattle.paris_code.specs.Code.{CodeState}
use Rattle.source_meaning.specs.Reductions.{promoted, updated}
use Rattle.source_meaning.specs.State.{Gives, State, with_positions}
use Rattle.source_meaning.specs.Targets.{step_op}
use Rattle.source_meaning.specs.Values.{Value}
use Rattle.source_meaning.proofs.ConstantLaws.{Boxed}
use Rattle.cstar_base.proofs.NumberLaws.{kind_bits}
use Rattle.code_follows.proofs.Following.{Follows, HasRegisters, Sim, held}
use Rattle.code_follows.proofs.Settings.{Setting, and_one, layout, start}
use Rattle.code_follows.proofs.Words.{below_word}
use Rattle.fields_follow.specs.Fragment.{HasOperation, IsOperand, IsOperation, IsPromoted, IsPure, IsUpdate, IsWide}
use Rattle.fields_follow.proofs.Assigning.{Begins, Q, assigned_follows, carried, code, entry_of, is_elem, leaves, leaves_value, operator_after, plain_after, plain_given, plainly, stored, value_ended, variable_is, where_assigned, where_found}
use Rattle.fields_follow.proofs.Computing.{pure_after}
use Rattle.fields_follow.proofs.Deciding.{truth_last}
use Rattle.fields_follow.proofs.Operands.{GivesRight, Takes, right_after}
use Rattle.fields_follow.proofs.TruthValues.{IsPlain, IsTruth, truth_bit, truth_or_plain}
use Rattle.fields_follow.proofs.Forms.{HasItsCode, operand_shape}
use Rattle.fields_follow.proofs.Lengths.{Keeps, held_first, modular_keeps}
use Rattle.fields_follow.proofs.Instructions.{extents, operation_below, place, puts_operate_constant, word_in}
use Rattle.fields_follow.proofs.Meaning.{value_in, word_at}
use Rattle.fields_follow.proofs.Outcomes.{Ended, Given, meant, outcome_follows}
use Rattle.fields_follow.proofs.Leaving.{Leaves, UpdateLeaves}
use Rattle.fields_follow.proofs.Passing.{After, after_same, made_after, passes_all}
use Rattle.fields_follow.proofs.Places.{HoldsTheFields, PlacesFields, names_first, stands_here}
use Rattle.fields_follow.proofs.Updates.{Targets, promoted_wide, step_means, targets, updated_is}
use Rattle.fields_follow.proofs.Sizes.{operand_small}
use Rattle.fields_follow.proofs.Totals.{held_below}
use Rattle.fields_follow.proofs.Values.{operand_of, variable_has}
use Rattle.fields_follow.proofs.Variables.{Carries}
use Rattle.fields_follow.proofs.Effects.{put_last}
use Rattle.fields_follow.proofs.Expressions.{operand_at, operands_keep}
use Rattle.code_follows.specs.Fragment.{NamesAmong}
use Rattle.fields_follow.proofs.Starts.{Starts}
use Rattle.fields_follow.proofs.Writing.{lands_here}
use Rattle.paris_code.specs.Spans.{IsNamedAt}

module _ (g : Setting) (has : HasRegisters g) (alive : Variable → Type 0) (n : ℕ) (ready : (d : Draft) → IsReadyButForFields g.typed g.instance (layout g) n d) (places : PlacesFields g) (fields : HoldsTheFields g) where
  assigns : (ty : ValueType) (place : Place) (op : AssignOp) (p q : Boxed) (target value : TExpr) (set : ℕ) → (same : ty ≡ type_of target) → (operates : HasOperation op ty.elem value) → IsOperand set value → HasItsCode g.typed g.instance alive n value → (d : Draft) (s : CodeState) (st : State) → Begins g has alive n ready places fields set target d s st
      → UpdateLeaves g alive fields (T.Assign' ty place op p target q value) d s st
  assigns ty place op p q target value set same operates is_value c d s st b =
      assigned_follows g has alive n ready places fields ty place op p q target value set same operates d s st b number (by (assign_op_of op) refl operates is_value)
    where
      bits : ℕ
      bits = b.to.info.elem.bits

      fits : (0 < bits) × (bits ≤ 32)
      fits = kind_bits b.to.info.elem.bits b.to.info.elem.signed b.to.info.elem.kind

      number : ℕ → ℕ
      number = λ y. value_in (extents g set) st value y

      f : Field
      f = entry_of g has alive n ready places fields set target d s st b

      After_it : Option Op → Type 0
      After_it o = After g (Q g has alive n ready places fields ty place op p q target value set same operates d s st b number) (code g has alive n ready places fields ty place op p q target value set same operates d s st b o)

      elem : ty.elem ≡ b.to.info.elem
      elem = is_elem g has alive n ready places fields ty place op p q target value set same operates d s st b

      small : IsOperand set value → (y : ℕ) → number y < 2 ^ (type_of value).elem.bits
      small is_operand y = operand_small g alive n places fields set value st s b.sim is_operand c y

      plain_put : assign_op_of op ≡ None → (type_of value).elem.bits ≡ bits → IsOperand set value → (IsPure set value × IsPlain bits value) ⊎ IsPromoted set value → After_it (assign_op_of op)
      plain_put none long is_operand any =
          let few : (y : ℕ) → number y < 2 ^ bits = λ y. subst (λ (m : ℕ). number y < 2 ^ m) long (small is_operand y) in
          plain_after g has alive n ready places fields ty place op p q target value set same operates d s st b number none (λ y. word_at (extents g set) st value y) few (λ y. sym (held_first (type_of value).elem (number y) bits (small is_operand y) (omega (arith, long)) ∙ mod-eq_of_lt (few y)))
          (λ last ended. put_last g has alive n ready places fields set b.found.f.offset bits value fits.0 fits.1 any c b.found.e s st b.here b.sim (Q g has alive n ready places fields ty place op p q target value set same operates d s st b number) last ended)

      bit_below : (x : Bool) → from_bool x < 2 ^ 1
      bit_below true = omega arith
      bit_below false = omega arith

      truth_put : assign_op_of op ≡ None → IsTruth set bits value → After_it (assign_op_of op)
      truth_put none truth =
          let few : (y : ℕ) → number y < 2 ^ bits = λ y. subst (λ (m : ℕ). m < 2 ^ bits) (sym (truth_bit (extents g set) st set bits value y truth)) (let least : 2 ^ 1 ≤ 2 ^ bits = pow-le-pow_right (lit< tt) fits.0 in let bit = bit_below (nonzero (number y)) in omega (arith, least, bit)) in
          let stored_so : (y : ℕ) → stored g has alive n ready places fields ty place op p q target value set same operates d s st b number y ≡ number y = λ y. plainly g has alive n ready places fields op ty.elem (type_of value).elem (st.parallel b.to.x 0 y) (number y) none in
          after_same g (Q g has alive n ready places fields ty place op p q target value set same operates d s st b number) (ap (code g has alive n ready places fields ty place op p q target value set same operates d s st b) none)
          (truth_last g has alive n ready places fields set b.found.f.offset bits b.to.x b.to.living b.to.info fits.0 b.found.e s st b.here b.sim (carried g has alive n ready places fields set b.to.x b.to.info b.to.living d b.inside b.found) (Q g has alive n ready places fields ty place op p q target value set same operates d s st b number) value truth c
          (λ given e2 f2 used within passes wanted last. inl (
            plain_given g has alive n ready places fields ty place op p q target value set same operates d s st b number none given,
            leaves g has alive n ready places fields set b.to.x b.to.info b.to.living d b.inside b.found s st number (stored g has alive n ready places fields ty place op p q target value set same operates d s st b number)
                ((λ y below less. stored_so y ∙ sym (mod-eq_of_lt (few y))), λ y. subst (λ (m : ℕ). m < 2 ^ bits) (sym (stored_so y)) (few y)) e2 f2 used within passes wanted last,
          )) (λ early x e. inr (value_ended g has alive n ready places fields ty place op p q target value set same operates d s st b number early)))

      pure_put : assign_op_of op ≡ None → (type_of value).elem.bits ≡ bits → IsPure set value → IsTruth set bits value ⊎ IsPlain bits value → After_it (assign_op_of op)
      pure_put none long pure (inl truth) = truth_put none truth
      pure_put none long pure (inr plain) = plain_put none long (inl pure) (inl (pure, plain))

      by : (o : Option Op) → assign_op_of op ≡ o → (elim o as (λ _. Type 0) [ None ↦ (type_of value).elem.bits ≡ ty.elem.bits | Some x ↦ IsOperation x value × ((type_of value).elem.bits ≡ 32) × ((ty.elem.bits == 1) ≡ false) × (operation_bits ty.elem.bits x value ≡ ty.elem.bits) ]) → IsOperand set value → After_it (assign_op_of op)
      by None none long (inl pure) = pure_put none (long ∙ ap (λ (e : Elem). e.bits) elem) pure (truth_or_plain set bits value pure)
      by None none long (inr promoted) = plain_put none (long ∙ ap (λ (e : Elem). e.bits) elem) (inr promoted) (inr promoted)
      by (Some x) is known is_operand =
          let wide : IsWide set (type_of value) = (operand_shape set value is_operand, known.1) in
          let words : ◌≡◌ {A = ℕ → ℕ} (λ y. word_at (extents g set) st value y) number = λ j y. operand_at g has alive n ready places fields set value st s b.sim is_operand wide c y j in
          operator_after g has alive n ready places fields ty place op p q target value set same operates d s st b number x is known (λ y. below_word (type_of value).elem.bits _ known.1 (small is_operand y))
          (λ signed y. subst (λ (w : ℕ → ℕ). Keeps x signed (operation_bits bits x value) (w y)) words (operands_keep g has alive n ready places fields bits set x signed value st fits.1 known.0 is_operand c y))
          (λ e t here sim. subst (λ (w : ℕ → ℕ). Follows g (Given g number st (λ right f. Takes x right × GivesRight g has alive n ready places fields bits (length e.fields) e t set st w right f)) t (meant g fields value st) (right_by (operand_of g has alive n ready places fields bits true value) x value e)) words
          (right_after g has alive n ready places fields bits set x value known.0.1 is_operand c (λ pure. pure_after g has alive n ready places fields bits set value fits.0 fits.1 pure c) e t st here sim)) c

  -- one more, or one less
  abbrev stepping : StepOp → Op
  stepping Sp.Increment = P.Add
  stepping Sp.Decrement = P.Sub

  step_known : (op : StepOp) → relates (stepping op) ≡ false
  unfolding relates
  step_known Sp.Increment = refl
  step_known Sp.Decrement = refl

  step_assigns : (op : StepOp) → assign_op_of (step_op op) ≡ Some (stepping op)
  unfolding assign_op_of
  step_assigns Sp.Increment = refl
  step_assigns Sp.Decrement = refl

  step_operates : (op : StepOp) (signed : Bool) → step_operation op ≡ operation_of (stepping op) signed
  unfolding step_operation operation_of
  step_operates Sp.Increment signed = refl
  step_operates Sp.Decrement signed = refl

  step_modular : (op : StepOp) → is_modular (stepping op) ≡ true
  unfolding is_modular
  step_modular Sp.Increment = refl
  step_modular Sp.Decrement = refl

  stepped_is : (set : ℕ) (y : Variable) (target : TExpr) → own_of 1 target ≡ Some (record { shape = Some set; variable = y }) → ((type_of target).elem.bits == 1) ≡ false → stepped_own target ≡ Some (record { shape = Some set; variable = y })
  stepped_is set y target own no_truth =
      ap (λ (o : Option Own). elim o as (λ _. Option Own) [ Some own ↦ if is_none own.shape || not ((type_of target).elem.bits == 1) then Some own else None | None ↦ None ]) own
      ∙ ap (λ (b : Bool). if not b then Some mine else None) no_truth
    where
      mine : Own
      mine = record { shape = Some set; variable = y }

  step_code : (ty : ValueType) (op : StepOp) (order : StepOrder) (p : Boxed) (target : TExpr) (set : ℕ) → ty ≡ type_of target → (ty.elem.bits == 1) ≡ false → (d : Draft) (to : Targets g.typed g.instance alive set target)
      → effect_of g.typed (layout g) (T.Step' ty op order p target) d ≡ then_make (whole_of g.typed (layout g) target (record { shape = Some set; variable = to.x }) d) (λ dest after. variable_stepped (layout g) (type_of target).elem op dest after)
  unfolding effect_of step_effect
  step_code ty op order p target set same no_truth d to =
      ap (λ (o : Option Own). elim o as (λ _. Made Out) [ Some own ↦ then_make (whole_of g.typed (layout g) target own d) (λ dest after. variable_stepped (layout g) (type_of target).elem op dest after) | None ↦ value_of g.typed (layout g) ty.elem.bits (T.Step' ty op order p target) d ])
      (stepped_is set to.x target to.own (ap (λ (y : ValueType). y.elem.bits == 1) (sym same) ∙ no_truth))

  steps : (ty : ValueType) (op : StepOp) (order : StepOrder) (p : Boxed) (target : TExpr) (set : ℕ) → ty ≡ type_of target → (ty.elem.bits == 1) ≡ false → (d : Draft) (s : CodeState) (st : State) → Begins g has alive n ready places fields set target d s st → UpdateLeaves g alive fields (T.Step' ty op order p target) d s st
  unfolding variable_stepped word_in step_of
  steps ty op order p target set same no_truth d s st b =
      outcome_follows g s (meant g fields (T.Step' ty op order p target) st) means.0 u (λ out e. Leaves g alive d e s u) (λ v t out e. Leaves g alive d e s t) (effect_of g.typed (layout g) (T.Step' ty op order p target) d) (λ out e said. said)
      (after_same g Q
      (step_code ty op order p target set same no_truth d b.to
      ∙ variable_is g has alive n ready places fields set b.to.x b.to.info b.to.living d b.inside b.found target (λ dest after. variable_stepped (layout g) (type_of target).elem op dest after) b.to.elem
      ∙ ap (λ act. Makes (O.Field f) (with_instr (I.OperateConstant act f f (K.Imm 1)) b.found.e)) (step_operates op signed))
      (made_after g Q (O.Field f) (with_instr i b.found.e) (λ within.
      let carries : Carries g alive b.to.x b.to.info set f = carried g has alive n ready places fields set b.to.x b.to.info b.to.living d b.inside b.found (with_instr i b.found.e) 1 (and_one g i b.found.e) within in
      let named : IsNamedAt g.unit f.offset (length b.found.e.code) = names_first g i f (f ∷ []) (length b.found.e.code) (stands_here g i b.found.e within refl) refl in
      let behind : s.at ≤ start g + length b.found.e.code = (let at = b.here.stands in omega (arith, at)) in
      let numbers = variable_has g has alive n ready places fields set b.to.x b.to.info f s st carries (length b.found.e.code) named behind b.sim in
      inl (
        means.1,
        leaves_value g has alive n ready places fields set b.to.x b.to.info b.to.living d b.inside b.found s st given_by w ((λ x below small. moved x), λ x. subst (λ (m : ℕ). m < 2 ^ elem.bits) (sym (moved x)) (mod_below (given_by x) (2 ^ elem.bits) (pow_pos elem.bits)))
            b.found.e i (with_instr i b.found.e) within (passes_all g alive (length b.found.e.fields) b.found.e s st (Unit {0}) b.here b.sim)
            (puts_operate_constant g elem.bits set (stepping op) signed f f (K.Imm 1) s (λ q. held elem (old q)) (step_known op) (modular_keeps (stepping op) signed elem.bits 1 (step_modular op) (kind_bits elem.bits elem.signed elem.kind).1) refl numbers.0 (omega arith)) (lands_here g (with_instr i b.found.e)),
      ))))
    where
      elem : Elem
      elem = b.to.info.elem

      is_elem : ty.elem ≡ elem
      is_elem = ap (λ (y : ValueType). y.elem) same ∙ b.to.elem

      old : ℕ → ℕ
      old = λ x. st.parallel b.to.x 0 x

      w : ℕ → ℕ
      w = λ x. updated (step_op op) ty.elem (promoted ty.elem) (old x) 1

      u : State
      u = with_positions b.to.x 0 (fields.active set) w st

      f : Field
      f = entry_of g has alive n ready places fields set target d s st b

      signed : Bool
      signed = assigned_signed (stepping op) elem (promoted elem)

      i : Instr
      i = I.OperateConstant (operation_of (stepping op) signed) f f (K.Imm 1)

      given_by : ℕ → ℕ
      given_by = λ x. outcome (stepping op) 32 (not signed) (held elem (old x)) 1

      moved : (x : ℕ) → w x ≡ given_by x % 2 ^ elem.bits
      moved x =
          ap (λ (e : Elem). updated (step_op op) e (promoted e) (old x) 1) is_elem
          ∙ updated_is (step_op op) (stepping op) elem (promoted elem) (old x) 1 (step_assigns op) (ap (λ (e : Elem). e.bits == 1) (sym is_elem) ∙ no_truth) (promoted_wide elem) (operation_below (stepping op) signed (held elem (old x)) 1 (step_known op) (held_below elem (old x)) (omega arith))

      means : (v : Value) × (meant g fields (T.Step' ty op order p target) st ≡ Gives v u)
      means = step_means fields.scope fields.active set ty op order p target b.to.x st (ap (λ (y : ValueType). y.shape) same ∙ b.to.shape) (b.to.means fields.scope fields.active st)

      Q : Out → Draft → Type 0
      Q out e = ((meant g fields (T.Step' ty op order p target) st ≡ Gives means.0 u) × Leaves g alive d e s u) ⊎ Ended g s (meant g fields (T.Step' ty op order p target) st)

  -- an update leaves what it leaves in the source
  pub updates_leave : (e : TExpr) → IsUpdate e → HasItsCode g.typed g.instance alive n e → (d : Draft) (s : CodeState) (st : State) → Starts g alive s (length d.code) d.regs (length d.fields) → Sim g alive st s → UpdateLeaves g alive fields e d s st
  unfolding IsUpdate NamesVariables NamesAmong
  updates_leave (T.Assign' ty place op p target q value) (set, is) c d s st here sim =
      where_assigned g has alive n ready places fields ty place op p q target value set is.0 is.2 is.1 c d s st here sim (λ b code. assigns ty place op p q target value set is.0 is.2 is.3 code d s st b)
  updates_leave (T.Step' ty op order p target) (set, is) c d s st here sim =
      let to = targets g.typed g.instance alive n set target is.1 c.code.names c.among in
      where_found g has alive n ready places fields (T.Step' ty op order p target) target set (λ dest after. variable_stepped (layout g) (type_of target).elem op dest after) d s st to c (step_code ty op order p target set is.0 is.2 d to) here sim (λ b. steps ty op order p target set is.0 is.2 d s st b)
  updates_leave _ is c d s st here sim = absurd is
