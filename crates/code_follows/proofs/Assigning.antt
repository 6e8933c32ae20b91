-- The code of assignments to scalar variables, and of steps.
use Rattle.std.specs.List.{All}
use Rattle.std.proofs.Common.{◌≡◌, ◌∙◌, ℕ, ◌+◌, ◌<◌, ◌^◌, ◌&&◌, Bool, true, not, inl, inr, length-append, Vec, Global, length, slice_index, Option, Some, None, refl, sym, ap, subst, if◌then◌else◌, arith}
use Rattle.std.specs.Prelude.{IfSome, is_none, ◌||◌, ◌==◌}
use Rattle.cstar_base.specs.declared.elem.Elem.{Elem}
use Rattle.cstar_base.specs.declared.operators.Op.{Op}
use Rattle.cstar_base.specs.declared.operators.Place.{Place}
use Rattle.cstar_base.specs.Operators.{divides}
use Rattle.cstar_tree.specs.declared.syntax.AssignOp.{AssignOp}
use Rattle.cstar_tree.specs.declared.syntax.AssignOp.TheVariants as A
use Rattle.cstar_tree.specs.declared.syntax.StepOp.{StepOp}
use Rattle.cstar_tree.specs.declared.syntax.StepOp.TheVariants as Sp
use Rattle.cstar_tree.specs.declared.typed.StepOrder.{StepOrder}
use Rattle.cstar_tree.specs.declared.typed.Piece.{Piece}
use Rattle.cstar_tree.specs.declared.typed.Instance.{Instance}
use Rattle.cstar_tree.specs.declared.typed.TExpr.{TExpr, items-the_row-TExpr}
use Rattle.cstar_tree.specs.declared.typed.TExpr as T
use Rattle.cstar_tree.specs.declared.typed.ValueType.{ValueType}
use Rattle.cstar_tree.specs.declared.typed.VarInfo.{VarInfo}
use Rattle.cstar_tree.specs.declared.typed.Variable.{Variable}
use Rattle.cstar_tree.specs.declared.typed.Variable.TheVariants as V
use Rattle.code_lengths.specs.Growth.{GrowsOr}
use Rattle.code_lengths.specs.Lowerable.{Calls, IsLowerable}
use Rattle.code_lengths.proofs.Drafting.{fresh_grows}
use Rattle.cstar_tree.specs.Typed.{type_of}
use Rattle.code_lengths.specs.Naming.{HasVariable, NamesVariables, plain}
use Rattle.cstar_tree.specs.StatementTypes.{variable_info}
use Rattle.code_lengths.specs.Ready.{HasCode, HaveCode, IsReadyButForFields}
use Rattle.lower_base.specs.declared.emit.Out.{Out}
use Rattle.lower_base.specs.declared.emit.Out.TheVariants as O
use Rattle.lower_base.specs.Constants.{word_in}
use Rattle.lower_base.specs.Drafts.{Draft, Fails, Made, Makes, a_register, fresh_for, in_register, then_make, with_instr}
use Rattle.lower_base.specs.Layouts.{register_of}
use Rattle.lower_base.specs.Operators.{assign_op_of, is_signed, machine_of, operation_of}
use Rattle.lower_expr.specs.declared.operands.Own.{Own}
use Rattle.lower_expr.specs.Effects.{assignment_effect, effect_of, folds, put_to, register_operated, step_effect, variable_assigned, variable_operated, variable_stepped, with_settled, writes_itself, written_register}
use Rattle.lower_expr.specs.Operands.{own_of, are_quiet, standing}
use Rattle.lower_expr.specs.Steps.{assigned_signed, is_kept, on_registers, operated as operated_in, with_register_check}
use Rattle.lower_expr.specs.Values.{Code, call_to, next_of, step_operation, value_of, values_of}
use Rattle.paris_code.specs.declared.instr.Instr.TheVariants as I
use Rattle.paris_code.specs.Code.{CodeState}
use Rattle.source_meaning.specs.Expressions.{evaluated}
use Rattle.source_meaning.specs.Reductions.{promoted, working_type}
use Rattle.source_meaning.specs.State as Source
use Rattle.source_meaning.specs.State.{Outcome, State, then_do, with_scalar}
use Rattle.source_meaning.specs.Targets.{OfScalar, assigned, stepped, step_value}
use Rattle.source_meaning.specs.Values.{Active, Scalar, Scope, Value, number}
use Rattle.source_meaning.proofs.ConstantLaws.{Boxed}
use Rattle.code_follows.specs.Fragment.{AreIn, IsBeside, IsEffect, IsGiven, IsIn, IsPosition, IsWord, Takes, elems_of, naming}
use Rattle.code_follows.proofs.Changing.{no_place, only_set, operated_set_is, scalar_type, set_is, stepped_is, stepping, variable_holds}
use Rattle.code_follows.proofs.CallValues.{call_code}
use Rattle.code_follows.proofs.Expressions.{arguments_do, assign_names, brackets_code, operand, step_names, value_follows}
use Rattle.code_follows.proofs.Growing.{Extended, extended, from_growth}
use Rattle.code_follows.proofs.Printing.{printf_code, printf_follows}
use Rattle.code_follows.proofs.Arguments.{AreDone}
use Rattle.code_follows.proofs.Callees.{CallsFollow, MayCall, TakesThese}
use Rattle.code_follows.proofs.Passing.{call_follows, call_runs}
use Rattle.code_follows.proofs.Following.{Arrives, Extends, Follows, HasRegisters, IsScalar, Ran, Sim, follows_other, follows_same, keeps_all, keeps_less, then_follows, then_silent}
use Rattle.code_follows.proofs.Putting.{Put, put_follows}
use Rattle.code_follows.proofs.Settings.{At, Begun, Setting, layout, stay, begun_later}
use Rattle.code_follows.proofs.Standing.{some_same}
use Rattle.code_follows.proofs.Targets.{TargetIs, assign_means, step_means, target_type, variable_in}
use Rattle.code_follows.proofs.Values.{Does, and_register, fresh_dest, with_reg, Value_of, HasWord, extends_in_register, word_follows}
use Rattle.code_follows.proofs.Words.{below_word, held_wide, kept, scalar_of}
use Rattle.code_follows.proofs.Numbers.{takes_fits, takes_same}
use Rattle.code_follows.proofs.Settling.{extends_settled, settled, settles}
use Rattle.code_follows.proofs.Effects.{promoted_wide, working_wide}
use Rattle.code_follows.proofs.Given.{given_set, given_word}
use Rattle.cstar_base.specs.Numbers.{converted}

module _ (g : Setting) (has : HasRegisters g) (alive : Variable → Type 0) (n : ℕ) (files : (k : ℕ) → alive (V.File k)) (ready : (d : Draft) → IsReadyButForFields g.typed g.instance (layout g) n d) (scope : Scope) (active : Active) (calls_follow : CallsFollow g scope active)
    (x : Variable) (info : VarInfo) (living : alive x) (scalar : IsScalar g x info) where
  abbrev own : ℕ
  own = register_of (layout g) x

  -- what a part does, whatever it gives
  abbrev Does_so : (State → Outcome Value) → (Draft → Made Out) → Type 0
  Does_so part code = (d : Draft) (s : CodeState) (st : State) → Begun g alive d → At g s (length d.code) → Sim g alive st s → Follows g (λ v u out e. Ran g alive d s u e) s (part st) (code d)

  -- without an operator the value is put in the variable
  set_follows : (place : Place) (ty : ValueType) (value : TExpr) → ty.shape ≡ None → Takes info.elem (type_of value).elem → (IsIn (naming g.may alive)) value → HasCode g.typed g.instance n value
      → Does_so (λ st. then_do (evaluated scope value active st) (λ v after. assigned scope active place A.Set ty (type_of value) (OfScalar x) v after)) (λ d. put_to g.typed (layout g) (O.Scalar own) value d)
  unfolding Follows
  set_follows place ty value plain takes isin c d s st free here sim =
      then_silent g (Put g has alive n files ready scope active calls_follow x info living scalar (type_of value).elem d s) (λ v u out e. Ran g alive d s u e) s (evaluated scope value active st) _ (put_to g.typed (layout g) (O.Scalar own) value d)
      (put_follows g has alive n files ready scope active calls_follow x info living scalar value isin c (takes_fits info.elem (type_of value).elem takes) d s st free here sim) (λ v u out e p.
      subst (λ (r : Outcome Value). Follows g (λ v u out e. Ran g alive d s u e) s r (Makes out e))
      (sym (ap (λ (w : Value). assigned scope active place A.Set ty (type_of value) (OfScalar x) w u) p.value ∙ set_is scope active place (OfScalar x) ty (type_of value) p.word u (u.scalar x) (λ n after. with_scalar x n after) (variable_holds scope active ty.elem x u) plain (scalar_of (naming g.may alive) value isin)))
      (λ within. record { grown = p.grown; t = p.t; go = p.go; at = p.at; sim = subst (λ (w : ℕ). Sim g alive (with_scalar x w u) p.t) (takes_same info.elem (type_of value).elem p.word takes p.small) p.sim; keeps = p.keeps }))

  -- with one, the operation writes the variable
  module _ (place : Place) (op : AssignOp) (o : Op) (value : TExpr) (long : IsWord (type_of value)) (isin : (IsIn (naming g.may alive)) value) (c : HasCode g.typed g.instance n value) (is : assign_op_of op ≡ Some o) where
    abbrev signed : Bool
    signed = assigned_signed o info.elem (type_of value).elem

    abbrev at_type : Elem
    at_type = working_type op info.elem (type_of value).elem

    at_wide : at_type.bits ≡ 32
    at_wide = working_wide op info.elem (type_of value).elem long.1

    abbrev behind_value : ℕ → Draft → Made Out
    behind_value b between = settled g has alive scope active x info living scalar at_type at_wide place o signed b between

    with_value : (d : Draft) (s : CodeState) (v : Value) (u : State) (out : Out) (e : Draft) → Begun g alive d → Arrives g alive (type_of value).elem true d s v u out e
        → Follows g (λ v u out e. Ran g alive d s u e) s (assigned scope active place op (scalar_type info.elem) (type_of value) (OfScalar x) v u) (in_register out (λ b. behind_value b e))
    unfolding in_register
    with_value d s v u out e free arr =
        let small : arr.holds.word < 2 ^ 32 = below_word (type_of value).elem.bits arr.holds.word long.1 arr.holds.small in
        let is_b : slice_index arr.t.registers arr.holds.register ≡ arr.holds.word = arr.holds.lasts u arr.t arr.sim (keeps_all g e arr.t) (λ h. refl) ∙ held_wide (type_of value).elem arr.holds.word long.1 small in
        subst (λ (o' : Out). Follows g (λ v u out e. Ran g alive d s u e) s (assigned scope active place op (scalar_type info.elem) (type_of value) (OfScalar x) v u) (in_register o' (λ b. behind_value b e))) (sym arr.holds.is)
        (subst (λ (r : Outcome Value). Follows g (λ v u out e. Ran g alive d s u e) s r (behind_value arr.holds.register e))
        (sym (ap (λ (w : Value). assigned scope active place op (scalar_type info.elem) (type_of value) (OfScalar x) w u) arr.holds.value ∙ operated_set_is g has alive scope active info.elem (OfScalar x) u (u.scalar x) (λ n after. with_scalar x n after) (variable_holds scope active info.elem x u) place op o (type_of value) arr.holds.word long is))
        (settles g has alive scope active x info living scalar at_type at_wide place o signed (λ v. Scalar (converted info.elem at_type (number v))) d e arr.extended.0 s arr.t u arr.holds.register arr.holds.word free arr.extended.1 arr.go arr.keeps arr.at arr.sim is_b small))

    pub operated_set_follows : Does_so (λ st. then_do (evaluated scope value active st) (λ v after. assigned scope active place op (scalar_type info.elem) (type_of value) (OfScalar x) v after)) (λ d. register_operated g.typed (layout g) o signed place info.elem own value d)
    unfolding register_operated
    operated_set_follows d s st free here sim =
        then_follows g (Value_of g has alive (type_of value).elem true d s) (λ v u out e. Ran g alive d s u e) s s (evaluated scope value active st) _ (next_of g.typed (layout g) 32 true value d) (λ v between. in_register v (λ b. behind_value b between)) (stay g s)
        (operand g has alive n files ready scope active calls_follow true 32 value isin c d s st free here sim) (λ v e. extends_in_register g has alive e v _ (λ b. extends_settled g has alive scope active x info living scalar at_type at_wide place o signed b e)) (λ v u out e arr. with_value d s v u out e free arr)

  -- ---- steps

  module _ (place : Place) (op : StepOp) where
    abbrev sign : Bool
    sign = assigned_signed (stepping op) info.elem (promoted info.elem)

    abbrev behind_one : ℕ → Draft → Made Out
    behind_one b between = then_make (written_register info.elem own between) (λ written after. Makes (O.Scalar own) (with_settled info.elem written own (with_instr (I.FrontOperate (step_operation op) written own b) after)))

    abbrev behind_one_so : ℕ → Draft → Made Out
    behind_one_so b between = settled g has alive scope active x info living scalar (promoted info.elem) (promoted_wide info.elem) place (stepping op) sign b between

    stepped_so : (b : ℕ) (between : Draft) → behind_one b between ≡ behind_one_so b between
    unfolding step_operation operated_in on_registers machine_of operation_of with_register_check divides
    stepped_so b between = by op sign
      where
        by : (op : StepOp) (is_signed : Bool) → then_make (written_register info.elem own between) (λ written after. Makes (O.Scalar own) (with_settled info.elem written own (with_instr (I.FrontOperate (step_operation op) written own b) after)))
            ≡ then_make (written_register info.elem own between) (λ written after. Makes (O.Scalar own) (with_settled info.elem written own (operated_in (stepping op) is_signed place written own b after)))
        by Sp.Increment is_signed = refl
        by Sp.Decrement is_signed = refl

    with_one : (order : StepOrder) (d : Draft) (s : CodeState) (st : State) (q : ℕ) (e : Draft) → Begun g alive d → HasWord g has alive 1 d e s st q
        → Follows g (λ v u out e. Ran g alive d s u e) s (stepped scope active op order (scalar_type info.elem) (OfScalar x) st) (behind_one q e)
    with_one order d s st q e free h =
        subst (λ (made : Made Out). Follows g (λ v u out e. Ran g alive d s u e) s (stepped scope active op order (scalar_type info.elem) (OfScalar x) st) made) (sym (stepped_so q e))
        (subst (λ (r : Outcome Value). Follows g (λ v u out e. Ran g alive d s u e) s r (behind_one_so q e)) (sym (stepped_is g has alive scope active info.elem (OfScalar x) st (st.scalar x) (λ n after. with_scalar x n after) (variable_holds scope active info.elem x st) place op order))
        (settles g has alive scope active x info living scalar (promoted info.elem) (promoted_wide info.elem) place (stepping op) sign (λ v. step_value order (Scalar (st.scalar x)) (Scalar (converted info.elem (promoted info.elem) (number v))))
        d e h.grown.0 s h.t st q 1 free h.grown.1 h.go h.keeps h.at h.sim h.is (omega arith)))

    extends_one : (q : ℕ) (e : Draft) → Extends g e (behind_one q e)
    extends_one q e = subst (λ (made : Made Out). Extends g e made) (sym (stepped_so q e)) (extends_settled g has alive scope active x info living scalar (promoted info.elem) (promoted_wide info.elem) place (stepping op) sign q e)

    pub stepped_follows : (order : StepOrder) → Does_so (λ st. stepped scope active op order (scalar_type info.elem) (OfScalar x) st) (λ d. variable_stepped (layout g) info.elem op (O.Scalar own) d)
    unfolding variable_stepped then_do
    stepped_follows order d s st free here sim =
        then_follows g (λ (u : Unit {0}) after q e. (after ≡ st) × HasWord g has alive 1 d e s st q) (λ v u out e. Ran g alive d s u e) s s (Source.Gives tt st) (λ u after. stepped scope active op order (scalar_type info.elem) (OfScalar x) st) (word_in (layout g) 1 d) (λ q e. behind_one q e) (stay g s)
        (word_follows g has alive 1 d s st free here sim) (λ q e. extends_one q e) (λ u after q e h. with_one order d s st q e free h.1)

-- ---- effects as they stand in the tree

module _ (g : Setting) (has : HasRegisters g) (alive : Variable → Type 0) (n : ℕ) (files : (k : ℕ) → alive (V.File k)) (ready : (d : Draft) → IsReadyButForFields g.typed g.instance (layout g) n d) (scope : Scope) (active : Active) (calls_follow : CallsFollow g scope active) where
  abbrev pub Runs : (State → Outcome Value) → (Draft → Made Out) → Type 0
  Runs part code = (d : Draft) (s : CodeState) (st : State) → Begun g alive d → At g s (length d.code) → Sim g alive st s → Follows g (λ v u out e. Ran g alive d s u e) s (part st) (code d)

  -- the target, where it is written so
  abbrev chosen : Variable → Bool → Option Own
  chosen x b = if b then Some (record { shape = None; variable = x }) else None

  module _ (target : TExpr) (v : TargetIs g alive n target) where
    abbrev target_register : ℕ
    target_register = register_of (layout g) v.variable

    -- an assignment to a scalar variable writes it itself, and so does a step
    writes_it : (op : AssignOp) (place : Place) (value : TExpr) (whole : Code) (d : Draft) → is_kept value ≡ true → assignment_effect g.typed (layout g) op place target value whole d ≡ variable_assigned g.typed (layout g) op place target value (O.Scalar target_register) d
    unfolding assignment_effect writes_itself folds standing then_make
    writes_it op place value whole d is =
        ap (λ (o : Option Own). written (elim o as (λ _. Option Own) [ Some own ↦ if writes_itself own op (type_of target).elem value then Some own else None | None ↦ None ])) (v.own 1)
        ∙ ap (λ (k : Bool). written (chosen v.variable (not (true && not k) && (elim (assign_op_of op) as (λ _. Bool) [ None ↦ true | Some o ↦ true ])))) is ∙ by (assign_op_of op)
      where
        written : Option Own → Made Out
        written o = elim o as (λ _. Made Out) [
          | Some own ↦ then_make (standing g.typed (layout g) (type_of target).elem.bits own d) (λ dest after. variable_assigned g.typed (layout g) op place target value dest after)
          | None ↦ whole d
        ]

        by : (m : Option Op) → written (chosen v.variable (not (true && not true) && (elim m as (λ _. Bool) [ None ↦ true | Some o ↦ true ]))) ≡ variable_assigned g.typed (layout g) op place target value (O.Scalar target_register) d
        by None = refl
        by (Some o) = refl

    steps_it : (op : StepOp) (whole : Code) (d : Draft) → step_effect g.typed (layout g) op target whole d ≡ variable_stepped (layout g) (type_of target).elem op (O.Scalar target_register) d
    unfolding step_effect standing then_make
    steps_it op whole d = ap (λ (o : Option Own). written (elim o as (λ _. Option Own) [ Some own ↦ if is_none own.shape || not ((type_of target).elem.bits == 1) then Some own else None | None ↦ None ])) (v.own 1)
      where
        written : Option Own → Made Out
        written o = elim o as (λ _. Made Out) [
          | Some own ↦ then_make (standing g.typed (layout g) (type_of target).elem.bits own d) (λ dest after. variable_stepped (layout g) (type_of target).elem op dest after)
          | None ↦ whole d
        ]

    -- what the register of the variable takes
    assigns : (place : Place) (op : AssignOp) (value : TExpr) → NamesVariables g.typed g.instance n target → IsGiven op (type_of target) (type_of value) → (IsIn (naming g.may alive)) value → HasCode g.typed g.instance n value
        → Runs (λ st. then_do (evaluated scope value active st) (λ u after. assigned scope active place op (scalar_type (type_of target).elem) (type_of value) (OfScalar v.variable) u after)) (λ d. variable_assigned g.typed (layout g) op place target value (O.Scalar target_register) d)
    unfolding variable_operated
    assigns place op value names given isin c d s st free here sim = by op its (assign_op_of op) refl
      where
        w : HasVariable g.typed g.instance n v.variable (plain (type_of target))
        w = v.named names

        info : VarInfo
        info = variable_info w.word (plain (type_of target)) w.start

        its : IsGiven op (scalar_type (type_of target).elem) (type_of value)
        its = subst (λ (t : ValueType). IsGiven op t (type_of value)) (target_type g alive n target v) given

        by : (op : AssignOp) → IsGiven op (scalar_type (type_of target).elem) (type_of value) → (m : Option Op) → assign_op_of op ≡ m
            → Follows g (λ v u out e. Ran g alive d s u e) s (then_do (evaluated scope value active st) (λ u after. assigned scope active place op (scalar_type (type_of target).elem) (type_of value) (OfScalar v.variable) u after))
            (elim m as (λ _. Made Out) [ None ↦ put_to g.typed (layout g) (O.Scalar target_register) value d | Some o ↦ variable_operated g.typed (layout g) o place target value (O.Scalar target_register) d ])
        by op its (Some o) is =
            operated_set_follows g has alive n files ready scope active calls_follow v.variable info v.living (w.named, v.scalar) place op o value (given_word op o (scalar_type (type_of target).elem) (type_of value) is its) isin c is d s st free here sim
        by op its None is =
            subst (λ (q : AssignOp). Follows g (λ v u out e. Ran g alive d s u e) s (then_do (evaluated scope value active st) (λ u after. assigned scope active place q (scalar_type (type_of target).elem) (type_of value) (OfScalar v.variable) u after)) (put_to g.typed (layout g) (O.Scalar target_register) value d))
            (sym (only_set op is)) (set_follows g has alive n files ready scope active calls_follow v.variable info v.living (w.named, v.scalar) place (scalar_type (type_of target).elem) value refl (given_set op (scalar_type (type_of target).elem) (type_of value) is its) isin c d s st free here sim)

    -- what both do as they stand in the tree
    assign_runs : (ty : ValueType) (place : Place) (op : AssignOp) (p q : Boxed) (value : TExpr) → NamesVariables g.typed g.instance n target → ty ≡ type_of target → IsGiven op (type_of target) (type_of value) → (IsIn (naming g.may alive)) value → HasCode g.typed g.instance n value
        → Runs (λ st. evaluated scope (T.Assign' ty place op p target q value) active st) (λ d. effect_of g.typed (layout g) (T.Assign' ty place op p target q value) d)
    unfolding effect_of
    assign_runs ty place op p q value names same given isin c d s st free here sim =
        let whole : Code = λ e. value_of g.typed (layout g) ty.elem.bits (T.Assign' ty place op p target q value) e in
        follows_same g (λ v u out e. Ran g alive d s u e) s (assign_means g alive n target v ty place op p q value same scope active st) (writes_it op place value whole d (kept (naming g.may alive) value isin))
        (assigns place op value names given isin c d s st free here sim)

    step_runs : (ty : ValueType) (op : StepOp) (order : StepOrder) (p : Boxed) → NamesVariables g.typed g.instance n target → ty ≡ type_of target
        → Runs (λ st. evaluated scope (T.Step' ty op order p target) active st) (λ d. effect_of g.typed (layout g) (T.Step' ty op order p target) d)
    unfolding effect_of
    step_runs ty op order p names same d s st free here sim =
        let w = v.named names in
        let whole : Code = λ e. value_of g.typed (layout g) ty.elem.bits (T.Step' ty op order p target) e in
        follows_same g (λ v u out e. Ran g alive d s u e) s (step_means g alive n target v ty op order p same scope active st) (steps_it op whole d)
        (stepped_follows g has alive n files ready scope active calls_follow v.variable (variable_info w.word (plain (type_of target)) w.start) v.living (w.named, v.scalar) no_place op order d s st free here sim)

  -- what has a value does the same where it is not used
  valued_runs : (elem : Elem) (part : State → Outcome Value) (code : Draft → Made Out) → Does g has alive elem true part code → Runs part code
  valued_runs elem part code does d s st free here sim =
      follows_other g (Value_of g has alive elem true d s) (λ v u out e. Ran g alive d s u e) s (part st) (code d) (does d s st free here sim) (λ v u out f arr. record { grown = arr.extended; t = arr.t; go = arr.go; at = arr.at; sim = arr.sim; keeps = arr.keeps })

  -- an expression of the fragment by its value
  pure_follows : (e : TExpr) → (IsIn (naming g.may alive)) e → HasCode g.typed g.instance n e → Runs (λ st. evaluated scope e active st) (λ d. value_of g.typed (layout g) (type_of e).elem.bits e d)
  pure_follows e isin c = valued_runs (type_of e).elem _ _ (value_follows g has alive n files ready scope active calls_follow true (type_of e).elem.bits e isin c)

  printf_runs : (ty : ValueType) (pieces : Vec Piece Global) (p : Vec (Unit {0}) Global) (arguments : _) → (AreIn (naming g.may alive)) arguments → All (λ (elem : Elem). elem.bits ≡ 32) (elems_of arguments) → HaveCode g.typed g.instance n arguments
      → Runs (λ st. evaluated scope (T.Printf' ty pieces p arguments) active st) (λ d. effect_of g.typed (layout g) (T.Printf' ty pieces p arguments) d)
  unfolding evaluated effect_of value_of
  printf_runs ty pieces p arguments h wide c = printf_follows g has alive n files ready scope active calls_follow pieces.items arguments h wide c

  -- a call whose value is not used
  call_effect : (ty : ValueType) (index : ℕ) (p : Vec (Unit {0}) Global) (row : _) → g.may.calls None index (elems_of row) → (AreIn (naming g.may alive)) row → HasCode g.typed g.instance n (T.Call' ty index p row) → Runs (λ st. evaluated scope (T.Call' ty index p row) active st) (λ d. effect_of g.typed (layout g) (T.Call' ty index p row) d)
  unfolding evaluated effect_of value_of IsLowerable fresh_for a_register then_make GrowsOr
  call_effect ty index p row may isin c d s st free here sim = by m.callee.callee.result refl
    where
      known : TakesThese g active index (elems_of row)
      known = calls_follow.effect index (elems_of row) may

      m : MayCall g active index
      m = known.0

      done : AreDone g has alive scope active true (are_quiet row) row
      done = arguments_do g has alive n files ready scope active calls_follow true (are_quiet row) row isin (call_code g has alive n files ready scope active calls_follow ty index p row c)

      code : Out → Draft → Made Out
      code dest begun = call_to g.typed (layout g) index (values_of g.typed (layout g) true (are_quiet row) row) dest begun

      -- where the value goes
      behind_fresh : (P : Out → Type 0) (made : Made Out) → m.callee.callee.result ≡ None → GrowsOr ⊥ d 0 P made → Follows g (λ v u out e. Ran g alive d s u e) s (evaluated scope (T.Call' ty index p row) active st) (then_make made (λ dest begun. code dest begun))
      behind_fresh P Fails is grows = absurd grows
      behind_fresh P (Makes dest begun) is grows =
          let x : Extended d 0 begun = from_growth d begun 0 grows.1 in
          let regs = x.regs in
          let same : length begun.code ≡ length d.code = let more = length-append d.code x.more in let none = x.long in omega (arith, ap length x.code, more, none) in
          follows_other g (λ v u out e. Ran g alive begun s u e) (λ v u out e. Ran g alive d s u e) s (evaluated scope (T.Call' ty index p row) active st) (code dest begun)
          (call_runs g has alive files scope active calls_follow m row done known.1 is dest begun s st (begun_later g alive d begun 0 x free) (let there = here in omega (arith, there, same)) sim)
          (λ v u out e r. record { grown = (0 + r.grown.0, extended d begun e 0 r.grown.0 x r.grown.1); t = r.t; go = r.go; at = r.at; sim = r.sim; keeps = keeps_less g d begun s r.t regs r.keeps })

      no_shape : (info : VarInfo) → m.callee.callee.result ≡ Some info → ty.shape ≡ None
      no_shape info is =
          let found : Calls g.typed index ty (items-the_row-TExpr _ row) = c.lowerable.0 in
          let shaped : IfSome m.callee.callee.result (λ (info : VarInfo). info.shape ≡ ty.shape) = subst (λ (i : Instance). IfSome i.result (λ (info : VarInfo). info.shape ≡ ty.shape)) (some_same found.callee m.callee.callee (sym found.found ∙ m.callee.is)) found.result in
          let of_info : info.shape ≡ ty.shape = subst (λ (o : Option VarInfo). IfSome o (λ (info : VarInfo). info.shape ≡ ty.shape)) is shaped in
          sym of_info ∙ m.callee.result info is

      by : (o : Option VarInfo) → m.callee.callee.result ≡ o → Follows g (λ v u out e. Ran g alive d s u e) s (evaluated scope (T.Call' ty index p row) active st) (then_make (fresh_for ty.shape ty.elem.bits d) (λ dest begun. code dest begun))
      by None is = behind_fresh _ (fresh_for ty.shape ty.elem.bits d) is (fresh_grows ⊥ ty.shape ty.elem.bits d)
      by (Some info) is =
          subst (λ (o : Option ℕ). Follows g (λ v u out e. Ran g alive d s u e) s (evaluated scope (T.Call' ty index p row) active st) (then_make (fresh_for o ty.elem.bits d) (λ dest begun. code dest begun))) (sym (no_shape info is))
          (follows_other g (Value_of g has alive info.elem true d s) (λ v u out e. Ran g alive d s u e) s (evaluated scope (T.Call' ty index p row) active st) (code (O.Scalar d.regs) (with_reg d))
          (call_follows g has alive files scope active calls_follow m row done known.1 info is info.elem (inl refl) (with_reg d) s st (Value_of g has alive info.elem true d s) d.regs (begun_later g alive d (with_reg d) 0 (and_register d) free) here sim (fresh_dest g has alive info.elem true d s free))
          (λ v u out f arr. record { grown = arr.extended; t = arr.t; go = arr.go; at = arr.at; sim = arr.sim; keeps = arr.keeps }))

  -- an assignment to a single position, and a step of one
  store_runs : (ty : ValueType) (place : Place) (op : AssignOp) (p q : Boxed) (target value : TExpr) → IsPosition (naming g.may alive) target → IsIn (naming g.may alive) (T.Assign' ty place op p target q value) → HasCode g.typed g.instance n (T.Assign' ty place op p target q value)
      → Runs (λ st. evaluated scope (T.Assign' ty place op p target q value) active st) (λ d. effect_of g.typed (layout g) (T.Assign' ty place op p target q value) d)
  unfolding IsPosition effect_of assignment_effect own_of
  store_runs ty place op p q (T.LeftIndex' left at r indexes x of) value h isin c = pure_follows (T.Assign' ty place op p (T.LeftIndex' left at r indexes x of) q value) isin c
  store_runs ty place op p q _ value h isin c = absurd h

  position_steps : (ty : ValueType) (op : StepOp) (order : StepOrder) (p : Boxed) (target : TExpr) → IsPosition (naming g.may alive) target → IsIn (naming g.may alive) (T.Step' ty op order p target) → HasCode g.typed g.instance n (T.Step' ty op order p target)
      → Runs (λ st. evaluated scope (T.Step' ty op order p target) active st) (λ d. effect_of g.typed (layout g) (T.Step' ty op order p target) d)
  unfolding IsPosition effect_of step_effect own_of
  position_steps ty op order p (T.LeftIndex' left at r indexes x of) h isin c = pure_follows (T.Step' ty op order p (T.LeftIndex' left at r indexes x of)) isin c
  position_steps ty op order p _ h isin c = absurd h

  -- what has a value of the fragment
  value_effect : (e : TExpr) → (IsIn (naming g.may alive)) e → HasCode g.typed g.instance n e → Runs (λ st. evaluated scope e active st) (λ d. effect_of g.typed (layout g) e d)
  unfolding effect_of evaluated IsIn
  value_effect (T.Assign' ty place op p target q value) (scalar, same, inl to, isin, given) c =
      let names = assign_names g has alive n files ready scope active calls_follow ty place op p q target value c in
      assign_runs target (variable_in g alive n target to) ty place op p q value names.0 same given isin names.1
  value_effect (T.Assign' ty place op p target q value) (scalar, same, inr to, isin, given) c = store_runs ty place op p q target value to (scalar, same, inr to, isin, given) c
  value_effect (T.Step' ty op order p target) (scalar, same, inl to) c = step_runs target (variable_in g alive n target to) ty op order p (step_names g has alive n files ready scope active calls_follow ty op order p target c) same
  value_effect (T.Step' ty op order p target) (scalar, same, inr to) c = position_steps ty op order p target to (scalar, same, inr to) c
  value_effect (T.Brackets' ty p inner) h c = value_effect inner h.1 (brackets_code g has alive n files ready scope active calls_follow ty p inner c)
  value_effect (T.Number ty value) h c = pure_follows (T.Number ty value) h c
  value_effect (T.PositionsOf ty shape value) h c = pure_follows (T.PositionsOf ty shape value) h c
  value_effect (T.RankOf ty shape value) h c = pure_follows (T.RankOf ty shape value) h c
  value_effect (T.DimOf ty shape axis value) h c = pure_follows (T.DimOf ty shape axis value) h c
  value_effect (T.Variable ty x) h c = pure_follows (T.Variable ty x) h c
  value_effect (T.GetChar ty) h c = pure_follows (T.GetChar ty) h c
  value_effect (T.Casts' ty elems p operand) h c = pure_follows (T.Casts' ty elems p operand) h c
  value_effect (T.Convert' ty p operand) h c = pure_follows (T.Convert' ty p operand) h c
  value_effect (T.Unary' ty op p operand) h c = pure_follows (T.Unary' ty op p operand) h c
  value_effect (T.Binary' ty place op p left q right) h c = pure_follows (T.Binary' ty place op p left q right) h c
  value_effect (T.LogicalOr' ty p left q right) h c = pure_follows (T.LogicalOr' ty p left q right) h c
  value_effect (T.LogicalAnd' ty p left q right) h c = pure_follows (T.LogicalAnd' ty p left q right) h c
  value_effect (T.Choice' ty p test q first r second) h c = pure_follows (T.Choice' ty p test q first r second) h c
  value_effect (T.Call' ty index p arguments) h c = pure_follows (T.Call' ty index p arguments) h c
  value_effect (T.Reduce' ty op p operand) h c = pure_follows (T.Reduce' ty op p operand) h c
  value_effect (T.LeftIndex' ty place p indexes x of) h c = pure_follows (T.LeftIndex' ty place p indexes x of) h c
  value_effect _ h c = absurd h

  -- a parallel one
  beside : (e : TExpr) → IsBeside (naming g.may alive) e → HasCode g.typed g.instance n e → Runs (λ st. evaluated scope e active st) (λ d. effect_of g.typed (layout g) e d)
  beside e may c d s st free here sim = (calls_follow.beside has).effects alive files n ready e may.0 may.1 c d s st free here sim

  pub effect_follows : (e : TExpr) → (IsEffect (naming g.may alive)) e → HasCode g.typed g.instance n e → Runs (λ st. evaluated scope e active st) (λ d. effect_of g.typed (layout g) e d)
  unfolding IsEffect IsIn effect_of evaluated
  effect_follows (T.Printf' ty pieces p arguments) h c = printf_runs ty pieces p arguments h.0 h.1 (printf_code g has alive n files ready scope active calls_follow ty pieces p arguments c)
  effect_follows (T.Call' ty index p arguments) h c = call_effect ty index p arguments h.0 h.1 c
  effect_follows (T.Number ty value) h c = value_effect (T.Number ty value) h c
  effect_follows (T.PositionsOf ty shape value) h c = value_effect (T.PositionsOf ty shape value) h c
  effect_follows (T.RankOf ty shape value) h c = value_effect (T.RankOf ty shape value) h c
  effect_follows (T.DimOf ty shape axis value) h c = value_effect (T.DimOf ty shape axis value) h c
  effect_follows (T.Variable ty x) h c = value_effect (T.Variable ty x) h c
  effect_follows (T.GetChar ty) h c = value_effect (T.GetChar ty) h c
  effect_follows (T.Brackets' ty p inner) h c = effect_follows inner h (brackets_code g has alive n files ready scope active calls_follow ty p inner c)
  effect_follows (T.Convert' ty p operand) h c = value_effect (T.Convert' ty p operand) h c
  effect_follows (T.Casts' ty elems p operand) h c = value_effect (T.Casts' ty elems p operand) h c
  effect_follows (T.Unary' ty op p operand) h c = value_effect (T.Unary' ty op p operand) h c
  effect_follows (T.Binary' ty place op p left q right) h c = value_effect (T.Binary' ty place op p left q right) h c
  effect_follows (T.LogicalOr' ty p left q right) h c = value_effect (T.LogicalOr' ty p left q right) h c
  effect_follows (T.LogicalAnd' ty p left q right) h c = value_effect (T.LogicalAnd' ty p left q right) h c
  effect_follows (T.Choice' ty p test q first r second) h c = value_effect (T.Choice' ty p test q first r second) h c
  effect_follows (T.Assign' ty place op p target q value) (inl h) c = value_effect (T.Assign' ty place op p target q value) h c
  effect_follows (T.Assign' ty place op p target q value) (inr h) c = beside (T.Assign' ty place op p target q value) h c
  effect_follows (T.Step' ty op order p target) (inl h) c = value_effect (T.Step' ty op order p target) h c
  effect_follows (T.Step' ty op order p target) (inr h) c = beside (T.Step' ty op order p target) h c
  effect_follows (T.Reduce' ty op p operand) h c = value_effect (T.Reduce' ty op p operand) h c
  effect_follows (T.LeftIndex' ty place p indexes x of) h c = value_effect (T.LeftIndex' ty place p indexes x of) h c
  effect_follows _ h c = absurd h
