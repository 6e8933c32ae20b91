-- A variable in brackets that is assigned to, or stepped: brackets change neither what the meaning stores in nor
-- the code.
use Rattle.std.proofs.Common.{◌≡◌, ◌∙◌, ℕ, Bool, false, Option, Some, None, refl, sym, ap, subst, if◌then◌else◌}
use Rattle.std.specs.Prelude.{is_none, ◌||◌, nat_le, unwrap_or}
use Rattle.std.proofs.Math.Path.{fun_ext}
use Rattle.cstar_base.specs.declared.operators.Op.{Op}
use Rattle.cstar_base.specs.declared.operators.Place.{Place}
use Rattle.cstar_tree.specs.declared.syntax.AssignOp.{AssignOp}
use Rattle.cstar_tree.specs.declared.syntax.StepOp.{StepOp}
use Rattle.cstar_tree.specs.declared.typed.StepOrder.{StepOrder}
use Rattle.cstar_tree.specs.declared.typed.StepOrder.TheVariants as Or
use Rattle.cstar_tree.specs.declared.typed.TExpr.{TExpr}
use Rattle.cstar_tree.specs.declared.typed.TExpr as T
use Rattle.cstar_tree.specs.declared.typed.ValueType.{ValueType}
use Rattle.cstar_tree.specs.declared.typed.Variable.{Variable}
use Rattle.cstar_tree.specs.Typed.{type_of}
use Rattle.code_lengths.specs.Naming.{HasVariable, NamesVariables, plain}
use Rattle.lower_base.specs.declared.emit.Out.{Out}
use Rattle.lower_base.specs.Drafts.{Draft, Made, Makes, a_register, fresh_for, in_register, then_make}
use Rattle.lower_base.specs.Layouts.{register_of}
use Rattle.lower_base.specs.Operators.{assign_op_of}
use Rattle.lower_expr.specs.declared.spots.Spot.{Spot}
use Rattle.lower_expr.specs.declared.spots.Spot.TheVariants as S
use Rattle.lower_expr.specs.Kinds.{assigned_bits}
use Rattle.lower_expr.specs.Lengths.{bare, is_send, is_sent}
use Rattle.lower_expr.specs.Operands.{own_of}
use Rattle.lower_expr.specs.Spots.{loaded, variable_spot}
use Rattle.lower_expr.specs.Values.{Code, assign_by, assigned_by, lowest, register_folded, register_updated, sent_by, spot_of, spread_by, step_by, stepped_at, stepped_in, taken_bits, updated_by, value_of}
use Rattle.source_meaning.specs.Expressions.{evaluated, located}
use Rattle.source_meaning.specs.State as Source
use Rattle.source_meaning.specs.State.{Outcome, State, then_do}
use Rattle.source_meaning.specs.Targets.{OfScalar, Target, assigned, stepped, variable_target}
use Rattle.source_meaning.specs.Values.{Active, Scope}
use Rattle.source_meaning.proofs.ConstantLaws.{Boxed}
use Rattle.code_follows.specs.Fragment.{IsVariable, naming}
use Rattle.code_follows.proofs.Changing.{plain_type, scalar_type}
use Rattle.code_follows.proofs.Settings.{Setting, layout}

module _ (g : Setting) (alive : Variable → Type 0) (n : ℕ) where
  -- the variable that a target is, with or without brackets
  pub record TargetIs (target : TExpr) : Type 0 where
    pub variable : Variable
    pub living : alive variable
    pub scalar : (type_of target).shape ≡ None
    pub named : NamesVariables g.typed g.instance n target → HasVariable g.typed g.instance n variable (plain (type_of target))
    pub stands : (scope : Scope) (active : Active) (st : State) → located scope target active st ≡ Source.Gives (OfScalar variable) st
    pub sends : is_send target ≡ false
    pub own : (bits : ℕ) → own_of bits target ≡ Some (record { shape = None; variable = variable })
    pub spot : (d : Draft) → spot_of g.typed (layout g) target d ≡ Makes (S.Register (register_of (layout g) variable)) d

  pub variable_in : (target : TExpr) → IsVariable (naming g.may alive) target → TargetIs target
  unfolding IsVariable NamesVariables located is_send bare is_sent own_of spot_of variable_target variable_spot
  variable_in (T.Variable ty x) h = record {
    variable = x;
    living = h.1;
    scalar = h.0;
    named = λ v. v;
    stands = λ scope active st. ap (λ (shape : Option ℕ). Source.Gives (variable_target shape x 0) st) h.0;
    sends = refl;
    own = λ bits. ap (λ (shape : Option ℕ). if is_none shape || nat_le bits ty.elem.bits then Some (record { shape = shape; variable = x }) else None) h.0;
    spot = λ d. ap (λ (t : ValueType). Makes (variable_spot (layout g) t x) d) (plain_type ty h.0);
  }
  variable_in (T.Brackets' ty p inner) h =
      let v = variable_in inner h.1 in
      record {
        variable = v.variable;
        living = v.living;
        scalar = ap (λ (t : ValueType). t.shape) h.0 ∙ v.scalar;
        named = λ names. subst (λ (t : ValueType). HasVariable g.typed g.instance n v.variable (plain t)) (sym h.0) (v.named names);
        stands = v.stands;
        sends = v.sends;
        own = v.own;
        spot = v.spot;
      }
  variable_in _ h = absurd h

  module _ (target : TExpr) (v : TargetIs target) where
    -- the variable as a target without brackets
    abbrev pub bare_target : TExpr
    bare_target = T.Variable (scalar_type (type_of target).elem) v.variable

    abbrev own_register : ℕ
    own_register = register_of (layout g) v.variable

    pub target_type : type_of target ≡ scalar_type (type_of target).elem
    target_type = plain_type (type_of target) v.scalar

    -- what an assignment to it means, and a step
    pub assign_means : (ty : ValueType) (place : Place) (op : AssignOp) (p q : Boxed) (value : TExpr) → ty ≡ type_of target → (scope : Scope) (active : Active) (st : State)
        → evaluated scope (T.Assign' ty place op p target q value) active st ≡ then_do (evaluated scope value active st) (λ w after. assigned scope active place op (scalar_type (type_of target).elem) (type_of value) (OfScalar v.variable) w after)
    unfolding evaluated then_do
    assign_means ty place op p q value same scope active st =
        ap (λ (o : Outcome Target). then_do o (λ there between. then_do (evaluated scope value active between) (λ w after. assigned scope active place op ty (type_of value) there w after))) (v.stands scope active st)
        ∙ ap (λ (t : ValueType). then_do (evaluated scope value active st) (λ w after. assigned scope active place op t (type_of value) (OfScalar v.variable) w after)) (same ∙ target_type)

    pub step_means : (ty : ValueType) (op : StepOp) (order : StepOrder) (p : Boxed) → ty ≡ type_of target → (scope : Scope) (active : Active) (st : State)
        → evaluated scope (T.Step' ty op order p target) active st ≡ stepped scope active op order (scalar_type (type_of target).elem) (OfScalar v.variable) st
    unfolding evaluated then_do
    step_means ty op order p same scope active st =
        ap (λ (o : Outcome Target). then_do o (λ there after. stepped scope active op order ty there after)) (v.stands scope active st) ∙ ap (λ (t : ValueType). stepped scope active op order t (OfScalar v.variable) st) (same ∙ target_type)

    -- the code of both as values
    at_register : (e value : TExpr) (place : Place) (code : Code) (d : Draft) (bits : ℕ) (m : Option Op)
        → assigned_by g.typed (layout g) e bits m place target value None (λ b. Makes (S.Register own_register) b) code d ≡ assigned_by g.typed (layout g) e bits m place bare_target value None (λ b. Makes (S.Register own_register) b) code d
    unfolding assigned_by updated_by a_register then_make register_updated register_folded loaded in_register
    at_register e value place code d bits None = refl
    at_register e value place code d bits (Some o) = refl

    spot_is : spot_of g.typed (layout g) target ≡ (λ b. Makes (S.Register own_register) b)
    spot_is = fun_ext v.spot

    pub assign_code : (ty : ValueType) (place : Place) (op : AssignOp) (p q : Boxed) (value : TExpr) (bits : ℕ) (d : Draft)
        → value_of g.typed (layout g) bits (T.Assign' ty place op p target q value) d
        ≡ assign_by g.typed (layout g) (T.Assign' ty place op p target q value) bits op place bare_target value (spot_of g.typed (layout g) bare_target) (λ b. value_of g.typed (layout g) (taken_bits bits op bare_target value) value b) d
    unfolding value_of assign_by is_send bare is_sent spot_of variable_spot
    assign_code ty place op p q value bits d =
        ap (λ (b : Bool). by_parts b (type_of target) (spot_of g.typed (layout g) target)) v.sends
        ∙ ap (λ (t : ValueType). by_parts false t (spot_of g.typed (layout g) target)) target_type
        ∙ ap (by_parts false (scalar_type (type_of target).elem)) spot_is
        ∙ ap (lowest bits) (at_register e value place (code false (scalar_type (type_of target).elem)) d (taken_bits bits op bare_target value) (assign_op_of op))
      where
        e : TExpr
        e = T.Assign' ty place op p target q value

        code : Bool → ValueType → Code
        code sends t b = value_of g.typed (layout g) (assigned_bits bits op sends t value) value b

        by_parts : Bool → ValueType → (Draft → Made Spot) → Made Out
        by_parts sends t spot =
            if sends then sent_by g.typed (layout g) e spot (λ b. spread_by (code sends t) value (unwrap_or t.shape 0) (assigned_bits bits op sends t value) b) d
            else lowest bits (assigned_by g.typed (layout g) e (assigned_bits bits op sends t value) (assign_op_of op) place target value t.shape spot (code sends t) d)

    pub step_code : (ty : ValueType) (op : StepOp) (order : StepOrder) (p : Boxed) (bits : ℕ) (d : Draft)
        → value_of g.typed (layout g) bits (T.Step' ty op order p target) d ≡ step_by g.typed (layout g) (T.Step' ty op order p target) bits op order bare_target (spot_of g.typed (layout g) bare_target) d
    unfolding value_of step_by fresh_for a_register then_make spot_of variable_spot stepped_in stepped_at loaded in_register
    step_code ty op order p bits d = ap (λ (shape : Option ℕ). by_parts shape (spot_of g.typed (layout g) target) target order) v.scalar ∙ ap (λ (spot : Draft → Made Spot). by_parts None spot target order) spot_is ∙ by order
      where
        by_parts : Option ℕ → (Draft → Made Spot) → TExpr → StepOrder → Made Out
        by_parts shape spot stepped_one order =
            then_make (fresh_for shape 32 d) (λ outcome begun. then_make (fresh_for shape 32 begun) (λ second next. then_make (spot next) (λ there after. lowest bits (stepped_in g.typed (layout g) (T.Step' ty op order p target) op order stepped_one there outcome second after))))

        by : (order : StepOrder) → by_parts None (λ b. Makes (S.Register own_register) b) target order ≡ by_parts None (λ b. Makes (S.Register own_register) b) bare_target order
        by Or.Prefix = refl
        by Or.Postfix = refl
