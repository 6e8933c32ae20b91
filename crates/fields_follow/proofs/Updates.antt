-- What assignments to parallel variables and steps of them mean: the variable takes numbers where it is active.
use Rattle.std.proofs.Common.{◌≡◌, ◌∙◌, ℕ, ◌<◌, ◌≤◌, ◌==◌, ◌%◌, ◌^◌, Bool, true, false, not, ◌&&◌, ◌||◌, Option, Some, None, refl, sym, ap, subst, arith, if◌then◌else◌}
use Rattle.std.specs.Prelude.{is_none, nat_le, nat_lt}
use Rattle.std.proofs.lemmas.Bool.Decides.{nat_tests}
use Rattle.cstar_base.specs.declared.elem.Elem.{Elem}
use Rattle.cstar_base.specs.declared.faults.RunFault.TheVariants.{DivZero}
use Rattle.cstar_base.specs.declared.operators.Op.{Op}
use Rattle.cstar_base.specs.declared.operators.Op.TheVariants as P
use Rattle.cstar_base.specs.declared.operators.Place.{Place}
use Rattle.cstar_base.specs.Numbers.{converted}
use Rattle.cstar_base.specs.Operators.{divides, outcome}
use Rattle.cstar_base.specs.Orders.{least_below}
use Rattle.cstar_tree.specs.declared.syntax.AssignOp.{AssignOp}
use Rattle.cstar_tree.specs.declared.syntax.AssignOp.TheVariants as A
use Rattle.cstar_tree.specs.declared.syntax.StepOp.{StepOp}
use Rattle.cstar_tree.specs.declared.typed.Instance.{Instance}
use Rattle.cstar_tree.specs.declared.typed.StepOrder.{StepOrder}
use Rattle.cstar_tree.specs.declared.typed.TExpr.{TExpr}
use Rattle.cstar_tree.specs.declared.typed.TExpr as T
use Rattle.cstar_tree.specs.declared.typed.Typed.{Typed}
use Rattle.cstar_tree.specs.declared.typed.ValueType.{ValueType}
use Rattle.cstar_tree.specs.declared.typed.VarInfo.{VarInfo}
use Rattle.cstar_tree.specs.declared.typed.Variable.{Variable}
use Rattle.cstar_tree.specs.declared.typed.Variable.TheVariants as V
use Rattle.cstar_tree.specs.StatementTypes.{variable_info}
use Rattle.cstar_tree.specs.Typed.{type_of}
use Rattle.code_lengths.specs.Naming.{HasVariable, NamesVariables, plain, variable_named}
use Rattle.lower_base.specs.Operators.{assign_op_of, is_signed}
use Rattle.lower_expr.specs.declared.operands.Own.{Own}
use Rattle.lower_expr.specs.Operands.{own_of}
use Rattle.lower_expr.specs.Steps.{assigned_signed}
use Rattle.source_meaning.specs.Expressions.{evaluated, located}
use Rattle.source_meaning.specs.Reductions.{divides_by_zero, int_type, promoted, step_of, updated, working_type}
use Rattle.source_meaning.specs.State.{Early, Ends, Fault, Gives, Outcome, State, then_do, with_positions}
use Rattle.source_meaning.specs.Targets.{OfElement, Target, assign_to, assigned, new_value, read, step_op, step_value, stepped, stored, variable_target}
use Rattle.source_meaning.specs.Values.{Active, Parallel, Scope, Value, at, each, failing, positions, unless}
use Rattle.source_meaning.proofs.ConstantLaws.{Boxed}
use Rattle.cstar_base.proofs.NumberLaws.{kind_bits}
use Rattle.code_follows.specs.Fragment.{NamesAmong}
use Rattle.code_follows.proofs.Following.{held}
use Rattle.code_follows.proofs.Operators.{wide_signed}
use Rattle.code_follows.proofs.Words.{held_converted}
use Rattle.fields_follow.proofs.Lengths.{cut_converted}
use Rattle.fields_follow.specs.Fragment.{IsOfFileOrBlock, IsTarget}
use Rattle.fields_follow.proofs.Meaning.{as_shaped, none_fails}

working_so : (o : Op) (to at_type : Elem) (signed : Bool) (old w : ℕ) → (to.bits == 1) ≡ false → at_type.bits ≡ 32 → signed ≡ at_type.signed → outcome o 32 (not signed) (held to old) w < 2 ^ 32
    → converted to at_type (outcome o 32 (not at_type.signed) (converted at_type to old) w) ≡ outcome o 32 (not signed) (held to old) w % 2 ^ to.bits
working_so o to at_type signed old w no_truth also same small =
    ap (λ (n : ℕ). converted to at_type (outcome o 32 (not at_type.signed) n w)) (held_converted at_type to old also)
    ∙ ap (λ (b : Bool). converted to at_type (outcome o 32 (not b) (held to old) w)) (sym same) ∙ cut_converted to at_type (outcome o 32 (not signed) (held to old) w) no_truth also small

-- a type as an operand
pub promoted_wide : (elem : Elem) → (promoted elem).bits ≡ 32
unfolding promoted
promoted_wide elem = by (nat_lt elem.bits 32) refl
  where
    by : (b : Bool) → nat_lt elem.bits 32 ≡ b → (if nat_lt elem.bits 32 then int_type else elem).bits ≡ 32
    by true e = ap (λ (b : Bool). (if b then int_type else elem).bits) e
    by false e = ap (λ (b : Bool). (if b then int_type else elem).bits) e ∙ (let most = (kind_bits elem.bits elem.signed elem.kind).1 in let least : 32 ≤ elem.bits = grind (arith, nat_tests, e) in omega (arith, most, least))

promoted_signed : (elem : Elem) → is_signed elem ≡ (promoted elem).signed
unfolding promoted is_signed
promoted_signed elem = by (nat_lt elem.bits 32) elem.signed refl refl
  where
    by : (b c : Bool) → nat_lt elem.bits 32 ≡ b → elem.signed ≡ c → (elem.signed || nat_lt elem.bits 32) ≡ (if nat_lt elem.bits 32 then int_type else elem).signed
    by true true e f = ap (λ (b : Bool). elem.signed || b) e ∙ ap (λ (c : Bool). c || true) f ∙ sym (ap (λ (b : Bool). (if b then int_type else elem).signed) e)
    by true false e f = ap (λ (b : Bool). elem.signed || b) e ∙ ap (λ (c : Bool). c || true) f ∙ sym (ap (λ (b : Bool). (if b then int_type else elem).signed) e)
    by false true e f = ap (λ (b : Bool). elem.signed || b) e ∙ ap (λ (c : Bool). c || false) f ∙ sym (ap (λ (b : Bool). (if b then int_type else elem).signed) e ∙ f)
    by false false e f = ap (λ (b : Bool). elem.signed || b) e ∙ ap (λ (c : Bool). c || false) f ∙ sym (ap (λ (b : Bool). (if b then int_type else elem).signed) e ∙ f)

-- What an assignment with an operator stores is the lowest bits of what the operator gives, which reads its operands as
-- the machine does.
pub updated_is : (op : AssignOp) (o : Op) (to from : Elem) (old w : ℕ) → assign_op_of op ≡ Some o → (to.bits == 1) ≡ false → from.bits ≡ 32 → outcome o 32 (not (assigned_signed o to from)) (held to old) w < 2 ^ 32
    → updated op to from old w ≡ outcome o 32 (not (assigned_signed o to from)) (held to old) w % 2 ^ to.bits
unfolding updated working_type assign_op_of assigned_signed step_of
updated_is op o to from old w is no_truth also small = by op o is small
  where
    like_value : (o : Op) → outcome o 32 (not (is_signed from)) (held to old) w < 2 ^ 32 → converted to from (outcome o 32 (not from.signed) (converted from to old) w) ≡ outcome o 32 (not (is_signed from)) (held to old) w % 2 ^ to.bits
    like_value o below = working_so o to from (is_signed from) old w no_truth also (wide_signed from also) below

    like_target : (o : Op) → outcome o 32 (not (is_signed to)) (held to old) w < 2 ^ 32 → converted to (promoted to) (outcome o 32 (not (promoted to).signed) (converted (promoted to) to old) w) ≡ outcome o 32 (not (is_signed to)) (held to old) w % 2 ^ to.bits
    like_target o below = working_so o to (promoted to) (is_signed to) old w no_truth (promoted_wide to) (promoted_signed to) below

    inner : (a b : Op) → Some a ≡ Some b → a ≡ b
    inner a b e = ap (λ (x : Option Op). elim x [ None ↦ a | Some y ↦ y ]) e

    along : (op : AssignOp) (a o : Op) → Some a ≡ Some o → (outcome a 32 (not (assigned_signed a to from)) (held to old) w < 2 ^ 32 → updated op to from old w ≡ outcome a 32 (not (assigned_signed a to from)) (held to old) w % 2 ^ to.bits)
        → outcome o 32 (not (assigned_signed o to from)) (held to old) w < 2 ^ 32 → updated op to from old w ≡ outcome o 32 (not (assigned_signed o to from)) (held to old) w % 2 ^ to.bits
    along op a o e f = subst (λ (x : Op). outcome x 32 (not (assigned_signed x to from)) (held to old) w < 2 ^ 32 → updated op to from old w ≡ outcome x 32 (not (assigned_signed x to from)) (held to old) w % 2 ^ to.bits) (inner a o e) f

    by : (op : AssignOp) (o : Op) → assign_op_of op ≡ Some o → outcome o 32 (not (assigned_signed o to from)) (held to old) w < 2 ^ 32 → updated op to from old w ≡ outcome o 32 (not (assigned_signed o to from)) (held to old) w % 2 ^ to.bits
    by A.Set o e = cc
    by A.Add o e = along A.Add P.Add o e (like_value P.Add)
    by A.Sub o e = along A.Sub P.Sub o e (like_value P.Sub)
    by A.Mul o e = along A.Mul P.Mul o e (like_value P.Mul)
    by A.Div o e = along A.Div P.Div o e (like_value P.Div)
    by A.Rem o e = along A.Rem P.Rem o e (like_value P.Rem)
    by A.Mod o e = along A.Mod P.Mod o e (like_value P.Mod)
    by A.And o e = along A.And P.And o e (like_value P.And)
    by A.Or o e = along A.Or P.Or o e (like_value P.Or)
    by A.Xor o e = along A.Xor P.Xor o e (like_value P.Xor)
    by A.Shl o e = along A.Shl P.Shl o e (like_target P.Shl)
    by A.Shr o e = along A.Shr P.Shr o e (like_target P.Shr)
    by A.Min o e = along A.Min P.Min o e (like_value P.Min)
    by A.Max o e = along A.Max P.Max o e (like_value P.Max)

along : (a o : Op) (w : ℕ) → Some a ≡ Some o → (divides a && w == 0) ≡ (divides o && w == 0)
along a o w e = ap (λ (x : Option Op). (elim x as (λ _. Bool) [ None ↦ divides a | Some y ↦ divides y ]) && w == 0) e

-- an assignment divides where its operator does
pub divides_as : (op : AssignOp) (o : Op) (w : ℕ) → assign_op_of op ≡ Some o → divides_by_zero op w ≡ (divides o && w == 0)
unfolding divides_by_zero assign_op_of divides
divides_as A.Set o w e = cc
divides_as A.Add o w e = along P.Add o w e
divides_as A.Sub o w e = along P.Sub o w e
divides_as A.Mul o w e = along P.Mul o w e
divides_as A.Div o w e = along P.Div o w e
divides_as A.Rem o w e = along P.Rem o w e
divides_as A.Mod o w e = along P.Mod o w e
divides_as A.And o w e = along P.And o w e
divides_as A.Or o w e = along P.Or o w e
divides_as A.Xor o w e = along P.Xor o w e
divides_as A.Shl o w e = along P.Shl o w e
divides_as A.Shr o w e = along P.Shr o w e
divides_as A.Min o w e = along P.Min o w e
divides_as A.Max o w e = along P.Max o w e

-- and without one never
pub divides_never : (op : AssignOp) (w : ℕ) → assign_op_of op ≡ None → divides_by_zero op w ≡ false
unfolding divides_by_zero assign_op_of
divides_never A.Div w e = cc
divides_never A.Rem w e = cc
divides_never A.Mod w e = cc
divides_never _ w e = refl

-- a target is a variable that is alive, with all its bits
pub record Targets (t : Typed) (i : Instance) (alive : Variable → Type 0) (set : ℕ) (target : TExpr) : Type 0 where
  pub x : Variable
  pub info : VarInfo
  pub own : own_of 1 target ≡ Some (record { shape = Some set; variable = x })
  pub read : IsOfFileOrBlock x
  pub living : alive x
  pub known : variable_named t i x ≡ Some info
  pub parallel : info.shape ≡ Some set
  pub one : info.array ≡ None
  pub shape : (type_of target).shape ≡ Some set
  pub elem : (type_of target).elem ≡ info.elem
  pub means : (scope : Scope) (active : Active) (st : State) → located scope target active st ≡ Gives (OfElement x 0 set) st

variable_targets : (t : Typed) (i : Instance) (alive : Variable → Type 0) (n set : ℕ) (ty : ValueType) (x : Variable) → IsOfFileOrBlock x → alive x → ty.shape ≡ Some set → HasVariable t i n x (plain ty) → Targets t i alive set (T.Variable ty x)
unfolding own_of located variable_target
variable_targets t i alive n set ty x read living is v = record {
  x = x;
  info = variable_info v.word (plain ty) v.start;
  own = by (is_none ty.shape) (nat_le 1 ty.elem.bits) (let some = (kind_bits ty.elem.bits ty.elem.signed ty.elem.kind).0 in grind (arith, nat_tests, some)) ∙ ap (λ (o : Option ℕ). Some (record { shape = o; variable = x })) is;
  read = read;
  living = living;
  known = v.named;
  parallel = is;
  one = refl;
  shape = is;
  elem = refl;
  means = λ scope active st. ap (λ (o : Option ℕ). Gives (variable_target o x 0) st) is;
}
  where
    own : Own
    own = record { shape = ty.shape; variable = x }

    by : (a b : Bool) → b ≡ true → (if a || b then Some own else None) ≡ Some own
    by true b e = refl
    by false true e = refl
    by false false e = cc

pub targets : (t : Typed) (i : Instance) (alive : Variable → Type 0) (n set : ℕ) (target : TExpr) → IsTarget set target → NamesVariables t i n target → NamesAmong alive target → Targets t i alive set target
unfolding IsTarget own_of NamesVariables NamesAmong located IsOfFileOrBlock
targets t i alive n set (T.Variable ty (V.File k)) is v living = variable_targets t i alive n set ty (V.File k) tt living is v
targets t i alive n set (T.Variable ty (V.Local k)) is v living = variable_targets t i alive n set ty (V.Local k) tt living is v
targets t i alive n set (T.Brackets' ty p inner) is v living =
    let h = targets t i alive n set inner is.1 v living in
    record { x = h.x; info = h.info; own = h.own; read = h.read; living = h.living; known = h.known; parallel = h.parallel; one = h.one; shape = ap (λ (y : ValueType). y.shape) is.0 ∙ h.shape; elem = ap (λ (y : ValueType). y.elem) is.0 ∙ h.elem; means = h.means }
targets t i alive n set _ is v living = absurd is

module _ (scope : Scope) (active : Active) where
  -- the state with what is stored
  abbrev pub stores : ℕ → Variable → AssignOp → ValueType → ValueType → (ℕ → ℕ) → State → Outcome Value
  stores set x op to from v st =
      Gives (Parallel (λ p. updated op to.elem from.elem (st.parallel x 0 p) (v p))) (with_positions x 0 (active set) (λ p. updated op to.elem from.elem (st.parallel x 0 p) (v p)) st)

  -- what an assignment stores, unless it divides by 0
  assigned_so : (set : ℕ) (x : Variable) (place : Place) (op : AssignOp) (to from : ValueType) (v : ℕ → ℕ) (st : State) → to.shape ≡ Some set
      → assigned scope active place op to from (OfElement x 0 set) (Parallel v) st ≡ unless (failing scope active (Some set) (λ p. divides_by_zero op (v p))) DivZero place st (stores set x op to from v st)
  unfolding assigned assign_to new_value read stored each at
  assigned_so set x place op to from v st shaped = ap (λ (y : ValueType). assigned scope active place op y from (OfElement x 0 set) (Parallel v) st) (as_shaped to set shaped)

  pub assigned_is : (set : ℕ) (x : Variable) (place : Place) (op : AssignOp) (to from : ValueType) (v : ℕ → ℕ) (st : State) → to.shape ≡ Some set → ((q : ℕ) → divides_by_zero op (v q) ≡ false) → assigned scope active place op to from (OfElement x 0 set) (Parallel v) st ≡ stores set x op to from v st
  unfolding failing unless
  assigned_is set x place op to from v st shaped never =
      assigned_so set x place op to from v st shaped
      ∙ ap (λ (f : ℕ → Bool). unless (elim (least_below (λ p. active set p && f p) (positions scope set)) [ None ↦ None | Some p ↦ Some (Some p) ]) DivZero place st (stores set x op to from v st)) (λ j p. never p j)
      ∙ ap (λ (o : Option ℕ). unless (elim o [ None ↦ None | Some p ↦ Some (Some p) ]) DivZero place st (stores set x op to from v st)) (none_fails (active set) (positions scope set))

  pub assigned_divides : (set : ℕ) (x : Variable) (place : Place) (op : AssignOp) (to from : ValueType) (v : ℕ → ℕ) (st : State) → to.shape ≡ Some set → ((q : ℕ) → divides_by_zero op (v q) ≡ (v q == 0))
      → assigned scope active place op to from (OfElement x 0 set) (Parallel v) st ≡ (elim (least_below (λ p. active set p && v p == 0) (positions scope set)) as (λ _. Outcome Value) [ None ↦ stores set x op to from v st | Some p ↦ Ends (Fault DivZero place (Some p)) st ])
  unfolding failing unless
  assigned_divides set x place op to from v st shaped divides_so =
      assigned_so set x place op to from v st shaped
      ∙ ap (λ (f : ℕ → Bool). unless (elim (least_below (λ p. active set p && f p) (positions scope set)) [ None ↦ None | Some p ↦ Some (Some p) ]) DivZero place st (stores set x op to from v st)) (λ j p. divides_so p j)
      ∙ by (least_below (λ p. active set p && v p == 0) (positions scope set))
    where
      by : (o : Option ℕ) → unless (elim o [ None ↦ None | Some p ↦ Some (Some p) ]) DivZero place st (stores set x op to from v st) ≡ (elim o as (λ _. Outcome Value) [ None ↦ stores set x op to from v st | Some p ↦ Ends (Fault DivZero place (Some p)) st ])
      by None = refl
      by (Some p) = refl

  pub assign_means : (set : ℕ) (ty : ValueType) (place : Place) (op : AssignOp) (p q : Boxed) (target value : TExpr) (x : Variable) (v : ℕ → ℕ) (st : State) → located scope target active st ≡ Gives (OfElement x 0 set) st → evaluated scope value active st ≡ Gives (Parallel v) st
      → evaluated scope (T.Assign' ty place op p target q value) active st ≡ assigned scope active place op ty (type_of value) (OfElement x 0 set) (Parallel v) st
  unfolding evaluated then_do
  assign_means set ty place op p q target value x v st there gives =
      ap (λ (o : Outcome Target). then_do o (λ place_of between. then_do (evaluated scope value active between) (λ w after. assigned scope active place op ty (type_of value) place_of w after))) there
      ∙ ap (λ (o : Outcome Value). then_do o (λ w after. assigned scope active place op ty (type_of value) (OfElement x 0 set) w after)) gives

  -- it ends where its value does
  pub assign_ends : (set : ℕ) (ty : ValueType) (place : Place) (op : AssignOp) (p q : Boxed) (target value : TExpr) (x : Variable) (early : Early) (u st : State) → located scope target active st ≡ Gives (OfElement x 0 set) st → evaluated scope value active st ≡ Ends early u
      → evaluated scope (T.Assign' ty place op p target q value) active st ≡ Ends early u
  unfolding evaluated then_do
  assign_ends set ty place op p q target value x early u st there ends =
      ap (λ (o : Outcome Target). then_do o (λ place_of between. then_do (evaluated scope value active between) (λ w after. assigned scope active place op ty (type_of value) place_of w after))) there
      ∙ ap (λ (o : Outcome Value). then_do o (λ w after. assigned scope active place op ty (type_of value) (OfElement x 0 set) w after)) ends

  -- and a step
  pub step_means : (set : ℕ) (ty : ValueType) (op : StepOp) (order : StepOrder) (p : Boxed) (target : TExpr) (x : Variable) (st : State) → ty.shape ≡ Some set → located scope target active st ≡ Gives (OfElement x 0 set) st
      → (v : Value) × (evaluated scope (T.Step' ty op order p target) active st ≡ Gives v (with_positions x 0 (active set) (λ q. updated (step_op op) ty.elem (promoted ty.elem) (st.parallel x 0 q) 1) st))
  unfolding evaluated then_do stepped assign_to new_value read stored each at
  step_means set ty op order p target x st shaped there = (
    step_value order (Parallel (λ q. st.parallel x 0 q)) (Parallel (λ q. updated (step_op op) ty.elem (promoted ty.elem) (st.parallel x 0 q) 1)),
    ap (λ (o : Outcome Target). then_do o (λ place_of after. stepped scope active op order ty place_of after)) there
        ∙ ap (λ (y : ValueType). stepped scope active op order y (OfElement x 0 set) st) (as_shaped ty set shaped),
  )
