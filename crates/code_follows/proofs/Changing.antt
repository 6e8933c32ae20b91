-- What assignments to scalar variables do, and to other targets that hold one number, and steps, in the source.
use Rattle.std.proofs.Common.{◌≡◌, ◌∙◌, ℕ, ◌==◌, ◌&&◌, Bool, true, false, not, Option, Some, None, refl, sym, ap, if◌then◌else◌}
use Rattle.cstar_base.specs.declared.elem.Elem.{Elem}
use Rattle.cstar_base.specs.declared.faults.RunFault.TheVariants.{DivZero}
use Rattle.cstar_base.specs.declared.operators.Op.{Op}
use Rattle.cstar_base.specs.declared.operators.Op.TheVariants as P
use Rattle.cstar_base.specs.declared.operators.Place.{Place}
use Rattle.cstar_base.specs.Operators.{divides, outcome}
use Rattle.cstar_tree.specs.declared.syntax.AssignOp.{AssignOp}
use Rattle.cstar_tree.specs.declared.syntax.AssignOp.TheVariants as A
use Rattle.cstar_tree.specs.declared.syntax.StepOp.{StepOp}
use Rattle.cstar_tree.specs.declared.syntax.StepOp.TheVariants as Sp
use Rattle.cstar_tree.specs.declared.typed.StepOrder.{StepOrder}
use Rattle.cstar_tree.specs.declared.typed.ValueType.{ValueType}
use Rattle.cstar_tree.specs.declared.typed.Variable.{Variable}
use Rattle.lower_base.specs.Operators.{assign_op_of}
use Rattle.lower_expr.specs.Steps.{assigned_signed}
use Rattle.source_meaning.specs.Expressions.{operated}
use Rattle.source_meaning.specs.Reductions.{divides_by_zero, promoted, updated, working_type}
use Rattle.source_meaning.specs.State as Source
use Rattle.source_meaning.specs.State.{Outcome, State, then_do, with_scalar}
use Rattle.source_meaning.specs.Targets.{OfScalar, Target, assign_to, assigned, new_value, read, step_op, step_value, stepped, stored}
use Rattle.source_meaning.specs.Values.{Active, Scalar, Scope, Value, at, each, failing, number, unless}
use Rattle.code_follows.specs.Fragment.{IsWord}
use Rattle.code_follows.proofs.Effects.{divides_is, promoted_wide, updated_is}
use Rattle.cstar_base.specs.Numbers.{converted}
use Rattle.code_follows.proofs.Following.{HasRegisters, held}
use Rattle.code_follows.proofs.Settings.{Setting}
use Rattle.code_follows.proofs.Values.{operated_is}

-- a scalar type
abbrev pub scalar_type : Elem → ValueType
scalar_type elem = record { elem = elem; shape = None }

pub plain_type : (ty : ValueType) → ty.shape ≡ None → ty ≡ scalar_type ty.elem
plain_type ty scalar = ap (λ (o : Option ℕ). record { elem = ty.elem; shape = o }) scalar

-- A target that holds one number of a type: an assignment stores what its operator makes of that number.
pub record HoldsOne (scope : Scope) (active : Active) (to : Elem) (target : Target) (st : State) (old : ℕ) (put : ℕ → State → State) : Type 0 where
  pub reads : read st target ≡ Scalar old
  pub assigns : (op : AssignOp) (from : Elem) (w : ℕ) → assign_to scope active op (scalar_type to) (scalar_type from) target (Scalar w) st ≡ Source.Gives (Scalar (updated op to from old w)) (put (updated op to from old w) st)

-- as a scalar variable does
pub variable_holds : (scope : Scope) (active : Active) (to : Elem) (x : Variable) (st : State) → HoldsOne scope active to (OfScalar x) st (st.scalar x) (λ n after. with_scalar x n after)
unfolding assign_to new_value read stored each at number
variable_holds scope active to x st = record { reads = refl; assigns = λ op from w. refl }

-- what an assignment without an operator does to it
pub set_is : (scope : Scope) (active : Active) (place : Place) (target : Target) (ty from : ValueType) (w : ℕ) (st : State) (old : ℕ) (put : ℕ → State → State) → HoldsOne scope active ty.elem target st old put → ty.shape ≡ None → from.shape ≡ None
    → assigned scope active place A.Set ty from target (Scalar w) st ≡ Source.Gives (Scalar w) (put w st)
unfolding assigned failing unless divides_by_zero at updated
set_is scope active place target ty from w st old put h one two =
    ap (λ (t : ValueType). assigned scope active place A.Set t from target (Scalar w) st) (plain_type ty one)
    ∙ ap (λ (f : ValueType). assigned scope active place A.Set (scalar_type ty.elem) f target (Scalar w) st) (plain_type from two)
    ∙ h.assigns A.Set from.elem w

-- the only assignment without an operator
pub only_set : (op : AssignOp) → assign_op_of op ≡ None → op ≡ A.Set
unfolding assign_op_of
only_set A.Set is = refl
only_set A.Add is = cc
only_set A.Sub is = cc
only_set A.Mul is = cc
only_set A.Div is = cc
only_set A.Rem is = cc
only_set A.Mod is = cc
only_set A.And is = cc
only_set A.Or is = cc
only_set A.Xor is = cc
only_set A.Shl is = cc
only_set A.Shr is = cc
only_set A.Min is = cc
only_set A.Max is = cc

-- a step has no place of its own: it never divides
pub no_place : Place
no_place = record { line = 0; col = 0 }

-- the operator of a step
abbrev pub stepping : StepOp → Op
stepping Sp.Increment = P.Add
stepping Sp.Decrement = P.Sub

stepping_is : (op : StepOp) → assign_op_of (step_op op) ≡ Some (stepping op)
unfolding assign_op_of
stepping_is Sp.Increment = refl
stepping_is Sp.Decrement = refl

never_divides : (op : StepOp) → divides (stepping op) ≡ false
unfolding divides
never_divides Sp.Increment = refl
never_divides Sp.Decrement = refl

-- a step works at the promoted type
works_at : (op : StepOp) (to : Elem) → working_type (step_op op) to (promoted to) ≡ promoted to
unfolding working_type
works_at Sp.Increment to = refl
works_at Sp.Decrement to = refl

module _ (g : Setting) (has : HasRegisters g) (alive : Variable → Type 0) (scope : Scope) (active : Active) (to : Elem) (target : Target) (st : State) (old : ℕ) (put : ℕ → State → State) (h : HoldsOne scope active to target st old put) where
  -- one with an operator is the operator, and then a store of what it gives, converted to the target's type
  pub operated_set_is : (place : Place) (op : AssignOp) (o : Op) (from : ValueType) (w : ℕ) → IsWord from → assign_op_of op ≡ Some o
      → assigned scope active place op (scalar_type to) from target (Scalar w) st
      ≡ then_do (operated scope active (scalar_type (working_type op to from.elem)) place o (not (assigned_signed o to from.elem)) (Scalar (held to old)) (Scalar w) st)
      (λ v after. Source.Gives (Scalar (converted to (working_type op to from.elem) (number v))) (put (converted to (working_type op to from.elem) (number v)) after))
  unfolding assigned failing unless at number then_do
  operated_set_is place op o from w also is =
      ap (λ (f : ValueType). assigned scope active place op (scalar_type to) f target (Scalar w) st) (plain_type from also.0)
      ∙ ap (λ (r : Outcome Value). unless (if divides_by_zero op w then Some None else None) DivZero place st r) (h.assigns op from.elem w)
      ∙ ap (λ (b : Bool). unless (if b then Some None else None) DivZero place st (Source.Gives (Scalar (updated op to from.elem old w)) (put (updated op to from.elem old w) st))) (divides_is op o w is)
      ∙ by (divides o && (w == 0))
      ∙ ap (λ (r : Outcome Value). then_do r store) (sym (operated_is g has alive scope active (scalar_type at_type) place o unsigned (held to old) w st refl))
    where
      at_type : Elem
      at_type = working_type op to from.elem

      unsigned : Bool
      unsigned = not (assigned_signed o to from.elem)

      store : Value → State → Outcome Value
      store v after = Source.Gives (Scalar (converted to at_type (number v))) (put (converted to at_type (number v)) after)

      by : (b : Bool) → unless (if b then Some None else None) DivZero place st (Source.Gives (Scalar (updated op to from.elem old w)) (put (updated op to from.elem old w) st))
          ≡ then_do (if b then Source.Ends (Source.Fault DivZero place None) st else Source.Gives (Scalar (outcome o 32 unsigned (held to old) w)) st) store
      by true = refl
      by false = ap (λ (u : ℕ). Source.Gives (Scalar u) (put u st)) (updated_is op o to from.elem old w also.1 is)

  -- a step is the operator with 1, and then such a store
  pub stepped_is : (place : Place) (op : StepOp) (order : StepOrder)
      → stepped scope active op order (scalar_type to) target st
      ≡ then_do (operated scope active (scalar_type (promoted to)) place (stepping op) (not (assigned_signed (stepping op) to (promoted to))) (Scalar (held to old)) (Scalar 1) st)
      (λ v after. Source.Gives (step_value order (Scalar old) (Scalar (converted to (promoted to) (number v)))) (put (converted to (promoted to) (number v)) after))
  unfolding stepped each number then_do
  stepped_is place op order =
      ap (λ (r : Outcome Value). then_do r (λ new after. Source.Gives (step_value order (read st target) new) after)) (h.assigns (step_op op) (promoted to) 1)
      ∙ ap (λ (v : Value). Source.Gives (step_value order v (Scalar (updated (step_op op) to (promoted to) old 1))) (put (updated (step_op op) to (promoted to) old 1) st)) h.reads
      ∙ ap (λ (u : ℕ). Source.Gives (step_value order (Scalar old) (Scalar u)) (put u st)) (updated_is (step_op op) (stepping op) to (promoted to) old 1 (promoted_wide to) (stepping_is op) ∙ ap (λ (e : Elem). converted to e (outcome (stepping op) 32 unsigned (held to old) 1)) (works_at op to))
      ∙ sym (ap (λ (r : Outcome Value). then_do r store)
      (operated_is g has alive scope active (scalar_type (promoted to)) place (stepping op) unsigned (held to old) 1 st refl
      ∙ ap (λ (b : Bool). if b && (1 == 0) then Source.Ends (Source.Fault DivZero place None) st else Source.Gives (Scalar (outcome (stepping op) 32 unsigned (held to old) 1)) st) (never_divides op)))
    where
      unsigned : Bool
      unsigned = not (assigned_signed (stepping op) to (promoted to))

      store : Value → State → Outcome Value
      store v after = Source.Gives (step_value order (Scalar old) (Scalar (converted to (promoted to) (number v)))) (put (converted to (promoted to) (number v)) after)
