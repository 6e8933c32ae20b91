-- The targets of assignments, what is read from them and what is stored in them.
use Rattle.std.specs.Prelude.{ℕ, ◌==◌, not, Option, Some, None, List, ◌∷◌, []}
use Rattle.cstar_base.specs.declared.faults.RunFault.TheVariants.{Index, DivZero}
use Rattle.cstar_base.specs.declared.operators.Place.{Place}
use Rattle.cstar_tree.specs.declared.syntax.AssignOp.{AssignOp}
use Rattle.cstar_tree.specs.declared.syntax.AssignOp.TheVariants as A
use Rattle.cstar_tree.specs.declared.syntax.StepOp.{StepOp}
use Rattle.cstar_tree.specs.declared.syntax.StepOp.TheVariants as S
use Rattle.cstar_tree.specs.declared.typed.StepOrder.{StepOrder}
use Rattle.cstar_tree.specs.declared.typed.StepOrder.TheVariants as O
use Rattle.cstar_tree.specs.declared.typed.ValueType.{ValueType}
use Rattle.cstar_tree.specs.declared.typed.Variable.{Variable}
use Rattle.source_meaning.specs.Gets.{Operand, index_at, is_within, are_within, named_by, gotten}
use Rattle.source_meaning.specs.Reductions.{promoted, updated, folded_into, divides_by_zero}
use Rattle.source_meaning.specs.Sends.{Send, sent}
use Rattle.source_meaning.specs.State.{State, Outcome, Gives, then_do, with_scalar, with_positions}
use Rattle.source_meaning.specs.Values.{Value, Scalar, Parallel, Nothing, number, at, each, Active, Scope, positions, failing, unless}

-- What an assignment stores in: a scalar variable; an element of a parallel variable of a shape, at
-- its active positions; a parallel variable at one position; one at the target of each active
-- position of a shape. Any other expression is no target.
pub data Target : Type 0 where
  OfScalar : Variable → Target
  OfElement : Variable → ℕ → ℕ → Target
  OfPosition : Variable → ℕ → Target
  OfTargets : Variable → (ℕ → ℕ) → ℕ → Target
  NoTarget : Target

-- a scalar variable, or an element of one of a shape
unfoldable pub variable_target : Option ℕ → Variable → ℕ → Target
variable_target None x k = OfScalar x
variable_target (Some s) x k = OfElement x k s

-- the element of an array that an index chooses, which lies from 0 to the length less 1
unfoldable pub element_target : Scope → Active → Option ℕ → Place → Variable → Operand → State → Outcome Target
element_target scope active shape place x index st =
    unless (failing scope active None (λ p. not (is_within (scope.length_of x) (index_at index p)))) Index place st
    (Gives (variable_target shape x (named_by (scope.length_of x ∷ []) (index ∷ []) 0)) st)

-- what left indexes of no shape, or of the current one, name in a parallel variable
unfoldable pub position_target : Option ℕ → Variable → (ℕ → ℕ) → Target
position_target None x to = OfPosition x (to 0)
position_target (Some s) x to = OfTargets x to s

-- the targets of left indexes into a variable of a shape, which lie within its extents
unfoldable pub indexed_target : Scope → Active → Option ℕ → Place → Variable → ℕ → List Operand → State → Outcome Target
indexed_target scope active shape place x of indexes st =
    unless (failing scope active shape (λ p. not (are_within (scope.extents of) indexes p))) Index place st
    (Gives (position_target shape x (λ p. named_by (scope.extents of) indexes p)) st)

-- what a target holds
unfoldable pub read : State → Target → Value
read st (OfScalar x) = Scalar (st.scalar x)
read st (OfElement x k s) = Parallel (λ p. st.parallel x k p)
read st (OfPosition x q) = Scalar (st.parallel x 0 q)
read st (OfTargets x to s) = Parallel (λ p. gotten st x to p)
read st NoTarget = Nothing

-- the state with a value stored: a parallel one at active positions alone, and one position
-- whether it is active or not
unfoldable pub stored : Active → Target → Value → State → State
stored active (OfScalar x) v st = with_scalar x (number v) st
stored active (OfElement x k s) v st = with_positions x k (active s) (λ p. at v p) st
stored active (OfPosition x q) v st = with_positions x 0 (λ p. p == q) (λ _. number v) st
stored active (OfTargets x to s) v st = st
stored active NoTarget v st = st

-- what an assignment stores, from the old value of its target: at a scalar target of a parallel
-- value it is a fold, and else it is made position by position
unfoldable pub new_value : Scope → Active → AssignOp → ValueType → ValueType → Value → Value → Value
new_value scope active op to from old v =
    let by_position = each to.shape (λ p. updated op to.elem from.elem (at old p) (at v p)) in
    let fold : ℕ → Value = λ s. Scalar (folded_into op to.elem from.elem (number old) (active s) (λ p. at v p) (positions scope s)) in
    elim to.shape [ Some _ ↦ by_position | None ↦ elim from.shape [ None ↦ by_position | Some s ↦ fold s ] ]

-- An assignment of a value to a located target, whose old value is read now. Its value is what it
-- stores; a send has none.
unfoldable pub assign_to : Scope → Active → AssignOp → ValueType → ValueType → Target → Value → State → Outcome Value
assign_to scope active op to from (OfTargets x targets s) v st =
    let send : Send = record { count = positions scope s; active = active s; to = targets; value = λ p. at v p } in
    Gives Nothing (sent op to.elem from.elem x send st)
assign_to scope active op to from target v st =
    let new = new_value scope active op to from (read st target) v in
    Gives new (stored active target new st)

-- the same, but for a division by 0, which stores nothing
unfoldable pub assigned : Scope → Active → Place → AssignOp → ValueType → ValueType → Target → Value → State → Outcome Value
assigned scope active place op to from target v st =
    unless (failing scope active to.shape (λ p. divides_by_zero op (at v p))) DivZero place st
    (assign_to scope active op to from target v st)

-- `++` adds 1, and `--` subtracts it
abbrev pub step_op : StepOp → AssignOp
step_op S.Increment = A.Add
step_op S.Decrement = A.Sub

-- the value of a step: the one stored, or the one before
abbrev pub step_value : StepOrder → Value → Value → Value
step_value O.Prefix old new = new
step_value O.Postfix old new = old

-- a step on a located target
unfoldable pub stepped : Scope → Active → StepOp → StepOrder → ValueType → Target → State → Outcome Value
stepped scope active op order ty target st =
    let one : ValueType = record { elem = promoted ty.elem; shape = ty.shape } in
    then_do (assign_to scope active (step_op op) ty one target (each ty.shape (λ _. 1)) st)
    (λ new after. Gives (step_value order (read st target) new) after)
