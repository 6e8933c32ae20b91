-- Operators on a stored value, and folds of a parallel value into a scalar.
use Rattle.std.specs.Prelude.{ℕ, Bool, true, false, not, nat_lt, ◌==◌, if◌then◌else◌, refl}
use Rattle.cstar_base.specs.declared.elem.Elem.{Elem}
use Rattle.cstar_base.specs.declared.operators.Combiner.{Combiner}
use Rattle.cstar_base.specs.declared.operators.Combiner.TheVariants as C
use Rattle.cstar_base.specs.declared.operators.Op.TheVariants as O
use Rattle.cstar_base.specs.Folds.{fold_once, identity_of}
use Rattle.cstar_base.specs.Numbers.{converted}
use Rattle.cstar_base.specs.Operators.{outcome, difference_of}
use Rattle.cstar_tree.specs.declared.syntax.AssignOp.{AssignOp}
use Rattle.cstar_tree.specs.declared.syntax.AssignOp.TheVariants as A
use Rattle.cstar_tree.specs.declared.syntax.ReduceOp.{ReduceOp}
use Rattle.cstar_tree.specs.declared.syntax.ReduceOp.TheVariants as R
use Rattle.cstar_base.specs.Orders.{fold_below}

-- `int`, the type in which narrower ones are operands
abbrev pub int_type : Elem
int_type = record { bits = 32; signed = true; kind = refl }

unfoldable pub promoted : Elem → Elem
promoted elem = if nat_lt elem.bits 32 then int_type else elem

-- one step of `x op= e` at 32 bits: the value so far, and one more
unfoldable pub step_of : AssignOp → Bool → ℕ → ℕ → ℕ
step_of A.Set unsigned old w = w
step_of A.Add unsigned old w = outcome O.Add 32 unsigned old w
step_of A.Sub unsigned old w = outcome O.Sub 32 unsigned old w
step_of A.Mul unsigned old w = outcome O.Mul 32 unsigned old w
step_of A.Div unsigned old w = outcome O.Div 32 unsigned old w
step_of A.Rem unsigned old w = outcome O.Rem 32 unsigned old w
step_of A.Mod unsigned old w = outcome O.Mod 32 unsigned old w
step_of A.And unsigned old w = outcome O.And 32 unsigned old w
step_of A.Or unsigned old w = outcome O.Or 32 unsigned old w
step_of A.Xor unsigned old w = outcome O.Xor 32 unsigned old w
step_of A.Shl unsigned old w = outcome O.Shl 32 unsigned old w
step_of A.Shr unsigned old w = outcome O.Shr 32 unsigned old w
step_of A.Min unsigned old w = outcome O.Min 32 unsigned old w
step_of A.Max unsigned old w = outcome O.Max 32 unsigned old w

-- does the assignment fail with this value, because it divides by 0
unfoldable pub divides_by_zero : AssignOp → ℕ → Bool
divides_by_zero A.Div w = w == 0
divides_by_zero A.Rem w = w == 0
divides_by_zero A.Mod w = w == 0
divides_by_zero _ w = false

-- The type at which an assignment works, from those of target and value: with a shift the target's
-- promoted one, else the value's, which was brought to the common type.
unfoldable pub working_type : AssignOp → Elem → Elem → Elem
working_type A.Shl to from = promoted to
working_type A.Shr to from = promoted to
working_type _ to from = from

-- what `x op= e` stores, from the old value of x and the value of e
unfoldable pub updated : AssignOp → Elem → Elem → ℕ → ℕ → ℕ
updated A.Set to from old w = w
updated op to from old w =
    let at_type = working_type op to from in
    converted to at_type (step_of op (not at_type.signed) (converted at_type to old) w)

-- What `s op= e` stores for a scalar s and a parallel e: the fold from s over the active elements
-- of e at the common type, converted to the type of s.
unfoldable pub folded_into : AssignOp → Elem → Elem → ℕ → (ℕ → Bool) → (ℕ → ℕ) → ℕ → ℕ
folded_into op to from old active value count =
    converted to from (fold_below (λ total w. step_of op (not from.signed) total w) active value (converted from to old) count)

-- the combiner of a unary reduction
unfoldable pub combiner_of : ReduceOp → Combiner
combiner_of R.Add = C.Add
combiner_of R.Sub = C.Add
combiner_of R.And = C.And
combiner_of R.Xor = C.Xor
combiner_of R.Or = C.Or
combiner_of R.Min = C.Min
combiner_of R.Max = C.Max

-- the fold over the active positions in rising order, from the identity
unfoldable pub folded : Combiner → Bool → (ℕ → Bool) → (ℕ → ℕ) → ℕ → ℕ
folded c unsigned active value count =
    fold_below (λ total w. fold_once c unsigned total w) active value (identity_of c unsigned) count

-- a unary reduction; with `-=` it is the negative of the sum
unfoldable pub reduced : ReduceOp → Bool → (ℕ → Bool) → (ℕ → ℕ) → ℕ → ℕ
reduced R.Sub unsigned active value count = difference_of 32 unsigned 0 (folded C.Add unsigned active value count)
reduced op unsigned active value count = folded (combiner_of op) unsigned active value count
