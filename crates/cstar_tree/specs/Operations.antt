-- What the operators do to types.
use Rattle.std.specs.Prelude.{ℕ, Bool, true, false, Option, Some, None, if◌then◌else◌}
use Rattle.cstar_base.specs.declared.elem.Elem.{Elem}
use Rattle.cstar_base.specs.declared.operators.Op.{Op}
use Rattle.cstar_base.specs.declared.operators.Op.TheVariants as O
use Rattle.cstar_base.specs.declared.operators.Place.{Place}
use Rattle.cstar_tree.specs.declared.syntax.AssignOp.{AssignOp}
use Rattle.cstar_tree.specs.declared.syntax.AssignOp.TheVariants as A
use Rattle.cstar_tree.specs.declared.syntax.PrefixOp.{PrefixOp}
use Rattle.cstar_tree.specs.declared.syntax.PrefixOp.TheVariants as P
use Rattle.cstar_tree.specs.declared.typed.UnaryOp.{UnaryOp}
use Rattle.cstar_tree.specs.declared.typed.UnaryOp.TheVariants as U
use Rattle.cstar_tree.specs.declared.typed.TExpr.{TExpr}
use Rattle.cstar_tree.specs.declared.typed.TExpr as T
use Rattle.cstar_tree.specs.Conversions.{common, int, promoted}

abbrev pub compares : Op → Bool
compares O.Eq = true
compares O.Ne = true
compares O.Lt = true
compares O.Le = true
compares O.Gt = true
compares O.Ge = true
compares _ = false

abbrev pub shifts : Op → Bool
shifts O.Shl = true
shifts O.Shr = true
shifts _ = false

-- The operands of an operator have their common type, but those of a shift each its own promoted
-- type. The result has the type of the left operand, and a comparison gives an `int`.
unfoldable pub left_elem : Op → Elem → Elem → Elem
left_elem op a b = if shifts op then promoted a else common a b

unfoldable pub right_elem : Op → Elem → Elem → Elem
right_elem op a b = if shifts op then promoted b else common a b

unfoldable pub result_elem : Op → Elem → Elem → Elem
result_elem op a b = if compares op then int else left_elem op a b

-- the operators that fold the elements of a parallel value into a scalar, and that combine the
-- messages of a send
abbrev pub folds : AssignOp → Bool
folds A.Add = true
folds A.Sub = true
folds A.And = true
folds A.Xor = true
folds A.Or = true
folds A.Min = true
folds A.Max = true
folds _ = false

-- the operators that can send: these, and `=`
abbrev pub sends : AssignOp → Bool
sends A.Set = true
sends op = folds op

-- the element type that the value of an assignment is brought to, from those of target and value:
-- `=` stores at the target's, a shift takes the promoted value, and else it is the common type
unfoldable pub assigned_elem : AssignOp → Elem → Elem → Elem
assigned_elem A.Set target value = target
assigned_elem A.Shl target value = promoted value
assigned_elem A.Shr target value = promoted value
assigned_elem op target value = common target value

-- the prefix operators on numbers, whose operand is promoted
abbrev pub sign_of : PrefixOp → Option UnaryOp
sign_of P.Plus = Some U.Plus
sign_of P.Minus = Some U.Minus
sign_of P.Complement = Some U.Complement
sign_of _ = None

-- what can be stored in: a variable or one element, or the many targets of a parallel left index
-- with the place of its first `[`
pub data Target : Type 0 where
  one : Target
  many : Place → Target

abbrev pub left_target : Place → Option ℕ → Target
left_target place None = one
left_target place (Some shape) = many place

-- what an expression is as a target, maybe in brackets
unfoldable pub target_of : TExpr → Option Target
target_of (T.Variable ty variable) = Some one
target_of (T.Element' ty _ _ _ _) = Some one
target_of (T.LeftIndex' ty place _ _ _ _) = Some (left_target place ty.shape)
target_of (T.Brackets' _ _ inner) = target_of inner
target_of _ = None
