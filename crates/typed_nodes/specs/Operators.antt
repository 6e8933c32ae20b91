-- The nodes of operators over typed operands: each operand is brought to the type that the operator
-- wants of it, and the node has the type that the operator gives.
use Rattle.std.specs.Prelude.{◌≡◌, ℕ, List, map, Option, Box, Vec}
use Rattle.std.specs.declared.alloc.Global.{Global}
use Rattle.cstar_base.specs.declared.elem.Elem.{Elem}
use Rattle.cstar_base.specs.declared.operators.Op.{Op}
use Rattle.cstar_base.specs.declared.operators.Place.{Place}
use Rattle.cstar_tree.specs.declared.syntax.AssignOp.{AssignOp}
use Rattle.cstar_tree.specs.declared.syntax.BinaryOp.{BinaryOp}
use Rattle.cstar_tree.specs.declared.syntax.BinaryOp.TheVariants as B
use Rattle.cstar_tree.specs.declared.syntax.Cast.{Cast}
use Rattle.cstar_tree.specs.declared.syntax.ReduceOp.{ReduceOp}
use Rattle.cstar_tree.specs.declared.typed.TExpr.{TExpr}
use Rattle.cstar_tree.specs.declared.typed.TExpr as T
use Rattle.cstar_tree.specs.declared.typed.UnaryOp.{UnaryOp}
use Rattle.cstar_tree.specs.declared.typed.UnaryOp.TheVariants as U
use Rattle.cstar_tree.specs.declared.typed.ValueType.{ValueType}
use Rattle.cstar_tree.specs.Typed.{type_of}
use Rattle.cstar_tree.specs.Conversions.{IsConverted, IsFitted, IsSpread, common, either, int, promoted, scalar}
use Rattle.cstar_tree.specs.ExpressionTypes.{cast_elem}
use Rattle.cstar_tree.specs.Operations.{assigned_elem, left_elem, result_elem, right_elem}

-- parallel if either operand is
abbrev pub shape_of_both : TExpr → TExpr → Option ℕ
shape_of_both a b = either (type_of a).shape (type_of b).shape

-- an operator on numbers
pub record IsNumeric (p : Place) (op : Op) (a b t : TExpr) : Type 0 where
  pub x : Box TExpr Global
  pub y : Box TExpr Global
  pub left : IsFitted a (record { elem = left_elem op (type_of a).elem (type_of b).elem; shape = shape_of_both a b }) x.value
  pub right : IsFitted b (record { elem = right_elem op (type_of a).elem (type_of b).elem; shape = shape_of_both a b }) y.value
  pub node : t ≡ T.Binary (record { elem = result_elem op (type_of a).elem (type_of b).elem; shape = shape_of_both a b }) p op x y

-- `||` and `&&` ask only whether an operand is zero, so neither is converted; under a parallel left
-- operand the right one is parallel too
pub data IsBinary (p : Place) (a : Box TExpr Global) (b t : TExpr) : BinaryOp → Type 0 where
  numeric : {op : Op} → IsNumeric p op a.value b t → IsBinary p a b t (B.Number op)
  logical_or : (y : Box TExpr Global) → IsSpread b (type_of a.value).shape y.value → t ≡ T.LogicalOr (record { elem = int; shape = (type_of y.value).shape }) a y → IsBinary p a b t B.LogicalOr
  logical_and : (y : Box TExpr Global) → IsSpread b (type_of a.value).shape y.value → t ≡ T.LogicalAnd (record { elem = int; shape = (type_of y.value).shape }) a y → IsBinary p a b t B.LogicalAnd

-- the type of `c ? a : b`
abbrev pub choice_type : TExpr → TExpr → TExpr → ValueType
choice_type c a b = record {
  elem = common (type_of a).elem (type_of b).elem;
  shape = either (type_of c).shape (shape_of_both a b);
}

pub record IsChoice (c : Box TExpr Global) (a b t : TExpr) : Type 0 where
  pub x : Box TExpr Global
  pub y : Box TExpr Global
  pub second : IsFitted a (choice_type c.value a b) x.value
  pub third : IsFitted b (choice_type c.value a b) y.value
  pub node : t ≡ T.Choice (choice_type c.value a b) c x y

-- a sign before its operand, which is promoted
pub record IsSigned (sign : UnaryOp) (a t : TExpr) : Type 0 where
  pub x : Box TExpr Global
  pub operand : IsConverted a (promoted (type_of a).elem) x.value
  pub node : t ≡ T.Unary (type_of x.value) sign x

-- `!` asks only whether its operand is zero, which is not converted
abbrev pub IsUnary : UnaryOp → Box TExpr Global → TExpr → Type 0
IsUnary U.Not a t = t ≡ T.Unary (record { elem = int; shape = (type_of a.value).shape }) U.Not a
IsUnary sign a t = IsSigned sign a.value t

-- a fold of a promoted operand
pub record IsReduction (op : ReduceOp) (a t : TExpr) : Type 0 where
  pub x : Box TExpr Global
  pub operand : IsConverted a (promoted (type_of a).elem) x.value
  pub node : t ≡ T.Reduce (scalar (promoted (type_of a).elem)) op x

-- a chain of casts to scalar types, the outermost first
pub record IsCastChain (chain : List Cast) (a : Box TExpr Global) (t : TExpr) : Type 0 where
  pub elems : Vec Elem Global
  pub listed : elems.items ≡ map (λ (c : Cast). c.elem) chain
  pub node : t ≡ T.Casts (scalar (cast_elem chain (type_of a.value).elem)) elems a

-- an assignment, which has the type of its target
pub record IsAssignment (p : Place) (op : AssignOp) (target : Box TExpr Global) (v t : TExpr) : Type 0 where
  pub x : Box TExpr Global
  pub value : IsFitted v (record { elem = assigned_elem op (type_of target.value).elem (type_of v).elem; shape = (type_of target.value).shape }) x.value
  pub node : t ≡ T.Assign (type_of target.value) p op target x
