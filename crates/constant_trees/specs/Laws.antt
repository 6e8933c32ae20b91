-- The laws: a typed tree is the constant that its expression is by its form.
use Rattle.std.specs.Prelude.{◌≡◌, ◌<◌, ◌^◌, Bool, true, false, Option, Some, None, IfSome}
use Rattle.std.specs.Option.{option_map}
use Rattle.cstar_base.specs.Numbers.{number_of}
use Rattle.cstar_tree.specs.declared.syntax.Expr.{Expr}
use Rattle.cstar_tree.specs.declared.typed.TExpr.{TExpr}
use Rattle.cstar_tree.specs.Constants.{Constant, constant, constant_number}
use Rattle.cstar_tree.specs.ExpressionTypes.{Types}
use Rattle.cstar_tree.specs.Headers.{Program}
use Rattle.cstar_tree.specs.Scopes.{Here}
use Rattle.cstar_tree.specs.Typed.{type_of}
use Rattle.source_meaning.specs.Constants.{constant_of, is_constant, value_of}
use Rattle.constant_trees.specs.Words.{HasFewPositions, HasWords}

-- A typed tree is this constant: it is constant and scalar, and has its element type and its value,
-- which is a number of that type. Neither has a value where that is a fault.
pub record IsConstant (t : TExpr) (k : Constant) : Type 0 where
  pub form : is_constant t ≡ true
  pub scalar : (type_of t).shape ≡ None
  pub elem : (type_of t).elem ≡ k.elem
  pub value : value_of t ≡ k.word
  pub fits : IfSome k.word (λ w. w < 2 ^ k.elem.bits)

-- a typed tree is this constant, or is none where there is none
abbrev pub IsAsWritten : Option Constant → TExpr → Type 0
IsAsWritten None t = is_constant t ≡ false
IsAsWritten (Some k) t = IsConstant t k

abbrev pub TypedConstantsAreTheWrittenOnes : Type 0
TypedConstantsAreTheWrittenOnes =
    (program : Program) (here : Here) (e : Expr) (t : TExpr) (has_value : Bool) → HasFewPositions here → HasWords e → Types program here e t has_value → IsAsWritten (constant here e) t

abbrev pub TypedConstantsHaveTheWrittenNumbers : Type 0
TypedConstantsHaveTheWrittenNumbers =
    (program : Program) (here : Here) (e : Expr) (t : TExpr) (has_value : Bool) → HasFewPositions here → HasWords e → Types program here e t has_value →
    constant_number here e ≡ option_map (number_of (type_of t).elem.bits (type_of t).elem.signed) (constant_of t)
