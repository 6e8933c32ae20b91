-- What a call becomes by its header, its instance and its arguments.
use Rattle.std.specs.Prelude.{◌≡◌, ◌&&◌, ℕ, Bool, true, false, List, map, Option, Some, None, Vec, is_none, is_some, slice_get}
use Rattle.std.specs.declared.alloc.Global.{Global}
use Rattle.cstar_tree.specs.declared.typed.TExpr.{TExpr}
use Rattle.cstar_tree.specs.declared.typed.TExpr as T
use Rattle.cstar_tree.specs.declared.typed.ValueType.{ValueType}
use Rattle.cstar_tree.specs.Conversions.{AreFitted}
use Rattle.cstar_tree.specs.ExpressionTypes.{AreTaken, Gives, GivesOutside}
use Rattle.cstar_tree.specs.Headers.{Reached, Returns}
use Rattle.cstar_tree.specs.Typed.{type_of}
use Rattle.type_scopes.specs.declared.headers.Header.{Header}
use Rattle.type_scopes.specs.Headers.{returned}

-- is the argument parallel where its parameter is scalar?
abbrev pub is_unfit : Option ValueType → TExpr → Bool
is_unfit None e = false
is_unfit (Some ty) e = is_none ty.shape && is_some (type_of e).shape

-- one of the arguments is
abbrev pub TakesParallel : List (Option ValueType) → List TExpr → Type 0
TakesParallel parameters arguments = (which : ℕ) × (ty : Option ValueType) × (e : TExpr) × (slice_get parameters which ≡ Some ty) × (slice_get arguments which ≡ Some e) × (is_unfit ty e ≡ true)

-- each parameter has a type
abbrev pub HasTypes : List (Option ValueType) → Type 0
HasTypes parameters = (types : List ValueType) × (parameters ≡ map (λ (ty : ValueType). Some ty) types)

-- what a call gives in a function, or outside all functions
abbrev pub IsGiven : Bool → Returns → ValueType → Bool → Type 0
IsGiven true returns ty has_value = Gives returns ty has_value
IsGiven false returns ty has_value = GivesOutside returns ty has_value

-- the number of the instance that a call reaches, if it stands in a function
abbrev pub IsReached : List Reached → Option ℕ → Reached → Option ℕ → Type 0
IsReached met None r number = number ≡ None
IsReached met (Some around) r None = ⊥
IsReached met (Some around) r (Some number) = slice_get met number ≡ Some r

-- a call with such typed arguments, of this instance, or outside all functions of none
pub data IsCallTo (header : Header) (given : List TExpr) : Option ℕ → TExpr → Bool → Type 0 where
  inside : {types : List ValueType} {ty : ValueType} {has_value : Bool} {instance : ℕ} (fitted : Vec TExpr Global) → header.parameters.items ≡ map (λ (t : ValueType). Some t) types → Gives (returned header.returns) ty has_value → AreFitted types given fitted.items → IsCallTo header given (Some instance) (T.Call ty instance fitted) has_value
  outside : {types : List ValueType} {ty : ValueType} {has_value : Bool} (taken : Vec TExpr Global) → header.parameters.items ≡ map (λ (t : ValueType). Some t) types → GivesOutside (returned header.returns) ty has_value → AreTaken types given → taken.items ≡ given → IsCallTo header given None (T.Call ty 0 taken) has_value
