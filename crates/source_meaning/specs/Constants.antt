-- Constant expressions: which there are, and what their values are.
use Rattle.std.specs.Prelude.{◌≡◌, ℕ, pos, Bool, true, false, not, ◌==◌, ◌&&◌, ◌⊎◌, if◌then◌else◌, Option, Some, None, is_none}
use Rattle.std.specs.Int.{from_bool}
use Rattle.cstar_base.specs.declared.faults.RunFault.TheVariants.{DivZero}
use Rattle.cstar_base.specs.declared.operators.Place.{Place}
use Rattle.cstar_base.specs.Numbers.{residue, converted}
use Rattle.cstar_base.specs.Operators.{operate}
use Rattle.cstar_tree.specs.declared.typed.TExpr.{TExpr}
use Rattle.cstar_tree.specs.declared.typed.TExpr as T
use Rattle.cstar_tree.specs.declared.typed.ValueType.{ValueType}
use Rattle.cstar_tree.specs.Typed.{type_of}
use Rattle.source_meaning.specs.Expressions.{evaluated}
use Rattle.source_meaning.specs.State.{State, Outcome, Gives, Ends, Fault}
use Rattle.source_meaning.specs.Values.{Value, Scalar, Active, Scope, nonzero, cast_type, cast_through, unary_of}

-- is the number one of its type
abbrev pub fits : ValueType → ℕ → Bool
fits ty w = residue ty.elem.bits (pos w) == w

-- Is an expression constant: it is scalar and has nothing but numbers, casts, what is asked of
-- shapes, and operators without effects. Each part has the type that its operator gives.
unfoldable pub is_constant : TExpr → Bool
is_constant (T.Number ty value) = is_none ty.shape && fits ty value
is_constant (T.PositionsOf ty shape value) = is_none ty.shape && fits ty value
is_constant (T.RankOf ty shape value) = is_none ty.shape && fits ty value
is_constant (T.DimOf ty shape axis value) = is_none ty.shape && fits ty value
is_constant (T.Brackets' ty p inner) = is_none ty.shape && ty.elem.bits == (type_of inner).elem.bits && is_constant inner
is_constant (T.Casts' ty elems p operand) =
    is_none ty.shape && ty.elem.bits == (cast_type elems.items (type_of operand).elem).bits && is_constant operand
is_constant (T.Convert' ty p operand) = is_none ty.shape && is_constant operand
is_constant (T.Unary' ty op p operand) = is_none ty.shape && ty.elem.bits == 32 && is_constant operand
is_constant (T.Binary' ty place op p left q right) = is_none ty.shape && ty.elem.bits == 32 && is_constant left && is_constant right
is_constant (T.LogicalOr' ty p left q right) = is_none ty.shape && ty.elem.bits == 32 && is_constant left && is_constant right
is_constant (T.LogicalAnd' ty p left q right) = is_none ty.shape && ty.elem.bits == 32 && is_constant left && is_constant right
is_constant (T.Choice' ty p test q first r second) =
    is_none ty.shape && ty.elem.bits == (type_of first).elem.bits && ty.elem.bits == (type_of second).elem.bits
    && is_constant test && is_constant first && is_constant second
is_constant _ = false

-- What a part of a run means that has no effect, in every scope, under every active set and in every
-- state: a number, or a division by 0.
abbrev pub Means : (Scope → Active → State → Outcome Value) → Option ℕ → Type 0
Means part (Some v) = (scope : Scope) (active : Active) (st : State) → part scope active st ≡ Gives (Scalar v) st
Means part None = (scope : Scope) (active : Active) (st : State) → (place : Place) × (part scope active st ≡ Ends (Fault DivZero place None) st)

abbrev pub IsValueOf : TExpr → Option ℕ → Type 0
IsValueOf e v = Means (λ scope active st. evaluated scope e active st) v

-- the answer for an expression: its value, and none where it is not constant or its value is a fault
unfoldable pub IsConstantOf : TExpr → Option ℕ → Type 0
IsConstantOf e (Some v) = (is_constant e ≡ true) × IsValueOf e (Some v)
IsConstantOf e None = (is_constant e ≡ false) ⊎ IsValueOf e None

-- one value, and then another
abbrev pub then_value : Option ℕ → (ℕ → Option ℕ) → Option ℕ
then_value None next = None
then_value (Some v) next = next v

-- the value of a constant expression by its parts
unfoldable pub value_of : TExpr → Option ℕ
value_of (T.Number ty value) = Some value
value_of (T.PositionsOf ty shape value) = Some value
value_of (T.RankOf ty shape value) = Some value
value_of (T.DimOf ty shape axis value) = Some value
value_of (T.Brackets' ty p inner) = value_of inner
value_of (T.Casts' ty elems p operand) = then_value (value_of operand) (λ v. Some (cast_through elems.items (type_of operand).elem v))
value_of (T.Convert' ty p operand) = then_value (value_of operand) (λ v. Some (converted ty.elem (type_of operand).elem v))
value_of (T.Unary' ty op p operand) = then_value (value_of operand) (λ v. Some (unary_of op v))
value_of (T.Binary' ty place op p left q right) =
    then_value (value_of left) (λ v. then_value (value_of right) (λ w. operate op (not (type_of left).elem.signed) v w))
value_of (T.LogicalOr' ty p left q right) =
    then_value (value_of left) (λ v. if nonzero v then Some 1 else then_value (value_of right) (λ w. Some (from_bool (nonzero w))))
value_of (T.LogicalAnd' ty p left q right) =
    then_value (value_of left) (λ v. if nonzero v then then_value (value_of right) (λ w. Some (from_bool (nonzero w))) else Some 0)
value_of (T.Choice' ty p test q first r second) =
    then_value (value_of test) (λ v. if nonzero v then value_of first else value_of second)
value_of _ = None

-- the value of an expression where it is constant and no fault
unfoldable pub constant_of : TExpr → Option ℕ
constant_of e = if is_constant e then value_of e else None
