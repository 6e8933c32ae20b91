-- Values, and what surrounds an expression.
use Rattle.std.specs.Prelude.{ℕ, Bool, true, not, ◌==◌, ◌&&◌, ◌-◌, ◌^◌, if◌then◌else◌, List, [], ◌∷◌, Option, Some, None}
use Rattle.std.specs.Int.{from_bool}
use Rattle.vp_sets.specs.Positions.{position_count, coordinate}
use Rattle.cstar_base.specs.declared.elem.Elem.{Elem}
use Rattle.cstar_base.specs.declared.faults.RunFault.{RunFault}
use Rattle.cstar_base.specs.declared.operators.Place.{Place}
use Rattle.cstar_base.specs.Numbers.{converted}
use Rattle.cstar_base.specs.Operators.{difference_of}
use Rattle.cstar_tree.specs.declared.typed.UnaryOp.{UnaryOp}
use Rattle.cstar_tree.specs.declared.typed.UnaryOp.TheVariants as U
use Rattle.cstar_tree.specs.declared.typed.ValueType.{ValueType}
use Rattle.cstar_tree.specs.declared.typed.Variable.{Variable}
use Rattle.cstar_base.specs.Orders.{least_below}
use Rattle.source_meaning.specs.State.{State, Outcome, Ends, Fault}

-- the value of an expression: a number, a number for each active position, or no value
pub data Value : Type 0 where
  Scalar : ℕ → Value
  Parallel : (ℕ → ℕ) → Value
  Nothing : Value

-- the number of a scalar value
unfoldable pub number : Value → ℕ
number (Scalar n) = n
number _ = 0

-- the number of a value at a position: a scalar one has it everywhere
unfoldable pub at : Value → ℕ → ℕ
at (Scalar n) p = n
at (Parallel f) p = f p
at Nothing p = 0

-- a value of a shape, or of none, made position by position
unfoldable pub each : Option ℕ → (ℕ → ℕ) → Value
each None f = Scalar (f 0)
each (Some s) f = Parallel f

-- the active positions of each shape
abbrev pub Active : Type 0
Active = ℕ → ℕ → Bool

-- What is known where an expression stands: the extents of the shapes, the lengths of the arrays,
-- and what a call of an instance does with the values of its arguments.
pub record Scope : Type 0 where
  pub extents : ℕ → List ℕ
  pub length_of : Variable → ℕ
  pub call : ℕ → List Value → Active → State → Outcome Value

-- how many positions a shape has
unfoldable pub positions : Scope → ℕ → ℕ
positions scope s = position_count (scope.extents s)

-- is the number not 0
abbrev pub nonzero : ℕ → Bool
nonzero w = not (w == 0)

-- Where an operation of a shape fails, if it does: at the least active position at which it fails,
-- or, where it is scalar, at no position, whatever is active.
unfoldable pub failing : Scope → Active → Option ℕ → (ℕ → Bool) → Option (Option ℕ)
failing scope active None fails = if fails 0 then Some None else None
failing scope active (Some s) fails = elim (least_below (λ p. active s p && fails p) (positions scope s)) [ None ↦ None | Some p ↦ Some (Some p) ]

-- a fault where an operation fails, and else what it gives
unfoldable pub unless : {A : Type 0} → Option (Option ℕ) → RunFault → Place → State → Outcome A → Outcome A
unless None fault place st good = good
unless (Some position) fault place st good = Ends (Fault fault place position) st

-- a value converted from one element type to the type of the whole
unfoldable pub convert_to : ValueType → Elem → Value → Value
convert_to ty from v = each ty.shape (λ p. converted ty.elem from (at v p))

-- a chain of casts, outermost first: the type in which a value of a type leaves it, and the value
unfoldable pub cast_type : List Elem → Elem → Elem
cast_type [] from = from
cast_type (to ∷ inner) from = to

unfoldable pub cast_through : List Elem → Elem → ℕ → ℕ
cast_through [] from w = w
cast_through (to ∷ inner) from w = converted to (cast_type inner from) (cast_through inner from w)

-- the operators before an operand, at 32 bits
unfoldable pub unary_of : UnaryOp → ℕ → ℕ
unary_of U.Plus w = w
unary_of U.Minus w = difference_of 32 true 0 w
unary_of U.Complement w = 2 ^ 32 - 1 - w
unary_of U.Not w = from_bool (w == 0)

-- the own coordinate of each position on an axis
unfoldable pub own_coordinate : Scope → Option ℕ → ℕ → Value
own_coordinate scope None axis = Scalar 0
own_coordinate scope (Some s) axis = Parallel (λ p. coordinate (scope.extents s) p axis)
