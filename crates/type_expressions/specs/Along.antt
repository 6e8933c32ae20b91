-- What an intrinsic goes along: its axis and its segment bits, as the code has found them.
use Rattle.std.specs.Prelude.{◌≡◌, ◌==◌, ◌<◌, ◌-◌, ◌^◌, ℕ, min, ℤ, Bool, false, List, length, Option, Some, None, is_none, is_some, slice_get, unwrap_or, nat_lt, pos, negsuc, Result, Ok, Err, if◌then◌else◌}
use Rattle.std.specs.Option.{option_map}
use Rattle.cstar_base.specs.Numbers.{number_of}
use Rattle.cstar_base.specs.declared.faults.Fault.{Fault}
use Rattle.cstar_base.specs.declared.faults.Fault.TheVariants as Faults
use Rattle.cstar_base.specs.declared.operators.Place.{Place}
use Rattle.cstar_base.specs.declared.elem.Elem.{Elem}
use Rattle.cstar_base.specs.declared.operators.SegmentMode.{SegmentMode}
use Rattle.cstar_base.specs.declared.operators.SegmentMode.TheVariants as M
use Rattle.cstar_tree.specs.declared.syntax.Expr.{Expr}
use Rattle.cstar_tree.specs.declared.syntax.Name.{Name}
use Rattle.cstar_tree.specs.declared.typed.ShapeInfo.{ShapeInfo}
use Rattle.cstar_tree.specs.declared.typed.TExpr.{TExpr}
use Rattle.cstar_tree.specs.declared.typed.Variable.{Variable}
use Rattle.cstar_tree.specs.Typed.{type_of}
use Rattle.source_meaning.specs.Constants.{constant_of}
use Rattle.type_scopes.specs.Answers.{told_by}
use Rattle.type_scopes.specs.declared.faults.Untyped.{Untyped}
use Rattle.type_scopes.specs.declared.faults.Untyped.TheVariants as U
use Rattle.cstar_tree.specs.Constants.{axis_among, axis_of, product}
use Rattle.cstar_tree.specs.Conversions.{parallel}
use Rattle.cstar_tree.specs.ExpressionFaults.{FaultAt, IsAxis, NamesBit}
use Rattle.cstar_tree.specs.ExpressionTypes.{IsBit, IsVariable}
use Rattle.cstar_tree.specs.Headers.{Program}
use Rattle.cstar_tree.specs.Scopes.{Here, a_variable, extents_of, meaning}
use Rattle.type_expressions.specs.declared.intrinsics.Axis.{Axis}
use Rattle.type_expressions.specs.declared.intrinsics.Axis.TheVariants as A

-- an axis that has no fault: its number, where there is a current shape
pub data IsAlong (program : Program) (here : Here) (e : Expr) : Axis → Type 0 where
  unknown : {number : ℤ} → here.current ≡ None → IsAxis program here e number → IsAlong program here e A.Unknown
  known : {number : ℤ} {shape axis : ℕ} {extents : List ℕ} → here.current ≡ Some shape → extents_of here shape ≡ Some extents → IsAxis program here e number → axis_among extents (Some number) ≡ Some axis → IsAlong program here e (A.Number axis)

-- segment bits that have no fault, if they are written: a `bool` variable of the current shape
pub data AreBits (here : Here) : Option Name → Option Variable → Type 0 where
  no_bits : AreBits here None None
  bits : {n : Name} {v : Variable} {elem : Elem} {shape : ℕ} → IsVariable here n v (record { value = parallel elem shape; array = None }) → elem.bits ≡ 1 → here.current ≡ Some shape → AreBits here (Some n) (Some v)

-- a fault of the name of segment bits stands at each expression that names them
abbrev pub IsFaultOfBits : Program → Here → Name → Fault → Place → Type 0
IsFaultOfBits program here n fault p = (e : Expr) (mode : SegmentMode) → NamesBit e mode (Some n) → FaultAt program here e fault p

-- what is answered for segment bits, if they are written: their variable, or a fault of their name,
-- or that its declaration is faulty
abbrev pub AreBitsNamed : Program → Here → Option Name → Result (Option Variable) Untyped → Type 0
AreBitsNamed program here written (Ok bit) = AreBits here written bit
AreBitsNamed program here None (Err u) = ⊥
AreBitsNamed program here (Some n) (Err (U.Fault standing)) = IsFaultOfBits program here n standing.fault standing.place
AreBitsNamed program here (Some n) (Err U.Faulty) = (v : Variable) × (meaning here n.word ≡ Some (a_variable v None))
AreBitsNamed program here (Some n) (Err U.Memory) = ⊥

-- an intrinsic goes along this axis of the current shape, with these segment bits
pub record GoesBy (here : Here) (e : Expr) (mode : SegmentMode) (written : Option Name) (bit : Option Variable) (shape axis : ℕ) : Type 0 where
  pub extents : List ℕ
  pub of_shape : extents_of here shape ≡ Some extents
  pub axis_is : axis_of here extents e ≡ Some axis
  pub bits : IsBit here mode written bit

-- the mode without segments goes with no bits, and each other one with bits
abbrev pub goes_with : SegmentMode → Option Variable → Bool
goes_with M.NoSegments bit = is_none bit
goes_with mode bit = is_some bit

-- the extent of a shape along an axis, or 0 where there is none
abbrev pub extent_along : Option ShapeInfo → ℕ → ℕ
extent_along None axis = 0
extent_along (Some info) axis = unwrap_or (slice_get info.extents.items axis) 0

-- how many positions a shape has, as far as 32 bits count them, or 0 where there is none
abbrev pub positions_in : Option ShapeInfo → ℕ
positions_in None = 0
positions_in (Some info) = min (product info.extents.items) (2 ^ 32 - 1)

-- as many as a shape has axes
abbrev pub is_rank : Option ℕ → ℕ → Bool
is_rank None n = false
is_rank (Some rank) n = rank == n

-- a shape, where there is one, has extents, fewer than 2^32
abbrev pub HasExtents : Here → Option ℕ → Type 0
HasExtents here None = Unit {0}
HasExtents here (Some shape) = (extents : List ℕ) × (extents_of here shape ≡ Some extents) × (length extents < 2 ^ 32)

-- the number of a typed constant, if it is one
abbrev pub number_of_constant : TExpr → Option ℤ
number_of_constant t = option_map (number_of (type_of t).elem.bits (type_of t).elem.signed) (constant_of t)

-- a number as an axis of so many
abbrev pub axis_in : ℕ → ℤ → Option ℕ
axis_in rank (pos n) = if nat_lt n rank then Some n else None
axis_in rank (negsuc n) = None

-- what is answered for an axis by its number, of so many axes: of an unknown shape it is unknown
abbrev pub IsAxisOf : Option ℤ → Option ℕ → Place → Result Axis Untyped → Type 0
IsAxisOf None rank place (Ok axis) = ⊥
IsAxisOf None rank place (Err u) = told_by u ≡ Some (Faults.Constant, place)
IsAxisOf (Some number) None place (Ok axis) = axis ≡ A.Unknown
IsAxisOf (Some number) None place (Err u) = ⊥
IsAxisOf (Some number) (Some rank) place (Ok axis) = (n : ℕ) × (axis ≡ A.Number n) × (axis_in rank number ≡ Some n)
IsAxisOf (Some number) (Some rank) place (Err u) = (told_by u ≡ Some (Faults.Axis, place)) × (axis_in rank number ≡ None)
