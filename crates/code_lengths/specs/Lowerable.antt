-- What the code of an expression relies on, node by node, beside its shapes: where a value is wanted
-- there is one, and it stands in a register where the code reads a register, and in a field where the
-- code reads a field.
use Rattle.std.specs.Prelude.{◌≡◌, ℕ, true, false, List, length, slice_get, ◌⊎◌, Option, Some, IfSome, IsSome, is_none}
use Rattle.std.specs.List.{All, AllZip}
use Rattle.cstar_tree.specs.declared.typed.Instance.{Instance}
use Rattle.cstar_tree.specs.declared.typed.TExpr.{TExpr, Row_of-TExpr, end_of-TExpr, more_of-TExpr, items-the_row-TExpr}
use Rattle.cstar_tree.specs.declared.typed.TExpr as T
use Rattle.cstar_tree.specs.declared.typed.Typed.{Typed}
use Rattle.cstar_tree.specs.declared.typed.ValueType.{ValueType}
use Rattle.cstar_tree.specs.declared.typed.VarInfo.{VarInfo}
use Rattle.cstar_tree.specs.Formats.{conversions}
use Rattle.cstar_tree.specs.Operations.{folds}
use Rattle.cstar_tree.specs.Typed.{type_of}
use Rattle.lower_expr.specs.Lengths.{is_send}
use Rattle.lower_expr.specs.Steps.{is_kept}
use Rattle.code_lengths.specs.Shaped.{HasNoShape, HasShape}

-- the function that is called has a result
abbrev pub HasResult : Typed → ℕ → Type 0
HasResult t number = (callee : Instance) × (slice_get t.instances.items number ≡ Some callee) × IsSome callee.result

-- the expression gives a value: a send gives none, nor do `printf` and the call of a function without
-- a result
unfoldable pub GivesValue : Typed → TExpr → Type 0
GivesValue t (T.Assign' ty place op p target q value) = is_send target ≡ false
GivesValue t (T.Brackets' ty p inner) = GivesValue t inner
GivesValue t (T.Call' ty instance p arguments) = HasResult t instance
GivesValue t (T.Printf' ty pieces p arguments) = ⊥
GivesValue t _ = Unit {0}

-- its value stands in a register, and in a field
abbrev pub InRegister : Typed → TExpr → Type 0
InRegister t e = GivesValue t e × (is_kept e ≡ true)

abbrev pub InField : Typed → TExpr → Type 0
InField t e = GivesValue t e × (is_kept e ≡ false)

-- a value for what has this shape, or none: in a register where there is none, and else parallel
pub record IsValueFor (t : Typed) (shape : Option ℕ) (e : TExpr) : Type 0 where
  pub gives : GivesValue t e
  pub in_register : is_none shape ≡ true → is_kept e ≡ true
  pub parallel : is_none shape ≡ false → HasShape (type_of e)

-- the instance that a call of this type calls, with one argument for each parameter
pub record Calls (t : Typed) (number : ℕ) (ty : ValueType) (arguments : List TExpr) : Type 0 where
  pub callee : Instance
  pub found : slice_get t.instances.items number ≡ Some callee
  pub result : IfSome callee.result (λ (info : VarInfo). info.shape ≡ ty.shape)
  pub given : AllZip (λ (param : VarInfo) (e : TExpr). IsValueFor t param.shape e) callee.params.items arguments

-- The operands of `||` and `&&`: of scalar ones both stand in registers, and behind a scalar left one
-- the right one of a parallel whole stands in a field.
pub record AreConditions (t : Typed) (ty : ValueType) (left right : TExpr) : Type 0 where
  pub left_gives : GivesValue t left
  pub right_gives : GivesValue t right
  pub left_register : HasNoShape ty → is_kept left ≡ true
  pub right_register : HasNoShape ty → is_kept right ≡ true
  pub right_field : HasShape ty → is_kept left ≡ true → is_kept right ≡ false

unfoldable mutual
  pub IsLowerable : Typed → TExpr → Type 0
  -- a scalar target takes a value in a register, or folds
  IsLowerable t (T.Assign' ty place op p target q value) =
      GivesValue t value × (HasNoShape (type_of target) → (is_kept value ≡ true) ⊎ (folds op ≡ true)) × IsLowerable t target × IsLowerable t value
  IsLowerable t (T.Choice' ty p test q first r second) =
      GivesValue t test × (HasNoShape ty → is_kept test ≡ true) × IsValueFor t ty.shape first × IsValueFor t ty.shape second ×
      IsLowerable t test × IsLowerable t first × IsLowerable t second
  IsLowerable t (T.LogicalOr' ty p left q right) = AreConditions t ty left right × IsLowerable t left × IsLowerable t right
  IsLowerable t (T.LogicalAnd' ty p left q right) = AreConditions t ty left right × IsLowerable t left × IsLowerable t right
  IsLowerable t (T.Binary' ty place op p left q right) =
      IsValueFor t ty.shape left × IsValueFor t ty.shape right × IsLowerable t left × IsLowerable t right
  IsLowerable t (T.Unary' ty op p operand) = GivesValue t operand × IsLowerable t operand
  -- a step is of one place
  IsLowerable t (T.Step' ty op order p target) = (is_send target ≡ false) × IsLowerable t target
  IsLowerable t (T.Reduce' ty op p operand) = HasNoShape ty × InField t operand × IsLowerable t operand
  IsLowerable t (T.Casts' ty elems p operand) = InRegister t operand × IsLowerable t operand
  IsLowerable t (T.ParallelCast' ty p operand) = GivesValue t operand × HasShape (type_of operand) × IsLowerable t operand
  IsLowerable t (T.Convert' ty p operand) = GivesValue t operand × IsLowerable t operand
  IsLowerable t (T.Promote' ty p operand) = GivesValue t operand × IsLowerable t operand
  IsLowerable t (T.Element' ty place array p index) = InRegister t index × IsLowerable t index
  IsLowerable t (T.Brackets' ty p inner) = IsLowerable t inner
  IsLowerable t (T.Call' ty instance p arguments) = Calls t instance ty (items-the_row-TExpr _ arguments) × AreLowerable t arguments
  IsLowerable t (T.LeftIndex' ty place p indexes x of) =
      All (GivesValue t) (items-the_row-TExpr _ indexes) × (HasNoShape ty → All (InRegister t) (items-the_row-TExpr _ indexes)) × AreLowerable t indexes
  IsLowerable t (T.Scan' ty p source axis combiner direction mode bit within) = HasShape ty × InField t source × IsLowerable t source
  IsLowerable t (T.Enumerate ty axis direction within mode bit) = HasShape ty
  IsLowerable t (T.Printf' ty pieces p arguments) =
      (conversions pieces.items ≡ length (items-the_row-TExpr _ arguments)) × All (InRegister t) (items-the_row-TExpr _ arguments) × AreLowerable t arguments
  IsLowerable t _ = Unit {0}

  pub AreLowerable : {n : _} → Typed → Row_of-TExpr n → Type 0
  AreLowerable t end_of-TExpr = Unit {0}
  AreLowerable t (more_of-TExpr e rest) = IsLowerable t e × AreLowerable t rest
