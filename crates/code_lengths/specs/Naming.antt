-- The variables that a typed expression names are those of the program and of the instance in which it
-- stands, each by its number and with its type, and of those of the blocks the first ones, which are
-- declared before it; and what it says of shapes is so of the program's: `dimof` has the extent, and a left
-- index has one index for each axis.
use Rattle.std.specs.Prelude.{◌≡◌, ◌<◌, ℕ, List, length, map, slice_get, Option, Some, None, IfSome, IsSome}
use Rattle.cstar_tree.specs.declared.typed.Instance.{Instance}
use Rattle.cstar_tree.specs.declared.typed.ShapeInfo.{ShapeInfo}
use Rattle.cstar_tree.specs.declared.typed.TExpr.{TExpr, Row_of-TExpr, end_of-TExpr, more_of-TExpr, items-the_row-TExpr}
use Rattle.cstar_tree.specs.declared.typed.TExpr as T
use Rattle.cstar_tree.specs.declared.typed.Typed.{Typed}
use Rattle.cstar_tree.specs.declared.typed.ValueType.{ValueType}
use Rattle.cstar_tree.specs.declared.typed.VarInfo.{VarInfo}
use Rattle.cstar_tree.specs.declared.typed.Variable.{Variable}
use Rattle.cstar_tree.specs.declared.typed.Variable.TheVariants as V
use Rattle.cstar_tree.specs.Conversions.{parallel}
use Rattle.cstar_tree.specs.Scopes.{Here, VariableType, a_variable, meaning}
use Rattle.cstar_tree.specs.StatementTypes.{variable_info}
use Rattle.cstar_tree.specs.Variables.{variables_of}
use Rattle.code_lengths.specs.Shaped.{HasShape}

-- the variable of this number, of the file, of the instance's parameters or of its blocks
unfoldable pub variable_named : Typed → Instance → Variable → Option VarInfo
variable_named t i (V.File k) = slice_get t.vars.items k
variable_named t i (V.Param k) = slice_get i.params.items k
variable_named t i (V.Local k) = slice_get (variables_of i.body) k

-- a variable that is declared where so many variables of the blocks are
unfoldable pub IsDeclared : ℕ → Variable → Type 0
IsDeclared n (V.Local k) = k < n
IsDeclared n _ = Unit {0}

-- the shape of a type, if it has one, is one of the program's
abbrev pub HasItsShape : Typed → ValueType → Type 0
HasItsShape t ty = IfSome ty.shape (λ (number : ℕ). IsSome (slice_get t.shapes.items number))

-- there is such a variable, it is declared where so many are, and it has this type
pub record HasVariable (t : Typed) (i : Instance) (n : ℕ) (v : Variable) (ty : VariableType) : Type 0 where
  pub word : List ℕ
  pub start : ℕ
  pub named : variable_named t i v ≡ Some (variable_info word ty start)
  pub declared : IsDeclared n v
  pub shape : HasItsShape t ty.value

abbrev pub plain : ValueType → VariableType
plain ty = record { value = ty; array = None }

-- the extents of the program's shapes
abbrev pub extents_in : Typed → List (List ℕ)
extents_in t = map (λ (s : ShapeInfo). s.extents.items) t.shapes.items

-- what is known at a place is there: the variables, where so many of the blocks are declared, and the shapes
abbrev pub Knows : Typed → Instance → ℕ → Here → Type 0
Knows t i n here = ((word : List ℕ) (v : Variable) (ty : VariableType) → meaning here word ≡ Some (a_variable v (Some ty)) → HasVariable t i n v ty) × (here.shapes ≡ extents_in t)

abbrev pub KnowsVariables : Typed → Instance → Here → Type 0
KnowsVariables t i here = Knows t i here.locals here

-- a shape of the program has this extent along an axis, and so many axes
abbrev pub HasExtent : Typed → ℕ → ℕ → ℕ → Type 0
HasExtent t shape axis extent = (extents : List ℕ) × (slice_get (extents_in t) shape ≡ Some extents) × (slice_get extents axis ≡ Some extent)

abbrev pub HasAxes : Typed → ℕ → ℕ → Type 0
HasAxes t shape many = (extents : List ℕ) × (slice_get (extents_in t) shape ≡ Some extents) × (many ≡ length extents)

-- the segment bits of a scan, if it has any, are a parallel variable
abbrev pub HasBits : Typed → Instance → ℕ → Option Variable → Type 0
HasBits t i n bit = IfSome bit (λ (v : Variable). (ty : ValueType) × HasShape ty × HasVariable t i n v (plain ty))

unfoldable mutual
  pub NamesVariables : Typed → Instance → ℕ → TExpr → Type 0
  NamesVariables t i n (T.Assign' ty place op p target q value) = NamesVariables t i n target × NamesVariables t i n value
  NamesVariables t i n (T.Choice' ty p test q first r second) = NamesVariables t i n test × NamesVariables t i n first × NamesVariables t i n second
  NamesVariables t i n (T.LogicalOr' ty p left q right) = NamesVariables t i n left × NamesVariables t i n right
  NamesVariables t i n (T.LogicalAnd' ty p left q right) = NamesVariables t i n left × NamesVariables t i n right
  NamesVariables t i n (T.Binary' ty place op p left q right) = NamesVariables t i n left × NamesVariables t i n right
  NamesVariables t i n (T.Unary' ty op p operand) = NamesVariables t i n operand
  NamesVariables t i n (T.Step' ty op order p target) = NamesVariables t i n target
  NamesVariables t i n (T.Reduce' ty op p operand) = NamesVariables t i n operand
  NamesVariables t i n (T.Casts' ty elems p operand) = NamesVariables t i n operand
  NamesVariables t i n (T.ParallelCast' ty p operand) = NamesVariables t i n operand
  NamesVariables t i n (T.Convert' ty p operand) = NamesVariables t i n operand
  NamesVariables t i n (T.Promote' ty p operand) = NamesVariables t i n operand
  NamesVariables t i n (T.Variable ty x) = HasVariable t i n x (plain ty)
  NamesVariables t i n (T.Element' ty place array p index) =
      ((length : ℕ) × HasVariable t i n array (record { value = ty; array = Some length })) × NamesVariables t i n index
  NamesVariables t i n (T.Brackets' ty p inner) = NamesVariables t i n inner
  NamesVariables t i n (T.Call' ty instance p arguments) = AllNameVariables t i n arguments
  NamesVariables t i n (T.LeftIndex' ty place p indexes x of) = HasVariable t i n x (plain (parallel ty.elem of)) × AllNameVariables t i n indexes × HasAxes t of (length (items-the_row-TExpr _ indexes))
  NamesVariables t i n (T.Scan' ty p source axis combiner direction mode bit within) = HasBits t i n bit × NamesVariables t i n source
  NamesVariables t i n (T.Enumerate ty axis direction within mode bit) = HasBits t i n bit
  NamesVariables t i n (T.DimOf ty shape axis value) = HasExtent t shape axis value
  NamesVariables t i n (T.Printf' ty pieces p arguments) = AllNameVariables t i n arguments
  NamesVariables t i n _ = Unit {0}

  pub AllNameVariables : {k : _} → Typed → Instance → ℕ → Row_of-TExpr k → Type 0
  AllNameVariables t i n end_of-TExpr = Unit {0}
  AllNameVariables t i n (more_of-TExpr e rest) = NamesVariables t i n e × AllNameVariables t i n rest
