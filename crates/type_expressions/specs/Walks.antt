-- What the walk over an expression answers: the typed tree that the rules give it at its place.
use Rattle.std.specs.Prelude.{◌≡◌, ◌<◌, ◌^◌, ◌++◌, [], ◌∷◌, ℕ, Bool, true, false, List, length, slice_get, Option, Some, None, Box, Vec}
use Rattle.std.specs.declared.alloc.Global.{Global}
use Rattle.cstar_tree.specs.declared.syntax.Expr.{Expr, Row_of-Expr, end_of-Expr, more_of-Expr, items-the_row-Expr}
use Rattle.cstar_tree.specs.declared.syntax.Expr as E
use Rattle.cstar_tree.specs.declared.typed.ShapeInfo.{ShapeInfo}
use Rattle.cstar_tree.specs.declared.typed.TExpr.{TExpr}
use Rattle.cstar_tree.specs.declared.typed.Variable.{Variable}
use Rattle.constant_trees.specs.Words.{HasFewPositions}
use Rattle.cstar_tree.specs.Constants.{axis_among, constant_number}
use Rattle.cstar_tree.specs.ExpressionTypes.{Types, TypesEach, TypesIndexes}
use Rattle.cstar_tree.specs.Headers.{Program}
use Rattle.cstar_tree.specs.Scopes.{Here, VariableType, a_shape, a_variable, extents_of, meaning, part, shape_of}
use Rattle.type_scopes.specs.FileBindings.{names_at}
use Rattle.type_scopes.specs.declared.file.File.{File}
use Rattle.type_scopes.specs.declared.locals.Locals.{Locals}
use Rattle.type_scopes.specs.declared.sites.Site.{Site}
use Rattle.type_scopes.specs.Shapes.{rank_of}
use Rattle.type_expressions.specs.Along.{AreBits, IsAlong}
use Rattle.type_expressions.specs.Answers.{HasShapes, IsSite, trees}
use Rattle.type_expressions.specs.Names.{HasNames}
use Rattle.type_expressions.specs.Programs.{HasItsCalls}
use Rattle.type_expressions.specs.declared.found.Instances.{Instances}
use Rattle.type_expressions.specs.declared.found.TypedExpr.{TypedExpr}
use Rattle.type_expressions.specs.declared.intrinsics.Axis.TheVariants as A
use Rattle.type_expressions.specs.declared.along.Along.{Along}

-- the shape of this number is one of the file's
abbrev pub IsShape : Here → ℕ → Type 0
IsShape here shape = (extents : List ℕ) × (extents_of here shape ≡ Some extents)

-- so is each shape that is named, that a variable is of, or that is the current one
pub record HasItsShapes (here : Here) : Type 0 where
  pub named : (word : List ℕ) (shape : ℕ) → meaning here word ≡ Some (a_shape shape) → IsShape here shape
  pub of_variable : (word : List ℕ) (v : Variable) (t : VariableType) (shape : ℕ) → meaning here word ≡ Some (a_variable v (Some t)) → t.value.shape ≡ Some shape → IsShape here shape
  pub current : (shape : ℕ) → here.current ≡ Some shape → IsShape here shape

-- the place is the one of which the file, the names of the function and the site tell
pub record IsAround (file : File) (locals : Locals) (site : Site) (here : Here) : Type 0 where
  pub at_site : IsSite site here
  pub names : HasNames (names_at file locals site.known) here
  pub shapes : HasShapes file.shapes.items here
  pub known : HasItsShapes here
  pub few : HasFewPositions here

-- the numbers in the expression are below 2^32, and so are as many indexes as stand before a name
unfoldable mutual
  pub IsPlain : Expr → Type 0
  IsPlain (E.Assign' p op _ target _ value) = IsPlain target × IsPlain value
  IsPlain (E.Choice' p _ test _ second _ third) = IsPlain test × IsPlain second × IsPlain third
  IsPlain (E.Binary' p op _ left _ right) = IsPlain left × IsPlain right
  IsPlain (E.Prefix' p op _ operand) = IsPlain operand
  IsPlain (E.Casts' casts _ operand) = IsPlain operand
  IsPlain (E.ParallelCast' p written _ operand) = IsPlain operand
  IsPlain (E.Postfix' p op _ operand) = IsPlain operand
  IsPlain (E.Element' n bracket _ index) = IsPlain index
  IsPlain (E.Number p value u) = value < 2 ^ 32
  IsPlain (E.Brackets' p _ inner) = IsPlain inner
  IsPlain (E.Call' n _ arguments) = ArePlain arguments
  IsPlain (E.LeftIndex' p _ indexes n) = (length (items-the_row-Expr _ indexes) < 2 ^ 32) × ArePlain indexes
  IsPlain (E.Pcoord' p _ axis) = IsPlain axis
  IsPlain (E.DimOf' p shape _ axis) = IsPlain axis
  IsPlain (E.Scan' p _ source _ axis _ _ _ bit _) = IsPlain source × IsPlain axis
  IsPlain (E.Enumerate' p _ axis _ _ _ bit) = IsPlain axis
  IsPlain (E.Printf' p text _ arguments) = ArePlain arguments
  IsPlain _ = Unit {0}

  pub ArePlain : {n : _} → Row_of-Expr n → Type 0
  ArePlain end_of-Expr = Unit {0}
  ArePlain (more_of-Expr e rest) = IsPlain e × ArePlain rest

-- what is typed is what the rules give the expression at its place, where these instances were met
-- so far
abbrev pub IsTyped : Instances → File → Locals → Site → Expr → Option TypedExpr → Type 0
IsTyped so_far file locals site e None = Unit {0}
IsTyped so_far file locals site e (Some t) = (program : Program) (here : Here) → IsAround file locals site here → HasItsCalls so_far file program here e → IsPlain e → Types program here e t.expr.value t.has_value

-- so is a part, which needs a value
abbrev pub IsValue : Instances → File → Locals → Site → Expr → Option (Box TExpr Global) → Type 0
IsValue so_far file locals site e None = Unit {0}
IsValue so_far file locals site e (Some x) = (program : Program) (here : Here) → IsAround file locals site here → HasItsCalls so_far file program here e → IsPlain e → Types program (part here) e x.value true

-- what is typed from parts is what the rules give the expression with such parts
abbrev pub IsTypedFrom : {X : Type 0} → (Program → Here → X → Type 0) → Option X → File → Locals → Site → Expr → Option TypedExpr → Type 0
IsTypedFrom are parts file locals site e None = Unit {0}
IsTypedFrom are None file locals site e (Some t) = ⊥
IsTypedFrom are (Some parts) file locals site e (Some t) = (program : Program) (here : Here) → IsAround file locals site here → are program here parts → Types program here e t.expr.value t.has_value

abbrev pub IsPart : Program → Here → Expr → Box TExpr Global → Type 0
IsPart program here e x = Types program (part here) e x.value true

-- the operand of an expression that has one, or the index of an element
abbrev pub IsOperand : Program → Here → Expr → Box TExpr Global → Type 0
IsOperand program here (E.Prefix' p op _ operand) x = IsPart program here operand x
IsOperand program here (E.Casts' casts _ operand) x = IsPart program here operand x
IsOperand program here (E.ParallelCast' p written _ operand) x = IsPart program here operand x
IsOperand program here (E.Postfix' p op _ operand) x = IsPart program here operand x
IsOperand program here (E.Element' n bracket _ index) x = IsPart program here index x
IsOperand program here _ x = ⊥

-- the arguments of a call or of `printf`, or the indexes of a left index
abbrev pub AreParts : Program → Here → Expr → Vec (Box TExpr Global) Global → Type 0
AreParts program here (E.LeftIndex' p _ indexes n) xs = TypesIndexes program here n 0 (items-the_row-Expr _ indexes) (trees xs.items)
AreParts program here (E.Call' n _ arguments) xs = TypesEach program (part here) (items-the_row-Expr _ arguments) (trees xs.items)
AreParts program here (E.Printf' p text _ arguments) xs = TypesEach program (part here) (items-the_row-Expr _ arguments) (trees xs.items)
AreParts program here _ xs = ⊥

abbrev pub AreListed : Instances → File → Locals → Site → Expr → Option (Vec (Box TExpr Global) Global) → Type 0
AreListed so_far file locals site e None = Unit {0}
AreListed so_far file locals site e (Some xs) = (program : Program) (here : Here) → IsAround file locals site here → HasItsCalls so_far file program here e → IsPlain e → AreParts program here e xs

-- the whole from its list
abbrev pub IsTypedFromList : Instances → Option (Vec (Box TExpr Global) Global) → File → Locals → Site → Expr → Option TypedExpr → Type 0
IsTypedFromList so_far parts file locals site e t = IsTypedFrom (λ program here xs. AreParts program here e xs × HasItsCalls so_far file program here e) parts file locals site e t

-- what a `.` stands for in a part of a list, if it stands for an axis
abbrev pub dot_at : Option Bool → Option ℕ → ℕ → Option ℕ
dot_at None around axis = around
dot_at (Some true) around axis = Some axis
dot_at (Some false) around axis = None

-- one part more
abbrev pub AreMore : Option (Vec (Box TExpr Global) Global) → Option (Box TExpr Global) → Option (Vec (Box TExpr Global) Global) → Type 0
AreMore parts part None = Unit {0}
AreMore None part (Some all) = ⊥
AreMore (Some parts) None (Some all) = ⊥
AreMore (Some parts) (Some x) (Some all) = all.items ≡ parts.items ++ x ∷ []

-- the axis of an intrinsic
abbrev pub IsAxisTyped : Program → Here → Expr → Box TExpr Global → Type 0
IsAxisTyped program here (E.Pcoord' p _ axis) x = IsPart program here axis x
IsAxisTyped program here (E.DimOf' p shape _ axis) x = IsPart program here axis x
IsAxisTyped program here (E.Scan' p _ source _ axis _ _ _ bit _) x = IsPart program here axis x
IsAxisTyped program here (E.Enumerate' p _ axis _ _ _ bit) x = IsPart program here axis x
IsAxisTyped program here _ x = ⊥

-- the source of a scan, which no other expression has
abbrev pub IsSource : Program → Here → Expr → Option (Box TExpr Global) → Type 0
IsSource program here (E.Scan' p _ source _ axis _ _ _ bit _) None = ⊥
IsSource program here (E.Scan' p _ source _ axis _ _ _ bit _) (Some x) = IsPart program here source x
IsSource program here _ x = Unit {0}

abbrev pub IsSourceValue : Instances → File → Locals → Site → Expr → Option (Box TExpr Global) → Type 0
IsSourceValue so_far file locals site (E.Scan' p _ source _ axis _ _ _ bit _) x = IsValue so_far file locals site source x
IsSourceValue so_far file locals site _ x = Unit {0}

abbrev pub HasItsSource : Expr → Option (Box TExpr Global) → Type 0
HasItsSource (E.Scan' p _ source _ axis _ _ _ bit _) None = ⊥
HasItsSource _ x = Unit {0}

-- `dimof` goes along an axis of the shape that it names
pub record IsAlongShape (here : Here) (along : Along) (shape : Option ℕ) (axis : Expr) : Type 0 where
  pub number : ℕ
  pub extents : List ℕ
  pub of : ℕ
  pub named : shape ≡ Some of
  pub found : along.shape ≡ Some of
  pub has_extents : extents_of here of ≡ Some extents
  pub axis_is : axis_among extents (constant_number here axis) ≡ Some number
  pub goes : along.axis ≡ A.Number number

-- what an intrinsic goes along
abbrev pub IsFoundAlong : Program → Here → Expr → Along → Type 0
IsFoundAlong program here (E.Pcoord' p _ axis) along = IsAlong program here axis along.axis
IsFoundAlong program here (E.DimOf' p written _ axis) along = IsAlongShape here along (shape_of here written) axis
IsFoundAlong program here (E.Scan' p _ source _ axis _ _ _ bit _) along = IsAlong program here axis along.axis × AreBits here bit along.bit
IsFoundAlong program here (E.Enumerate' p _ axis _ _ _ bit) along = IsAlong program here axis along.axis × AreBits here bit along.bit
IsFoundAlong program here _ along = ⊥

abbrev pub AreFoundAlong : File → Locals → Site → Expr → Option (Box TExpr Global) → Option Along → Type 0
AreFoundAlong file locals site e axis None = Unit {0}
AreFoundAlong file locals site e None (Some along) = ⊥
AreFoundAlong file locals site e (Some x) (Some along) = (program : Program) (here : Here) → IsAround file locals site here → IsPlain e → IsAxisTyped program here e x → IsFoundAlong program here e along

-- an intrinsic is typed from what it goes along and, if it is a scan, from its source
abbrev pub IsTypedAlong : File → Locals → Site → Expr → Along → Option (Box TExpr Global) → Option TypedExpr → Type 0
IsTypedAlong file locals site e along source None = Unit {0}
IsTypedAlong file locals site e along source (Some t) = HasItsSource e source × ((program : Program) (here : Here) → IsAround file locals site here → IsFoundAlong program here e along → IsSource program here e source → Types program here e t.expr.value t.has_value)

-- how many axes a shape has, if there is one
abbrev pub rank_under : List ShapeInfo → Option ℕ → Option ℕ
rank_under shapes None = None
rank_under shapes (Some shape) = rank_of (slice_get shapes shape)
