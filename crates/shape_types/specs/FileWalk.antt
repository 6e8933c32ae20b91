-- What is known behind the first declarations of a file, while it is typed.
use Rattle.std.specs.List.{All}
use Rattle.std.specs.Option.{option_flatten}
use Rattle.std.specs.Prelude.{◌≡◌, ◌<◌, ◌+◌, ◌++◌, ℕ, List, length, map, slice_get, Option, Some, None, Box}
use Rattle.std.specs.declared.alloc.Global.{Global}
use Rattle.constant_trees.specs.Words.{IsCounted}
use Rattle.cstar_base.specs.declared.elem.Elem.{Elem}
use Rattle.cstar_tree.specs.declared.syntax.Declaration.{Declaration}
use Rattle.cstar_tree.specs.declared.syntax.Declarator.{Declarator}
use Rattle.cstar_tree.specs.declared.syntax.Initializer.{Initializer}
use Rattle.cstar_tree.specs.declared.syntax.ShapeDefinition.{ShapeDefinition}
use Rattle.cstar_tree.specs.declared.typed.ShapeInfo.{ShapeInfo}
use Rattle.cstar_tree.specs.declared.typed.TExpr.{TExpr}
use Rattle.cstar_tree.specs.declared.typed.ValueType.{ValueType}
use Rattle.cstar_tree.specs.declared.typed.VarInfo.{VarInfo}
use Rattle.cstar_tree.specs.declared.typed.Variable.{Variable}
use Rattle.cstar_tree.specs.declared.typed.Variable.TheVariants as V
use Rattle.cstar_tree.specs.BlockScopes.{declared_type}
use Rattle.cstar_tree.specs.Conversions.{IsConverted}
use Rattle.cstar_tree.specs.FileScopes.{Known, behind_shapes, behind_variables, defined_extents, file_known, file_place, functions_named, kept_extents}
use Rattle.cstar_tree.specs.ProgramTypes.{Starts, TypesShapes, TypesVariables}
use Rattle.cstar_tree.specs.Scopes.{Binding, Here, Meaning, VariableType, a_function, a_shape, a_variable, written_type}
use Rattle.cstar_tree.specs.StatementTypes.{IsDeclarable}
use Rattle.file_names.specs.Numbers.{HasFewNames}
use Rattle.source_meaning.specs.Constants.{constant_of}
use Rattle.type_scopes.specs.Bindings.{type_meant}
use Rattle.type_scopes.specs.declared.file.File.{File}
use Rattle.type_scopes.specs.declared.names.VariableType as Names
use Rattle.type_statements.specs.declared.declarations.Initial.{Initial}
use Rattle.shape_types.specs.FileKnowledge.{IsNumberedFile, IsOfShapes}

-- the one list of names is known before the other
abbrev pub AreFirst : List Binding → List Binding → Type 0
AreFirst first all = (later : List Binding) × (all ≡ later ++ first)

-- a variable of the file has the type that is kept under its number
abbrev pub HasKeptType : List (Option Names.VariableType) → Variable → Option VariableType → Type 0
HasKeptType types (V.File v) ty = (v < length types) × (type_meant (option_flatten (slice_get types v)) ≡ ty)
HasKeptType types (V.Param p) ty = ⊥
HasKeptType types (V.Local l) ty = ⊥

abbrev pub IsKept : List (Option Names.VariableType) → Meaning → Type 0
IsKept types (a_shape s) = Unit {0}
IsKept types (a_function f) = Unit {0}
IsKept types (a_variable v ty) = HasKeptType types v ty

-- So much is known of the file, of which nothing but the names was known at the start: so many names,
-- the extents of the shapes, which are not too large, and the types of the variables.
pub record Knows (start : File) (known : Known) (file : File) (count : ℕ) : Type 0 where
  pub numbered : IsNumberedFile start
  pub few : HasFewNames (file_known start.tree.now)
  pub tree : file.tree ≡ start.tree
  pub same_names : file.names ≡ start.names
  pub same_functions : file.functions ≡ start.functions
  pub first : AreFirst known.names (file_known start.tree.now).names
  pub as_many : count ≡ length known.names
  pub shapes : known.shapes ≡ map (λ (s : ShapeInfo). s.extents.items) file.shapes.items
  pub counted : All IsCounted known.shapes
  pub types : known.variables ≡ length file.types.items
  pub kept : All (λ (b : Binding). IsKept file.types.items b.meaning) known.names
  pub shaped : All (λ (b : Binding). IsOfShapes known.shapes b.meaning) known.names

-- the place behind them
abbrev pub place_in : File → Known → Here
place_in start known = file_place (functions_named start.tree.now) known

-- a shape with the extents that its definition gives, which are not too large
pub record IsDefined (here : Here) (s : ShapeDefinition) (info : ShapeInfo) : Type 0 where
  pub name : info.name ≡ s.name.word
  pub extents : defined_extents here s ≡ Some info.extents.items
  pub kept : kept_extents here s.extents.items ≡ info.extents.items
  pub counted : IsCounted info.extents.items

-- the shapes of an item, behind those before
pub record AreDefined (start : File) (known : Known) (definitions : List ShapeDefinition) (before : List ShapeInfo) (file : File) (count : ℕ) : Type 0 where
  pub own : List ShapeInfo
  pub behind : file.shapes.items ≡ before ++ own
  pub typed : TypesShapes (functions_named start.tree.now) known definitions own
  pub knows : Knows start (behind_shapes (functions_named start.tree.now) known definitions) file count

-- a type is scalar or of one of the shapes
abbrev pub IsOfSome : List (List ℕ) → ValueType → Type 0
IsOfSome shapes ty = (shape : ℕ) → ty.shape ≡ Some shape → shape < length shapes

-- the type of a variable of the file
pub record HasItsType (here : Here) (ty : ValueType) (d : Declarator) (found : Option Names.VariableType) : Type 0 where
  pub of : Names.VariableType
  pub is_found : found ≡ Some of
  pub declared : declared_type here (Some ty) d.length ≡ type_meant found
  pub value : record { elem = of.elem; shape = of.shape } ≡ ty
  pub declarable : (variable : VariableType) → type_meant found ≡ Some variable → IsDeclarable variable d.initial

-- the word that an initialiser brought to the element type comes to, and 0 where there is none
abbrev pub IsStartOf : Elem → Option Initial → Option Initializer → ℕ → Type 0
IsStartOf elem initial None word = word ≡ 0
IsStartOf elem None (Some written) word = ⊥
IsStartOf elem (Some initial) (Some written) word =
    (x : Box TExpr Global) × (t : TExpr) × (initial.value ≡ Some x) × IsConverted x.value elem t × (constant_of t ≡ Some word)

-- what a typed initialiser comes to is what the variable holds at the start
abbrev pub StartsAs : Here → Option Initializer → Option Initial → Type 0
StartsAs here written initial = (elem : Elem) (word : ℕ) → IsStartOf elem initial written word → Starts here elem written word

-- the variables of a declaration, behind those before, each of a new name
pub record AreVariables (start : File) (known : Known) (ty : ValueType) (ds : List Declarator) (before : List VarInfo) (vars : List VarInfo) : Type 0 where
  pub own : List VarInfo
  pub behind : vars ≡ before ++ own
  pub typed : TypesVariables (functions_named start.tree.now) ty known ds own
  pub new : (behind_variables (functions_named start.tree.now) (Some ty) known ds).variables ≡ known.variables + length own

-- so are those of a declaration whose written type is known
pub record IsTypedDeclaration (start : File) (known : Known) (d : Declaration) (before : List VarInfo) (vars : List VarInfo) : Type 0 where
  pub ty : ValueType
  pub written : written_type (place_in start known) d.type_name ≡ Some ty
  pub variables : AreVariables start known ty d.variables.items before vars
