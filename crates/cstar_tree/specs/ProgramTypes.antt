-- The typed program of a file.
use Rattle.std.specs.Prelude.{◌≡◌, ℕ, ◌+◌, List, [], ◌∷◌, ◌++◌, Option, Some, None, Vec, length, slice_get}
use Rattle.std.specs.declared.alloc.Global.{Global}
use Rattle.cstar_base.specs.declared.elem.Elem.{Elem}
use Rattle.cstar_base.specs.declared.operators.Place.{Place}
use Rattle.cstar_tree.specs.declared.syntax.Declaration.{Declaration}
use Rattle.cstar_tree.specs.declared.syntax.Declarator.{Declarator}
use Rattle.cstar_tree.specs.declared.syntax.Function.{Function}
use Rattle.cstar_tree.specs.declared.syntax.Initializer.{Initializer}
use Rattle.cstar_tree.specs.declared.syntax.Item.{Item}
use Rattle.cstar_tree.specs.declared.syntax.Item.TheVariants as I
use Rattle.cstar_tree.specs.declared.syntax.Parameter.{Parameter}
use Rattle.cstar_tree.specs.declared.syntax.ShapeDefinition.{ShapeDefinition}
use Rattle.cstar_tree.specs.declared.syntax.Tree.{Tree}
use Rattle.cstar_tree.specs.declared.typed.Instance.{Instance}
use Rattle.cstar_tree.specs.declared.typed.LocalVar.{LocalVar}
use Rattle.cstar_tree.specs.declared.typed.ShapeInfo.{ShapeInfo}
use Rattle.cstar_tree.specs.declared.typed.TStmt.{TStmt}
use Rattle.cstar_tree.specs.declared.typed.TStmt as T
use Rattle.cstar_tree.specs.declared.typed.Typed.{Typed}
use Rattle.cstar_tree.specs.declared.typed.ValueType.{ValueType}
use Rattle.cstar_tree.specs.declared.typed.VarInfo.{VarInfo}
use Rattle.cstar_tree.specs.BlockScopes.{declared_type}
use Rattle.cstar_tree.specs.Constants.{Constant, cast_to, constant}
use Rattle.cstar_tree.specs.FileScopes.{Known, behind_item, behind_shape, behind_variable, defined_extents, file_known, file_place, functions_named, nothing_known}
use Rattle.cstar_tree.specs.Headers.{Placed, Program, Reached, Returns, a_value, behind_parameter, body_place, header_place, nothing, returns_of}
use Rattle.cstar_tree.specs.Instances.{program_of}
use Rattle.cstar_tree.specs.Room.{needs}
use Rattle.cstar_tree.specs.Scopes.{Binding, Here, VariableType, written_type}
use Rattle.cstar_tree.specs.StatementTypes.{IsDeclarable, TypesBlock, variable_info}

-- the shapes of a definition, with their extents
pub data TypesShapes (functions : List Binding) : Known → List ShapeDefinition → List ShapeInfo → Type 0 where
  no_shape : {known : Known} → TypesShapes functions known [] []
  next_shape : {known : Known} {s : ShapeDefinition} {ss : List ShapeDefinition} {info : ShapeInfo} {rest : List ShapeInfo} → info.name ≡ s.name.word → defined_extents (file_place functions known) s ≡ Some info.extents.items → TypesShapes functions (behind_shape functions known s) ss rest → TypesShapes functions known (s ∷ ss) (info ∷ rest)

-- what a variable of the file holds at the start, everywhere: zero, or its constant initialiser
-- converted to its type
pub data Starts (here : Here) (elem : Elem) : Option Initializer → ℕ → Type 0 where
  at_zero : Starts here elem None 0
  at_constant : {i : Initializer} {k : Constant} {word : ℕ} → constant here i.value ≡ Some k → (cast_to elem k).word ≡ Some word → Starts here elem (Some i) word

pub data TypesVariables (functions : List Binding) (ty : ValueType) : Known → List Declarator → List VarInfo → Type 0 where
  no_variable : {known : Known} → TypesVariables functions ty known [] []
  next_variable : {known : Known} {d : Declarator} {ds : List Declarator} {variable : VariableType} {start : ℕ} {rest : List VarInfo} → declared_type (file_place functions known) (Some ty) d.length ≡ Some variable → IsDeclarable variable d.initial → Starts (file_place functions (behind_variable functions (Some ty) known d)) variable.value.elem d.initial start → TypesVariables functions ty (behind_variable functions (Some ty) known d) ds rest → TypesVariables functions ty known (d ∷ ds) (variable_info d.name.word variable start ∷ rest)

-- the shapes and the variables of items, in text order
pub data TypesItems (functions : List Binding) : Known → List Item → List ShapeInfo → List VarInfo → Type 0 where
  no_item : {known : Known} → TypesItems functions known [] [] []
  shapes : {known : Known} {p : Place} {list : Vec ShapeDefinition Global} {items : List Item} {infos rest : List ShapeInfo} {vars : List VarInfo} → TypesShapes functions known list.items infos → TypesItems functions (behind_item functions known (I.Shapes p list)) items rest vars → TypesItems functions known (I.Shapes p list ∷ items) (infos ++ rest) vars
  variables : {known : Known} {d : Declaration} {items : List Item} {ty : ValueType} {infos : List ShapeInfo} {vars rest : List VarInfo} → written_type (file_place functions known) d.type_name ≡ Some ty → TypesVariables functions ty known d.variables.items vars → TypesItems functions (behind_item functions known (I.Variables d)) items infos rest → TypesItems functions known (I.Variables d ∷ items) infos (vars ++ rest)
  function : {known : Known} {f : Function} {items : List Item} {infos : List ShapeInfo} {vars : List VarInfo} → TypesItems functions (behind_item functions known (I.Function f)) items infos vars → TypesItems functions known (I.Function f ∷ items) infos vars

abbrev pub plain_info : List ℕ → ValueType → VarInfo
plain_info word ty = variable_info word (record { value = ty; array = None }) 0

pub data TypesParameters : Here → ℕ → List Parameter → List VarInfo → Type 0 where
  no_parameter : {here : Here} {number : ℕ} → TypesParameters here number [] []
  next_parameter : {here : Here} {number : ℕ} {p : Parameter} {ps : List Parameter} {ty : ValueType} {rest : List VarInfo} → written_type here p.type_name ≡ Some ty → TypesParameters (behind_parameter here number p) (number + 1) ps rest → TypesParameters here number (p ∷ ps) (plain_info p.name.word ty ∷ rest)

-- the result of a function has its name
pub data TypesResult (word : List ℕ) : Returns → Option VarInfo → Type 0 where
  no_result : TypesResult word nothing None
  result : {ty : ValueType} → TypesResult word (a_value ty) (Some (plain_info word ty))

-- the body of an instance, as the typed program has it
pub data IsBody (locals : List LocalVar) (statements : List TStmt) : TStmt → Type 0 where
  body : (ls : Vec LocalVar Global) (ss : Vec TStmt Global) → ls.items ≡ locals → ss.items ≡ statements → IsBody locals statements (T.Block ls ss)

-- a function under a current shape becomes this instance
pub record TypesInstance (program : Program) (shapes : List (List ℕ)) (r : Reached) (i : Instance) : Type 0 where
  pub placed : Placed
  pub is_function : slice_get program.functions r.function ≡ Some placed
  pub its_name : i.name ≡ placed.function.name.word
  pub its_current : i.current ≡ r.current
  pub parameters : TypesParameters (header_place shapes placed r) 0 placed.function.parameters.items i.params.items
  pub result : TypesResult placed.function.name.word (returns_of (header_place shapes placed r) placed.function.result) i.result
  pub locals : List LocalVar
  pub statements : List TStmt
  pub block : TypesBlock program (returns_of (header_place shapes placed r) placed.function.result) (body_place shapes placed r) placed.function.body locals statements
  pub body : IsBody locals statements i.body

pub data TypesInstances (program : Program) (shapes : List (List ℕ)) : List Reached → List Instance → Type 0 where
  no_instance : TypesInstances program shapes [] []
  next_instance : {r : Reached} {rs : List Reached} {i : Instance} {is : List Instance} → TypesInstance program shapes r i → TypesInstances program shapes rs is → TypesInstances program shapes (r ∷ rs) (i ∷ is)

-- A file becomes this typed program: its shapes and variables in text order, its instances from
-- `main` on as they are met, and the room that each shape needs.
pub record TypesFile (tree : Tree) (typed : Typed) : Type 0 where
  pub items : TypesItems (functions_named tree) nothing_known tree.items.items typed.shapes.items typed.vars.items
  pub instances : TypesInstances (program_of tree) (file_known tree).shapes (program_of tree).instances typed.instances.items
  pub needs : typed.need.items ≡ needs typed.shapes.items typed.vars.items typed.instances.items

-- The names of a file stand for all these variables, so that each has the number of its name: none is
-- declared twice.
abbrev pub NamesAll : Tree → List VarInfo → Type 0
NamesAll tree vars = (file_known tree).variables ≡ length vars
