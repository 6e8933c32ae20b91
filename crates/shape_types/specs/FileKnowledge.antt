-- What is known of a file before and behind its declarations.
use Rattle.std.specs.List.{All, AllZip}
use Rattle.std.specs.Prelude.{◌≡◌, ◌≤◌, ◌<◌, ◌++◌, ℕ, List, [], length, map, Some, None}
use Rattle.cstar_tree.specs.declared.syntax.Tree.{Tree}
use Rattle.cstar_tree.specs.declared.typed.ShapeInfo.{ShapeInfo}
use Rattle.cstar_tree.specs.declared.typed.VarInfo.{VarInfo}
use Rattle.call_graph.specs.Graph.{AreGroups}
use Rattle.call_groups.specs.Called.{AreFunctions}
use Rattle.constant_trees.specs.Words.{IsCounted}
use Rattle.cstar_tree.specs.FileScopes.{file_functions, file_known, functions_named, nothing_known, words_of}
use Rattle.cstar_tree.specs.Headers.{Placed}
use Rattle.cstar_tree.specs.Instances.{called_from}
use Rattle.cstar_tree.specs.ProgramTypes.{TypesItems}
use Rattle.cstar_tree.specs.Scopes.{Meaning, a_function, a_shape, a_variable, find}
use Rattle.cstar_tree.specs.TypedParts.{concat}
use Rattle.file_names.specs.Numbers.{StandsAt, first_names, in_text_order}
use Rattle.type_scopes.specs.FileBindings.{file_bindings, file_names}
use Rattle.type_scopes.specs.declared.file.File.{File}
use Rattle.type_scopes.specs.declared.file.FunctionInfo.{FunctionInfo}

abbrev pub groups_in : List FunctionInfo → List ℕ
groups_in functions = map (λ (info : FunctionInfo). info.group) functions

-- its names are numbered and its functions are in groups, and nothing else is known
pub record IsNumberedFile (file : File) : Type 0 where
  pub names : file_names file.names ≡ in_text_order (file_known file.tree.now)
  pub functions : AllZip (StandsAt file.tree.now) file.functions.items (file_functions file.tree.now)
  pub groups : (functions : List Placed) (shapes : List (List ℕ)) → AreFunctions file functions → AreGroups (called_from shapes functions 0 functions) (groups_in file.functions.items)
  pub no_shapes : file.shapes.items ≡ []
  pub no_types : file.types.items ≡ []

-- a name stands for a shape that is there, or for a variable of one
abbrev pub IsOfShapes : List (List ℕ) → Meaning → Type 0
IsOfShapes shapes (a_shape s) = s < length shapes
IsOfShapes shapes (a_function f) = Unit {0}
IsOfShapes shapes (a_variable v None) = Unit {0}
IsOfShapes shapes (a_variable v (Some t)) = (shape : ℕ) → t.value.shape ≡ Some shape → shape < length shapes

-- the names of the file stand for what the rules say, wherever the first so many are known, and its
-- shapes have the extents that they say, which are not too large
pub record IsKnownFile (tree : Tree) (file : File) : Type 0 where
  pub is_tree : file.tree.now ≡ tree
  pub names : (known : ℕ) (word : List ℕ) → known ≤ length (file_known tree).names → find (file_bindings file known) word ≡ find (first_names known (file_known tree).names ++ functions_named tree) word
  pub shapes : (file_known tree).shapes ≡ map (λ (s : ShapeInfo). s.extents.items) file.shapes.items
  pub few : All IsCounted (file_known tree).shapes
  pub shaped : (known : ℕ) (word : List ℕ) (m : Meaning) → known ≤ length (file_known tree).names → find (first_names known (file_known tree).names ++ functions_named tree) word ≡ Some m → IsOfShapes (file_known tree).shapes m

-- the declarations of the file are typed as the rules say, and none of its names is declared twice
pub record IsDeclaredFile (tree : Tree) (file : File) (vars : List VarInfo) : Type 0 where
  pub items : TypesItems (functions_named tree) nothing_known tree.items.items file.shapes.items vars
  pub known : IsKnownFile tree file
  pub new : (file_known tree).variables ≡ length vars
  pub once : length (file_known tree).names ≡ length (concat (map words_of tree.items.items))
