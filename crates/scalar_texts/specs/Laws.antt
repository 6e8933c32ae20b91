-- The law: a file without shapes becomes a scalar program.
use Rattle.std.specs.Prelude.{◌≡◌, ◌<◌, [], length}
use Rattle.cstar_tree.specs.declared.syntax.Tree.{Tree}
use Rattle.cstar_tree.specs.declared.typed.Typed.{Typed}
use Rattle.cstar_tree.specs.ProgramTypes.{TypesFile}
use Rattle.code_follows.specs.Fragment.{IsScalarProgram}
use Rattle.shape_types.specs.Plain.{IsPlainTree}
use Rattle.shaped_trees.specs.Casts.{NamesShapes}

-- the program of a file that declares no shape
abbrev pub HasNoShapes : Typed → Type 0
HasNoShapes typed = typed.shapes.items ≡ []

-- it has a `main`, its first instance; that a file has none is a fault, of which its types do not tell
abbrev pub HasMain : Typed → Type 0
HasMain typed = 0 < length typed.instances.items

-- the numbers of the file have 32 bits, and its casts to parallel types name shapes
abbrev pub FilesWithoutShapesAreScalar : Type 0
FilesWithoutShapesAreScalar = (tree : Tree) (typed : Typed) → NamesShapes tree → IsPlainTree tree → TypesFile tree typed → HasMain typed → HasNoShapes typed → IsScalarProgram typed
