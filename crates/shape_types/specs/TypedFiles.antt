-- What typing answers for a file.
use Rattle.std.specs.Prelude.{◌≡◌, true, List, map}
use Rattle.cstar_tree.specs.declared.syntax.Tree.{Tree}
use Rattle.cstar_tree.specs.declared.typed.ShapeInfo.{ShapeInfo}
use Rattle.cstar_tree.specs.declared.typed.Typed.{Typed}
use Rattle.cstar_tree.specs.declared.typed.VarInfo.{VarInfo}
use Rattle.cstar_tree.specs.FileScopes.{file_known, functions_named, nothing_known}
use Rattle.cstar_tree.specs.Instances.{program_of}
use Rattle.cstar_tree.specs.ProgramTypes.{NamesAll, TypesInstances, TypesItems}
use Rattle.cstar_tree.specs.Room.{needs}
use Rattle.faultless_files.specs.Files.{IsWellNamed}
use Rattle.shape_room.specs.Counted.{kept}
use Rattle.shape_types.specs.declared.declarations.Declared.{Declared}
use Rattle.shape_types.specs.declared.instances.Program.{Program}

-- The names of a file stand for all these shapes and variables, so that each has the number of its name: none is
-- declared twice.
pub record HaveOwnNames (tree : Tree) (infos : List ShapeInfo) (vars : List VarInfo) : Type 0 where
  pub variables : NamesAll tree vars
  pub shapes : (file_known tree).shapes ≡ map (λ (s : ShapeInfo). s.extents.items) infos

-- the file becomes this program, whose needs are told as far as 32 bits count them
pub record IsTypedFile (tree : Tree) (typed : Typed) : Type 0 where
  pub items : TypesItems (functions_named tree) nothing_known tree.items.items typed.shapes.items typed.vars.items
  pub instances : TypesInstances (program_of tree) (file_known tree).shapes (program_of tree).instances typed.instances.items
  pub needs : typed.need.items ≡ map kept (needs typed.shapes.items typed.vars.items typed.instances.items)
  pub new : HaveOwnNames tree typed.shapes.items typed.vars.items

-- where no declaration is lacking, the declarations are typed, and so is the program, where none of its
-- instances is; then no name of the file is declared twice, and its `main` may be one
abbrev pub AreTyped : Tree → List ShapeInfo → Declared × Program → Type 0
AreTyped tree shapes typed =
    typed.0.is_whole ≡ true → TypesItems (functions_named tree) nothing_known tree.items.items shapes typed.0.vars.items × HaveOwnNames tree shapes typed.0.vars.items
    × (typed.1.is_whole ≡ true → TypesInstances (program_of tree) (file_known tree).shapes (program_of tree).instances typed.1.instances.items × IsWellNamed tree)
