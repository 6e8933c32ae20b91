-- The instances that `main` reaches, as they are typed one behind the other.
use Rattle.std.specs.List.{All, AllZip}
use Rattle.std.specs.Prelude.{◌≡◌, false, true, List, Some, None, length, slice_get}
use Rattle.call_graph.specs.Graph.{AreGroups}
use Rattle.cstar_tree.specs.declared.syntax.Tree.{Tree}
use Rattle.cstar_tree.specs.declared.typed.Instance.{Instance}
use Rattle.cstar_tree.specs.FileScopes.{file_functions, file_known}
use Rattle.cstar_tree.specs.Headers.{Placed, Reached, body_place}
use Rattle.cstar_tree.specs.Headers as H
use Rattle.cstar_tree.specs.Instances.{called_from, program_of}
use Rattle.cstar_tree.specs.ProgramTypes.{TypesInstance, TypesInstances}
use Rattle.file_names.specs.Numbers.{StandsAt, in_text_order}
use Rattle.program_laws.specs.MetInstances.{called_by}
use Rattle.shape_types.specs.FileKnowledge.{IsKnownFile, groups_in}
use Rattle.shape_types.specs.declared.instances.Program.{Program}
use Rattle.type_expressions.specs.Instances.{IsBeginning, met}
use Rattle.type_expressions.specs.Meetings.{meeting}
use Rattle.type_expressions.specs.declared.found.Instances.{Instances}
use Rattle.type_scopes.specs.FileBindings.{file_names}
use Rattle.type_scopes.specs.declared.file.File.{File}
use Rattle.type_scopes.specs.declared.file.FunctionInfo.{FunctionInfo}
use Rattle.type_scopes.specs.declared.headers.Reached as Kept
use Rattle.type_scopes.specs.declared.sites.Returns.{Returns}
use Rattle.type_scopes.specs.declared.sites.Site.{Site}

-- the program of a file, where it has these instances
abbrev pub with_instances : Tree → List Reached → H.Program
with_instances tree all = record {
  functions = file_functions tree;
  calls = called_from (file_known tree).shapes (file_functions tree) 0 (file_functions tree);
  instances = all;
}

-- behind its declarations all names of a file are known, its functions and their groups
pub record IsWholeFile (tree : Tree) (file : File) : Type 0 where
  pub known : IsKnownFile tree file
  pub names : file_names file.names ≡ in_text_order (file_known tree)
  pub functions : AllZip (StandsAt tree) file.functions.items (file_functions tree)
  pub groups : AreGroups (called_from (file_known tree).shapes (file_functions tree) 0 (file_functions tree)) (groups_in file.functions.items)

-- the instances that one calls
abbrev pub called_in : Tree → Reached → List Reached
called_in tree r = called_by (file_known tree).shapes (file_functions tree) r

-- the parameters of a function are declared once, under this current shape
abbrev pub HasOwnParameters : Tree → Reached → Type 0
HasOwnParameters tree r =
    (placed : Placed) → slice_get (file_functions tree) r.function ≡ Some placed → length (body_place (file_known tree).shapes placed r).names.inner ≡ length placed.function.parameters.items

-- An instance is typed as the rules say, in each program that begins with what is met by then, it has
-- met the instances that it calls, and its parameters are declared once.
pub record IsTypedInstance (tree : Tree) (old new : Instances) (r : Reached) (i : Instance) : Type 0 where
  pub typed : (all : List Reached) → IsBeginning (met new) all → TypesInstance (with_instances tree all) (file_known tree).shapes r i
  pub calls : met new ≡ meeting (met old) (called_in tree r)
  pub parameters : HasOwnParameters tree r

-- where the body of an instance stands
abbrev pub site_of : FunctionInfo → Kept.Reached → Returns → Site
site_of info r returns = record { current = r.current; known = info.known; function = Some r.function; returns = returns; in_loop = false; dot = None; whole = false }

-- these are the instances of the program, and the parameters of each are declared once
pub record AreInstances (tree : Tree) (instances : List Instance) : Type 0 where
  pub typed : TypesInstances (program_of tree) (file_known tree).shapes (program_of tree).instances instances
  pub parameters : All (HasOwnParameters tree) (program_of tree).instances

-- so it is where no instance is lacking
abbrev pub IsTypedProgram : Tree → Program → Type 0
IsTypedProgram tree program = program.is_whole ≡ true → AreInstances tree program.instances.items
