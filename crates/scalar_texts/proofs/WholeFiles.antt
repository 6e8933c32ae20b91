-- A file without shapes becomes a scalar program, where a block that is typed at a scalar place becomes a scalar body,
-- and where a body names no variables but open ones.
use Rattle.std.proofs.Common.{◌≡◌, ℕ, List, [], Option, Some, None, sym, ap₂, ◌∙◌}
use Rattle.std.specs.List.{All, Contains, slice_get}
use Rattle.cstar_tree.specs.declared.syntax.Tree.{Tree}
use Rattle.cstar_tree.specs.declared.typed.Instance.{Instance}
use Rattle.cstar_tree.specs.declared.typed.Typed.{Typed}
use Rattle.cstar_tree.specs.declared.typed.Variable.{Variable}
use Rattle.cstar_tree.specs.declared.typed.Variable.TheVariants as V
use Rattle.cstar_tree.specs.FileScopes.{file_functions, file_known}
use Rattle.cstar_tree.specs.Headers.{Reached, body_place}
use Rattle.cstar_tree.specs.Instances.{instances_of, main_of, program_of}
use Rattle.cstar_tree.specs.ProgramTypes.{TypesFile}
use Rattle.cstar_tree.specs.TypedParts.{calls_within}
use Rattle.code_follows.specs.Fragment.{IsScalarFunction, IsScalarProgram, OfFileOrParam, may_of, naming, nothing_beside}
use Rattle.code_lengths.proofs.Declaring.{all_at, found}
use Rattle.open_names.proofs.OpenFiles.{file_names}
use Rattle.open_names.specs.Laws.{HasOpenBody}
use Rattle.open_names.specs.Opens.{IsAmong, IsOpen}
use Rattle.program_laws.proofs.Bodies.{blocks_call}
use Rattle.shape_types.specs.Plain.{IsPlainTree}
use Rattle.shaped_trees.proofs.FileShapes.{IsFit, placed_fit}
use Rattle.shaped_trees.proofs.Known.{MeansParallel, function_is_parallel}
use Rattle.shaped_trees.proofs.Meanings.{functions_mean}
use Rattle.shaped_trees.specs.Casts.{NamesShapes}
use Rattle.typed_calls.proofs.NoCycle.{no_cycle}
use Rattle.scalar_texts.specs.Laws.{FilesWithoutShapesAreScalar, HasMain}
use Rattle.scalar_texts.proofs.Apart.{AreApart}
use Rattle.scalar_texts.proofs.OpenBodies.{body_open}
use Rattle.scalar_texts.proofs.ScalarStatements.{body_is}
use Rattle.scalar_texts.proofs.CallsAllowed.{calls_allowed, returned}
use Rattle.scalar_texts.proofs.FilesWithoutShapes.{IsScalarPlaced, file_scalars, instance_scalar, none_current}
use Rattle.scalar_texts.proofs.FunctionsApart.{functions_apart}
use Rattle.scalar_texts.proofs.InstancesMet.{at_typed, met_once}

-- outside all blocks the variables of the file and the parameters are open
of_file_or_param : (x : Variable) → IsOpen [] x → OfFileOrParam x
unfolding IsOpen IsAmong OfFileOrParam
of_file_or_param (V.File k) is = tt
of_file_or_param (V.Param k) is = tt
of_file_or_param (V.Local k) is = is

module _ (tree : Tree) (typed : Typed) (named : NamesShapes tree) (plain : IsPlainTree tree) (file : TypesFile tree typed) (no_shapes : typed.shapes.items ≡ []) where
  abbrev shapes : List (List ℕ)
  shapes = (file_known tree).shapes

  placed_scalar : All IsScalarPlaced (file_functions tree)
  placed_scalar = (file_scalars tree typed no_shapes plain file).placed

  under_none : (number : ℕ) (r : Reached) → slice_get (instances_of tree) number ≡ Some r → r.current ≡ None
  under_none = none_current tree typed no_shapes placed_scalar

  -- instances of one name are one
  names_apart : AreApart (λ (i : Instance). i.name) typed.instances.items
  names_apart j k a b at_j at_k same =
      let x = at_typed file.instances j a at_j in
      let y = at_typed file.instances k b at_k in
      let function = functions_apart tree x.0.function y.0.function x.2.placed y.2.placed x.2.is_function y.2.is_function (sym x.2.its_name ∙ same ∙ y.2.its_name) in
      let reached : x.0 ≡ y.0 = ap₂ (λ (f : ℕ) (current : Option ℕ). record { function = f; current = current }) function (under_none j x.0 x.1 ∙ sym (under_none k y.0 y.1)) in
      met_once shapes (file_functions tree) (main_of tree) j k x.0 y.0 x.1 y.1 reached

  function_scalar : (number : ℕ) (i : Instance) → slice_get typed.instances.items number ≡ Some i → IsScalarFunction (may_of nothing_beside typed i) i
  function_scalar number i at_number =
      let at = at_typed file.instances number i at_number in
      let r = at.0 in
      let is = at.2 in
      let placed = all_at IsScalarPlaced (file_functions tree) r.function is.placed placed_scalar is.is_function in
      let fit = all_at IsFit (file_functions tree) r.function is.placed (placed_fit file.items (functions_mean MeansParallel function_is_parallel [] 0 tree.items.items) named) is.is_function in
      let own = instance_scalar is placed.names (under_none number r at.1) in
      let may = naming (may_of nothing_beside typed i) (λ (x : Variable). Unit {0}) in
      let here = body_place shapes is.placed r in
      let body = body_is (program_of tree) shapes r.function (Contains (calls_within i.body)) may (λ x. tt) (calls_allowed tree typed file number r i at.1)
      own.parameters.place is.block is.body (placed.plain here) fit.casts (λ k called. called) (returned is.result) own.parameters.loop in
      record {
        params = own.parameters.scalar;
        result = own.result;
        body = body_open may ((λ shape e h. h), (λ shape h. h)) OfFileOrParam of_file_or_param i.body body (all_at HasOpenBody typed.instances.items number i (file_names tree typed file) at_number);
      }

  file_scalar : HasMain typed → IsScalarProgram typed
  file_scalar some =
      let main = found typed.instances.items 0 some in
      record {
        main = main.0;
        is_main = main.1;
        no_cycle = no_cycle (program_of tree) shapes typed.instances.items (λ r placed c is among. blocks_call tree r placed is c among) file.instances;
        each = function_scalar;
        names = names_apart;
        variables = (file_scalars tree typed no_shapes plain file).variables;
      }

pub files_are_scalar : FilesWithoutShapesAreScalar
files_are_scalar tree typed named plain file main no_shapes = file_scalar tree typed named plain file no_shapes main
