-- Around the bodies of a file no block is open: names stand for variables of the file and parameters alone.
use Rattle.std.proofs.Common.{◌≡◌, ℕ, ◌+◌, Bool, true, false, is_some, if◌then◌else◌, List, [], ◌∷◌, ◌++◌, length, Option, Some, refl, subst}
use Rattle.std.specs.List.{All}
use Rattle.std.proofs.lemmas.List.Elements.{All-nil, All-cons}
use Rattle.cstar_tree.specs.declared.syntax.Declarator.{Declarator}
use Rattle.cstar_tree.specs.declared.syntax.Function.{Function}
use Rattle.cstar_tree.specs.declared.syntax.Item.{Item}
use Rattle.cstar_tree.specs.declared.syntax.Item.TheVariants as I
use Rattle.cstar_tree.specs.declared.syntax.Parameter.{Parameter}
use Rattle.cstar_tree.specs.declared.syntax.ShapeDefinition.{ShapeDefinition}
use Rattle.cstar_tree.specs.declared.typed.Instance.{Instance}
use Rattle.cstar_tree.specs.declared.typed.ValueType.{ValueType}
use Rattle.cstar_tree.specs.declared.typed.Variable.TheVariants as V
use Rattle.cstar_tree.specs.BlockScopes.{declared_type}
use Rattle.cstar_tree.specs.FileScopes.{Known, behind_function, behind_item, behind_shape, behind_shapes, behind_variable, behind_variables, file_place, functions_named, nothing_known, placed_from}
use Rattle.cstar_tree.specs.Headers.{Placed, Program, Reached, behind_parameter, behind_parameters, header_place, plain_type}
use Rattle.cstar_tree.specs.ProgramTypes.{TypesInstance, TypesInstances}
use Rattle.cstar_tree.specs.ProgramTypes as Y
use Rattle.cstar_tree.specs.Scopes.{Binding, Here, a_function, a_shape, a_variable, find, meaning, written_type}
use Rattle.code_lengths.proofs.Declaring.{all_at}
use Rattle.shaped_trees.proofs.Meanings.{AllMean, declared_one, functions_mean, named}
use Rattle.open_names.specs.Laws.{HasOpenBody, TypedFilesNameOpen}
use Rattle.open_names.specs.Opens.{IsOpen, KnowsOpen, StatementNamesOpen}
use Rattle.open_names.proofs.OpenStatements.{MeansOpen, body_names, means_open}

-- ---- the names of a file

abbrev KnowsFile : Placed → Type 0
KnowsFile placed = AllMean (MeansOpen []) placed.known

module _ (functions : List Binding) where
  abbrev Knows : Known → Type 0
  Knows known = AllMean (MeansOpen []) (known.names ++ functions)

  shapes_known : (known : Known) (shapes : List ShapeDefinition) → Knows known → Knows (behind_shapes functions known shapes)
  unfolding behind_shapes behind_shape
  shapes_known known [] before = before
  shapes_known known (s ∷ shapes) before =
      shapes_known (behind_shape functions known s) shapes (named (MeansOpen []) functions known _ s.name.word (a_shape (length known.shapes)) (is_some (find known.names s.name.word)) before tt refl)

  variables_known : (ty : Option ValueType) (known : Known) (ds : List Declarator) → Knows known → Knows (behind_variables functions ty known ds)
  unfolding behind_variables behind_variable IsOpen
  variables_known ty known [] before = before
  variables_known ty known (d ∷ ds) before =
      let variable = declared_type (file_place functions known) ty d.length in
      variables_known ty (behind_variable functions ty known d) ds
      (named (MeansOpen []) functions known _ d.name.word (a_variable (V.File known.variables) variable) (is_some (find known.names d.name.word)) before (means_open [] (V.File known.variables) variable tt) refl)

  function_known : (known : Known) (f : Function) → Knows known → Knows (behind_function known f)
  unfolding behind_function
  function_known known f before = named (MeansOpen []) functions known _ f.name.word (a_function known.functions) (is_some (find known.names f.name.word)) before tt refl

  placed_know : (known : Known) (items : List Item) → Knows known → All KnowsFile (placed_from functions known items)
  unfolding placed_from behind_item
  placed_know known [] before = All-nil KnowsFile
  placed_know known (I.Shapes p shapes ∷ items) before = placed_know (behind_shapes functions known shapes.items) items (shapes_known known shapes.items before)
  placed_know known (I.Variables d ∷ items) before =
      let ty = written_type (file_place functions known) d.type_name in
      placed_know (behind_variables functions ty known d.variables.items) items (variables_known ty known d.variables.items before)
  placed_know known (I.Function f ∷ items) before = by_name (is_some (find known.names f.name.word)) _ (placed_know (behind_function known f) items (function_known known f before))
    where
      by_name : (b : Bool) (rest : List Placed) → All KnowsFile rest → All KnowsFile ((if b then [] else record { function = f; known = known.names ++ functions } ∷ []) ++ rest)
      by_name true rest all = all
      by_name false rest all = All-cons KnowsFile (record { function = f; known = known.names ++ functions }) rest before all

-- ---- its instances

-- parameters are open too, and take no numbers of variables of blocks
parameters_known : (here : Here) (number : ℕ) (ps : List Parameter) → AllMean (MeansOpen []) (here.names.inner ++ here.names.outer) → KnowsOpen [] (behind_parameters here number ps) × ((behind_parameters here number ps).locals ≡ here.locals)
unfolding behind_parameters meaning IsOpen
parameters_known here number [] known = (λ word v ty found. known word (a_variable v (Some ty)) found, refl)
parameters_known here number (p ∷ ps) known =
    let ty = plain_type (written_type here p.type_name) in
    parameters_known (behind_parameter here number p) (number + 1) ps (declared_one (MeansOpen []) here.names p.name.word (a_variable (V.Param number) ty) known (means_open [] (V.Param number) ty tt))

instance_names : {program : Program} {shapes : List (List ℕ)} {r : Reached} {i : Instance} → All KnowsFile program.functions → TypesInstance program shapes r i → HasOpenBody i
instance_names {program = program} {shapes = shapes} {r = r} {i = i} all is =
    let placed = is.placed in
    let body = parameters_known (header_place shapes placed r) 0 placed.function.parameters.items (all_at KnowsFile program.functions r.function placed all is.is_function) in
    subst (λ (n : ℕ). StatementNamesOpen [] n i.body) body.1 (body_names program _ [] is.block is.body body.0)

instances_name : {program : Program} {shapes : List (List ℕ)} {rs : List Reached} {is : List Instance} → All KnowsFile program.functions → TypesInstances program shapes rs is → All HasOpenBody is
instances_name all Y.no_instance = All-nil HasOpenBody
instances_name all (Y.next_instance {i = i} {is = is} own more) = All-cons HasOpenBody i is (instance_names all own) (instances_name all more)

pub file_names : TypedFilesNameOpen
file_names tree typed file =
    instances_name (placed_know (functions_named tree) nothing_known tree.items.items (functions_mean (MeansOpen []) (λ (number : ℕ). tt) [] 0 tree.items.items)) file.instances
