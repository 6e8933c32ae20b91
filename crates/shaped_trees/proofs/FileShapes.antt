-- The instances of a typed file have shaped bodies.
use Rattle.std.proofs.Common.{ℕ, ◌+◌, Bool, true, false, is_some, if◌then◌else◌, List, [], ◌∷◌, ◌++◌, length, Option, Some, refl, ◌∙◌, sym, subst}
use Rattle.std.specs.List.{All}
use Rattle.std.proofs.lemmas.List.Elements.{All-nil, All-cons, All-head, All-tail}
use Rattle.std.proofs.lemmas.Option.{none-some}
use Rattle.cstar_tree.specs.declared.syntax.Declarator.{Declarator}
use Rattle.cstar_tree.specs.declared.syntax.Function.{Function}
use Rattle.cstar_tree.specs.declared.syntax.Item.{Item}
use Rattle.cstar_tree.specs.declared.syntax.Item.TheVariants as I
use Rattle.cstar_tree.specs.declared.syntax.Parameter.{Parameter}
use Rattle.cstar_tree.specs.declared.syntax.ShapeDefinition.{ShapeDefinition}
use Rattle.cstar_tree.specs.declared.syntax.Tree.{Tree}
use Rattle.cstar_tree.specs.declared.typed.Instance.{Instance}
use Rattle.cstar_tree.specs.declared.typed.LocalVar.{LocalVar}
use Rattle.cstar_tree.specs.declared.typed.ShapeInfo.{ShapeInfo}
use Rattle.cstar_tree.specs.declared.typed.TStmt.{TStmt}
use Rattle.cstar_tree.specs.declared.typed.Typed.{Typed}
use Rattle.cstar_tree.specs.declared.typed.ValueType.{ValueType}
use Rattle.cstar_tree.specs.declared.typed.VarInfo.{VarInfo}
use Rattle.cstar_tree.specs.declared.typed.Variable.TheVariants as V
use Rattle.cstar_tree.specs.BlockScopes.{declared_type}
use Rattle.cstar_tree.specs.FileScopes.{Known, behind_function, behind_item, behind_shape, behind_shapes, behind_variable, behind_variables, file_place, placed_from}
use Rattle.cstar_tree.specs.Headers.{Placed, Program, Reached, behind_parameter, behind_parameters, body_place, header_place, plain_type}
use Rattle.cstar_tree.specs.ProgramTypes.{IsBody, TypesFile, TypesInstance, TypesInstances, TypesItems, TypesVariables}
use Rattle.cstar_tree.specs.ProgramTypes as Y
use Rattle.cstar_tree.specs.Scopes.{Binding, Here, a_function, a_shape, a_variable, find, written_type}
use Rattle.code_lengths.proofs.Declaring.{all_at}
use Rattle.code_lengths.specs.ShapedStatements.{AreShapedLocals, IsShapedStatement}
use Rattle.shaped_trees.specs.Casts.{BlockNamesShapes, ItemNamesShapes, NamesShapes}
use Rattle.shaped_trees.specs.Laws.{HasShapedBody}
use Rattle.shaped_trees.specs.Places.{ArraysAreParallel, IsSound}
use Rattle.shaped_trees.proofs.Known.{MeansParallel, behind_name, declarable, of_type, plain_is_parallel, shape_is_parallel, function_is_parallel}
use Rattle.shaped_trees.proofs.Meanings.{AllMean, functions_mean, named}
use Rattle.shaped_trees.proofs.Rows.{block_shaped}
use Rattle.shaped_trees.proofs.StatementShapes.{parts_shaped}

-- ---- the names of a file

-- what a file knows, and the functions that it names
abbrev KnowsParallel : List Binding → Known → Type 0
KnowsParallel functions known = AllMean MeansParallel (known.names ++ functions)

shapes_known : (functions : List Binding) (known : Known) (shapes : List ShapeDefinition) → KnowsParallel functions known → KnowsParallel functions (behind_shapes functions known shapes)
unfolding behind_shapes behind_shape
shapes_known functions known [] before = before
shapes_known functions known (s ∷ shapes) before =
    shapes_known functions (behind_shape functions known s) shapes
    (named MeansParallel functions known _ s.name.word (a_shape (length known.shapes)) (is_some (find known.names s.name.word)) before (shape_is_parallel (length known.shapes)) refl)

variables_known : {functions : List Binding} {ty : ValueType} {known : Known} {ds : List Declarator} {vars : List VarInfo} → TypesVariables functions ty known ds vars → KnowsParallel functions known → KnowsParallel functions (behind_variables functions (Some ty) known ds)
unfolding behind_variables behind_variable
variables_known Y.TypesVariables.no_variable before = before
variables_known {functions = functions} {ty = ty} (Y.TypesVariables.next_variable {known = known} {d = d} {variable = variable} is allowed starts more) before =
    variables_known more (named MeansParallel functions known _ d.name.word (a_variable (V.File known.variables) (declared_type (file_place functions known) (Some ty) d.length)) (is_some (find known.names d.name.word)) before
    (of_type (V.File known.variables) (declared_type (file_place functions known) (Some ty) d.length) (λ given length same. declarable allowed given length (sym is ∙ same))) refl)

function_known : (functions : List Binding) (known : Known) (f : Function) → KnowsParallel functions known → KnowsParallel functions (behind_function known f)
unfolding behind_function
function_known functions known f before =
    named MeansParallel functions known _ f.name.word (a_function known.functions) (is_some (find known.names f.name.word)) before (function_is_parallel known.functions) refl

-- ---- its functions

pub record IsFit (placed : Placed) : Type 0 where
  pub arrays : ArraysAreParallel placed.known
  pub casts : BlockNamesShapes placed.function.body

pub placed_fit : {functions : List Binding} {known : Known} {items : List Item} {infos : List ShapeInfo} {vars : List VarInfo} → TypesItems functions known items infos vars → KnowsParallel functions known → All ItemNamesShapes items → All IsFit (placed_from functions known items)
unfolding placed_from behind_item ItemNamesShapes
placed_fit Y.no_item before w = All-nil IsFit
placed_fit {functions = functions} (Y.TypesItems.shapes {known = known} {p = p} {list = list} {items = items} are more) before w =
    placed_fit more (shapes_known functions known list.items before) (All-tail ItemNamesShapes (I.Shapes p list) items w)
placed_fit {functions = functions} (Y.TypesItems.variables {known = known} {d = d} {items = items} is are more) before w =
    placed_fit more (subst (λ (ty : Option ValueType). KnowsParallel functions (behind_variables functions ty known d.variables.items)) (sym is) (variables_known are before)) (All-tail ItemNamesShapes (I.Variables d) items w)
placed_fit {functions = functions} (Y.TypesItems.function {known = known} {f = f} {items = items} more) before w =
    by_name (is_some (find known.names f.name.word)) _ (placed_fit more (function_known functions known f before) (All-tail ItemNamesShapes (I.Function f) items w))
  where
    own : IsFit (record { function = f; known = known.names ++ functions })
    own = record { arrays = λ word v ty length found. before word _ found v ty length refl; casts = All-head ItemNamesShapes (I.Function f) items w }

    by_name : (b : Bool) (rest : List Placed) → All IsFit rest → All IsFit ((if b then [] else record { function = f; known = known.names ++ functions } ∷ []) ++ rest)
    by_name true rest all = all
    by_name false rest all = All-cons IsFit _ rest own all

-- ---- its instances

parameters_sound : (here : Here) (number : ℕ) (ps : List Parameter) → IsSound here → IsSound (behind_parameters here number ps)
unfolding behind_parameters
parameters_sound here number [] s = s
parameters_sound here number (p ∷ ps) s =
    parameters_sound (behind_parameter here number p) (number + 1) ps
    (behind_name here p.name.word (a_variable (V.Param number) (plain_type (written_type here p.type_name))) here.locals s
    (of_type (V.Param number) (plain_type (written_type here p.type_name)) (plain_is_parallel (written_type here p.type_name))))

pub body_sound : (shapes : List (List ℕ)) (placed : Placed) (r : Reached) → ArraysAreParallel placed.known → IsSound (body_place shapes placed r)
body_sound shapes placed r known =
    parameters_sound (header_place shapes placed r) 0 placed.function.parameters.items (record { arrays = known; dot = λ axis is. elim (none-some axis is) [ ] })

body_shaped : {locals : List LocalVar} {statements : List TStmt} {t : TStmt} → IsBody locals statements t → AreShapedLocals locals → All IsShapedStatement statements → IsShapedStatement t
body_shaped (Y.body ls ss same_locals same_statements) locals statements =
    block_shaped ls ss (subst AreShapedLocals (sym same_locals) locals) (subst (All IsShapedStatement) (sym same_statements) statements)

instance_shaped : (program : Program) (shapes : List (List ℕ)) (r : Reached) (i : Instance) → All IsFit program.functions → TypesInstance program shapes r i → HasShapedBody i
instance_shaped program shapes r i all typed =
    let fit = all_at IsFit program.functions r.function typed.placed all typed.is_function in
    let parts = parts_shaped program _ typed.block (body_sound shapes typed.placed r fit.arrays) fit.casts in
    body_shaped typed.body parts.0 parts.1

instances_shaped : {program : Program} {shapes : List (List ℕ)} {rs : List Reached} {is : List Instance} → All IsFit program.functions → TypesInstances program shapes rs is → All HasShapedBody is
instances_shaped all Y.no_instance = All-nil HasShapedBody
instances_shaped {program = program} {shapes = shapes} all (Y.next_instance {r = r} {i = i} {is = is} typed more) =
    All-cons HasShapedBody i is (instance_shaped program shapes r i all typed) (instances_shaped all more)

pub file_shaped : (tree : Tree) (typed : Typed) → NamesShapes tree → TypesFile tree typed → All HasShapedBody typed.instances.items
file_shaped tree typed w file =
    instances_shaped (placed_fit file.items (functions_mean MeansParallel function_is_parallel [] 0 tree.items.items) w) file.instances
