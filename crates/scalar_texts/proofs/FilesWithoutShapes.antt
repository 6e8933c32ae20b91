-- A file without shapes: its names stand for no shape and for no variable but scalar ones, and so it is at the
-- bodies of its functions, each of which is reached under no shape.
use Rattle.std.proofs.Common.{◌≡◌, ◌<◌, ◌^◌, ℕ, Bool, true, false, if◌then◌else◌, inl, is_some, IfSome, IsSome, List, [], ◌∷◌, ◌++◌, slice_get, Option, Some, None, refl, sym, ap, ◌∙◌, subst}
use Rattle.std.specs.List.{All}
use Rattle.std.proofs.lemmas.List.Elements.{All-append, All-cons, All-head, All-nil, All-tail, All-weaker}
use Rattle.std.proofs.lemmas.Nat.{pow_pos}
use Rattle.std.proofs.lemmas.Option.{none-some, same_Some}
use Rattle.cstar_base.specs.declared.elem.Elem.{Elem}
use Rattle.cstar_tree.specs.declared.syntax.Declarator.{Declarator}
use Rattle.cstar_tree.specs.declared.syntax.Function.{Function}
use Rattle.cstar_tree.specs.declared.syntax.Initializer.{Initializer}
use Rattle.cstar_tree.specs.declared.syntax.Item.{Item}
use Rattle.cstar_tree.specs.declared.syntax.Item.TheVariants as I
use Rattle.cstar_tree.specs.declared.syntax.Parameter.{Parameter}
use Rattle.cstar_tree.specs.declared.syntax.ResultType.{ResultType}
use Rattle.cstar_tree.specs.declared.syntax.ResultType.TheVariants as R
use Rattle.cstar_tree.specs.declared.syntax.ShapeDefinition.{ShapeDefinition}
use Rattle.cstar_tree.specs.declared.syntax.Tree.{Tree}
use Rattle.cstar_tree.specs.declared.typed.Instance.{Instance}
use Rattle.cstar_tree.specs.declared.typed.ShapeInfo.{ShapeInfo}
use Rattle.cstar_tree.specs.declared.typed.Typed.{Typed}
use Rattle.cstar_tree.specs.declared.typed.ValueType.{ValueType}
use Rattle.cstar_tree.specs.declared.typed.VarInfo.{VarInfo}
use Rattle.cstar_tree.specs.declared.typed.Variable.TheVariants as V
use Rattle.cstar_tree.specs.BlockScopes.{declared_type}
use Rattle.cstar_tree.specs.Constants.{cast_to}
use Rattle.cstar_tree.specs.Conversions.{int, scalar}
use Rattle.cstar_tree.specs.ExpressionTypes.{result_known}
use Rattle.cstar_tree.specs.FileScopes.{Known, behind_function, behind_item, behind_shapes, behind_variable, behind_variables, file_functions, file_place, functions_named, placed_from}
use Rattle.cstar_tree.specs.Headers.{Placed, Program, Reached, Returns, a_result, a_value, behind_parameters, body_place, header_place, plain_type, returns_of}
use Rattle.cstar_tree.specs.Instances.{instances_of}
use Rattle.cstar_tree.specs.ProgramTypes.{Starts, TypesFile, TypesInstance, TypesItems, TypesParameters, TypesResult, TypesShapes, TypesVariables, plain_info}
use Rattle.cstar_tree.specs.ProgramTypes as Y
use Rattle.cstar_tree.specs.Scopes.{Binding, Here, VariableType, a_function, a_shape, a_variable, find, meaning, written_type}
use Rattle.cstar_tree.specs.StatementTypes.{variable_info}
use Rattle.code_follows.specs.Fragment.{IsFileVariable, IsScalarVariable, nothing_beside}
use Rattle.code_lengths.proofs.Declaring.{all_at}
use Rattle.constant_trees.proofs.Bringing.{converted_fits}
use Rattle.shape_types.specs.Plain.{IsPlainItem, IsPlainTree}
use Rattle.shaped_trees.specs.Places.{IsShapeOf}
use Rattle.shaped_trees.proofs.Meanings.{AllMean, functions_mean, named}
use Rattle.shaped_trees.proofs.ReachedShapes.{KnowsItsShapes, StandsUnder, instances_under}
use Rattle.type_expressions.specs.Walks.{IsPlain}
use Rattle.type_statements.specs.Ready.{InBlock}
use Rattle.scalar_texts.specs.Places.{IsPlainType, IsScalarPlace, MeansScalar, NamesScalars}
use Rattle.scalar_texts.proofs.ScalarPlaces.{behind_name, declared_plain, written_scalar}

-- ---- what is known

-- a function that knows no names but such as stand for scalars, and whose numbers have 32 bits
pub record IsScalarPlaced (placed : Placed) : Type 0 where
  pub names : AllMean MeansScalar placed.known
  pub plain : (here : Here) → InBlock (λ h e. IsPlain e) here placed.function.body

-- a variable of a file of scalars
abbrev pub IsPlainVariable : VarInfo → Type 0
IsPlainVariable info = IsFileVariable nothing_beside info

pub record HasScalars (list : List Placed) (vars : List VarInfo) : Type 0 where
  pub placed : All IsScalarPlaced list
  pub variables : All IsPlainVariable vars

pub record HasParameters (shapes : List (List ℕ)) (f : ℕ) (here : Here) (infos : List VarInfo) : Type 0 where
  pub place : IsScalarPlace shapes f here
  pub loop : here.loop ≡ false
  pub scalar : All IsScalarVariable infos

-- the header of an instance is scalar, and so is the place of its body
pub record IsScalarInstance (shapes : List (List ℕ)) (r : Reached) (placed : Placed) (i : Instance) : Type 0 where
  pub parameters : HasParameters shapes r.function (body_place shapes placed r) i.params.items
  pub result : (info : VarInfo) → i.result ≡ Some info → IsScalarVariable info

result_scalar : {word : List ℕ} {returns : Returns} {result : Option VarInfo} → TypesResult word returns result → ((ty : ValueType) → returns ≡ a_value ty → ty.shape ≡ None) → (info : VarInfo) → result ≡ Some info → IsScalarVariable info
result_scalar Y.no_result scalar info is = elim (none-some info is) [ ]
result_scalar {word = word} (Y.result {ty = ty}) scalar info is = sym (ap (λ (info : VarInfo). info.shape) (same_Some (plain_info word ty) info is)) ∙ scalar ty refl

-- ---- the variables and the functions of the file

-- what a variable begins with
starts_few : {here : Here} {elem : Elem} {initial : Option Initializer} {start : ℕ} → Starts here elem initial start → start < 2 ^ elem.bits
unfolding cast_to
starts_few {elem = elem} Y.at_zero = pow_pos elem.bits
starts_few {elem = elem} (Y.at_constant {k = k} is begins) = subst (λ (word : Option ℕ). IfSome word (λ (w : ℕ). w < 2 ^ elem.bits)) begins (converted_fits elem k.elem k.word)

no_definitions : {functions : List Binding} {known : Known} {ss : List ShapeDefinition} {infos : List ShapeInfo} (rest : List ShapeInfo) → TypesShapes functions known ss infos → infos ++ rest ≡ [] → (behind_shapes functions known ss ≡ known) × (rest ≡ [])
unfolding behind_shapes
no_definitions rest Y.no_shape none = (refl, none)
no_definitions rest (Y.next_shape named are more) none = absurd (cc)

module _ (functions : List Binding) where
  abbrev Knows : Known → Type 0
  Knows known = AllMean MeansScalar (known.names ++ functions)

  variables_scalar : {ty : ValueType} {known : Known} {ds : List Declarator} {vars : List VarInfo} → TypesVariables functions ty known ds vars → Knows known → ty.shape ≡ None →
      Knows (behind_variables functions (Some ty) known ds) × All IsPlainVariable vars
  unfolding behind_variables behind_variable
  variables_scalar Y.TypesVariables.no_variable before scalar = (before, All-nil IsPlainVariable)
  variables_scalar {ty = ty} (Y.TypesVariables.next_variable {known = known} {d = d} {variable = variable} {start = start} {rest = rest} is allowed starts more) before scalar =
      let plain = declared_plain (file_place functions known) ty d.length is allowed scalar in
      let means = subst (λ (found : Option VariableType). IfSome found IsPlainType) (sym is) plain in
      let others = variables_scalar more (named MeansScalar functions known _ d.name.word (a_variable (V.File known.variables) (declared_type (file_place functions known) (Some ty) d.length)) (is_some (find known.names d.name.word)) before means refl) scalar in
      (others.0, All-cons IsPlainVariable (variable_info d.name.word variable start) rest (inl plain.0, starts_few starts) others.1)

  function_scalar : (known : Known) (f : Function) → Knows known → Knows (behind_function known f)
  unfolding behind_function
  function_scalar known f before = named MeansScalar functions known _ f.name.word (a_function known.functions) (is_some (find known.names f.name.word)) before tt refl

  items_scalar : {known : Known} {items : List Item} {infos : List ShapeInfo} {vars : List VarInfo} → TypesItems functions known items infos vars → infos ≡ [] → Knows known → All IsPlainItem items →
      HasScalars (placed_from functions known items) vars
  unfolding placed_from behind_item meaning
  items_scalar Y.no_item none before plain = record { placed = All-nil IsScalarPlaced; variables = All-nil IsPlainVariable }
  items_scalar (Y.TypesItems.shapes {known = known} {p = p} {list = list} {items = items} {rest = rest} are more) none before plain =
      let none_there = no_definitions rest are none in
      items_scalar more none_there.1 (subst Knows (sym none_there.0) before) (All-tail IsPlainItem (I.Shapes p list) items plain)
  items_scalar (Y.TypesItems.variables {known = known} {d = d} {items = items} {ty = ty} {vars = vars} {rest = rest} is are more) none before plain =
      let own = variables_scalar are before (written_scalar (file_place functions known) d.type_name before refl is) in
      let others = items_scalar more none (subst (λ (ty : Option ValueType). Knows (behind_variables functions ty known d.variables.items)) (sym is) own.0) (All-tail IsPlainItem (I.Variables d) items plain) in
      record { placed = others.placed; variables = All-append IsPlainVariable vars rest own.1 others.variables }
  items_scalar (Y.TypesItems.function {known = known} {f = f} {items = items} more) none before plain =
      let others = items_scalar more none (function_scalar known f before) (All-tail IsPlainItem (I.Function f) items plain) in
      record { placed = by_name (is_some (find known.names f.name.word)) _ others.placed; variables = others.variables }
    where
      own : IsScalarPlaced (record { function = f; known = known.names ++ functions })
      own = record { names = before; plain = All-head IsPlainItem (I.Function f) items plain }

      by_name : (b : Bool) (rest : List Placed) → All IsScalarPlaced rest → All IsScalarPlaced ((if b then [] else record { function = f; known = known.names ++ functions } ∷ []) ++ rest)
      by_name true rest all = all
      by_name false rest all = All-cons IsScalarPlaced _ rest own all

-- ---- the places of bodies

parameters_scalar : {shapes : List (List ℕ)} {f : ℕ} {here : Here} {number : ℕ} {ps : List Parameter} {infos : List VarInfo} → TypesParameters here number ps infos → IsScalarPlace shapes f here → here.loop ≡ false → HasParameters shapes f (behind_parameters here number ps) infos
unfolding behind_parameters
parameters_scalar Y.no_parameter place loop = record { place = place; loop = loop; scalar = All-nil IsScalarVariable }
parameters_scalar (Y.next_parameter {here = here} {number = number} {p = p} {ps = ps} {ty = ty} {rest = rest} is more) place loop =
    let scalar = written_scalar here p.type_name place.means place.current is in
    let plain = subst (λ (known : Option ValueType). IfSome (plain_type known) IsPlainType) (sym is) (scalar, refl) in
    let others = parameters_scalar more (behind_name p.name.word (V.Param number) (plain_type (written_type here p.type_name)) here.locals plain place) loop in
    record { place = others.place; loop = others.loop; scalar = All-cons IsScalarVariable (plain_info p.name.word ty) rest scalar others.scalar }

-- what a function returns is scalar
returned_scalar : (here : Here) (written : ResultType) (ty : ValueType) → NamesScalars here → here.current ≡ None → returns_of here written ≡ a_value ty → ty.shape ≡ None
returned_scalar here R.Unwritten ty means none is = sym (ap (λ (ty : ValueType). ty.shape) (same_Some (scalar int) ty (ap result_known is)))
returned_scalar here R.Void ty means none is = elim (none-some ty (ap result_known is)) [ ]
returned_scalar here (R.Written written) ty means none is = written_scalar here written means none (same (written_type here written) ∙ ap result_known is)
  where
    same : (found : Option ValueType) → found ≡ result_known (a_result found)
    same None = refl
    same (Some own) = refl

-- ---- the instances

pub instance_scalar : {program : Program} {shapes : List (List ℕ)} {r : Reached} {i : Instance} (is : TypesInstance program shapes r i) → AllMean MeansScalar is.placed.known → r.current ≡ None → IsScalarInstance shapes r is.placed i
unfolding meaning
instance_scalar {shapes = shapes} {r = r} is known current = record {
  parameters = parameters_scalar is.parameters (record { its_shapes = refl; its_function = refl; current = current; dot = refl; means = known }) refl;
  result = result_scalar is.result (λ ty returns. returned_scalar (header_place shapes is.placed r) is.placed.function.result ty known current returns);
}

module _ (tree : Tree) (typed : Typed) (no_shapes : typed.shapes.items ≡ []) where
  pub file_scalars : IsPlainTree tree → TypesFile tree typed → HasScalars (file_functions tree) typed.vars.items
  file_scalars plain file = items_scalar (functions_named tree) file.items no_shapes (functions_mean MeansScalar (λ number. tt) [] 0 tree.items.items) plain

  pub none_current : All IsScalarPlaced (file_functions tree) → (number : ℕ) (r : Reached) → slice_get (instances_of tree) number ≡ Some r → r.current ≡ None
  none_current placed number r at =
      let under = instances_under typed tree (All-weaker IsScalarPlaced (KnowsItsShapes typed) (λ placed own word number found. elim (own.names word (a_shape number) found) [ ]) (file_functions tree) placed) in
      none_there r.current (all_at (StandsUnder typed) (instances_of tree) number r under at)
    where
      none_there : (shape : Option ℕ) → IfSome shape (IsShapeOf typed) → shape ≡ None
      none_there None is = refl
      none_there (Some number) is =
          let there : IsSome {T = ShapeInfo} (slice_get [] number) = subst (λ (shapes : List ShapeInfo). IsSome (slice_get shapes number)) no_shapes is in
          absurd (cc)
