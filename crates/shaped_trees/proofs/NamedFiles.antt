-- The bodies of a typed file name the variables that there are, where the names of the file stand for all
-- of its variables. So there is code for each body.
use Rattle.std.proofs.Common.{◌≡◌, ℕ, ◌+◌, ◌≤◌, ◌<◌, Bool, true, false, is_some, if◌then◌else◌, IfSome, IsSome, List, [], ◌∷◌, ◌++◌, length, map, slice_get, Option, Some, None, arith, length-append, refl, ap, ◌∙◌, sym, subst}
use Rattle.std.specs.List.{All}
use Rattle.std.proofs.lemmas.List.{append-nil}
use Rattle.std.proofs.lemmas.List.Elements.{All-nil, All-cons, All-head, All-tail, All-weaker}
use Rattle.cstar_tree.specs.declared.syntax.Block.{Block}
use Rattle.cstar_tree.specs.declared.syntax.Declarator.{Declarator}
use Rattle.cstar_tree.specs.declared.syntax.Function.{Function}
use Rattle.cstar_tree.specs.declared.syntax.Item.{Item}
use Rattle.cstar_tree.specs.declared.syntax.Parameter.{Parameter}
use Rattle.cstar_tree.specs.declared.syntax.ShapeDefinition.{ShapeDefinition}
use Rattle.cstar_tree.specs.declared.typed.Instance.{Instance}
use Rattle.cstar_tree.specs.declared.typed.LocalVar.{LocalVar}
use Rattle.cstar_tree.specs.declared.typed.ShapeInfo.{ShapeInfo}
use Rattle.cstar_tree.specs.declared.typed.TStmt.{TStmt}
use Rattle.cstar_tree.specs.declared.typed.TStmt as T
use Rattle.cstar_tree.specs.declared.typed.Typed.{Typed}
use Rattle.cstar_tree.specs.declared.typed.ValueType.{ValueType}
use Rattle.cstar_tree.specs.declared.typed.VarInfo.{VarInfo}
use Rattle.cstar_tree.specs.declared.typed.Variable.TheVariants as V
use Rattle.cstar_tree.specs.BlockScopes.{declared_type}
use Rattle.cstar_tree.specs.FileScopes.{Known, behind_function, behind_item, behind_items, behind_shape, behind_shapes, behind_variable, behind_variables, file_functions, file_place, functions_named, placed_from}
use Rattle.cstar_tree.specs.Headers.{Placed, Program, Reached, Returns, behind_parameter, behind_parameters, header_place, plain_type}
use Rattle.cstar_tree.specs.ProgramTypes.{IsBody, TypesInstance, TypesInstances, TypesItems, TypesParameters, TypesShapes, TypesVariables, plain_info}
use Rattle.cstar_tree.specs.ProgramTypes as Y
use Rattle.cstar_tree.specs.Scopes.{Binding, Here, Meaning, VariableType, a_function, a_shape, a_variable, find, meaning, written_type}
use Rattle.cstar_tree.specs.StatementTypes.{TypesBlock, variable_info}
use Rattle.cstar_tree.specs.TypedParts.{concat}
use Rattle.cstar_tree.specs.Variables.{variables_of}
use Rattle.code_lengths.proofs.Declaring.{all_at, at_number, first_part, found, info_of, second_part}
use Rattle.code_lengths.specs.Naming.{HasItsShape, HasVariable, IsDeclared, KnowsVariables, extents_in, variable_named}
use Rattle.code_lengths.specs.NamingStatements.{StandFrom, StatementNamesVariables}
use Rattle.code_lengths.specs.Ready.{HasPlainParameters, HasStatementCode}
use Rattle.shaped_trees.specs.Laws.{HasLowerableBody, HasShapedBody, TypedFilesHaveCode}
use Rattle.shaped_trees.specs.Places.{IsShapeOf, KnowsShapes}
use Rattle.shaped_trees.proofs.Counting.{of_block}
use Rattle.shaped_trees.proofs.FileShapes.{file_shaped}
use Rattle.shaped_trees.proofs.KnownShapes.{behind_name, type_there}
use Rattle.shaped_trees.proofs.LowerableFiles.{file_lowerable}
use Rattle.shaped_trees.proofs.Meanings.{AllMean, functions_mean, named, with_name}
use Rattle.shaped_trees.proofs.NamedStatements.{IsKnown, MeansVariable, parts_name, same_value}
use Rattle.shaped_trees.proofs.NamedStatements as statements
use Rattle.shaped_trees.proofs.ReachedShapes.{KnowsItsShapes, StandsUnder, body_shapes, instances_under}
use Rattle.shaped_trees.proofs.Rows.{block_names_variables}

stand_all : (all : List VarInfo) → StandFrom all 0 all
stand_all all = record { before = []; behind = []; all_are = sym (append-nil all); number_is = refl }

there_is : {A : Type 0} (xs : List A) (n : ℕ) → n < length xs → IsSome (slice_get xs n)
there_is xs n less = let at = found xs n less in ap is_some at.1

-- ---- how many variables and shapes a file has declared

module _ (functions : List Binding) where
  one_shape : (known : Known) (s : ShapeDefinition) → (length (behind_shape functions known s).shapes ≤ length known.shapes + 1) × ((behind_shape functions known s).variables ≡ known.variables)
  unfolding behind_shape
  one_shape known s = by_name (is_some (find known.names s.name.word)) _ refl (length-append known.shapes _)
    where
      by_name : (b : Bool) (more : Known) → more.variables ≡ known.variables → length more.shapes ≡ length known.shapes + 1 →
          (length (if b then known else more).shapes ≤ length known.shapes + 1) × ((if b then known else more).variables ≡ known.variables)
      by_name true more same long = (omega arith, refl)
      by_name false more same long = (omega (arith, long), same)

  shapes_counted : {known : Known} {ss : List ShapeDefinition} {infos : List ShapeInfo} → TypesShapes functions known ss infos →
      (length (behind_shapes functions known ss).shapes ≤ length known.shapes + length infos) × ((behind_shapes functions known ss).variables ≡ known.variables)
  unfolding behind_shapes
  shapes_counted Y.no_shape = (omega arith, refl)
  shapes_counted (Y.next_shape {known = known} {s = s} named are more) =
      let one = one_shape known s in
      let rest = shapes_counted more in
      let first = one.0 in
      let others = rest.0 in
      (omega (arith, first, others), rest.1 ∙ one.1)

  one_variable : (ty : Option ValueType) (known : Known) (d : Declarator) → ((behind_variable functions ty known d).shapes ≡ known.shapes) × ((behind_variable functions ty known d).variables ≤ known.variables + 1)
  unfolding behind_variable
  one_variable ty known d = by_name (is_some (find known.names d.name.word)) _ refl refl
    where
      by_name : (b : Bool) (more : Known) → more.shapes ≡ known.shapes → more.variables ≡ known.variables + 1 → ((if b then known else more).shapes ≡ known.shapes) × ((if b then known else more).variables ≤ known.variables + 1)
      by_name true more same many = (refl, omega arith)
      by_name false more same many = (same, omega (arith, many))

  variables_counted : {ty : ValueType} {known : Known} {ds : List Declarator} {vars : List VarInfo} → TypesVariables functions ty known ds vars →
      ((behind_variables functions (Some ty) known ds).shapes ≡ known.shapes) × ((behind_variables functions (Some ty) known ds).variables ≤ known.variables + length vars)
  unfolding behind_variables
  variables_counted Y.TypesVariables.no_variable = (refl, omega arith)
  variables_counted {ty = ty} (Y.TypesVariables.next_variable {known = known} {d = d} is allowed starts more) =
      let one = one_variable (Some ty) known d in
      let rest = variables_counted more in
      let first = one.1 in
      let others = rest.1 in
      (rest.0 ∙ one.0, omega (arith, first, others))

  one_function : (known : Known) (f : Function) → ((behind_function known f).shapes ≡ known.shapes) × ((behind_function known f).variables ≡ known.variables)
  unfolding behind_function
  one_function known f = by_name (is_some (find known.names f.name.word)) _ refl refl
    where
      by_name : (b : Bool) (more : Known) → more.shapes ≡ known.shapes → more.variables ≡ known.variables → ((if b then known else more).shapes ≡ known.shapes) × ((if b then known else more).variables ≡ known.variables)
      by_name true more same many = (refl, refl)
      by_name false more same many = (same, many)

  -- what is known behind an item, and behind one whose type is written
  items_counted : {known : Known} {items : List Item} {infos : List ShapeInfo} {vars : List VarInfo} → TypesItems functions known items infos vars → (behind_items functions known items).variables ≤ known.variables + length vars
  unfolding behind_items behind_item
  items_counted Y.no_item = omega arith
  items_counted (Y.TypesItems.shapes are more) =
      let own = shapes_counted are in
      let first = own.1 in
      let rest = items_counted more in
      omega (arith, first, rest)
  items_counted {known = known} (Y.TypesItems.variables {d = d} {vars = vars} {rest = others} is are more) =
      let own = variables_counted are in
      let first = own.1 in
      let rest = items_counted more in
      let long = length-append vars others in
      let same = ap (λ (of : Option ValueType). (behind_variables functions of known d.variables.items).variables) is in
      omega (arith, first, rest, long, same)
  items_counted {known = known} (Y.TypesItems.function {f = f} more) =
      let own = one_function known f in
      let first = own.1 in
      let rest = items_counted more in
      omega (arith, first, rest)

-- ---- the names of a file

module _ (typed : Typed) where
  -- a name of the file stands for a variable of the program, whatever instance names it, or for a shape
  abbrev MeansKnown : Meaning → Type 0
  MeansKnown (a_shape number) = IsShapeOf typed number
  MeansKnown (a_function number) = Unit {0}
  MeansKnown (a_variable v ty) = IfSome ty (λ (ty : VariableType). (i : Instance) (n : ℕ) → HasVariable typed i n v ty)

  -- a body knows what stands for such
  abbrev KnowsFile : Placed → Type 0
  KnowsFile placed = AllMean MeansKnown placed.known

  module _ (functions : List Binding) where
    abbrev Knows : Known → Type 0
    Knows known = AllMean MeansKnown (known.names ++ functions)

    shapes_known : {known : Known} {ss : List ShapeDefinition} {infos : List ShapeInfo} → TypesShapes functions known ss infos → Knows known → length known.shapes + length infos ≤ length typed.shapes.items → Knows (behind_shapes functions known ss)
    unfolding behind_shapes behind_shape
    shapes_known Y.no_shape before room = before
    shapes_known (Y.next_shape {known = known} {s = s} is are more) before room =
        let one = one_shape functions known s in
        let first = one.0 in
        shapes_known more
        (named MeansKnown functions known _ s.name.word (a_shape (length known.shapes)) (is_some (find known.names s.name.word)) before (there_is typed.shapes.items (length known.shapes) (omega (arith, room))) refl)
        (omega (arith, room, first))

    -- a variable of the file has the number of its name, where each is new
    one_known : (ty : Option ValueType) (known : Known) (d : Declarator) (end rest : ℕ) → Knows known → MeansKnown (a_variable (V.File known.variables) (declared_type (file_place functions known) ty d.length)) →
        end ≤ (behind_variable functions ty known d).variables + rest → end ≡ known.variables + (1 + rest) → Knows (behind_variable functions ty known d) × ((behind_variable functions ty known d).variables ≡ known.variables + 1)
    unfolding behind_variable
    one_known ty known d end rest before means least full =
        by_name (is_some (find known.names d.name.word)) (record {
          names = record { word = d.name.word; meaning = a_variable (V.File known.variables) (declared_type (file_place functions known) ty d.length) } ∷ known.names;
          shapes = known.shapes;
          variables = known.variables + 1;
          functions = known.functions;
        }) (with_name MeansKnown (known.names ++ functions) d.name.word (a_variable (V.File known.variables) (declared_type (file_place functions known) ty d.length)) before means) refl least
      where
        by_name : (b : Bool) (more : Known) → Knows more → more.variables ≡ known.variables + 1 → end ≤ (if b then known else more).variables + rest → Knows (if b then known else more) × ((if b then known else more).variables ≡ known.variables + 1)
        by_name true more new many least = absurd (omega (arith, least, full))
        by_name false more new many least = (new, many)

    variables_known : {ty : ValueType} {known : Known} {ds : List Declarator} {vars : List VarInfo} → TypesVariables functions ty known ds vars → Knows known → HasItsShape typed ty →
        StandFrom typed.vars.items known.variables vars → (behind_variables functions (Some ty) known ds).variables ≡ known.variables + length vars → Knows (behind_variables functions (Some ty) known ds)
    unfolding behind_variables variable_named IsDeclared
    variables_known Y.TypesVariables.no_variable before shape stand full = before
    variables_known {ty = ty} (Y.TypesVariables.next_variable {known = known} {d = d} {ds = ds} {variable = variable} {start = start} {rest = rest} is allowed starts more) before shape stand full =
        let means = subst (λ (found : Option VariableType). MeansKnown (a_variable (V.File known.variables) found)) (sym is) (λ (i : Instance) (n : ℕ). record {
          word = d.name.word;
          start = start;
          named = at_number (variable_info d.name.word variable start) rest stand;
          declared = tt;
          shape = subst (HasItsShape typed) (sym (same_value (file_place functions known) ty d.length variable is)) shape;
        }) in
        let counted = variables_counted functions more in
        let all : (behind_variables functions (Some ty) (behind_variable functions (Some ty) known d) ds).variables ≡ known.variables + (1 + length rest) = omega (arith, full) in
        let new = one_known (Some ty) known d (behind_variables functions (Some ty) (behind_variable functions (Some ty) known d) ds).variables (length rest) before means counted.1 all in
        let many = new.1 in
        variables_known more new.0 shape
        (subst (λ (n : ℕ). StandFrom typed.vars.items n rest) (sym many) (second_part (variable_info d.name.word variable start ∷ []) rest stand))
        (omega (arith, many, all))

    function_known : (known : Known) (f : Function) → Knows known → Knows (behind_function known f)
    unfolding behind_function
    function_known known f before = named MeansKnown functions known _ f.name.word (a_function known.functions) (is_some (find known.names f.name.word)) before tt refl

    file_shapes : (known : Known) → Knows known → KnowsShapes typed (file_place functions known)
    unfolding meaning
    file_shapes known before = record { named = λ word number found. before word (a_shape number) found; current = tt }

    -- each body knows what stands so
    placed_know : {known : Known} {items : List Item} {infos : List ShapeInfo} {vars : List VarInfo} → TypesItems functions known items infos vars → Knows known → StandFrom typed.vars.items known.variables vars →
        (behind_items functions known items).variables ≡ known.variables + length vars → length known.shapes + length infos ≤ length typed.shapes.items → All KnowsFile (placed_from functions known items)
    unfolding placed_from behind_items behind_item
    placed_know Y.no_item before stand full room = All-nil KnowsFile
    placed_know (Y.TypesItems.shapes {known = known} {list = list} {infos = infos} {rest = others} {vars = vars} are more) before stand full room =
        let counted = shapes_counted functions are in
        let first = counted.0 in
        let same = counted.1 in
        let long = length-append infos others in
        placed_know more (shapes_known are before (omega (arith, room, long))) (subst (λ (n : ℕ). StandFrom typed.vars.items n vars) (sym same) stand) (omega (arith, full, same)) (omega (arith, room, long, first))
    placed_know (Y.TypesItems.variables {known = known} {d = d} {items = items} {ty = ty} {infos = infos} {vars = vars} {rest = others} is are more) before stand full room =
        let counted = variables_counted functions are in
        let first = counted.1 in
        let rest = items_counted functions more in
        let long = length-append vars others in
        let same : (behind_variables functions (written_type (file_place functions known) d.type_name) known d.variables.items).variables ≡ (behind_variables functions (Some ty) known d.variables.items).variables = ap (λ (of : Option ValueType). (behind_variables functions of known d.variables.items).variables) is in
        let own : (behind_variables functions (Some ty) known d.variables.items).variables ≡ known.variables + length vars = omega (arith, first, rest, full, long, same) in
        let shapes : (behind_variables functions (written_type (file_place functions known) d.type_name) known d.variables.items).shapes ≡ known.shapes = ap (λ (of : Option ValueType). (behind_variables functions of known d.variables.items).shapes) is ∙ counted.0 in
        placed_know more
        (subst (λ (of : Option ValueType). Knows (behind_variables functions of known d.variables.items)) (sym is)
        (variables_known are before (type_there typed (file_place functions known) d.type_name ty (file_shapes known before) is) (first_part vars others stand) own))
        (subst (λ (n : ℕ). StandFrom typed.vars.items n others) (sym (same ∙ own)) (second_part vars others stand))
        (omega (arith, full, long, same, own))
        (subst (λ (all : List (List ℕ)). length all + length infos ≤ length typed.shapes.items) (sym shapes) room)
    placed_know (Y.TypesItems.function {known = known} {f = f} {items = items} {infos = infos} {vars = vars} more) before stand full room =
        let counted = one_function functions known f in
        let shapes = counted.0 in
        let same = counted.1 in
        by_name (is_some (find known.names f.name.word)) _
        (placed_know more (function_known known f before) (subst (λ (n : ℕ). StandFrom typed.vars.items n vars) (sym same) stand) (omega (arith, full, same)) (subst (λ (all : List (List ℕ)). length all + length infos ≤ length typed.shapes.items) (sym shapes) room))
      where
        by_name : (b : Bool) (rest : List Placed) → All KnowsFile rest → All KnowsFile ((if b then [] else record { function = f; known = known.names ++ functions } ∷ []) ++ rest)
        by_name true rest all = all
        by_name false rest all = All-cons KnowsFile (record { function = f; known = known.names ++ functions }) rest before all

-- ---- the body of an instance

module _ (typed : Typed) (i : Instance) where
  parameters_known : {here : Here} {number : ℕ} {ps : List Parameter} {infos : List VarInfo} → TypesParameters here number ps infos → KnowsVariables typed i here → KnowsShapes typed here → StandFrom i.params.items number infos →
      KnowsVariables typed i (behind_parameters here number ps)
  unfolding behind_parameters variable_named IsDeclared
  parameters_known Y.no_parameter k shapes stand = k
  parameters_known (Y.next_parameter {here = here} {number = number} {p = p} {ty = ty} {rest = rest} is more) k shapes stand =
      parameters_known more
      (statements.behind_name typed i here p.name.word (V.Param number) (plain_type (written_type here p.type_name)) here.locals (omega arith)
      (subst (λ (known : Option ValueType). MeansVariable typed i here.locals (a_variable (V.Param number) (plain_type known))) (sym is) (record {
        word = p.name.word;
        start = 0;
        named = at_number (plain_info p.name.word ty) rest stand;
        declared = tt;
        shape = type_there typed here p.type_name ty shapes is;
      })) k)
      (behind_name typed here p.name.word (V.Param number) (plain_type (written_type here p.type_name)) here.locals shapes)
      (second_part (plain_info p.name.word ty ∷ []) rest stand)

  same_locals : (here : Here) (number : ℕ) (ps : List Parameter) → (behind_parameters here number ps).locals ≡ here.locals
  unfolding behind_parameters
  same_locals here number [] = refl
  same_locals here number (p ∷ ps) = same_locals (behind_parameter here number p) (number + 1) ps

  body_names : {program : Program} {returns : Returns} {here : Here} {block : Block} {locals : List LocalVar} {list : List TStmt} {body : TStmt} → TypesBlock program returns here block locals list → IsBody locals list body →
      i.body ≡ body → here.locals ≡ 0 → IsKnown typed i here → StatementNamesVariables typed i 0 body
  body_names {program = program} {returns = returns} {here = here} {block = block} {list = list} at (Y.body ls ss locals_are list_is) is none k =
      let own = subst (λ (list : List TStmt). TypesBlock program returns here block ls.items list) (sym list_is) (subst (λ (locals : List LocalVar). TypesBlock program returns here block locals list) (sym locals_are) at) in
      let stand = subst (λ (n : ℕ). StandFrom (variables_of i.body) n (map info_of ls.items ++ concat (map variables_of ss.items))) (sym none)
      (subst (StandFrom (variables_of i.body) 0) (ap variables_of is ∙ of_block ls ss) (stand_all (variables_of i.body))) in
      let parts = parts_name typed i program returns own k stand in
      subst (λ (n : ℕ). StatementNamesVariables typed i n (T.Block ls ss)) none (block_names_variables typed i here.locals ls ss parts.0 parts.1)

  instance_names : {program : Program} {shapes : List (List ℕ)} {r : Reached} → shapes ≡ extents_in typed → All (KnowsFile typed) program.functions → StandsUnder typed r → TypesInstance program shapes r i → StatementNamesVariables typed i 0 i.body
  unfolding meaning
  instance_names {program = program} {shapes = shapes} {r = r} extents known under is =
      let own = all_at (KnowsFile typed) program.functions r.function is.placed known is.is_function in
      let shapes_are = λ (word : List ℕ) (number : ℕ) (found : find is.placed.known word ≡ Some (a_shape number)). own word (a_shape number) found in
      body_names is.block is.body refl (same_locals (header_place shapes is.placed r) 0 is.placed.function.parameters.items) (record {
        variables = parameters_known is.parameters (λ word v ty found. own word (a_variable v (Some ty)) found i 0, extents) (record { named = shapes_are; current = under }) (stand_all i.params.items);
        shapes = body_shapes typed shapes is.placed r shapes_are under;
      })

parameters_plain : {here : Here} {number : ℕ} {ps : List Parameter} {infos : List VarInfo} → TypesParameters here number ps infos → All (λ (info : VarInfo). info.array ≡ None) infos
parameters_plain Y.no_parameter = All-nil (λ (info : VarInfo). info.array ≡ None)
parameters_plain (Y.next_parameter {p = p} {ty = ty} {rest = rest} is more) = All-cons (λ (info : VarInfo). info.array ≡ None) (plain_info p.name.word ty) rest refl (parameters_plain more)

-- there is code for what is shaped, lowerable and names the variables that there are
abbrev HasBodyCode : Typed → Instance → Type 0
HasBodyCode typed i = HasPlainParameters i × HasStatementCode typed i 0 i.body

instances_code : {program : Program} {shapes : List (List ℕ)} {rs : List Reached} {is : List Instance} (typed : Typed) → shapes ≡ extents_in typed → All (KnowsFile typed) program.functions → All (StandsUnder typed) rs → All HasShapedBody is → All (HasLowerableBody typed) is →
    TypesInstances program shapes rs is → All (HasBodyCode typed) is
instances_code typed extents known under shaped lowerable Y.no_instance = All-nil (HasBodyCode typed)
instances_code typed extents known under shaped lowerable (Y.next_instance {r = r} {rs = rs} {i = i} {is = is} own more) =
    All-cons (HasBodyCode typed) i is (
      parameters_plain own.parameters,
      record {
        shaped = All-head HasShapedBody i is shaped;
        lowerable = All-head (HasLowerableBody typed) i is lowerable;
        names = instance_names typed i extents known (All-head (StandsUnder typed) r rs under) own;
        stands = stand_all (variables_of i.body);
      },
    )
    (instances_code typed extents known (All-tail (StandsUnder typed) r rs under) (All-tail HasShapedBody i is shaped) (All-tail (HasLowerableBody typed) i is lowerable) more)

pub file_code : TypedFilesHaveCode
file_code tree typed spelled all extents file number i found =
    let known = placed_know typed (functions_named tree) file.items (functions_mean (MeansKnown typed) (λ (number : ℕ). tt) [] 0 tree.items.items) (stand_all typed.vars.items) (omega (arith, all)) (omega arith) in
    let shapes = All-weaker (KnowsFile typed) (KnowsItsShapes typed) (λ placed own word number found. own word (a_shape number) found) (file_functions tree) known in
    let each = instances_code typed extents known (instances_under typed tree shapes) (file_shaped tree typed spelled file) (file_lowerable tree typed spelled file) file.instances in
    all_at (HasBodyCode typed) typed.instances.items number i each found
