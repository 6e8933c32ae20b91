-- A file that is accepted declares each name once, has few shapes and a `main` that may be one.
use Rattle.std.proofs.Common.{◌≡◌, ◌≤◌, ◌<◌, ◌+◌, ◌^◌, ℕ, zero, suc, true, false, List, [], ◌∷◌, ◌++◌, length, map, slice_get, is_some, Option, Some, None, refl, sym, ap, subst, ◌∙◌, arith, length-append, if◌then◌else◌, leb, ◌⊎◌, inl, inr}
use Rattle.std.proofs.lemmas.Bool.Decides.{leb_tells}
use Rattle.std.proofs.lemmas.List.{length-map}
use Rattle.std.proofs.lemmas.Option.{none-some}
use Rattle.cstar_base.specs.declared.faults.Fault.{Fault}
use Rattle.cstar_base.specs.declared.faults.Fault.TheVariants as F
use Rattle.cstar_base.specs.declared.operators.Place.{Place}
use Rattle.cstar_tree.specs.declared.syntax.Declarator.{Declarator}
use Rattle.cstar_tree.specs.declared.syntax.Function.{Function}
use Rattle.cstar_tree.specs.declared.syntax.Item.{Item}
use Rattle.cstar_tree.specs.declared.syntax.Parameter.{Parameter}
use Rattle.cstar_tree.specs.declared.syntax.ShapeDefinition.{ShapeDefinition}
use Rattle.cstar_tree.specs.declared.typed.Instance.{Instance}
use Rattle.cstar_tree.specs.declared.typed.ShapeInfo.{ShapeInfo}
use Rattle.cstar_tree.specs.declared.typed.ValueType.{ValueType}
use Rattle.cstar_tree.specs.declared.typed.VarInfo.{VarInfo}
use Rattle.cstar_tree.specs.FileFaults.{FaultOf, IsAccepted, IsNoMain, ItemsFault, ParametersFault, ShapesFault, Stands, VariablesFault}
use Rattle.cstar_tree.specs.FileFaults as W
use Rattle.cstar_tree.specs.FileScopes.{Known, behind_function, behind_item, behind_items, behind_shape, behind_shapes, behind_variable, behind_variables, file_functions, file_known, file_place, functions_named, kept_extents, nothing_known, with_name, words_of}
use Rattle.cstar_tree.specs.Headers.{Placed, Program, Reached, behind_parameter, behind_parameters, header_place, plain_type}
use Rattle.cstar_tree.specs.Instances.{after_rounds, first_met, instances_from, is_met, main_of, next_round, program_of}
use Rattle.cstar_tree.specs.Nodes.{tree_nodes}
use Rattle.cstar_tree.specs.ProgramTypes.{TypesFile, TypesInstances, TypesItems, TypesShapes}
use Rattle.cstar_tree.specs.ProgramTypes as Y
use Rattle.cstar_tree.specs.Room.{machine_bits, needs_from}
use Rattle.cstar_tree.specs.Scopes.{Binding, Here, Meaning, Names, a_function, a_shape, a_variable, find, written_type}
use Rattle.cstar_tree.specs.BlockScopes.{declared_type}
use Rattle.cstar_tree.specs.declared.typed.Variable.TheVariants as V
use Rattle.cstar_tree.specs.TypedParts.{concat}
use Rattle.faultless_files.specs.Laws.{AcceptedFilesAreWellFormed}

absent : (m : Option Meaning) → ((x : Meaning) → m ≡ Some x → ⊥) → m ≡ None
absent None none = refl
absent (Some x) none = absurd (none x refl)

-- what is new is declared
either_new : {A : Type 0} (m : Option Meaning) (first other : A) → m ≡ None → (if is_some m then first else other) ≡ other
either_new None first other is = refl
either_new (Some x) first other is = absurd (none-some x (sym is))

-- ---- how many names and shapes are known behind what is declared

record IsCounted (before behind : Known) (names shapes : ℕ) : Type 0 where
  names_are : length behind.names ≡ length before.names + names
  shapes_are : length behind.shapes ≡ length before.shapes + shapes
  few : length before.shapes ≤ 64 → length behind.shapes ≤ 64

nothing_more : (known : Known) → IsCounted known known 0 0
nothing_more known = record { names_are = omega arith; shapes_are = omega arith; few = λ h. h }

both_counted : {first second third : Known} {n m k l : ℕ} → IsCounted first second n m → IsCounted second third k l → IsCounted first third (n + k) (m + l)
both_counted a b =
    let names = a.names_are in
    let shapes = a.shapes_are in
    let more_names = b.names_are in
    let more_shapes = b.shapes_are in
    record { names_are = omega (arith, names, more_names); shapes_are = omega (arith, shapes, more_shapes); few = λ h. b.few (a.few h) }

counted_as : {first second : Known} {n m k l : ℕ} → n ≡ k → m ≡ l → IsCounted first second n m → IsCounted first second k l
counted_as {first = first} {second = second} {m = m} {k = k} names shapes a = subst (λ (x : ℕ). IsCounted first second k x) shapes (subst (λ (x : ℕ). IsCounted first second x m) names a)

below : (n m : ℕ) → n ≤ 64 → (n ≡ 64 → ⊥) → m ≡ n + 1 → m ≤ 64
below n m most other is = omega (arith, most, other, is)

one_shape : (functions : List Binding) (known : Known) (s : ShapeDefinition) → find known.names s.name.word ≡ None → (length known.shapes ≡ 64 → ⊥) → IsCounted known (behind_shape functions known s) 1 1
unfolding behind_shape
one_shape functions known s new other =
    let extents = kept_extents (file_place functions known) s.extents.items in
    let next : Known = record {
      names = with_name known s.name.word (a_shape (length known.shapes));
      shapes = known.shapes ++ extents ∷ [];
      variables = known.variables;
      functions = known.functions;
    } in
    subst (λ (k : Known). IsCounted known k 1 1) (sym (either_new (find known.names s.name.word) known next new))
    (record {
      names_are = omega arith;
      shapes_are = length-append known.shapes (extents ∷ []);
      few = λ h. below (length known.shapes) (length (known.shapes ++ extents ∷ [])) h other (length-append known.shapes (extents ∷ []));
    })

one_variable : (functions : List Binding) (ty : Option ValueType) (known : Known) (d : Declarator) → find known.names d.name.word ≡ None → IsCounted known (behind_variable functions ty known d) 1 0
unfolding behind_variable
one_variable functions ty known d new =
    subst (λ (k : Known). IsCounted known k 1 0)
    (sym (either_new (find known.names d.name.word) known
    (record {
      names = with_name known d.name.word (a_variable (V.File known.variables) (declared_type (file_place functions known) ty d.length));
      shapes = known.shapes;
      variables = known.variables + 1;
      functions = known.functions;
    })
    new))
    (record { names_are = omega arith; shapes_are = omega arith; few = λ h. h })

one_function : (known : Known) (f : Function) → find known.names f.name.word ≡ None → IsCounted known (behind_function known f) 1 0
unfolding behind_function
one_function known f new =
    subst (λ (k : Known). IsCounted known k 1 0)
    (sym (either_new (find known.names f.name.word) known
    (record {
      names = with_name known f.name.word (a_function known.functions);
      shapes = known.shapes;
      variables = known.variables;
      functions = known.functions + 1;
    })
    new))
    (record { names_are = omega arith; shapes_are = omega arith; few = λ h. h })

abbrev NoFault : (Fault → Place → Type 0) → Type 0
NoFault P = (fault : Fault) (p : Place) → P fault p → ⊥

module _ (program : Program) (functions : List Binding) where
  shapes_counted : (known : Known) (ss : List ShapeDefinition) → NoFault (ShapesFault program functions known ss) → IsCounted known (behind_shapes functions known ss) (length ss) (length ss)
  unfolding behind_shapes
  shapes_counted known [] none = nothing_more known
  shapes_counted known (s ∷ ss) none =
      let new = absent (find known.names s.name.word) (λ m is. none F.Redeclared s.name.place (W.ShapesFault.first (W.ShapeFault.redeclared is))) in
      counted_as (omega arith) (omega arith)
      (both_counted (one_shape functions known s new (λ is. none F.Size s.name.place (W.ShapesFault.first (W.ShapeFault.one_too_many new is))))
      (shapes_counted (behind_shape functions known s) ss (λ fault p f. none fault p (W.ShapesFault.later f))))

  variables_counted : (ty : Option ValueType) (known : Known) (ds : List Declarator) → NoFault (VariablesFault program functions ty known ds) → IsCounted known (behind_variables functions ty known ds) (length ds) 0
  unfolding behind_variables
  variables_counted ty known [] none = nothing_more known
  variables_counted ty known (d ∷ ds) none =
      let new = absent (find known.names d.name.word) (λ m is. none F.Redeclared d.name.place (W.VariablesFault.first (W.VariableFault.redeclared is))) in
      counted_as (omega arith) (omega arith) (both_counted (one_variable functions ty known d new) (variables_counted ty (behind_variable functions ty known d) ds (λ fault p f. none fault p (W.VariablesFault.later f))))

  as_many_shapes : {known : Known} {ss : List ShapeDefinition} {infos : List ShapeInfo} → TypesShapes functions known ss infos → length ss ≡ length infos
  as_many_shapes Y.no_shape = refl
  as_many_shapes (Y.next_shape named is more) = ap suc (as_many_shapes more)

  items_counted : {known : Known} {items : List Item} {infos : List ShapeInfo} {vars : List VarInfo} → TypesItems functions known items infos vars → NoFault (ItemsFault program functions known items)
      → IsCounted known (behind_items functions known items) (length (concat (map words_of items))) (length infos)
  unfolding behind_items behind_item concat
  items_counted (Y.no_item {known = known}) none = nothing_more known
  items_counted (Y.TypesItems.shapes {known = known} {list = list} {items = items} {infos = infos} {rest = rest} typed more) none =
      counted_as
      (sym (length-append (map (λ (s : ShapeDefinition). s.name.word) list.items) (concat (map words_of items)) ∙ ap (λ (n : ℕ). n + length (concat (map words_of items))) (length-map list.items (λ (s : ShapeDefinition). s.name.word))))
      (ap (λ (n : ℕ). n + length rest) (as_many_shapes typed) ∙ sym (length-append infos rest))
      (both_counted (shapes_counted known list.items (λ fault p f. none fault p (W.ItemsFault.shapes list f))) (items_counted more (λ fault p f. none fault p (W.ItemsFault.later f))))
  items_counted (Y.TypesItems.variables {known = known} {d = d} {items = items} {infos = infos} is typed more) none =
      counted_as
      (sym (length-append (map (λ (v : Declarator). v.name.word) d.variables.items) (concat (map words_of items)) ∙ ap (λ (n : ℕ). n + length (concat (map words_of items))) (length-map d.variables.items (λ (v : Declarator). v.name.word))))
      (omega arith)
      (both_counted (variables_counted (written_type (file_place functions known) d.type_name) known d.variables.items (λ fault p f. none fault p (W.ItemsFault.variables f))) (items_counted more (λ fault p f. none fault p (W.ItemsFault.later f))))
  items_counted (Y.TypesItems.function {known = known} {f = f} {items = items} more) none =
      let new = absent (find known.names f.name.word) (λ m is. none F.Redeclared f.name.place (W.ItemsFault.redeclared is)) in
      counted_as (sym (length-append (f.name.word ∷ []) (concat (map words_of items)))) (omega arith) (both_counted (one_function known f new) (items_counted more (λ fault p g. none fault p (W.ItemsFault.later g))))

-- ---- parameters

parameters_counted : (here : Here) (number : ℕ) (ps : List Parameter) → NoFault (ParametersFault here number ps) → length (behind_parameters here number ps).names.inner ≡ length here.names.inner + length ps
unfolding behind_parameters
parameters_counted here number [] none = omega arith
parameters_counted here number (p ∷ ps) none =
    let new = absent (find here.names.inner p.name.word) (λ m is. none F.Redeclared p.name.place (W.ParametersFault.redeclared is)) in
    let next : Names = record { inner = record { word = p.name.word; meaning = a_variable (V.Param number) (plain_type (written_type here p.type_name)) } ∷ here.names.inner; outer = here.names.outer } in
    let one : length (behind_parameter here number p).names.inner ≡ suc (length here.names.inner) = ap (λ (names : Names). length names.inner) (either_new (find here.names.inner p.name.word) here.names next new) in
    let rest = parameters_counted (behind_parameter here number p) (number + 1) ps (λ fault q f. none fault q (W.ParametersFault.later f)) in
    omega (arith, one, rest)

-- ---- `main`

first_is : (shapes : List (List ℕ)) (functions : List Placed) (rounds : ℕ) (main : Reached) → slice_get (after_rounds rounds shapes functions main) 0 ≡ Some main
unfolding after_rounds next_round first_met is_met
first_is shapes functions zero main = refl
first_is shapes functions (suc rounds) main = refl

some_instance : {program : Program} {shapes : List (List ℕ)} {reached : List Reached} {instances : List Instance} → TypesInstances program shapes reached instances → (r : Reached) → slice_get reached 0 ≡ Some r → 0 < length instances
some_instance Y.no_instance r is = absurd (none-some r is)
some_instance (Y.next_instance typed more) r is = omega arith

main_reached : (shapes : List (List ℕ)) (functions : List Placed) (main : Option ℕ) → (main ≡ None → ⊥) → (r : Reached) × (slice_get (instances_from shapes functions main) 0 ≡ Some r)
main_reached shapes functions None there = absurd (there refl)
main_reached shapes functions (Some f) there = (record { function = f; current = None }, first_is shapes functions _ (record { function = f; current = None }))

as_many_needs : (vars : List VarInfo) (instances : List Instance) (number : ℕ) (infos : List ShapeInfo) → length (needs_from vars instances number infos) ≡ length infos
unfolding needs_from
as_many_needs vars instances number [] = refl
as_many_needs vars instances number (s ∷ rest) = ap suc (as_many_needs vars instances (number + 1) rest)

-- ---- files

stable : (n m : ℕ) → ((n ≤ m → ⊥) → ⊥) → n ≤ m
stable n m h = by_test (leb_tells n m)
  where
    by_test : ((leb n m ≡ true) × (n ≤ m)) ⊎ ((leb n m ≡ false) × (m < n)) → n ≤ m
    by_test (inl is) = is.1
    by_test (inr is) = absurd (h (λ k. let other = is.1 in omega (arith, k, other)))

pub well_formed : AcceptedFilesAreWellFormed
well_formed tree typed accepted = (
  record {
    needs = ap (λ (ns : List ℕ). length ns) types.needs ∙ as_many_needs typed.vars.items typed.instances.items 0 typed.shapes.items;
    few_shapes = few;
    main = let first = main_reached (file_known tree).shapes (file_functions tree) (main_of tree) (λ none. none_of F.NoMain tree.end (W.FaultOf.absent_main none)) in some_instance types.instances first.0 first.1;
  },
  record {
    named = record {
      names = let names = counted.names_are in omega (arith, names);
      parameters = λ r placed is.
          let all = parameters_counted (header_place (file_known tree).shapes placed r) 0 placed.function.parameters.items (λ fault p f. none_of fault p (W.FaultOf.in_instance is.which is.is_instance is.is_function (W.InstanceFault.parameters f))) in
          omega (arith, all);
      main = λ f placed is function no_main. none_of F.NoMain placed.function.name.place (W.FaultOf.no_main is function no_main);
    };
    few_nodes = stable (tree_nodes tree) (2 ^ 20) (λ many. none_of F.Size tree.end (W.FaultOf.too_many_nodes (more_than many)));
  },
  stable (machine_bits typed.shapes.items typed.need.items) (2 ^ 30) (λ full. accepted.no_fault F.Space tree.end (W.Stands.no_room none_of types full)),
)
  where
    types : TypesFile tree typed
    types = accepted.types

    none_of : (fault : Fault) (p : Place) → FaultOf tree fault p → ⊥
    none_of fault p f = accepted.no_fault fault p (W.Stands.of_file f)

    counted : IsCounted nothing_known (file_known tree) (length (concat (map words_of tree.items.items))) (length typed.shapes.items)
    counted = items_counted (program_of tree) (functions_named tree) types.items (λ fault p f. none_of fault p (W.FaultOf.in_items f))

    few : length typed.shapes.items ≤ 64
    few = let shapes = counted.shapes_are in let most = counted.few (omega arith) in omega (arith, shapes, most)

    more_than : (tree_nodes tree ≤ 2 ^ 20 → ⊥) → 2 ^ 20 < tree_nodes tree
    more_than many = omega (arith, many)
