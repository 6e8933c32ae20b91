-- Names that are new where they are declared: no name is declared twice where as many are known in the
-- end as are declared.
use Rattle.std.proofs.Common.{◌≡◌, ◌≤◌, ◌+◌, ℕ, List, [], ◌∷◌, ◌++◌, length, map, is_some, Option, Some, None, refl, arith, length-append, if◌then◌else◌}
use Rattle.std.proofs.lemmas.List.{length-map}
use Rattle.cstar_tree.specs.declared.syntax.Declarator.{Declarator}
use Rattle.cstar_tree.specs.declared.syntax.Function.{Function}
use Rattle.cstar_tree.specs.declared.syntax.Item.{Item}
use Rattle.cstar_tree.specs.declared.syntax.Item.TheVariants as I
use Rattle.cstar_tree.specs.declared.syntax.Parameter.{Parameter}
use Rattle.cstar_tree.specs.declared.syntax.ShapeDefinition.{ShapeDefinition}
use Rattle.cstar_tree.specs.declared.typed.ValueType.{ValueType}
use Rattle.cstar_tree.specs.declared.typed.Variable.TheVariants as V
use Rattle.cstar_tree.specs.BlockScopes.{declared_type}
use Rattle.cstar_tree.specs.FileScopes.{Known, behind_function, behind_item, behind_items, behind_shape, behind_shapes, behind_variable, behind_variables, file_place, kept_extents, with_name, words_of}
use Rattle.cstar_tree.specs.Headers.{behind_parameter, behind_parameters, plain_type}
use Rattle.cstar_tree.specs.Scopes.{Binding, Here, Meaning, Names, a_function, a_shape, a_variable, find, written_type}
use Rattle.cstar_tree.specs.TypedParts.{concat}

-- nothing that is known has this name
abbrev pub IsNew : Known → List ℕ → Type 0
IsNew known word = find known.names word ≡ None

-- no name is declared twice, where these are known before
unfoldable pub NewShapes : List Binding → Known → List ShapeDefinition → Type 0
NewShapes functions known [] = Unit {0}
NewShapes functions known (s ∷ ss) = IsNew known s.name.word × NewShapes functions (behind_shape functions known s) ss

unfoldable pub NewVariables : List Binding → Option ValueType → Known → List Declarator → Type 0
NewVariables functions ty known [] = Unit {0}
NewVariables functions ty known (d ∷ ds) = IsNew known d.name.word × NewVariables functions ty (behind_variable functions ty known d) ds

abbrev pub NewItem : List Binding → Known → Item → Type 0
NewItem functions known (I.Shapes p list) = NewShapes functions known list.items
NewItem functions known (I.Variables d) = NewVariables functions (written_type (file_place functions known) d.type_name) known d.variables.items
NewItem functions known (I.Function f) = IsNew known f.name.word

unfoldable pub NewItems : List Binding → Known → List Item → Type 0
NewItems functions known [] = Unit {0}
NewItems functions known (item ∷ items) = NewItem functions known item × NewItems functions (behind_item functions known item) items

unfoldable pub NewParameters : Here → ℕ → List Parameter → Type 0
NewParameters here number [] = Unit {0}
NewParameters here number (p ∷ ps) = (find here.names.inner p.name.word ≡ None) × NewParameters (behind_parameter here number p) (number + 1) ps

-- ---- a name that is declared

record Grown (before behind : ℕ) (m : Option Meaning) : Type 0 where
  most : behind ≤ before + 1
  new : behind ≡ before + 1 → m ≡ None

-- what has no meaning yet is declared, so that one more is counted
grown : {A : Type 0} (count : A → ℕ) (m : Option Meaning) (first other : A) → count other ≡ count first + 1 → Grown (count first) (count (if is_some m then first else other)) m
grown count None first other one = record { most = omega (arith, one); new = λ h. refl }
grown count (Some x) first other one = record { most = omega arith; new = λ h. absurd (omega (arith, h)) }

shape_grown : (functions : List Binding) (known : Known) (s : ShapeDefinition) → Grown (length known.names) (length (behind_shape functions known s).names) (find known.names s.name.word)
unfolding behind_shape
shape_grown functions known s =
    grown (λ (k : Known). length k.names) (find known.names s.name.word) known
    (record {
      names = with_name known s.name.word (a_shape (length known.shapes));
      shapes = known.shapes ++ kept_extents (file_place functions known) s.extents.items ∷ [];
      variables = known.variables;
      functions = known.functions;
    })
    (omega arith)

variable_grown : (functions : List Binding) (ty : Option ValueType) (known : Known) (d : Declarator) → Grown (length known.names) (length (behind_variable functions ty known d).names) (find known.names d.name.word)
unfolding behind_variable
variable_grown functions ty known d =
    grown (λ (k : Known). length k.names) (find known.names d.name.word) known
    (record {
      names = with_name known d.name.word (a_variable (V.File known.variables) (declared_type (file_place functions known) ty d.length));
      shapes = known.shapes;
      variables = known.variables + 1;
      functions = known.functions;
    })
    (omega arith)

function_grown : (known : Known) (f : Function) → Grown (length known.names) (length (behind_function known f).names) (find known.names f.name.word)
unfolding behind_function
function_grown known f =
    grown (λ (k : Known). length k.names) (find known.names f.name.word) known
    (record {
      names = with_name known f.name.word (a_function known.functions);
      shapes = known.shapes;
      variables = known.variables;
      functions = known.functions + 1;
    })
    (omega arith)

-- ---- names that are declared one behind the other

most_shapes : (functions : List Binding) (known : Known) (ss : List ShapeDefinition) → length (behind_shapes functions known ss).names ≤ length known.names + length ss
unfolding behind_shapes
most_shapes functions known [] = omega arith
most_shapes functions known (s ∷ ss) = let g = shape_grown functions known s in omega (arith, g.most, most_shapes functions (behind_shape functions known s) ss)

new_shapes : (functions : List Binding) (known : Known) (ss : List ShapeDefinition) → length (behind_shapes functions known ss).names ≡ length known.names + length ss → NewShapes functions known ss
unfolding behind_shapes NewShapes
new_shapes functions known [] as_many = tt
new_shapes functions known (s ∷ ss) as_many =
    let next = behind_shape functions known s in
    let g = shape_grown functions known s in
    let most = most_shapes functions next ss in
    (g.new (omega (arith, as_many, most, g.most)), new_shapes functions next ss (omega (arith, as_many, most, g.most)))

most_variables : (functions : List Binding) (ty : Option ValueType) (known : Known) (ds : List Declarator) → length (behind_variables functions ty known ds).names ≤ length known.names + length ds
unfolding behind_variables
most_variables functions ty known [] = omega arith
most_variables functions ty known (d ∷ ds) = let g = variable_grown functions ty known d in omega (arith, g.most, most_variables functions ty (behind_variable functions ty known d) ds)

new_variables : (functions : List Binding) (ty : Option ValueType) (known : Known) (ds : List Declarator) → length (behind_variables functions ty known ds).names ≡ length known.names + length ds → NewVariables functions ty known ds
unfolding behind_variables NewVariables
new_variables functions ty known [] as_many = tt
new_variables functions ty known (d ∷ ds) as_many =
    let next = behind_variable functions ty known d in
    let g = variable_grown functions ty known d in
    let most = most_variables functions ty next ds in
    (g.new (omega (arith, as_many, most, g.most)), new_variables functions ty next ds (omega (arith, as_many, most, g.most)))

-- ---- items

most_of_item : (functions : List Binding) (known : Known) (item : Item) → length (behind_item functions known item).names ≤ length known.names + length (words_of item)
unfolding behind_item
most_of_item functions known (I.Shapes p list) = omega (arith, most_shapes functions known list.items, length-map list.items (λ (s : ShapeDefinition). s.name.word))
most_of_item functions known (I.Variables d) = omega (arith, most_variables functions (written_type (file_place functions known) d.type_name) known d.variables.items, length-map d.variables.items (λ (v : Declarator). v.name.word))
most_of_item functions known (I.Function f) = let g = function_grown known f in g.most

new_item : (functions : List Binding) (known : Known) (item : Item) → length (behind_item functions known item).names ≡ length known.names + length (words_of item) → NewItem functions known item
unfolding behind_item
new_item functions known (I.Shapes p list) as_many = new_shapes functions known list.items (omega (arith, as_many, length-map list.items (λ (s : ShapeDefinition). s.name.word)))
new_item functions known (I.Variables d) as_many = new_variables functions (written_type (file_place functions known) d.type_name) known d.variables.items (omega (arith, as_many, length-map d.variables.items (λ (v : Declarator). v.name.word)))
new_item functions known (I.Function f) as_many = let g = function_grown known f in g.new as_many

most_items : (functions : List Binding) (known : Known) (items : List Item) → length (behind_items functions known items).names ≤ length known.names + length (concat (map words_of items))
unfolding behind_items concat
most_items functions known [] = omega arith
most_items functions known (item ∷ items) =
    omega (arith, most_of_item functions known item, most_items functions (behind_item functions known item) items, length-append (words_of item) (concat (map words_of items)))

pub new_items : (functions : List Binding) (known : Known) (items : List Item) → length (behind_items functions known items).names ≡ length known.names + length (concat (map words_of items)) → NewItems functions known items
unfolding behind_items NewItems concat
new_items functions known [] as_many = tt
new_items functions known (item ∷ items) as_many =
    let next = behind_item functions known item in
    let first = most_of_item functions known item in
    let most = most_items functions next items in
    let all = length-append (words_of item) (concat (map words_of items)) in
    (new_item functions known item (omega (arith, as_many, first, most, all)), new_items functions next items (omega (arith, as_many, first, most, all)))

-- ---- parameters

parameter_grown : (here : Here) (number : ℕ) (p : Parameter) → Grown (length here.names.inner) (length (behind_parameter here number p).names.inner) (find here.names.inner p.name.word)
parameter_grown here number p =
    grown (λ (names : Names). length names.inner) (find here.names.inner p.name.word) here.names
    (record { inner = record { word = p.name.word; meaning = a_variable (V.Param number) (plain_type (written_type here p.type_name)) } ∷ here.names.inner; outer = here.names.outer })
    (omega arith)

most_parameters : (here : Here) (number : ℕ) (ps : List Parameter) → length (behind_parameters here number ps).names.inner ≤ length here.names.inner + length ps
unfolding behind_parameters
most_parameters here number [] = omega arith
most_parameters here number (p ∷ ps) = let g = parameter_grown here number p in omega (arith, g.most, most_parameters (behind_parameter here number p) (number + 1) ps)

pub new_parameters : (here : Here) (number : ℕ) (ps : List Parameter) → length (behind_parameters here number ps).names.inner ≡ length here.names.inner + length ps → NewParameters here number ps
unfolding behind_parameters NewParameters
new_parameters here number [] as_many = tt
new_parameters here number (p ∷ ps) as_many =
    let next = behind_parameter here number p in
    let g = parameter_grown here number p in
    let most = most_parameters next (number + 1) ps in
    (g.new (omega (arith, as_many, most, g.most)), new_parameters next (number + 1) ps (omega (arith, as_many, most, g.most)))
