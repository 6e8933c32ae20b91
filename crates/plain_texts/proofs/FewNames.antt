-- A file has no more names than its text has tokens.
use Rattle.std.proofs.Common.{◌≡◌, ℕ, ◌+◌, ◌<◌, ◌≤◌, ◌^◌, Bool, true, false, List, [], ◌∷◌, ◌++◌, length, if◌then◌else◌, is_some, Option, arith, refl, ap}
use Rattle.std.proofs.lemmas.List.{length-append, length-map}
use Rattle.cstar_tree.specs.declared.syntax.Declarator.{Declarator}
use Rattle.cstar_tree.specs.declared.syntax.Function.{Function}
use Rattle.cstar_tree.specs.declared.syntax.Item.{Item}
use Rattle.cstar_tree.specs.declared.syntax.Item.TheVariants as I
use Rattle.cstar_tree.specs.declared.syntax.ShapeDefinition.{ShapeDefinition}
use Rattle.cstar_tree.specs.declared.syntax.Tree.{Tree}
use Rattle.cstar_tree.specs.declared.token.Token.{Token}
use Rattle.cstar_tree.specs.declared.token.Tokens.{Tokens}
use Rattle.cstar_tree.specs.declared.typed.ValueType.{ValueType}
use Rattle.cstar_tree.specs.Declarations.{AreDeclarators, IsDeclaration, IsDeclarator}
use Rattle.cstar_tree.specs.Declarations as D
use Rattle.cstar_tree.specs.FileScopes.{Known, behind_function, behind_item, behind_items, behind_shape, behind_shapes, behind_variable, behind_variables, file_known, file_place, functions_named, nothing_known, words_of}
use Rattle.cstar_tree.specs.Items.{AreItems, AreShapeDefinitions, IsItem, IsTree}
use Rattle.cstar_tree.specs.Items as Z
use Rattle.cstar_tree.specs.Scopes.{Binding, find, written_type}
use Rattle.plain_texts.specs.Laws.{HasWords}
use Rattle.tree_places.proofs.Ending.{declarator_ends, function_ends, shape_definition_ends, token_ends, type_ends}

one_more : (known : Known) (b : Bool) (new : Known) → length new.names ≡ length known.names + 1 → length (if b then known else new).names ≤ length known.names + 1
one_more known true new h = omega arith
one_more known false new h = omega (arith, h)

shape_adds : (functions : List Binding) (known : Known) (s : ShapeDefinition) → length (behind_shape functions known s).names ≤ length known.names + 1
unfolding behind_shape
shape_adds functions known s = one_more known (is_some (find known.names s.name.word)) _ (omega arith)

variable_adds : (functions : List Binding) (ty : Option ValueType) (known : Known) (d : Declarator) → length (behind_variable functions ty known d).names ≤ length known.names + 1
unfolding behind_variable
variable_adds functions ty known d = one_more known (is_some (find known.names d.name.word)) _ (omega arith)

function_adds : (known : Known) (f : Function) → length (behind_function known f).names ≤ length known.names + 1
unfolding behind_function
function_adds known f = one_more known (is_some (find known.names f.name.word)) _ (omega arith)

shapes_add : (functions : List Binding) (known : Known) (list : List ShapeDefinition) → length (behind_shapes functions known list).names ≤ length known.names + length list
unfolding behind_shapes
shapes_add functions known [] = omega arith
shapes_add functions known (s ∷ ss) = let a = shape_adds functions known s in let b = shapes_add functions (behind_shape functions known s) ss in omega (arith, a, b)

variables_add : (functions : List Binding) (ty : Option ValueType) (known : Known) (list : List Declarator) → length (behind_variables functions ty known list).names ≤ length known.names + length list
unfolding behind_variables
variables_add functions ty known [] = omega arith
variables_add functions ty known (d ∷ ds) = let a = variable_adds functions ty known d in let b = variables_add functions ty (behind_variable functions ty known d) ds in omega (arith, a, b)

item_adds : (functions : List Binding) (known : Known) (item : Item) → length (behind_item functions known item).names ≤ length known.names + length (words_of item)
unfolding behind_item
item_adds functions known (I.Shapes p list) = let a = shapes_add functions known list.items in let b = length-map list.items (λ (s : ShapeDefinition). s.name.word) in omega (arith, a, b)
item_adds functions known (I.Variables d) = let a = variables_add functions (written_type (file_place functions known) d.type_name) known d.variables.items in let b = length-map d.variables.items (λ (v : Declarator). v.name.word) in omega (arith, a, b)
item_adds functions known (I.Function f) = function_adds known f

-- ---- what tokens spell

definitions_count : {tokens : List Token} {from to : ℕ} {list : List ShapeDefinition} → AreShapeDefinitions tokens from list to → from + length list ≤ to
definitions_count (Z.first_shape a) = let fa = shape_definition_ends a in omega (arith, fa)
definitions_count (Z.next_shape {list = list} {s = s} a b c) = let fa = definitions_count a in let fb = token_ends b in let fc = shape_definition_ends c in let n = length-append list (s ∷ []) in omega (arith, fa, fb, fc, n)

declarators_count : {tokens : List Token} {from to : ℕ} {list : List Declarator} → AreDeclarators tokens from list to → from + length list ≤ to
declarators_count (D.first_name a) = let fa = declarator_ends a in omega (arith, fa)
declarators_count (D.next_name {list = list} {d = d} a b c) = let fa = declarators_count a in let fb = token_ends b in let fc = declarator_ends c in let n = length-append list (d ∷ []) in omega (arith, fa, fb, fc, n)

item_count : {tokens : List Token} {from to : ℕ} {item : Item} → IsItem tokens from item to → from + length (words_of item) ≤ to
item_count (Z.shapes {shapes = list} a b c) = let fa = token_ends a in let fb = definitions_count b in let fc = token_ends c in let n = length-map list.items (λ (s : ShapeDefinition). s.name.word) in omega (arith, fa, fb, fc, n)
item_count (Z.variables (D.declaration {variables = list} a b c)) = let fa = type_ends a in let fb = declarators_count b in let fc = token_ends c in let n = length-map list.items (λ (v : Declarator). v.name.word) in omega (arith, fa, fb, fc, n)
item_count (Z.function_is a) = let fa = function_ends a in omega (arith, fa)

behind_append : (functions : List Binding) (known : Known) (items : List Item) (item : Item) → behind_items functions known (items ++ item ∷ []) ≡ behind_item functions (behind_items functions known items) item
unfolding behind_items
behind_append functions known [] item = refl
behind_append functions known (first ∷ rest) item = behind_append functions (behind_item functions known first) rest item

items_count : {tokens : List Token} {from to : ℕ} {list : List Item} (functions : List Binding) (known : Known) → AreItems tokens from list to → from + length (behind_items functions known list).names ≤ to + length known.names
unfolding behind_items
items_count functions known Z.no_item = omega arith
items_count functions known (Z.one_more {list = list} {item = item} a b) =
    let fa = items_count functions known a in
    let fb = item_count b in
    let added = item_adds functions (behind_items functions known list) item in
    let e = ap (λ (k : Known). length k.names) (behind_append functions known list item) in
    omega (arith, fa, fb, added, e)

pub few_names : (tokens : Tokens) (tree : Tree) → HasWords tokens.list.items → IsTree tokens tree → length (file_known tree).names < 2 ^ 32
few_names tokens tree words is = let few = words.few in let count = items_count (functions_named tree) nothing_known is.items in omega (arith, few, count)
