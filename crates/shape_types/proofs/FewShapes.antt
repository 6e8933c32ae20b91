-- A file has no more shapes than it defines.
use Rattle.std.proofs.Common.{◌≡◌, ℕ, ◌+◌, ◌-◌, ◌<◌, ◌≤◌, ◌^◌, Bool, true, false, List, [], ◌∷◌, drop, get_or, length, min, if◌then◌else◌, is_some, Option, suc, arith, ap, sym, ◌∙◌}
use Rattle.std.proofs.lemmas.List.{drop_all, length-append}
use Rattle.std.proofs.Math.Seq.{drop-cons}
use Rattle.cstar_tree.specs.declared.syntax.Declarator.{Declarator}
use Rattle.cstar_tree.specs.declared.syntax.Item.{Item}
use Rattle.cstar_tree.specs.declared.syntax.Item.TheVariants as I
use Rattle.cstar_tree.specs.declared.syntax.ShapeDefinition.{ShapeDefinition}
use Rattle.cstar_tree.specs.declared.syntax.Tree.{Tree}
use Rattle.cstar_tree.specs.declared.typed.ValueType.{ValueType}
use Rattle.cstar_tree.specs.FileScopes.{Known, behind_function, behind_item, behind_items, behind_shape, behind_shapes, behind_variable, behind_variables, file_known, file_place, functions_named, kept_extents, nothing_known}
use Rattle.cstar_tree.specs.Scopes.{Binding, find, written_type}
use Rattle.shape_types.specs.FewShapes.{shapes_in, shapes_of}

-- what a declaration adds, where its name is new
added : (known : Known) (b : Bool) (new : Known) (n : ℕ) → length new.shapes ≤ length known.shapes + n → length (if b then known else new).shapes ≤ length known.shapes + n
added known true new n h = omega arith
added known false new n h = omega (arith, h)

shape_adds : (functions : List Binding) (known : Known) (s : ShapeDefinition) → length (behind_shape functions known s).shapes ≤ length known.shapes + 1
unfolding behind_shape
shape_adds functions known s =
    let one = length-append known.shapes (kept_extents (file_place functions known) s.extents.items ∷ []) in
    added known (is_some (find known.names s.name.word)) _ 1 (omega (arith, one))

variable_adds : (functions : List Binding) (ty : Option ValueType) (known : Known) (d : Declarator) → length (behind_variable functions ty known d).shapes ≤ length known.shapes + 0
unfolding behind_variable
variable_adds functions ty known d = added known (is_some (find known.names d.name.word)) _ 0 (omega arith)

shapes_add : (functions : List Binding) (known : Known) (list : List ShapeDefinition) → length (behind_shapes functions known list).shapes ≤ length known.shapes + length list
unfolding behind_shapes
shapes_add functions known [] = omega arith
shapes_add functions known (s ∷ ss) = let a = shape_adds functions known s in let b = shapes_add functions (behind_shape functions known s) ss in omega (arith, a, b)

variables_add : (functions : List Binding) (ty : Option ValueType) (known : Known) (list : List Declarator) → length (behind_variables functions ty known list).shapes ≤ length known.shapes
unfolding behind_variables
variables_add functions ty known [] = omega arith
variables_add functions ty known (d ∷ ds) = let a = variable_adds functions ty known d in let b = variables_add functions ty (behind_variable functions ty known d) ds in omega (arith, a, b)

item_adds : (functions : List Binding) (known : Known) (item : Item) → length (behind_item functions known item).shapes ≤ length known.shapes + shapes_of item
unfolding behind_item behind_function
item_adds functions known (I.Shapes p list) = shapes_add functions known list.items
item_adds functions known (I.Variables d) = let a = variables_add functions (written_type (file_place functions known) d.type_name) known d.variables.items in omega (arith, a)
item_adds functions known (I.Function f) = added known (is_some (find known.names f.name.word)) _ 0 (omega arith)

items_add : (functions : List Binding) (known : Known) (items : List Item) → length (behind_items functions known items).shapes ≤ length known.shapes + shapes_in items
unfolding behind_items shapes_in
items_add functions known [] = omega arith
items_add functions known (item ∷ items) = let a = item_adds functions known item in let b = items_add functions (behind_item functions known item) items in omega (arith, a, b)

pub few : (tree : Tree) (count : ℕ) → count ≡ min (shapes_in tree.items.items) (2 ^ 64 - 1) → count < 2 ^ 16 → length (file_known tree).shapes < 2 ^ 16
few tree count is small = let a = items_add (functions_named tree) nothing_known tree.items.items in omega (arith, a, is, small)

-- ---- the count of the code

-- so many are defined by the items before the i-th, as far as that is counted
abbrev pub IsCountedTo : List Item → ℕ → ℕ → Type 0
IsCountedTo items i count = (min (count + shapes_in (drop i items)) (2 ^ 64 - 1) ≡ min (shapes_in items) (2 ^ 64 - 1)) × (count ≤ 2 ^ 64 - 1)

pub one_more : (items : List Item) (i count new : ℕ) (x : Item) → i < length items → x ≡ get_or items i x → new ≡ min (count + shapes_of x) (2 ^ 64 - 1) → IsCountedTo items i count → IsCountedTo items (i + 1) new
unfolding shapes_in
one_more items i count new x within is more before =
    let rest : drop i items ≡ x ∷ drop (suc i) items = drop-cons items i x within ∙ ap (λ (y : Item). y ∷ drop (suc i) items) (sym is) in
    let sum : shapes_in (drop i items) ≡ shapes_of x + shapes_in (drop (suc i) items) = ap shapes_in rest in
    let next : i + 1 ≡ suc i = omega arith in
    let all = before.0 in
    rw next (omega (arith, sum, more, all), omega (arith, more))

pub all_counted : (items : List Item) (i count : ℕ) → length items ≤ i → IsCountedTo items i count → count ≡ min (shapes_in items) (2 ^ 64 - 1)
unfolding shapes_in
all_counted items i count end before =
    let none : shapes_in (drop i items) ≡ 0 = ap shapes_in (drop_all i items end) in
    let all = before.0 in
    let small = before.1 in
    omega (arith, none, all, small)
