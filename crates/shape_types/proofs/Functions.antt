-- A name of a file that stands for a function stands for one of the file's.
use Rattle.std.proofs.Common.{◌≡◌, ◌<◌, ◌≤◌, ◌+◌, ◌-◌, ℕ, zero, suc, Bool, true, false, length, map, reverse, bytes_eq, length-append, slice_get, List, [], ◌∷◌, ◌++◌, Option, Some, None, if◌then◌else◌, arith, refl, sym, subst, ◌∙◌}
use Rattle.std.proofs.lemmas.Option.{same_Some}
use Rattle.std.specs.List.{AllZip}
use Rattle.cstar_tree.specs.declared.syntax.Declarator.{Declarator}
use Rattle.cstar_tree.specs.declared.syntax.Item.{Item}
use Rattle.cstar_tree.specs.declared.syntax.Item.TheVariants as I
use Rattle.cstar_tree.specs.declared.syntax.ShapeDefinition.{ShapeDefinition}
use Rattle.cstar_tree.specs.declared.syntax.Tree.{Tree}
use Rattle.cstar_tree.specs.declared.typed.ValueType.{ValueType}
use Rattle.cstar_tree.specs.FileScopes.{Known, behind_function, behind_item, behind_items, behind_shape, behind_shapes, behind_variable, behind_variables, file_functions, file_known, file_place, functions_named, nothing_known, placed_from, placed_of}
use Rattle.cstar_tree.specs.Scopes.{Binding, Meaning, a_function, find, written_type}
use Rattle.file_names.proofs.Steps.{one_more}
use Rattle.file_names.specs.Numbers.{declared_as, in_text_order, name_of}
use Rattle.type_scopes.specs.FileBindings.{file_binding, file_meant, is_known, known_names}
use Rattle.type_scopes.specs.declared.names.FileName.{FileName}
use Rattle.type_scopes.specs.declared.names.FileName.TheVariants as N
use Rattle.type_scopes.specs.declared.names.VariableType.{VariableType}

-- what stands beside an item of the second list
pub zipped : {A B : Type 0} (R : A → B → Type 0) (xs : List A) (ys : List B) (k : ℕ) (y : B) → AllZip R xs ys → slice_get ys k ≡ Some y → (x : A) × (slice_get xs k ≡ Some x) × R x y
zipped R [] [] k y all is = absurd (cc)
zipped R [] (z ∷ ys) k y all is = absurd all
zipped R (x ∷ xs) [] k y all is = absurd all
zipped R (x ∷ xs) (z ∷ ys) zero y all is = (x, refl, subst (R x) (same_Some z y is) all.0)
zipped R (x ∷ xs) (z ∷ ys) (suc k) y all is = zipped R xs ys k y all.1 is

-- the function that a name is declared as has a number below this one
abbrev IsBelow : ℕ → FileName → Type 0
IsBelow n (N.Shape s) = Unit {0}
IsBelow n (N.Function f) = f < n
IsBelow n (N.Variable v) = Unit {0}

unfoldable AreBelow : ℕ → List (List ℕ × FileName) → Type 0
AreBelow n [] = Unit {0}
AreBelow n (e ∷ es) = IsBelow n e.1 × AreBelow n es

unfoldable AreNamedBelow : ℕ → List Binding → Type 0
AreNamedBelow n [] = Unit {0}
AreNamedBelow n (b ∷ bs) = IsBelow n (declared_as b.meaning) × AreNamedBelow n bs

below_more : (n m : ℕ) (name : FileName) → n ≤ m → IsBelow n name → IsBelow m name
below_more n m (N.Shape s) less h = tt
below_more n m (N.Function f) less h = omega (arith, less, h)
below_more n m (N.Variable v) less h = tt

all_below_more : (n m : ℕ) (bs : List Binding) → n ≤ m → AreNamedBelow n bs → AreNamedBelow m bs
unfolding AreNamedBelow
all_below_more n m [] less h = tt
all_below_more n m (b ∷ bs) less h = (below_more n m (declared_as b.meaning) less h.0, all_below_more n m bs less h.1)

-- ---- the names in text order

below_last : (n : ℕ) (es : List (List ℕ × FileName)) (e : List ℕ × FileName) → AreBelow n es → IsBelow n e.1 → AreBelow n (es ++ e ∷ [])
unfolding AreBelow
below_last n [] e h last = (last, tt)
below_last n (x ∷ es) e h last = (h.0, below_last n es e h.1 last)

below_in_order : (n : ℕ) (bs : List Binding) → AreNamedBelow n bs → AreBelow n (map name_of (reverse bs))
unfolding AreBelow AreNamedBelow
below_in_order n [] h = tt
below_in_order n (b ∷ bs) h = subst (AreBelow n) (sym (one_more b bs)) (below_last n (map name_of (reverse bs)) (name_of b) (below_in_order n bs h.1) h.0)

known_below : (types : List (Option VariableType)) (known : ℕ) (es : List (List ℕ × FileName)) (word : List ℕ) (f n : ℕ) → AreBelow n es → find (known_names types known es) word ≡ Some (a_function f) → f < n
unfolding AreBelow known_names find
known_below types known [] word f n h is = absurd (cc)
known_below types known (e ∷ es) word f n h is = by (is_known known e.1) (known_below types (known - 1) es word f n h.1) is
  where
    own : (name : FileName) → IsBelow n name → Some (file_meant types name) ≡ Some (a_function f) → f < n
    own (N.Shape s) below found = absurd (cc)
    own (N.Function g) below found = let same : g ≡ f = cc in omega (arith, same, below)
    own (N.Variable v) below found = absurd (cc)

    named : (same : Bool) → (find (known_names types (known - 1) es) word ≡ Some (a_function f) → f < n) → (if same then Some (file_meant types e.1) else find (known_names types (known - 1) es) word) ≡ Some (a_function f) → f < n
    named true rest found = own e.1 h.0 found
    named false rest found = rest found

    by : (b : Bool) → (find (known_names types (known - 1) es) word ≡ Some (a_function f) → f < n) → find (if b then file_binding types e ∷ known_names types (known - 1) es else known_names types (known - 1) es) word ≡ Some (a_function f) → f < n
    by true rest found = named (bytes_eq e.0 word) rest found
    by false rest found = rest found

-- ---- the functions are numbered as they are known

abbrev AreCounted : Known → Type 0
AreCounted known = AreNamedBelow known.functions known.names

shape_counted : (functions : List Binding) (known : Known) (s : ShapeDefinition) → AreCounted known → AreCounted (behind_shape functions known s) × ((behind_shape functions known s).functions ≡ known.functions)
unfolding behind_shape AreNamedBelow
shape_counted functions known s h = by (find known.names s.name.word) refl
  where
    by : (m : Option Meaning) → find known.names s.name.word ≡ m → AreCounted (behind_shape functions known s) × ((behind_shape functions known s).functions ≡ known.functions)
    by (Some m) e = rw e (h, refl)
    by None e = rw e ((tt, h), refl)

shapes_counted : (functions : List Binding) (known : Known) (ss : List ShapeDefinition) → AreCounted known → AreCounted (behind_shapes functions known ss) × ((behind_shapes functions known ss).functions ≡ known.functions)
unfolding behind_shapes
shapes_counted functions known [] h = (h, refl)
shapes_counted functions known (s ∷ ss) h =
    let first = shape_counted functions known s h in
    let rest = shapes_counted functions (behind_shape functions known s) ss first.0 in
    (rest.0, rest.1 ∙ first.1)

variable_counted : (functions : List Binding) (ty : Option ValueType) (known : Known) (d : Declarator) → AreCounted known → AreCounted (behind_variable functions ty known d) × ((behind_variable functions ty known d).functions ≡ known.functions)
unfolding behind_variable AreNamedBelow
variable_counted functions ty known d h = by (find known.names d.name.word) refl
  where
    by : (m : Option Meaning) → find known.names d.name.word ≡ m → AreCounted (behind_variable functions ty known d) × ((behind_variable functions ty known d).functions ≡ known.functions)
    by (Some m) e = rw e (h, refl)
    by None e = rw e ((tt, h), refl)

variables_counted : (functions : List Binding) (ty : Option ValueType) (known : Known) (ds : List Declarator) → AreCounted known → AreCounted (behind_variables functions ty known ds) × ((behind_variables functions ty known ds).functions ≡ known.functions)
unfolding behind_variables
variables_counted functions ty known [] h = (h, refl)
variables_counted functions ty known (d ∷ ds) h =
    let first = variable_counted functions ty known d h in
    let rest = variables_counted functions ty (behind_variable functions ty known d) ds first.0 in
    (rest.0, rest.1 ∙ first.1)

-- one function more is placed where one more is known
item_counted : (functions : List Binding) (known : Known) (item : Item) → AreCounted known → AreCounted (behind_item functions known item) × ((behind_item functions known item).functions ≡ length (placed_of functions known item) + known.functions)
unfolding behind_item behind_function AreNamedBelow
item_counted functions known (I.Shapes p shapes) h =
    let own = shapes_counted functions known shapes.items h in
    (own.0, let same : known.functions ≡ 0 + known.functions = omega arith in own.1 ∙ same)
item_counted functions known (I.Variables d) h =
    let own = variables_counted functions (written_type (file_place functions known) d.type_name) known d.variables.items h in
    (own.0, let same : known.functions ≡ 0 + known.functions = omega arith in own.1 ∙ same)
item_counted functions known (I.Function f) h = by (find known.names f.name.word) refl
  where
    by : (m : Option Meaning) → find known.names f.name.word ≡ m → AreCounted (behind_function known f) × ((behind_function known f).functions ≡ length (placed_of functions known (I.Function f)) + known.functions)
    by (Some m) e = rw e (h, let same : known.functions ≡ 0 + known.functions = omega arith in same)
    by None e =
        let own : known.functions < known.functions + 1 = omega arith in
        rw e ((own, all_below_more known.functions (known.functions + 1) known.names (omega arith) h), omega arith)

items_counted : (functions : List Binding) (known : Known) (items : List Item) → AreCounted known → AreCounted (behind_items functions known items) × ((behind_items functions known items).functions ≡ length (placed_from functions known items) + known.functions)
unfolding behind_items placed_from
items_counted functions known [] h = (h, omega arith)
items_counted functions known (item ∷ items) h =
    let first = item_counted functions known item h in
    let next = behind_item functions known item in
    let rest = items_counted functions next items first.0 in
    (rest.0, let long = length-append (placed_of functions known item) (placed_from functions next items) in omega (arith, long, rest.1, first.1))

-- what a name of the file stands for, among those that are known at some place, is a function of it
pub is_of_file : (tree : Tree) (types : List (Option VariableType)) (known : ℕ) (word : List ℕ) (f : ℕ) → find (known_names types known (in_text_order (file_known tree))) word ≡ Some (a_function f) → f < length (file_functions tree)
unfolding AreNamedBelow
is_of_file tree types known word f is =
    let all = items_counted (functions_named tree) nothing_known tree.items.items tt in
    let below = known_below types known (in_text_order (file_known tree)) word f (file_known tree).functions (below_in_order (file_known tree).functions (file_known tree).names all.0) is in
    omega (arith, below, all.1)
