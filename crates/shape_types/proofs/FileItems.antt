-- The items of a file one behind the other.
use Rattle.std.proofs.Common.{◌≡◌, ℕ, ◌+◌, ◌-◌, ◌<◌, ◌≤◌, ◌^◌, Bool, true, false, if◌then◌else◌, is_some, List, [], ◌∷◌, ◌++◌, append_assoc, drop, get_or, length, length-append, map, take, Option, Some, None, Vec, refl, sym, ap, subst, ◌∙◌, arith}
use Rattle.std.proofs.lemmas.List.{append-nil, length-drop, length-map, take-append-drop, take_all, take_more}
use Rattle.std.proofs.lemmas.List.Elements.{All-drop, All-get_or, All-nil}
use Rattle.std.specs.Int.{from_bool}
use Rattle.std.specs.Prelude.{min}
use Rattle.std.specs.declared.alloc.Global.{Global}
use Rattle.constant_trees.specs.Words.{IsCounted}
use Rattle.cstar_base.specs.declared.operators.Place.{Place}
use Rattle.cstar_tree.specs.declared.syntax.Declaration.{Declaration}
use Rattle.cstar_tree.specs.declared.syntax.Declarator.{Declarator}
use Rattle.cstar_tree.specs.declared.syntax.Function.{Function}
use Rattle.cstar_tree.specs.declared.syntax.Item.{Item}
use Rattle.cstar_tree.specs.declared.syntax.Item.TheVariants as I
use Rattle.cstar_tree.specs.declared.syntax.ShapeDefinition.{ShapeDefinition}
use Rattle.cstar_tree.specs.declared.syntax.Tree.{Tree}
use Rattle.cstar_tree.specs.declared.typed.ShapeInfo.{ShapeInfo}
use Rattle.cstar_tree.specs.declared.typed.ValueType.{ValueType}
use Rattle.cstar_tree.specs.declared.typed.VarInfo.{VarInfo}
use Rattle.cstar_tree.specs.FileScopes.{Known, behind_item, behind_items, behind_shape, behind_shapes, behind_variables, file_known, functions_named, nothing_known, words_of}
use Rattle.cstar_tree.specs.ProgramTypes.{TypesItems}
use Rattle.cstar_tree.specs.ProgramTypes as Y
use Rattle.cstar_tree.specs.Scopes.{Binding, find}
use Rattle.cstar_tree.specs.TypedParts.{concat}
use Rattle.file_names.specs.Numbers.{HasFewNames, first_names}
use Rattle.file_names.proofs.Items.{Grows, behind_all, behind_first, grows_both, grows_none, item_grows, items_more, next_known}
use Rattle.type_scopes.specs.FileBindings.{file_names}
use Rattle.type_scopes.specs.declared.file.File.{File}
use Rattle.shape_types.specs.FileKnowledge.{IsDeclaredFile, IsNumberedFile, IsOfShapes}
use Rattle.shape_types.specs.FileWalk.{AreDefined, AreFirst, IsKept, IsTypedDeclaration, Knows}
use Rattle.shape_types.specs.Plain.{IsPlainItem, IsPlainTree}
use Rattle.shape_types.proofs.FileSteps.{first_before, function_known}
use Rattle.shape_types.proofs.FunctionNames.{function_behind}
use Rattle.shape_types.proofs.NamesCounted.{as_many_shapes, as_many_variables, names_of_shapes, names_of_variables, one_item_more, words_in}
use Rattle.shape_types.proofs.KnownNames.{names_known, shape_within, told_of}

items_grow : (functions : List Binding) (k : Known) (items : List Item) → Grows k (behind_items functions k items)
unfolding behind_items
items_grow functions k [] = grows_none k
items_grow functions k (i ∷ is) = grows_both (item_grows functions k i) (items_grow functions (behind_item functions k i) is)

pub items_first : (tree : Tree) (n : ℕ) → AreFirst (behind_first (functions_named tree) tree.items.items n).names (file_known tree).names
items_first tree n =
    let functions = functions_named tree in
    let items = tree.items.items in
    let whole = ap (behind_items functions nothing_known) (sym (take-append-drop n items)) ∙ items_more functions nothing_known (take n items) (drop n items) in
    first_before (file_known tree).names (subst (Grows (behind_first functions items n)) (sym whole) (items_grow functions (behind_first functions items n) (drop n items))) ([], refl)

items_behind : {functions : List Binding} {k : Known} {is : List Item} {infos : List ShapeInfo} {vars : List VarInfo} (js : List Item) (more : List ShapeInfo) (others : List VarInfo)
    → TypesItems functions k is infos vars → TypesItems functions (behind_items functions k is) js more others → TypesItems functions k (is ++ js) (infos ++ more) (vars ++ others)
unfolding behind_items
items_behind js more others Y.no_item typed = typed
items_behind {functions = functions} js more others (Y.shapes {known = k} {p = p} {list = list} {items = items} {infos = infos} {rest = rest} {vars = vars} own typed_items) typed =
    subst (λ (xs : List ShapeInfo). TypesItems functions k (I.Shapes p list ∷ items ++ js) xs (vars ++ others)) (sym (append_assoc infos rest more)) (Y.shapes {known = k} {p = p} {list = list} {items = items ++ js} own (items_behind js more others typed_items typed))
items_behind {functions = functions} js more others (Y.variables {known = k} {d = d} {items = items} {infos = infos} {vars = vars} {rest = rest} written own typed_items) typed =
    subst (λ (xs : List VarInfo). TypesItems functions k (I.Variables d ∷ items ++ js) (infos ++ more) xs) (sym (append_assoc vars rest others)) (Y.variables {known = k} {d = d} {items = items ++ js} written own (items_behind js more others typed_items typed))
items_behind js more others (Y.function typed_items) typed = Y.function (items_behind js more others typed_items typed)

-- shapes and functions are no variables
shape_leaves : (functions : List Binding) (k : Known) (s : ShapeDefinition) → (behind_shape functions k s).variables ≡ k.variables
unfolding behind_shape
shape_leaves functions k s = by_name (is_some (find k.names s.name.word)) _ refl
  where
    by_name : (b : Bool) (more : Known) → more.variables ≡ k.variables → (if b then k else more).variables ≡ k.variables
    by_name true more same = refl
    by_name false more same = same

shapes_leave : (functions : List Binding) (k : Known) (ss : List ShapeDefinition) → (behind_shapes functions k ss).variables ≡ k.variables
unfolding behind_shapes
shapes_leave functions k [] = refl
shapes_leave functions k (s ∷ ss) = shapes_leave functions (behind_shape functions k s) ss ∙ shape_leaves functions k s

-- the first items of the file are typed, and so much is known behind them
pub record AreItems (start : File) (n : ℕ) (file : File) (count : ℕ) (vars : List VarInfo) : Type 0 where
  pub knows : Knows start (behind_first (functions_named start.tree.now) start.tree.now.items.items n) file count
  pub typed : TypesItems (functions_named start.tree.now) nothing_known (take n start.tree.now.items.items) file.shapes.items vars
  pub new : (behind_first (functions_named start.tree.now) start.tree.now.items.items n).variables ≡ length vars
  pub once : length (behind_first (functions_named start.tree.now) start.tree.now.items.items n).names ≡ words_in (take n start.tree.now.items.items)

pub no_items : (start : File) (vars : List VarInfo) → vars ≡ [] → HasFewNames (file_known start.tree.now) → IsNumberedFile start → AreItems start 0 start 0 vars
unfolding behind_items concat
no_items start vars none few numbered = record {
  knows = record {
    numbered = numbered;
    few = few;
    tree = refl;
    same_names = refl;
    same_functions = refl;
    first = ((file_known start.tree.now).names, sym (append-nil (file_known start.tree.now).names));
    as_many = refl;
    shapes = ap (map (λ (s : ShapeInfo). s.extents.items)) (sym numbered.no_shapes);
    counted = All-nil IsCounted;
    types = ap length (sym numbered.no_types);
    kept = All-nil (λ (b : Binding). IsKept start.types.items b.meaning);
    shaped = All-nil (λ (b : Binding). IsOfShapes [] b.meaning);
  };
  typed = subst (λ (xs : List ShapeInfo). TypesItems (functions_named start.tree.now) nothing_known [] xs vars) (sym numbered.no_shapes) (subst (λ (xs : List VarInfo). TypesItems (functions_named start.tree.now) nothing_known [] [] xs) (sym none) Y.no_item);
  new = ap length (sym none);
  once = refl;
}

module _ (start : File) (n : ℕ) (file : File) (count : ℕ) (vars : List VarInfo) (are : AreItems start n file count vars) (item : Item) (within : n < length start.tree.now.items.items) (is : item ≡ get_or start.tree.now.items.items n item) where
  abbrev pub functions : List Binding
  functions = functions_named start.tree.now

  abbrev pub items : List Item
  items = start.tree.now.items.items

  abbrev pub there : Known
  there = behind_first functions items n

  one_taken : take (n + 1) items ≡ take n items ++ item ∷ []
  one_taken = take_more items n item within ∙ ap (λ (x : Item). take n items ++ x ∷ []) (sym is)

  pub item_first : AreFirst (behind_item functions there item).names (file_known start.tree.now).names
  item_first = subst (λ (k : Known). AreFirst k.names (file_known start.tree.now).names) (next_known functions items n item within is) (items_first start.tree.now (n + 1))

  pub item_more : (after : File) (more : ℕ) (all : List VarInfo) (infos : List ShapeInfo) (own : List VarInfo) → after.shapes.items ≡ file.shapes.items ++ infos → all ≡ vars ++ own → TypesItems functions there (item ∷ []) infos own → Knows start (behind_item functions there item) after more
      → (behind_item functions there item).variables ≡ there.variables + length own → length (behind_item functions there item).names ≡ length there.names + length (words_of item) → AreItems start (n + 1) after more all
  item_more after more all infos own shapes_are all_are typed knows new once = record {
    knows = subst (λ (k : Known). Knows start k after more) (sym (next_known functions items n item within is)) knows;
    typed = rw (one_taken, shapes_are, all_are) (items_behind (item ∷ []) infos own are.typed typed);
    new =
        let behind = ap (λ (k : Known). k.variables) (next_known functions items n item within is) in
        let first = are.new in
        let long = ap length all_are ∙ length-append vars own in
        omega (arith, behind, first, new, long);
    once =
        let behind = ap (λ (k : Known). length k.names) (next_known functions items n item within is) in
        let first = are.once in
        let words = ap words_in one_taken ∙ one_item_more (take n items) item in
        omega (arith, behind, first, once, words);
  }

pub shapes_item : (start : File) (n : ℕ) (file : File) (count : ℕ) (vars : List VarInfo) (p : Place) (list : Vec ShapeDefinition Global) (after : File) (more : ℕ) (all : List VarInfo) → AreItems start n file count vars
    → n < length start.tree.now.items.items → I.Shapes p list ≡ get_or start.tree.now.items.items n (I.Shapes p list) → all ≡ vars
    → AreDefined start (behind_first (functions_named start.tree.now) start.tree.now.items.items n) list.items file.shapes.items after more → AreItems start (n + 1) after more all
unfolding behind_item
shapes_item start n file count vars p list after more all are within is same defined =
    item_more start n file count vars are (I.Shapes p list) within is after more all (defined.own ++ []) [] (defined.behind ∙ ap (λ (xs : List ShapeInfo). file.shapes.items ++ xs) (sym (append-nil defined.own))) (same ∙ sym (append-nil vars)) (Y.shapes defined.typed Y.no_item) defined.knows
    (let same = shapes_leave (functions_named start.tree.now) (behind_first (functions_named start.tree.now) start.tree.now.items.items n) list.items in omega (arith, same))
    (let functions = functions_named start.tree.now in
    let there = behind_first functions start.tree.now.items.items n in
    let shapes = names_of_shapes functions there list.items in
    let before = ap length are.knows.shapes ∙ length-map file.shapes.items (λ (s : ShapeInfo). s.extents.items) in
    let behind = ap length defined.knows.shapes ∙ length-map after.shapes.items (λ (s : ShapeInfo). s.extents.items) in
    let own = ap length defined.behind ∙ length-append file.shapes.items defined.own in
    let many = as_many_shapes defined.typed in
    let words = length-map list.items (λ (s : ShapeDefinition). s.name.word) in
    omega (arith, shapes, before, behind, own, many, words))

pub variables_item : (start : File) (n : ℕ) (file : File) (count : ℕ) (vars : List VarInfo) (d : Declaration) (after : File) (more : ℕ) (all : List VarInfo) → AreItems start n file count vars
    → n < length start.tree.now.items.items → I.Variables d ≡ get_or start.tree.now.items.items n (I.Variables d) → after.shapes ≡ file.shapes
    → IsTypedDeclaration start (behind_first (functions_named start.tree.now) start.tree.now.items.items n) d vars all
    → Knows start (behind_item (functions_named start.tree.now) (behind_first (functions_named start.tree.now) start.tree.now.items.items n) (I.Variables d)) after more → AreItems start (n + 1) after more all
unfolding behind_item
variables_item start n file count vars d after more all are within is same typed knows =
    let functions = functions_named start.tree.now in
    let there = behind_first functions start.tree.now.items.items n in
    item_more start n file count vars are (I.Variables d) within is after more all [] (typed.variables.own ++ []) (ap (λ s. s.items) same ∙ sym (append-nil file.shapes.items)) (typed.variables.behind ∙ ap (λ (xs : List VarInfo). vars ++ xs) (sym (append-nil typed.variables.own))) (Y.variables typed.written typed.variables.typed Y.no_item) knows
    (let written = ap (λ (ty : Option ValueType). (behind_variables functions ty there d.variables.items).variables) typed.written in
    let own = typed.variables.new in
    let long = length-append typed.variables.own [] in
    omega (arith, written, own, long))
    (let written = ap (λ (ty : Option ValueType). behind_variables functions ty there d.variables.items) typed.written in
    let names = ap (λ (k : Known). length k.names) written in
    let variables = names_of_variables functions (Some typed.ty) there d.variables.items in
    let own = typed.variables.new in
    let many = as_many_variables typed.variables.typed in
    let words = length-map d.variables.items (λ (v : Declarator). v.name.word) in
    omega (arith, names, variables, own, many, words))

pub function_item : (start : File) (n : ℕ) (file : File) (count : ℕ) (vars : List VarInfo) (f : Function) (more : ℕ) (all : List VarInfo) → AreItems start n file count vars
    → n < length start.tree.now.items.items → I.Function f ≡ get_or start.tree.now.items.items n (I.Function f) → all ≡ vars
    → find (behind_first (functions_named start.tree.now) start.tree.now.items.items n).names f.name.word ≡ None → more ≡ min (count + from_bool true) (2 ^ 64 - 1) → AreItems start (n + 1) file more all
unfolding behind_item
function_item start n file count vars f more all are within is same new counted =
    item_more start n file count vars are (I.Function f) within is file more all [] [] (sym (append-nil file.shapes.items)) (same ∙ sym (append-nil vars)) (Y.function Y.no_item)
    (function_known start _ file count more f are.knows new (item_first start n file count vars are (I.Function f) within is) counted)
    (let same = ap (λ (k : Known). k.variables) (function_behind (behind_first (functions_named start.tree.now) start.tree.now.items.items n) f new) in omega (arith, same))
    (let same = ap (λ (k : Known). length k.names) (function_behind (behind_first (functions_named start.tree.now) start.tree.now.items.items n) f new) in omega (arith, same))

-- the whole file
pub all_items : (start : File) (n : ℕ) (file : File) (count : ℕ) (vars : List VarInfo) → length start.tree.now.items.items ≤ n → AreItems start n file count vars → IsDeclaredFile start.tree.now file vars
all_items start n file count vars all are =
    let tree = start.tree.now in
    let knows : Knows start (file_known tree) file count = subst (λ (k : Known). Knows start k file count) (behind_all tree n all) are.knows in
    record {
      items = subst (λ (is : List Item). TypesItems (functions_named tree) nothing_known is file.shapes.items vars) (take_all n tree.items.items all) are.typed;
      known = record {
        is_tree = ap (λ t. t.now) knows.tree;
        names = λ known word within.
            let names = (file_known tree).names in
            let cut = length names - known in
            let long = length-drop cut names in
            names_known tree file.types.items file.names known (take cut names) (drop cut names) (ap file_names knows.same_names ∙ knows.numbered.names) (sym (take-append-drop cut names)) (omega (arith, long, within))
            (told_of file.types.items (drop cut names) (All-drop (λ (b : Binding). IsKept file.types.items b.meaning) cut names knows.kept)) word;
        shapes = knows.shapes;
        few = knows.counted;
        shaped = λ known word m within is.
            let names = (file_known tree).names in
            shape_within tree (file_known tree).shapes (first_names known names) word m (All-drop (λ (b : Binding). IsOfShapes (file_known tree).shapes b.meaning) (length names - known) names knows.shaped) is;
      };
      new = subst (λ (k : Known). k.variables ≡ length vars) (behind_all tree n all) are.new;
      once = ap (λ (k : Known). length k.names) (sym (behind_all tree n all)) ∙ (are.once ∙ ap words_in (take_all n tree.items.items all));
    }

pub item_plain : (tree : Tree) (n : ℕ) (item : Item) → n < length tree.items.items → item ≡ get_or tree.items.items n item → IsPlainTree tree → IsPlainItem item
item_plain tree n item within is plain = subst IsPlainItem (sym is) (All-get_or IsPlainItem tree.items.items n item within plain)
