-- Items that are met one behind the other.
use Rattle.std.proofs.Common.{◌≡◌, ℕ, ◌+◌, ◌-◌, ◌<◌, ◌≤◌, List, [], ◌∷◌, ◌++◌, append_assoc, drop, get_or, length, length-append, take, Option, Some, None, is_some, false, refl, sym, ap, subst, ◌∙◌, arith}
use Rattle.std.proofs.lemmas.List.{append-nil, take_all, take_more}
use Rattle.std.proofs.lemmas.Option.{slice_get_read}
use Rattle.std.proofs.Math.Seq.{drop-append-add}
use Rattle.std.specs.List.{AllZip}
use Rattle.std.specs.Prelude.{Vec}
use Rattle.std.specs.declared.alloc.Global.{Global}
use denote.Bor.{Bor}
use Rattle.cstar_tree.specs.declared.syntax.Declarator.{Declarator}
use Rattle.cstar_tree.specs.declared.syntax.Function.{Function}
use Rattle.cstar_tree.specs.declared.syntax.Item.{Item}
use Rattle.cstar_tree.specs.declared.syntax.Item.TheVariants as I
use Rattle.cstar_tree.specs.declared.syntax.ShapeDefinition.{ShapeDefinition}
use Rattle.cstar_tree.specs.declared.syntax.Tree.{Tree}
use Rattle.cstar_tree.specs.declared.typed.ValueType.{ValueType}
use Rattle.cstar_tree.specs.FileScopes.{Known, behind_function, behind_item, behind_items, behind_shape, behind_shapes, behind_variable, behind_variables, file_functions, file_known, functions_named, nothing_known, placed_from, placed_of}
use Rattle.cstar_tree.specs.Headers.{Placed}
use Rattle.cstar_tree.specs.Scopes.{Binding, Meaning, find}
use Rattle.type_scopes.specs.declared.file.File.{File}
use Rattle.type_scopes.specs.FileBindings.{file_names}
use Rattle.type_scopes.specs.declared.file.FunctionInfo.{FunctionInfo}
use Rattle.file_names.specs.declared.numbering.Numbering.{Numbering}
use Rattle.file_names.specs.Numbers.{HasFewNames, IsNewAt, Numbers, StandsAt, StandsIn, first_names, in_text_order, new_at}

-- more names and more shapes are known
pub record Grows (known more : Known) : Type 0 where
  pub new : List Binding
  pub names : more.names ≡ new ++ known.names
  pub others : List (List ℕ)
  pub shapes : more.shapes ≡ known.shapes ++ others

pub grows_none : (known : Known) → Grows known known
grows_none known = record { new = []; names = refl; others = []; shapes = sym (append-nil known.shapes) }

pub grows_both : {a b c : Known} → Grows a b → Grows b c → Grows a c
grows_both {a} g h = record {
  new = h.new ++ g.new;
  names = h.names ∙ (ap (λ names. h.new ++ names) g.names ∙ sym (append_assoc h.new g.new a.names));
  others = g.others ++ h.others;
  shapes = h.shapes ∙ (ap (λ shapes. shapes ++ h.others) g.shapes ∙ append_assoc a.shapes g.others h.others);
}

pub shape_grows : (functions : List Binding) (known : Known) (s : ShapeDefinition) → Grows known (behind_shape functions known s)
unfolding behind_shape
shape_grows functions known s = by (find known.names s.name.word) refl
  where
    by : (m : Option Meaning) → find known.names s.name.word ≡ m → Grows known (behind_shape functions known s)
    by (Some m) e = rw e (grows_none known)
    by None e = rw e (record { new = _ ∷ []; names = refl; others = _ ∷ []; shapes = refl })

pub variable_grows : (functions : List Binding) (ty : Option ValueType) (known : Known) (v : Declarator) → Grows known (behind_variable functions ty known v)
unfolding behind_variable
variable_grows functions ty known v = by (find known.names v.name.word) refl
  where
    by : (m : Option Meaning) → find known.names v.name.word ≡ m → Grows known (behind_variable functions ty known v)
    by (Some m) e = rw e (grows_none known)
    by None e = rw e (record { new = _ ∷ []; names = refl; others = []; shapes = sym (append-nil known.shapes) })

pub function_grows : (known : Known) (f : Function) → Grows known (behind_function known f)
unfolding behind_function
function_grows known f = by (find known.names f.name.word) refl
  where
    by : (m : Option Meaning) → find known.names f.name.word ≡ m → Grows known (behind_function known f)
    by (Some m) e = rw e (grows_none known)
    by None e = rw e (record { new = _ ∷ []; names = refl; others = []; shapes = sym (append-nil known.shapes) })

pub shapes_grow : (functions : List Binding) (known : Known) (shapes : List ShapeDefinition) → Grows known (behind_shapes functions known shapes)
unfolding behind_shapes
shapes_grow functions known [] = grows_none known
shapes_grow functions known (s ∷ ss) = grows_both (shape_grows functions known s) (shapes_grow functions (behind_shape functions known s) ss)

pub variables_grow : (functions : List Binding) (ty : Option ValueType) (known : Known) (variables : List Declarator) → Grows known (behind_variables functions ty known variables)
unfolding behind_variables
variables_grow functions ty known [] = grows_none known
variables_grow functions ty known (v ∷ vs) = grows_both (variable_grows functions ty known v) (variables_grow functions ty (behind_variable functions ty known v) vs)

pub item_grows : (functions : List Binding) (known : Known) (item : Item) → Grows known (behind_item functions known item)
unfolding behind_item
item_grows functions known (I.Shapes p shapes) = shapes_grow functions known shapes.items
item_grows functions known (I.Variables d) = variables_grow functions _ known d.variables.items
item_grows functions known (I.Function f) = function_grows known f

few_before : {known more : Known} → Grows known more → HasFewNames more → HasFewNames known
few_before {known} {more} g few =
    let names : length more.names ≡ length g.new + length known.names = ap length g.names ∙ length-append g.new known.names in
    let shapes : length more.shapes ≡ length known.shapes + length g.others = ap length g.shapes ∙ length-append known.shapes g.others in
    let less = few.shapes in
    let all = few.all in
    record { shapes = omega arith; all = omega arith }

-- the first names stay the first
stands_on : (tree : Tree) {known more : Known} (info : FunctionInfo) (placed : Placed) → Grows known more → StandsIn tree known info placed → StandsIn tree more info placed
stands_on tree {known} {more} info placed g s =
    let long : length more.names ≡ length g.new + length known.names = ap length g.names ∙ length-append g.new known.names in
    let within = s.within in
    let from : length more.names - info.known ≡ length g.new + (length known.names - info.known) = omega arith in
    let first : first_names info.known more.names ≡ first_names info.known known.names =
    ap (λ n. drop n more.names) from ∙ (ap (drop (length g.new + (length known.names - info.known))) g.names ∙ drop-append-add g.new known.names (length known.names - info.known)) in
    record {
      is_item = s.is_item;
      within = omega arith;
      known_there = s.known_there ∙ ap (λ names. names ++ functions_named tree) (sym first);
    }

all_stand_on : (tree : Tree) {known more : Known} → Grows known more → (infos : List FunctionInfo) (placed : List Placed) → AllZip (StandsIn tree known) infos placed → AllZip (StandsIn tree more) infos placed
all_stand_on tree g [] [] all = tt
all_stand_on tree g [] (p ∷ ps) all = all
all_stand_on tree g (i ∷ is) [] all = all
all_stand_on tree g (i ∷ is) (p ∷ ps) all = (stands_on tree i p g all.0, all_stand_on tree g is ps all.1)

one_behind : {A B : Type 0} (R : A → B → Type 0) (xs : List A) (ys : List B) (x : A) (y : B) → AllZip R xs ys → R x y → AllZip R (xs ++ x ∷ []) (ys ++ y ∷ [])
one_behind R [] [] x y all r = (r, tt)
one_behind R [] (b ∷ bs) x y all r = absurd all
one_behind R (a ∷ as') [] x y all r = absurd all
one_behind R (a ∷ as') (b ∷ bs) x y all r = (all.0, one_behind R as' bs x y all.1 r)

pub items_more : (functions : List Binding) (known : Known) (items rest : List Item) → behind_items functions known (items ++ rest) ≡ behind_items functions (behind_items functions known items) rest
unfolding behind_items
items_more functions known [] rest = refl
items_more functions known (i ∷ is) rest = items_more functions (behind_item functions known i) is rest

placed_more : (functions : List Binding) (known : Known) (items rest : List Item) → placed_from functions known (items ++ rest) ≡ placed_from functions known items ++ placed_from functions (behind_items functions known items) rest
unfolding behind_items placed_from
placed_more functions known [] rest = refl
placed_more functions known (i ∷ is) rest =
    ap (λ ps. placed_of functions known i ++ ps) (placed_more functions (behind_item functions known i) is rest)
    ∙ sym (append_assoc (placed_of functions known i) (placed_from functions (behind_item functions known i) is) (placed_from functions (behind_items functions (behind_item functions known i) is) rest))

-- what is known behind the first items of a file, and the functions among them
abbrev pub behind_first : List Binding → List Item → ℕ → Known
behind_first functions items n = behind_items functions nothing_known (take n items)

abbrev pub first_placed : List Binding → List Item → ℕ → List Placed
first_placed functions items n = placed_from functions nothing_known (take n items)

module _ (functions : List Binding) (items : List Item) (i : ℕ) (item : Item) (within : i < length items) (is : item ≡ get_or items i item) where
  one_taken : take (i + 1) items ≡ take i items ++ item ∷ []
  one_taken = take_more items i item within ∙ ap (λ x. take i items ++ x ∷ []) (sym is)

  pub next_known : behind_first functions items (i + 1) ≡ behind_item functions (behind_first functions items i) item
  unfolding behind_items
  next_known = ap (behind_items functions nothing_known) one_taken ∙ items_more functions nothing_known (take i items) (item ∷ [])

  next_placed : first_placed functions items (i + 1) ≡ first_placed functions items i ++ placed_of functions (behind_first functions items i) item
  unfolding placed_from
  next_placed = ap (placed_from functions nothing_known) one_taken ∙ (placed_more functions nothing_known (take i items) (item ∷ [])
      ∙ ap (λ ps. first_placed functions items i ++ ps) (append-nil (placed_of functions (behind_first functions items i) item)))

-- the functions among the first items stand where they are kept
abbrev pub FirstStand : Tree → ℕ → List FunctionInfo → Type 0
FirstStand tree n infos = HasFewNames (behind_first (functions_named tree) tree.items.items n) → AllZip (StandsIn tree (behind_first (functions_named tree) tree.items.items n)) infos (first_placed (functions_named tree) tree.items.items n)

pub no_more_stand : (tree : Tree) (i : ℕ) (item : Item) (infos : List FunctionInfo) → i < length tree.items.items → item ≡ get_or tree.items.items i item
    → (HasFewNames (behind_first (functions_named tree) tree.items.items i) → placed_of (functions_named tree) (behind_first (functions_named tree) tree.items.items i) item ≡ []) → FirstStand tree i infos → FirstStand tree (i + 1) infos
no_more_stand tree i item infos within is none stand few =
    let functions = functions_named tree in
    let items = tree.items.items in
    let known = behind_first functions items i in
    let next = next_known functions items i item within is in
    let grows : Grows known (behind_first functions items (i + 1)) = subst (Grows known) (sym next) (item_grows functions known item) in
    let before = few_before grows few in
    let same : first_placed functions items i ≡ first_placed functions items (i + 1) =
    sym (next_placed functions items i item within is ∙ (ap (λ ps. first_placed functions items i ++ ps) (none before) ∙ append-nil (first_placed functions items i))) in
    subst (AllZip (StandsIn tree (behind_first functions items (i + 1))) infos) same (all_stand_on tree grows infos (first_placed functions items i) (stand before))

is_new_place : (known : Known) (word : List ℕ) (n : ℕ) → Some n ≡ new_at known word → (is_some (find known.names word) ≡ false) × (n ≡ length known.names)
is_new_place known word n is = by (find known.names word) refl is
  where
    by : (m : Option Meaning) → find known.names word ≡ m → Some n ≡ new_at known word → (is_some (find known.names word) ≡ false) × (n ≡ length known.names)
    by (Some m) e at_place =
        let there = rw e at at_place in
        absurd (cc)
    by None e at_place =
        let there = rw e at at_place in
        (rw e refl, cc)

pub one_more_stands : (tree : Tree) (i : ℕ) (f : Function) (known group : ℕ) (infos : List FunctionInfo) → i < length tree.items.items → I.Function f ≡ get_or tree.items.items i (I.Function f)
    → IsNewAt (behind_first (functions_named tree) tree.items.items i) f.name.word (Some known) → FirstStand tree i infos → FirstStand tree (i + 1) (infos ++ record { item = i; known = known; group = group } ∷ [])
one_more_stands tree i f known group infos within is new stand few =
    let functions = functions_named tree in
    let items = tree.items.items in
    let there = behind_first functions items i in
    let next = next_known functions items i (I.Function f) within is in
    let grows : Grows there (behind_first functions items (i + 1)) = subst (Grows there) (sym next) (item_grows functions there (I.Function f)) in
    let place = is_new_place there f.name.word known (new (few_before grows few)) in
    let placed : Placed = record { function = f; known = there.names ++ functions } in
    let info : FunctionInfo = record { item = i; known = known; group = group } in
    let none_left : length there.names - known ≡ 0 = omega (arith, place.1) in
    let one : placed_of functions there (I.Function f) ≡ placed ∷ [] = rw place.0 refl in
    let own : StandsIn tree there info placed = record {
      is_item = slice_get_read items (length items) i (I.Function f) refl within is;
      within = omega (arith, place.1);
      known_there = ap (λ n. drop n there.names ++ functions) (sym none_left);
    } in
    let all = one_behind (StandsIn tree there) infos (first_placed functions items i) info placed (stand (few_before grows few)) own in
    let same : first_placed functions items i ++ placed ∷ [] ≡ first_placed functions items (i + 1) =
    sym (next_placed functions items i (I.Function f) within is ∙ ap (λ ps. first_placed functions items i ++ ps) one) in
    subst (AllZip (StandsIn tree (behind_first functions items (i + 1))) (infos ++ info ∷ [])) same (all_stand_on tree grows (infos ++ info ∷ []) (first_placed functions items i ++ placed ∷ []) all)

-- a function whose name is not new is none of the file's
pub old_name : (functions : List Binding) (known : Known) (f : Function) → IsNewAt known f.name.word None → HasFewNames known → placed_of functions known (I.Function f) ≡ []
old_name functions known f old few = by (find known.names f.name.word) refl (old few)
  where
    by : (m : Option Meaning) → find known.names f.name.word ≡ m → None ≡ new_at known f.name.word → placed_of functions known (I.Function f) ≡ []
    by (Some m) e is = rw e refl
    by None e is =
        let there = rw e at is in
        absurd (cc)

-- what is collected behind the first items of a file
pub record Collected (start : File) (items : List Item) (n : ℕ) (file : File) (numbering : Numbering) : Type 0 where
  pub numbers : Numbers numbering (behind_first (functions_named file.tree.now) file.tree.now.items.items n)
  pub functions : FirstStand file.tree.now n file.functions.items
  pub items_are : items ≡ file.tree.now.items.items
  pub tree : file.tree ≡ start.tree
  pub shapes : file.shapes ≡ start.shapes
  pub types : file.types ≡ start.types

module _ (start file : File) (items : List Item) (i : ℕ) (n after : Numbering) (item : Item) (within : i < length items) (is : item ≡ get_or items i item) (before : Collected start items i file n)
    (step : (functions : List Binding) (known : Known) → Numbers n known → Numbers after (behind_item functions known item)) where
  in_tree : i < length file.tree.now.items.items
  in_tree = subst (λ xs. i < length xs) before.items_are within

  item_is : item ≡ get_or file.tree.now.items.items i item
  item_is = subst (λ xs. item ≡ get_or xs i item) before.items_are is

  numbers_kept : Numbers after (behind_first (functions_named file.tree.now) file.tree.now.items.items (i + 1))
  numbers_kept =
      let functions = functions_named file.tree.now in
      let all = file.tree.now.items.items in
      subst (λ (k : Known). Numbers after k) (sym (next_known functions all i item in_tree item_is)) (step functions (behind_first functions all i) before.numbers)

  pub item_kept : ((functions : List Binding) (known : Known) → Numbers n known → HasFewNames known → placed_of functions known item ≡ []) → Collected start items (i + 1) file after
  item_kept none = record {
    numbers = numbers_kept;
    functions = no_more_stand file.tree.now i item file.functions.items in_tree item_is (none (functions_named file.tree.now) (behind_first (functions_named file.tree.now) file.tree.now.items.items i) before.numbers) before.functions;
    items_are = before.items_are;
    tree = before.tree;
    shapes = before.shapes;
    types = before.types;
  }

pub function_kept : (start file : File) (items : List Item) (i : ℕ) (n after : Numbering) (f : Function) (known group : ℕ) (functions : Vec FunctionInfo Global) → i < length items → I.Function f ≡ get_or items i (I.Function f) → Collected start items i file n
    → ((known : Known) → Numbers n known → Numbers after (behind_function known f)) → ((there : Known) → Numbers n there → IsNewAt there f.name.word (Some known))
    → functions.items ≡ file.functions.items ++ record { item = i; known = known; group = group } ∷ [] → Collected start items (i + 1) (record file { functions = functions }) after
unfolding behind_item
function_kept start file items i n after f known group functions within is before step place pushed = record {
  numbers = numbers_kept start file items i n after (I.Function f) within is before (λ _ there numbers. step there numbers);
  functions = rw pushed (one_more_stands file.tree.now i f known group file.functions.items (in_tree start file items i n after (I.Function f) within is before (λ _ there numbers. step there numbers))
      (item_is start file items i n after (I.Function f) within is before (λ _ there numbers. step there numbers)) (place _ before.numbers) before.functions);
  items_are = before.items_are;
  tree = before.tree;
  shapes = before.shapes;
  types = before.types;
}

-- all items are the first ones
pub behind_all : (tree : Tree) (n : ℕ) → length tree.items.items ≤ n → behind_first (functions_named tree) tree.items.items n ≡ file_known tree
behind_all tree n all = ap (behind_items (functions_named tree) nothing_known) (take_all n tree.items.items all)

pub all_stand : (start file : File) (items : List Item) (n : ℕ) (numbering : Numbering) → Collected start items n file numbering → length items ≤ n → HasFewNames (file_known start.tree.now)
    → AllZip (StandsAt start.tree.now) file.functions.items (file_functions start.tree.now)
all_stand start file items n numbering c all =
    let long : length file.tree.now.items.items ≤ n = subst (λ (xs : List Item). length xs ≤ n) c.items_are all in
    let functions = functions_named file.tree.now in
    let stand = subst (λ (xs : List Item). HasFewNames (behind_items functions nothing_known xs) → AllZip (StandsIn file.tree.now (behind_items functions nothing_known xs)) file.functions.items (placed_from functions nothing_known xs))
    (take_all n file.tree.now.items.items long) c.functions in
    subst (λ (t : Bor Tree). HasFewNames (file_known t.now) → AllZip (StandsAt t.now) file.functions.items (file_functions t.now)) c.tree stand

pub all_named : (start file : File) (items : List Item) (n : ℕ) (numbering : Numbering) → Collected start items n file numbering → length items ≤ n → HasFewNames (file_known start.tree.now)
    → file_names numbering.names ≡ in_text_order (file_known start.tree.now)
all_named start file items n numbering c all few =
    let long : length file.tree.now.items.items ≤ n = subst (λ (xs : List Item). length xs ≤ n) c.items_are all in
    let numbers = subst (Numbers numbering) (behind_all file.tree.now n long) c.numbers in
    let here = subst (λ (t : Bor Tree). Numbers numbering (file_known t.now)) c.tree numbers in
    (here few).names
