-- The functions that a file names are those that its names stand for, and it has all of them.
use Rattle.std.proofs.Common.{◌≡◌, ℕ, suc, ◌+◌, ◌<◌, Bool, true, false, List, [], ◌∷◌, ◌++◌, length, map, Option, Some, None, is_some, refl, sym, ap, subst, ◌∙◌, arith, if◌then◌else◌}
use Rattle.std.proofs.lemmas.List.Elements.{All-cons, All-head, All-nil, All-tail, All-weaker}
use Rattle.std.proofs.lemmas.Slice.Eq.{bytes_eq-Decides}
use Rattle.std.specs.List.{All}
use Rattle.std.specs.Prelude.{bytes_eq}
use Rattle.cstar_tree.specs.declared.syntax.Declarator.{Declarator}
use Rattle.cstar_tree.specs.declared.syntax.Function.{Function}
use Rattle.cstar_tree.specs.declared.syntax.Item.{Item}
use Rattle.cstar_tree.specs.declared.syntax.Item.TheVariants as I
use Rattle.cstar_tree.specs.declared.syntax.ShapeDefinition.{ShapeDefinition}
use Rattle.cstar_tree.specs.declared.syntax.Tree.{Tree}
use Rattle.cstar_tree.specs.declared.typed.ValueType.{ValueType}
use Rattle.cstar_tree.specs.declared.typed.Variable.TheVariants as V
use Rattle.cstar_tree.specs.BlockScopes.{declared_type}
use Rattle.cstar_tree.specs.FileScopes.{Known, behind_function, behind_item, behind_items, behind_shape, behind_shapes, behind_variable, behind_variables, file_functions, file_known, file_place, function_names, functions_named, is_among, nothing_known, placed_from, words_of}
use Rattle.cstar_tree.specs.Headers.{Placed}
use Rattle.cstar_tree.specs.Scopes.{Binding, Meaning, a_function, a_shape, a_variable, find}
use Rattle.shape_types.proofs.NamesFound.{function_alone}

-- ---- names that are added

among_both : (word : List ℕ) (xs ys : List (List ℕ)) → is_among word (xs ++ ys) ≡ (if is_among word xs then true else is_among word ys)
unfolding is_among
among_both word [] ys = refl
among_both word (x ∷ xs) ys = by (bytes_eq x word) refl (among_both word xs ys)
  where
    by : (b : Bool) → bytes_eq x word ≡ b → is_among word (xs ++ ys) ≡ (if is_among word xs then true else is_among word ys) → is_among word (x ∷ xs ++ ys) ≡ (if is_among word (x ∷ xs) then true else is_among word ys)
    by true e rest = rw e refl
    by false e rest = rw e rest

-- these words are names now, none of them a function's
record Adds (before after : List Binding) (words : List (List ℕ)) : Type 0 where
  kept : (word : List ℕ) (m : Meaning) → find before word ≡ Some m → find after word ≡ Some m
  fresh : (word : List ℕ) → find before word ≡ None → is_among word words ≡ false → find after word ≡ None
  others : (word : List ℕ) (m : Meaning) → find before word ≡ None → find after word ≡ Some m → function_alone (Some m) ≡ None
  among : (word : List ℕ) → is_among word words ≡ true → is_some (find after word) ≡ true

same_word : (word w : List ℕ) → is_among word (w ∷ []) ≡ true → w ≡ word
unfolding is_among
same_word word w is = by (bytes_eq w word) refl
  where
    by : (b : Bool) → bytes_eq w word ≡ b → w ≡ word
    by true e = (bytes_eq-Decides w word).0 e
    by false e =
        let other : false ≡ true = rw e at is in
        absurd (cc)

not_among : (word w : List ℕ) → is_among word (w ∷ []) ≡ false → bytes_eq w word ≡ false
unfolding is_among
not_among word w is = by (bytes_eq w word) refl
  where
    by : (b : Bool) → bytes_eq w word ≡ b → bytes_eq w word ≡ false
    by true e =
        let other : true ≡ false = rw e at is in
        absurd (cc)
    by false e = e

none_and_some : {x : Option Meaning} (m : Meaning) → x ≡ None → x ≡ Some m → ⊥
none_and_some m none some = let e = sym none ∙ some in cc

adds_old : (names : List Binding) (w : List ℕ) (m : Meaning) → find names w ≡ Some m → Adds names names (w ∷ [])
adds_old names w m there = record {
  kept = λ word k is. is;
  fresh = λ word none other. none;
  others = λ word k none is. absurd (none_and_some k none is);
  among = λ word is. ap is_some (subst (λ (v : List ℕ). find names v ≡ Some m) (same_word word w is) there);
}

find_here : (b : Binding) (names : List Binding) (word : List ℕ) → b.word ≡ word → find (b ∷ names) word ≡ Some b.meaning
unfolding find
find_here b names word same = rw ((bytes_eq-Decides b.word word).1 same) refl

find_past : (b : Binding) (names : List Binding) (word : List ℕ) → bytes_eq b.word word ≡ false → find (b ∷ names) word ≡ find names word
unfolding find
find_past b names word other = rw other refl

adds_new : (names : List Binding) (b : Binding) → find names b.word ≡ None → function_alone (Some b.meaning) ≡ None → Adds names (b ∷ names) (b.word ∷ [])
adds_new names b none no_function = record {
  kept = λ word m is. kept_there (bytes_eq b.word word) word refl m is;
  fresh = λ word before other. find_past b names word (not_among word b.word other) ∙ before;
  others = λ word m before is. others_there (bytes_eq b.word word) word refl m before is;
  among = λ word is. ap is_some (find_here b names word (same_word word b.word is));
}
  where
    kept_there : (e : Bool) (word : List ℕ) → bytes_eq b.word word ≡ e → (m : Meaning) → find names word ≡ Some m → find (b ∷ names) word ≡ Some m
    kept_there true word same m is = absurd (none_and_some m (subst (λ (w : List ℕ). find names w ≡ None) ((bytes_eq-Decides b.word word).0 same) none) is)
    kept_there false word other m is = find_past b names word other ∙ is

    others_there : (e : Bool) (word : List ℕ) → bytes_eq b.word word ≡ e → (m : Meaning) → find names word ≡ None → find (b ∷ names) word ≡ Some m → function_alone (Some m) ≡ None
    others_there true word same m before is =
        let mine : Some b.meaning ≡ Some m = sym (find_here b names word ((bytes_eq-Decides b.word word).0 same)) ∙ is in
        ap function_alone (sym mine) ∙ no_function
    others_there false word other m before is = absurd (none_and_some m before (sym (find_past b names word other) ∙ is))

adds_none : (names : List Binding) → Adds names names []
unfolding is_among
adds_none names = record {
  kept = λ word m is. is;
  fresh = λ word none other. none;
  others = λ word m none is. absurd (none_and_some m none is);
  among = λ word is. absurd (let no : false ≡ true = is in cc);
}

adds_both : {a b c : List Binding} {xs ys : List (List ℕ)} → Adds a b xs → Adds b c ys → Adds a c (xs ++ ys)
adds_both {a} {b} {c} {xs} {ys} first second = record {
  kept = λ word m is. second.kept word m (first.kept word m is);
  fresh = λ word none other. fresh_there (is_among word xs) word refl none other;
  others = λ word m none is. others_there (find b word) word refl m none is;
  among = λ word is. among_there (is_among word xs) word refl is;
}
  where
    fresh_there : (e : Bool) (word : List ℕ) → is_among word xs ≡ e → find a word ≡ None → is_among word (xs ++ ys) ≡ false → find c word ≡ None
    fresh_there true word is none other = let no : true ≡ false = sym (among_both word xs ys ∙ ap (λ (t : Bool). if t then true else is_among word ys) is) ∙ other in absurd (cc)
    fresh_there false word is none other = second.fresh word (first.fresh word none is) (sym (among_both word xs ys ∙ ap (λ (t : Bool). if t then true else is_among word ys) is) ∙ other)

    others_there : (k : Option Meaning) (word : List ℕ) → find b word ≡ k → (m : Meaning) → find a word ≡ None → find c word ≡ Some m → function_alone (Some m) ≡ None
    others_there None word is m none there = second.others word m is there
    others_there (Some k) word is m none there =
        let same : Some k ≡ Some m = sym (second.kept word k is) ∙ there in
        ap function_alone (sym same) ∙ first.others word k none is

    among_there : (e : Bool) (word : List ℕ) → is_among word xs ≡ e → is_among word (xs ++ ys) ≡ true → is_some (find c word) ≡ true
    among_there true word is all = has_still word (find b word) refl (first.among word is)
      where
        has_still : (word : List ℕ) (k : Option Meaning) → find b word ≡ k → is_some (find b word) ≡ true → is_some (find c word) ≡ true
        has_still word None none has = let no : false ≡ true = rw none at has in absurd (cc)
        has_still word (Some k) there has = ap is_some (second.kept word k there)
    among_there false word is all = second.among word (sym (among_both word xs ys ∙ ap (λ (t : Bool). if t then true else is_among word ys) is) ∙ all)

shape_adds : (functions : List Binding) (known : Known) (s : ShapeDefinition) → Adds known.names (behind_shape functions known s).names (s.name.word ∷ [])
unfolding behind_shape
shape_adds functions known s = by (find known.names s.name.word) refl
  where
    by : (m : Option Meaning) → find known.names s.name.word ≡ m → Adds known.names (behind_shape functions known s).names (s.name.word ∷ [])
    by (Some m) e = rw e (adds_old known.names s.name.word m e)
    by None e = rw e (adds_new known.names (record { word = s.name.word; meaning = a_shape (length known.shapes) }) e refl)

variable_adds : (functions : List Binding) (ty : Option ValueType) (known : Known) (v : Declarator) → Adds known.names (behind_variable functions ty known v).names (v.name.word ∷ [])
unfolding behind_variable
variable_adds functions ty known v = by (find known.names v.name.word) refl
  where
    by : (m : Option Meaning) → find known.names v.name.word ≡ m → Adds known.names (behind_variable functions ty known v).names (v.name.word ∷ [])
    by (Some m) e = rw e (adds_old known.names v.name.word m e)
    by None e = rw e (adds_new known.names (record { word = v.name.word; meaning = a_variable (V.File known.variables) (declared_type (file_place functions known) ty v.length) }) e refl)

shapes_add : (functions : List Binding) (known : Known) (shapes : List ShapeDefinition) → Adds known.names (behind_shapes functions known shapes).names (map (λ (s : ShapeDefinition). s.name.word) shapes)
unfolding behind_shapes
shapes_add functions known [] = adds_none known.names
shapes_add functions known (s ∷ ss) = adds_both (shape_adds functions known s) (shapes_add functions (behind_shape functions known s) ss)

variables_add : (functions : List Binding) (ty : Option ValueType) (known : Known) (variables : List Declarator) → Adds known.names (behind_variables functions ty known variables).names (map (λ (v : Declarator). v.name.word) variables)
unfolding behind_variables
variables_add functions ty known [] = adds_none known.names
variables_add functions ty known (v ∷ vs) = adds_both (variable_adds functions ty known v) (variables_add functions ty (behind_variable functions ty known v) vs)

-- ---- how many functions there are

shape_functions : (functions : List Binding) (known : Known) (s : ShapeDefinition) → (behind_shape functions known s).functions ≡ known.functions
unfolding behind_shape
shape_functions functions known s = by (is_some (find known.names s.name.word)) refl
  where
    by : (b : Bool) → is_some (find known.names s.name.word) ≡ b → (behind_shape functions known s).functions ≡ known.functions
    by true e = rw e refl
    by false e = rw e refl

variable_functions : (functions : List Binding) (ty : Option ValueType) (known : Known) (v : Declarator) → (behind_variable functions ty known v).functions ≡ known.functions
unfolding behind_variable
variable_functions functions ty known v = by (is_some (find known.names v.name.word)) refl
  where
    by : (b : Bool) → is_some (find known.names v.name.word) ≡ b → (behind_variable functions ty known v).functions ≡ known.functions
    by true e = rw e refl
    by false e = rw e refl

shapes_functions : (functions : List Binding) (known : Known) (shapes : List ShapeDefinition) → (behind_shapes functions known shapes).functions ≡ known.functions
unfolding behind_shapes
shapes_functions functions known [] = refl
shapes_functions functions known (s ∷ ss) = shapes_functions functions (behind_shape functions known s) ss ∙ shape_functions functions known s

variables_functions : (functions : List Binding) (ty : Option ValueType) (known : Known) (variables : List Declarator) → (behind_variables functions ty known variables).functions ≡ known.functions
unfolding behind_variables
variables_functions functions ty known [] = refl
variables_functions functions ty known (v ∷ vs) = variables_functions functions ty (behind_variable functions ty known v) vs ∙ variable_functions functions ty known v

-- ---- the functions that are named

pub function_behind : (k : Known) (f : Function) → find k.names f.name.word ≡ None → behind_function k f ≡ record {
  names = record { word = f.name.word; meaning = a_function k.functions } ∷ k.names;
  shapes = k.shapes;
  variables = k.variables;
  functions = k.functions + 1;
}
unfolding behind_function
function_behind k f new = rw new refl

function_old : (k : Known) (f : Function) (m : Meaning) → find k.names f.name.word ≡ Some m → behind_function k f ≡ k
unfolding behind_function
function_old k f m old = rw old refl

function_kept : (known : Known) (f : Function) (word : List ℕ) (m : Meaning) → find known.names word ≡ Some m → find (behind_function known f).names word ≡ Some m
unfolding behind_function
function_kept known f word m is = by (find known.names f.name.word) refl (bytes_eq f.name.word word) refl
  where
    by : (old : Option Meaning) → find known.names f.name.word ≡ old → (b : Bool) → bytes_eq f.name.word word ≡ b → find (behind_function known f).names word ≡ Some m
    by (Some k) e b same = rw e is
    by None e true same = absurd (none_and_some m (subst (λ (w : List ℕ). find known.names w ≡ None) ((bytes_eq-Decides f.name.word word).0 same) e) is)
    by None e false other = rw e (find_past (record { word = f.name.word; meaning = a_function known.functions }) known.names word other ∙ is)

item_kept : (functions : List Binding) (known : Known) (item : Item) (word : List ℕ) (m : Meaning) → find known.names word ≡ Some m → find (behind_item functions known item).names word ≡ Some m
unfolding behind_item
item_kept functions known (I.Shapes p shapes) word m is = (shapes_add functions known shapes.items).kept word m is
item_kept functions known (I.Variables d) word m is = (variables_add functions _ known d.variables.items).kept word m is
item_kept functions known (I.Function f) word m is = function_kept known f word m is

items_kept : (functions : List Binding) (known : Known) (items : List Item) (word : List ℕ) (m : Meaning) → find known.names word ≡ Some m → find (behind_items functions known items).names word ≡ Some m
unfolding behind_items
items_kept functions known [] word m is = is
items_kept functions known (item ∷ items) word m is = items_kept functions (behind_item functions known item) items word m (item_kept functions known item word m is)

abbrev Agree : List (List ℕ) → List Binding → Type 0
Agree before names = (word : List ℕ) → is_among word before ≡ is_some (find names word)

agree_more : (before words : List (List ℕ)) (names more : List Binding) → Adds names more words → Agree before names → Agree (words ++ before) more
agree_more before words names more adds agree word = among_both word words before ∙ by (is_among word words) refl (find names word) refl
  where
    by : (b : Bool) → is_among word words ≡ b → (m : Option Meaning) → find names word ≡ m → (if is_among word words then true else is_among word before) ≡ is_some (find more word)
    by true is m there = rw is (sym (adds.among word is))
    by false is None none = rw is (agree word ∙ (ap is_some none ∙ ap is_some (sym (adds.fresh word none is))))
    by false is (Some m) there = rw is (agree word ∙ (ap is_some there ∙ ap is_some (sym (adds.kept word m there))))

agree_same : (before : List (List ℕ)) (w : List ℕ) (m : Meaning) (names : List Binding) → find names w ≡ Some m → Agree before names → Agree (w ∷ before) names
unfolding is_among
agree_same before w m names there agree word = by (bytes_eq w word) refl
  where
    by : (b : Bool) → bytes_eq w word ≡ b → is_among word (w ∷ before) ≡ is_some (find names word)
    by true e = rw e (ap is_some (sym (subst (λ (v : List ℕ). find names v ≡ Some m) ((bytes_eq-Decides w word).0 e) there)))
    by false e = rw e (agree word)

agree_new : (before : List (List ℕ)) (b : Binding) (names : List Binding) → Agree before names → Agree (b.word ∷ before) (b ∷ names)
unfolding is_among find
agree_new before b names agree word = by (bytes_eq b.word word) refl
  where
    by : (e : Bool) → bytes_eq b.word word ≡ e → is_among word (b.word ∷ before) ≡ is_some (find (b ∷ names) word)
    by true e = rw e refl
    by false e = rw e (agree word)

-- a name that stands for something has no function that is named later
none_named : (functions : List Binding) (before : List (List ℕ)) (number : ℕ) (known : Known) (items : List Item) → Agree before known.names → number ≡ known.functions → (word : List ℕ) (m : Meaning) → find known.names word ≡ Some m → find (function_names before number items) word ≡ None
unfolding function_names find behind_function
none_named functions before number known [] agree count word m is = refl
none_named functions before number known (I.Shapes p shapes ∷ items) agree count word m is =
    none_named functions (words_of (I.Shapes p shapes) ++ before) (number + 0) (behind_shapes functions known shapes.items) items
    (agree_more before (words_of (I.Shapes p shapes)) known.names _ (shapes_add functions known shapes.items) agree) (let same = shapes_functions functions known shapes.items in omega arith) word m ((shapes_add functions known shapes.items).kept word m is)
none_named functions before number known (I.Variables d ∷ items) agree count word m is =
    none_named functions (words_of (I.Variables d) ++ before) (number + 0) (behind_variables functions None known d.variables.items) items
    (agree_more before (words_of (I.Variables d)) known.names _ (variables_add functions None known d.variables.items) agree) (let same = variables_functions functions None known d.variables.items in omega arith) word m ((variables_add functions None known d.variables.items).kept word m is)
none_named functions before number known (I.Function f ∷ items) agree count word m is =
    by (find known.names f.name.word) refl (bytes_eq f.name.word word) refl (λ k more agree_there counted there. none_named functions (f.name.word ∷ before) more k items agree_there counted word m there)
  where
    by : (old : Option Meaning) → find known.names f.name.word ≡ old → (b : Bool) → bytes_eq f.name.word word ≡ b
        → ((k : Known) (more : ℕ) → Agree (f.name.word ∷ before) k.names → more ≡ k.functions → find k.names word ≡ Some m → find (function_names (f.name.word ∷ before) more items) word ≡ None)
        → find (function_names before number (I.Function f ∷ items)) word ≡ None
    by (Some k) e b same rest =
        let has : is_among f.name.word before ≡ true = agree f.name.word ∙ ap is_some e in
        rw has (rest known (number + 0) (agree_same before f.name.word k known.names e agree) (omega (arith, count)) is)
    by None e true same rest = absurd (none_and_some m (subst (λ (w : List ℕ). find known.names w ≡ None) ((bytes_eq-Decides f.name.word word).0 same) e) is)
    by None e false other rest =
        let has : is_among f.name.word before ≡ false = agree f.name.word ∙ ap is_some e in
        let b : Binding = record { word = f.name.word; meaning = a_function known.functions } in
        let there : find (b ∷ known.names) word ≡ Some m = find_past b known.names word other ∙ is in
        rw (has, other) (rest (record { names = b ∷ known.names; shapes = known.shapes; variables = known.variables; functions = known.functions + 1 }) (number + 1) (agree_new before b known.names agree) (omega (arith, count)) there)

-- the functions that are named are those that the names stand for
functions_found : (functions : List Binding) (before : List (List ℕ)) (number : ℕ) (known : Known) (items : List Item) → Agree before known.names → number ≡ known.functions → (word : List ℕ) → find known.names word ≡ None → find (function_names before number items) word ≡ function_alone (find (behind_items functions known items).names word)
unfolding function_names find behind_items behind_item
functions_found functions before number known [] agree count word none = sym (ap function_alone none)
functions_found functions before number known (I.Shapes p shapes ∷ items) agree count word none = by (find (behind_shapes functions known shapes.items).names word) refl (functions_found functions (words_of (I.Shapes p shapes) ++ before) (number + 0) (behind_shapes functions known shapes.items) items more same word)
  where
    adds : Adds known.names (behind_shapes functions known shapes.items).names (words_of (I.Shapes p shapes))
    adds = shapes_add functions known shapes.items

    more : Agree (words_of (I.Shapes p shapes) ++ before) (behind_shapes functions known shapes.items).names
    more = agree_more before (words_of (I.Shapes p shapes)) known.names (behind_shapes functions known shapes.items).names adds agree

    same : number + 0 ≡ (behind_shapes functions known shapes.items).functions
    same = let counted = shapes_functions functions known shapes.items in omega arith

    by : (m : Option Meaning) → find (behind_shapes functions known shapes.items).names word ≡ m
        → (find (behind_shapes functions known shapes.items).names word ≡ None → find (function_names (words_of (I.Shapes p shapes) ++ before) (number + 0) items) word ≡ function_alone (find (behind_items functions (behind_shapes functions known shapes.items) items).names word))
        → find (function_names before number (I.Shapes p shapes ∷ items)) word ≡ function_alone (find (behind_items functions known (I.Shapes p shapes ∷ items)).names word)
    by None e rest = rest e
    by (Some m) e rest =
        none_named functions (words_of (I.Shapes p shapes) ++ before) (number + 0) (behind_shapes functions known shapes.items) items more same word m e
        ∙ (sym (adds.others word m none e) ∙ ap function_alone (sym (items_kept functions (behind_shapes functions known shapes.items) items word m e)))
functions_found functions before number known (I.Variables d ∷ items) agree count word none = by (find (behind_item functions known (I.Variables d)).names word) refl (functions_found functions (words_of (I.Variables d) ++ before) (number + 0) (behind_item functions known (I.Variables d)) items more same word)
  where
    adds : Adds known.names (behind_item functions known (I.Variables d)).names (words_of (I.Variables d))
    adds = variables_add functions _ known d.variables.items

    more : Agree (words_of (I.Variables d) ++ before) (behind_item functions known (I.Variables d)).names
    more = agree_more before (words_of (I.Variables d)) known.names (behind_item functions known (I.Variables d)).names adds agree

    same : number + 0 ≡ (behind_item functions known (I.Variables d)).functions
    same = let counted : (behind_item functions known (I.Variables d)).functions ≡ known.functions = variables_functions functions _ known d.variables.items in omega arith

    by : (m : Option Meaning) → find (behind_item functions known (I.Variables d)).names word ≡ m
        → (find (behind_item functions known (I.Variables d)).names word ≡ None → find (function_names (words_of (I.Variables d) ++ before) (number + 0) items) word ≡ function_alone (find (behind_items functions (behind_item functions known (I.Variables d)) items).names word))
        → find (function_names before number (I.Variables d ∷ items)) word ≡ function_alone (find (behind_items functions known (I.Variables d ∷ items)).names word)
    by None e rest = rest e
    by (Some m) e rest =
        none_named functions (words_of (I.Variables d) ++ before) (number + 0) (behind_item functions known (I.Variables d)) items more same word m e
        ∙ (sym (adds.others word m none e) ∙ ap function_alone (sym (items_kept functions (behind_item functions known (I.Variables d)) items word m e)))
functions_found functions before number known (I.Function f ∷ items) agree count word none =
    by (find known.names f.name.word) refl (bytes_eq f.name.word word) refl (λ k more agree_there counted there. functions_found functions (f.name.word ∷ before) more k items agree_there counted word there)
  where
    b : Binding
    b = record { word = f.name.word; meaning = a_function known.functions }

    after : Known
    after = record { names = b ∷ known.names; shapes = known.shapes; variables = known.variables; functions = known.functions + 1 }

    by : (old : Option Meaning) → find known.names f.name.word ≡ old → (same : Bool) → bytes_eq f.name.word word ≡ same
        → ((k : Known) (more : ℕ) → Agree (f.name.word ∷ before) k.names → more ≡ k.functions → find k.names word ≡ None → find (function_names (f.name.word ∷ before) more items) word ≡ function_alone (find (behind_items functions k items).names word))
        → find (function_names before number (I.Function f ∷ items)) word ≡ function_alone (find (behind_items functions known (I.Function f ∷ items)).names word)
    by (Some k) e same is rest =
        let has : is_among f.name.word before ≡ true = agree f.name.word ∙ ap is_some e in
        rw has (rest known (number + 0) (agree_same before f.name.word k known.names e agree) (omega (arith, count)) none ∙ ap (λ (x : Known). function_alone (find (behind_items functions x items).names word)) (sym (function_old known f k e)))
    by None e true same rest =
        let has : is_among f.name.word before ≡ false = agree f.name.word ∙ ap is_some e in
        let there = items_kept functions after items word (a_function known.functions) (find_here b known.names word ((bytes_eq-Decides f.name.word word).0 same)) in
        let found = ap (λ (x : Known). find (behind_items functions x items).names word) (function_behind known f e) ∙ there in
        rw (has, same) (ap (λ (n : ℕ). Some (a_function n)) count ∙ sym (ap function_alone found))
    by None e false other rest =
        let has : is_among f.name.word before ≡ false = agree f.name.word ∙ ap is_some e in
        rw (has, other) (rest after (number + 1) (agree_new before b known.names agree) (omega (arith, count)) (find_past b known.names word other ∙ none) ∙ ap (λ (x : Known). function_alone (find (behind_items functions x items).names word)) (sym (function_behind known f e)))

pub functions_are : (tree : Tree) (word : List ℕ) → find (functions_named tree) word ≡ function_alone (find (file_known tree).names word)
unfolding is_among find
functions_are tree word = functions_found (functions_named tree) [] 0 nothing_known tree.items.items (λ w. refl) refl word refl

-- ---- their numbers

abbrev IsWithin : ℕ → Meaning → Type 0
IsWithin n (a_shape s) = Unit {0}
IsWithin n (a_function f) = f < n
IsWithin n (a_variable v t) = Unit {0}

abbrev AreWithin : ℕ → List Binding → Type 0
AreWithin n names = All (λ (b : Binding). IsWithin n b.meaning) names

within_one_more : (n : ℕ) (m : Meaning) → IsWithin n m → IsWithin (n + 1) m
within_one_more n (a_shape s) is = tt
within_one_more n (a_function f) is = omega (arith, is)
within_one_more n (a_variable v t) is = tt

shape_within : (functions : List Binding) (known : Known) (s : ShapeDefinition) → AreWithin known.functions known.names → AreWithin known.functions (behind_shape functions known s).names
unfolding behind_shape
shape_within functions known s all = by (is_some (find known.names s.name.word)) refl
  where
    by : (b : Bool) → is_some (find known.names s.name.word) ≡ b → AreWithin known.functions (behind_shape functions known s).names
    by true e = rw e all
    by false e = rw e (All-cons (λ (b : Binding). IsWithin known.functions b.meaning) (record { word = s.name.word; meaning = a_shape (length known.shapes) }) known.names tt all)

variable_within : (functions : List Binding) (ty : Option ValueType) (known : Known) (v : Declarator) → AreWithin known.functions known.names → AreWithin known.functions (behind_variable functions ty known v).names
unfolding behind_variable
variable_within functions ty known v all = by (is_some (find known.names v.name.word)) refl
  where
    by : (b : Bool) → is_some (find known.names v.name.word) ≡ b → AreWithin known.functions (behind_variable functions ty known v).names
    by true e = rw e all
    by false e = rw e (All-cons (λ (b : Binding). IsWithin known.functions b.meaning) (record { word = v.name.word; meaning = a_variable (V.File known.variables) (declared_type (file_place functions known) ty v.length) }) known.names tt all)

shapes_within : (functions : List Binding) (known : Known) (shapes : List ShapeDefinition) → AreWithin known.functions known.names → AreWithin (behind_shapes functions known shapes).functions (behind_shapes functions known shapes).names
unfolding behind_shapes
shapes_within functions known [] all = all
shapes_within functions known (s ∷ ss) all =
    shapes_within functions (behind_shape functions known s) ss (subst (λ (n : ℕ). AreWithin n (behind_shape functions known s).names) (sym (shape_functions functions known s)) (shape_within functions known s all))

variables_within : (functions : List Binding) (ty : Option ValueType) (known : Known) (variables : List Declarator) → AreWithin known.functions known.names → AreWithin (behind_variables functions ty known variables).functions (behind_variables functions ty known variables).names
unfolding behind_variables
variables_within functions ty known [] all = all
variables_within functions ty known (v ∷ vs) all =
    variables_within functions ty (behind_variable functions ty known v) vs (subst (λ (n : ℕ). AreWithin n (behind_variable functions ty known v).names) (sym (variable_functions functions ty known v)) (variable_within functions ty known v all))

function_within : (known : Known) (f : Function) → AreWithin known.functions known.names → AreWithin (behind_function known f).functions (behind_function known f).names
unfolding behind_function
function_within known f all = by (is_some (find known.names f.name.word)) refl
  where
    by : (b : Bool) → is_some (find known.names f.name.word) ≡ b → AreWithin (behind_function known f).functions (behind_function known f).names
    by true e = rw e all
    by false e = rw e (All-cons (λ (b : Binding). IsWithin (known.functions + 1) b.meaning) (record { word = f.name.word; meaning = a_function known.functions }) known.names (omega arith)
        (All-weaker (λ (b : Binding). IsWithin known.functions b.meaning) (λ (b : Binding). IsWithin (known.functions + 1) b.meaning) (λ b is. within_one_more known.functions b.meaning is) known.names all))

items_within : (functions : List Binding) (known : Known) (items : List Item) → AreWithin known.functions known.names → AreWithin (behind_items functions known items).functions (behind_items functions known items).names
unfolding behind_items behind_item
items_within functions known [] all = all
items_within functions known (I.Shapes p shapes ∷ items) all = items_within functions (behind_shapes functions known shapes.items) items (shapes_within functions known shapes.items all)
items_within functions known (I.Variables d ∷ items) all = items_within functions (behind_item functions known (I.Variables d)) items (variables_within functions _ known d.variables.items all)
items_within functions known (I.Function f ∷ items) all = items_within functions (behind_function known f) items (function_within known f all)

placed_old : (functions : List Binding) (known : Known) (f : Function) (items : List Item) (m : Meaning) → find known.names f.name.word ≡ Some m → placed_from functions known (I.Function f ∷ items) ≡ placed_from functions known items
unfolding placed_from behind_item
placed_old functions known f items m e = rw (function_old known f m e, e) refl

placed_new : (functions : List Binding) (known : Known) (f : Function) (items : List Item) → find known.names f.name.word ≡ None
    → placed_from functions known (I.Function f ∷ items) ≡ record { function = f; known = known.names ++ functions } ∷ placed_from functions (behind_function known f) items
unfolding placed_from behind_item
placed_new functions known f items e = rw e refl

placed_count : (functions : List Binding) (known : Known) (items : List Item) → length (placed_from functions known items) + known.functions ≡ (behind_items functions known items).functions
unfolding behind_items behind_item placed_from
placed_count functions known [] = omega arith
placed_count functions known (I.Shapes p shapes ∷ items) =
    let rest = placed_count functions (behind_shapes functions known shapes.items) items in
    let same = shapes_functions functions known shapes.items in
    omega (arith, rest, same)
placed_count functions known (I.Variables d ∷ items) =
    let rest = placed_count functions (behind_item functions known (I.Variables d)) items in
    let same : (behind_item functions known (I.Variables d)).functions ≡ known.functions = variables_functions functions _ known d.variables.items in
    omega (arith, rest, same)
placed_count functions known (I.Function f ∷ items) = by (find known.names f.name.word) refl (λ k. placed_count functions k items)
  where
    by : (m : Option Meaning) → find known.names f.name.word ≡ m → ((k : Known) → length (placed_from functions k items) + k.functions ≡ (behind_items functions k items).functions)
        → length (placed_from functions known (I.Function f ∷ items)) + known.functions ≡ (behind_items functions known (I.Function f ∷ items)).functions
    by (Some m) e rest =
        ap (λ (ps : List Placed). length ps + known.functions) (placed_old functions known f items m e) ∙ (rest known ∙ ap (λ (k : Known). (behind_items functions k items).functions) (sym (function_old known f m e)))
    by None e rest =
        let there = behind_function known f in
        let long : length (placed_from functions known (I.Function f ∷ items)) ≡ suc (length (placed_from functions there items)) = ap length (placed_new functions known f items e) in
        let counted = rest there in
        let more : there.functions ≡ known.functions + 1 = ap (λ (k : Known). k.functions) (function_behind known f e) in
        omega (arith, long, counted, more)

pub find_within : (P : Meaning → Type 0) (names : List Binding) (word : List ℕ) (m : Meaning) → All (λ (b : Binding). P b.meaning) names → find names word ≡ Some m → P m
unfolding find
find_within P [] word m all is = absurd (cc)
find_within P (b ∷ names) word m all is = by (bytes_eq b.word word) refl (find_within P names word m (All-tail (λ (c : Binding). P c.meaning) b names all))
  where
    by : (e : Bool) → bytes_eq b.word word ≡ e → (find names word ≡ Some m → P m) → P m
    by true e rest =
        let same : Some b.meaning ≡ Some m = rw e at is in
        subst P (let k : b.meaning ≡ m = cc in k) (All-head (λ (c : Binding). P c.meaning) b names all)
    by false e rest = rest (rw e at is)

-- a function that a name of the file stands for is one of its functions
pub function_there : (tree : Tree) (word : List ℕ) (f : ℕ) → find (file_known tree).names word ≡ Some (a_function f) → f < length (file_functions tree)
function_there tree word f is =
    let all = items_within (functions_named tree) nothing_known tree.items.items (All-nil (λ (b : Binding). IsWithin 0 b.meaning)) in
    let less = find_within (IsWithin (file_known tree).functions) (file_known tree).names word (a_function f) all is in
    let count = placed_count (functions_named tree) nothing_known tree.items.items in
    omega (arith, less, count)
