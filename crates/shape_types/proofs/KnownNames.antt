-- What is known of the names of a file, by what is kept of them.
use Rattle.std.proofs.Common.{◌≡◌, ℕ, ◌+◌, Bool, true, false, List, [], ◌∷◌, ◌++◌, length, map, Option, Some, None, refl, sym, ap, subst, ◌∙◌, if◌then◌else◌}
use Rattle.std.proofs.lemmas.List.Elements.{All-append, All-cons, All-nil, All-weaker}
use Rattle.std.specs.List.{All}
use Rattle.std.specs.Option.{option_or}
use Rattle.std.specs.Prelude.{reverse}
use Rattle.cstar_tree.specs.declared.syntax.Item.{Item}
use Rattle.cstar_tree.specs.declared.syntax.Tree.{Tree}
use Rattle.cstar_tree.specs.declared.typed.Variable.TheVariants as V
use Rattle.cstar_tree.specs.FileScopes.{file_known, function_binding, function_names, function_word, functions_named, is_among, words_of}
use Rattle.cstar_tree.specs.Scopes.{Binding, Meaning, a_function, a_shape, a_variable, find}
use Rattle.file_names.specs.Numbers.{AreApart, declared_as, in_text_order, name_of}
use Rattle.file_names.proofs.Apart.{file_apart}
use Rattle.type_scopes.specs.FileBindings.{file_meant, file_names, known_names}
use Rattle.type_scopes.specs.declared.names.FileName.{FileName}
use Rattle.type_scopes.specs.declared.names.FileNames.{FileNames}
use Rattle.type_scopes.specs.declared.names.VariableType as Names
use Rattle.type_scopes.proofs.FileLemmas.{find_first}
use Rattle.shape_types.specs.FileKnowledge.{IsOfShapes}
use Rattle.shape_types.specs.FileWalk.{IsKept}
use Rattle.shape_types.proofs.FunctionNames.{find_within, functions_are}
use Rattle.shape_types.proofs.NamesFound.{IsTold, first_found, function_alone}

pub names_known : (tree : Tree) (types : List (Option Names.VariableType)) (names : FileNames) (n : ℕ) (later known : List Binding) → file_names names ≡ in_text_order (file_known tree) → (file_known tree).names ≡ later ++ known → n ≡ length known → All (IsTold types) known
    → (word : List ℕ) → find (known_names types n (file_names names)) word ≡ find (known ++ functions_named tree) word
names_known tree types names n later known are all count told word =
    ap (λ (es : List (List ℕ × FileName)). find (known_names types n es) word) (are ∙ ap (λ (bs : List Binding). map name_of (reverse bs)) all)
    ∙ (ap (λ (k : ℕ). find (known_names types k (map name_of (reverse (later ++ known)))) word) count
    ∙ (first_found types word later known (subst AreApart all (file_apart tree)) told
    ∙ (ap (option_or (find known word)) (ap (λ (bs : List Binding). function_alone (find bs word)) (sym all) ∙ sym (functions_are tree word))
    ∙ sym (find_first known (functions_named tree) word))))

kept_is_told : (types : List (Option Names.VariableType)) (m : Meaning) → IsKept types m → file_meant types (declared_as m) ≡ m
kept_is_told types (a_shape s) kept = refl
kept_is_told types (a_function f) kept = refl
kept_is_told types (a_variable (V.File v) t) kept = ap (a_variable (V.File v)) kept.1
kept_is_told types (a_variable (V.Param v) t) kept = absurd kept
kept_is_told types (a_variable (V.Local v) t) kept = absurd kept

pub told_of : (types : List (Option Names.VariableType)) (names : List Binding) → All (λ (b : Binding). IsKept types b.meaning) names → All (IsTold types) names
told_of types names all = All-weaker (λ (b : Binding). IsKept types b.meaning) (IsTold types) (λ b kept. kept_is_told types b.meaning kept) names all

-- ---- shapes

named_shaped : (shapes : List (List ℕ)) (before : List (List ℕ)) (number : ℕ) (word : Option (List ℕ)) → All (λ (b : Binding). IsOfShapes shapes b.meaning) (function_binding before number word)
named_shaped shapes before number None = All-nil (λ (b : Binding). IsOfShapes shapes b.meaning)
named_shaped shapes before number (Some word) = by (is_among word before)
  where
    by : (b : Bool) → All (λ (b : Binding). IsOfShapes shapes b.meaning) (if b then [] else record { word = word; meaning = a_function number } ∷ [])
    by true = All-nil (λ (b : Binding). IsOfShapes shapes b.meaning)
    by false = All-cons (λ (b : Binding). IsOfShapes shapes b.meaning) (record { word = word; meaning = a_function number }) [] tt (All-nil (λ (b : Binding). IsOfShapes shapes b.meaning))

pub functions_shaped : (shapes : List (List ℕ)) (before : List (List ℕ)) (number : ℕ) (items : List Item) → All (λ (b : Binding). IsOfShapes shapes b.meaning) (function_names before number items)
unfolding function_names
functions_shaped shapes before number [] = All-nil (λ (b : Binding). IsOfShapes shapes b.meaning)
functions_shaped shapes before number (item ∷ items) =
    let new = function_binding before number (function_word item) in
    All-append (λ (b : Binding). IsOfShapes shapes b.meaning) new (function_names (words_of item ++ before) (number + length new) items) (named_shaped shapes before number (function_word item))
    (functions_shaped shapes (words_of item ++ before) (number + length new) items)

pub shape_within : (tree : Tree) (shapes : List (List ℕ)) (names : List Binding) (word : List ℕ) (m : Meaning) → All (λ (b : Binding). IsOfShapes shapes b.meaning) names → find (names ++ functions_named tree) word ≡ Some m → IsOfShapes shapes m
shape_within tree shapes names word m all is =
    find_within (IsOfShapes shapes) (names ++ functions_named tree) word m (All-append (λ (b : Binding). IsOfShapes shapes b.meaning) names (functions_named tree) all (functions_shaped shapes [] 0 tree.items.items)) is
