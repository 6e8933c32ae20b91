-- A thing that holds of whatever the names around a place, or in a file, stand for goes on behind a
-- declaration of one more name of which it holds.
use Rattle.std.proofs.Common.{◌≡◌, ℕ, ◌+◌, Bool, true, false, if◌then◌else◌, is_some, List, [], ◌∷◌, ◌++◌, length, Option, Some, None, bytes_eq, subst, sym}
use Rattle.std.proofs.lemmas.Option.{none-some, same_Some}
use Rattle.cstar_tree.specs.declared.syntax.Item.{Item}
use Rattle.cstar_tree.specs.FileScopes.{Known, function_binding, function_names, function_word, is_among, words_of}
use Rattle.cstar_tree.specs.Scopes.{Binding, Meaning, Names, a_function, declared, find}

module _ (P : Meaning → Type 0) where
  abbrev pub AllMean : List Binding → Type 0
  AllMean names = (word : List ℕ) (m : Meaning) → find names word ≡ Some m → P m

  pub with_name : (names : List Binding) (word : List ℕ) (m : Meaning) → AllMean names → P m → AllMean (record { word = word; meaning = m } ∷ names)
  unfolding find
  with_name names word m before new other x found = by_word (bytes_eq word other) found
    where
      by_word : (b : Bool) → (if b then Some m else find names other) ≡ Some x → P x
      by_word true is = subst P (same_Some m x is) new
      by_word false is = before other x is

  pub declared_one : (names : Names) (word : List ℕ) (m : Meaning) → AllMean (names.inner ++ names.outer) → P m → AllMean ((declared names word m).inner ++ (declared names word m).outer)
  declared_one names word m before new = by_word (is_some (find names.inner word))
    where
      by_word : (b : Bool) → AllMean ((if b then names else record { inner = record { word = word; meaning = m } ∷ names.inner; outer = names.outer }).inner ++ (if b then names else record { inner = record { word = word; meaning = m } ∷ names.inner; outer = names.outer }).outer)
      by_word true = before
      by_word false = with_name (names.inner ++ names.outer) word m before new

  -- ---- the names of a file

  -- where a name is new, it is added
  pub named : (functions : List Binding) (known more : Known) (word : List ℕ) (m : Meaning) (b : Bool) → AllMean (known.names ++ functions) → P m → more.names ≡ record { word = word; meaning = m } ∷ known.names → AllMean ((if b then known else more).names ++ functions)
  named functions known more word m true before new is = before
  named functions known more word m false before new is = subst (λ (names : List Binding). AllMean (names ++ functions)) (sym is) (with_name (known.names ++ functions) word m before new)

  module _ (functions_are : (number : ℕ) → P (a_function number)) where
    function_bound : (before : List (List ℕ)) (number : ℕ) (word : Option (List ℕ)) (rest : List Binding) → AllMean rest → AllMean (function_binding before number word ++ rest)
    function_bound before number None rest known = known
    function_bound before number (Some word) rest known = by_word (is_among word before)
      where
        by_word : (b : Bool) → AllMean ((if b then [] else record { word = word; meaning = a_function number } ∷ []) ++ rest)
        by_word true = known
        by_word false = with_name rest word (a_function number) known (functions_are number)

    pub functions_mean : (before : List (List ℕ)) (number : ℕ) (items : List Item) → AllMean (function_names before number items)
    unfolding function_names find
    functions_mean before number [] = λ word m is. elim (none-some m is) [ ]
    functions_mean before number (item ∷ items) =
        function_bound before number (function_word item) _ (functions_mean (words_of item ++ before) (number + length (function_binding before number (function_word item))) items)
