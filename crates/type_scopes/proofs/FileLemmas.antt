-- What is found under a name of a file.
use Rattle.std.proofs.Common.{◌≡◌, ◌==◌, ℕ, zero, suc, ◌+◌, ◌-◌, ◌<◌, Bool, true, false, List, [], ◌∷◌, ◌++◌, get_or, length, map, Option, Some, None, refl, sym, ap, subst, ◌∙◌, arith, true≢false}
use Rattle.std.proofs.lemmas.List.{map-append}
use Rattle.std.proofs.lemmas.Bool.{eqb-true, eq-eqb}
use Rattle.std.proofs.lemmas.Cmp.{nat_list_eq_equiv}
use Rattle.std.proofs.lemmas.List.Quantifiers.{position-Some}
use Rattle.std.proofs.lemmas.Map.Entries.{length-keys_of}
use Rattle.std.proofs.lemmas.Map.Keys.{IsDistinct-head, IsDistinct-tail}
use Rattle.std.proofs.lemmas.Slice.Eq.{bytes_eq-Decides}
use Rattle.std.specs.declared.alloc.Global.{Global}
use Rattle.std.specs.List.{AllByRecursion, IsDistinct}
use Rattle.std.specs.Map.{keys_of, lookup}
use Rattle.std.specs.Option.{option_eq, option_map, option_or}
use Rattle.std.specs.Prelude.{◌↔◌, Vec, bytes_eq, is_some, position, slice_get}
use Rattle.indexmap.proofs.MapLemmas.{Missing-position, absent_from_lookup, insert_entry-absent}
use Rattle.indexmap.specs.IndexMap.{insert_entry}
use Rattle.cstar_tree.specs.Scopes.{Binding, find}
use Rattle.type_scopes.specs.declared.names.FileName.{FileName}
use Rattle.type_scopes.specs.declared.names.VariableType.{VariableType}
use Rattle.type_scopes.specs.FileBindings.{file_meant, is_known, known_names, known_of, numbered}

abbrev Entries : Type 0
Entries = List (Vec ℕ Global × FileName)

abbrev pub named : Entries → List (List ℕ × FileName)
named es = map (λ e. (e.0.items, e.1)) es

abbrev same_names : Vec ℕ Global → Vec ℕ Global → Bool
same_names a b = bytes_eq a.items b.items

pub turned_round : (a b : List ℕ) (is : Bool) → bytes_eq a b ≡ is → bytes_eq b a ≡ is
turned_round a b is e = sym (nat_list_eq_equiv.symm a b) ∙ e

-- by the place of its key
at_place : (n i : ℕ) (es : Entries) (word : List ℕ) (key : Vec ℕ Global) (name : FileName) → i < length es → bytes_eq word (get_or (keys_of es) i key).items ≡ true
    → ((j : ℕ) → j < i → bytes_eq word (get_or (keys_of es) j key).items ≡ false) → slice_get (map (λ e. e.1) es) i ≡ Some name → numbered n (named es) word ≡ Some (n + i, name)
unfolding numbered
at_place n i [] word key name within is before at = absurd (omega (arith, within))
at_place n zero (e ∷ es) word key name within is before at =
    let here : n ≡ n + 0 = omega arith in
    let same : e.1 ≡ name = cc in
    rw is (ap (λ m. Some (m, e.1)) here ∙ ap (λ x. Some (n + 0, x)) same)
at_place n (suc i) (e ∷ es) word key name within is before at =
    let next : n + 1 + i ≡ n + suc i = omega arith in
    rw (before 0 (omega arith)) (at_place (n + 1) i es word key name (omega (arith, within)) is (λ j b. before (suc j) (omega (arith, b))) at ∙ ap (λ m. Some (m, name)) next)

pub numbered_at : (es : Entries) (word : List ℕ) (i : ℕ) (name : FileName) → position (λ key. bytes_eq word key.items) (keys_of es) ≡ Some i → slice_get (map (λ e. e.1) es) i ≡ Some name → numbered 0 (named es) word ≡ Some (i, name)
numbered_at [] word i name is at = absurd (omega (arith, (position-Some (λ (key : List ℕ). bytes_eq word key) [] i [] is).0))
numbered_at (e ∷ es) word i name is at =
    let place = position-Some (λ (key : Vec ℕ Global). bytes_eq word key.items) (keys_of (e ∷ es)) i e.0 is in
    let within : i < length (e ∷ es) = rw (sym (length-keys_of (e ∷ es))) place.0 in
    let from : 0 + i ≡ i = omega arith in
    at_place 0 i (e ∷ es) word e.0 name within place.1 place.2 at ∙ ap (λ m. Some (m, name)) from

none_numbered : (n : ℕ) (es : Entries) (word : List ℕ) → lookup (λ key. bytes_eq word key.items) es ≡ None → numbered n (named es) word ≡ None
unfolding numbered
none_numbered n [] word none = refl
none_numbered n (e ∷ es) word none = step (bytes_eq word e.0.items) refl (none_numbered (n + 1) es word)
  where
    step : (b : Bool) → bytes_eq word e.0.items ≡ b → (lookup (λ key. bytes_eq word key.items) es ≡ None → numbered (n + 1) (named es) word ≡ None) → numbered n (named (e ∷ es)) word ≡ None
    step true is rest =
        let there : Some e.1 ≡ None = rw is at none in
        cc
    step false is rest = rw is (rest (rw is at none))

pub not_numbered : (es : Entries) (word : List ℕ) → position (λ key. bytes_eq word key.items) (keys_of es) ≡ None → numbered 0 (named es) word ≡ None
not_numbered es word is = none_numbered 0 es word (Missing-position (λ key. bytes_eq word key.items) es is).value

-- a word that none of the names has stands for nothing
none_known : (types : List (Option VariableType)) (known : ℕ) (es : Entries) (word : List ℕ) → AllByRecursion (λ key. bytes_eq word key.items ≡ false) (keys_of es) → find (known_names types known (named es)) word ≡ None
unfolding find known_names
none_known types known [] word all = refl
none_known types known (e ∷ es) word all = step (is_known known e.1) refl (none_known types (known - 1) es word all.1)
  where
    step : (b : Bool) → is_known known e.1 ≡ b → find (known_names types (known - 1) (named es)) word ≡ None → find (known_names types known (named (e ∷ es))) word ≡ None
    step true is rest = rw (is, turned_round word e.0.items false all.0) rest
    step false is rest = rw is rest

-- what is known of the name of a word is what the word stands for
pub find_known : (types : List (Option VariableType)) (known k : ℕ) (es : Entries) (word : List ℕ) → IsDistinct (λ a b. bytes_eq a.items b.items) (keys_of es)
    → find (known_names types (known - k) (named es)) word ≡ option_map (file_meant types) (known_of known (numbered k (named es) word))
unfolding find known_names numbered
find_known types known k [] word apart = refl
find_known types known k (e ∷ es) word apart = step (bytes_eq word e.0.items) refl (is_known (known - k) e.1) refl (find_known types known (k + 1) es word (IsDistinct-tail same_names e.0 (keys_of es) apart))
  where
    less : known - k - 1 ≡ known - (k + 1)
    less = omega arith

    step : (b : Bool) → bytes_eq word e.0.items ≡ b → (is : Bool) → is_known (known - k) e.1 ≡ is
        → find (known_names types (known - (k + 1)) (named es)) word ≡ option_map (file_meant types) (known_of known (numbered (k + 1) (named es) word))
        → find (known_names types (known - k) (named (e ∷ es))) word ≡ option_map (file_meant types) (known_of known (numbered k (named (e ∷ es)) word))
    step true same true is rest = rw (same, is, turned_round word e.0.items true same) refl
    step true same false is rest =
        let word_is : word ≡ e.0.items = (bytes_eq-Decides word e.0.items).0 same in
        let others = subst (λ (w : List ℕ). AllByRecursion (λ key. bytes_eq w key.items ≡ false) (keys_of es)) (sym word_is) (IsDistinct-head same_names e.0 (keys_of es) apart) in
        rw (same, is) (none_known types (known - k - 1) es word others)
    step false other true is rest = rw (other, is, turned_round word e.0.items false other, less) rest
    step false other false is rest = rw (other, is, less) rest

pub find_known_name : (types : List (Option VariableType)) (known : ℕ) (es : Entries) (word : List ℕ) → IsDistinct (λ a b. bytes_eq a.items b.items) (keys_of es)
    → find (known_names types known (named es)) word ≡ option_map (file_meant types) (known_of known (numbered 0 (named es) word))
find_known_name types known es word apart =
    let all : known - 0 ≡ known = omega arith in
    ap (λ n. find (known_names types n (named es)) word) (sym all) ∙ find_known types known 0 es word apart

-- a name more
pub named_more : (es new : Entries) (key : Vec ℕ Global) (word : List ℕ) (name : FileName) → key.items ≡ word → lookup (λ k. bytes_eq word k.items) es ≡ None → new ≡ insert_entry (λ a b. bytes_eq a.items b.items) es key name → named new ≡ named es ++ (word, name) ∷ []
named_more es new key word name is none entries =
    let own = subst (λ (w : List ℕ). lookup (λ k. bytes_eq w k.items) es ≡ None) (sym is) none in
    let more : new ≡ es ++ (key, name) ∷ [] = entries ∙ insert_entry-absent same_names key name es (absent_from_lookup (same_names key) es own) in
    ap named more ∙ (map-append (λ e. (e.0.items, e.1)) es ((key, name) ∷ []) ∙ ap (λ w. named es ++ (w, name) ∷ []) is)

-- whether a word has a name
pub has_name : (n : ℕ) (es : Entries) (word : List ℕ) → is_some (numbered n (named es) word) ≡ is_some (lookup (λ key. bytes_eq word key.items) es)
unfolding numbered
has_name n [] word = refl
has_name n (e ∷ es) word = step (bytes_eq word e.0.items) refl (has_name (n + 1) es word)
  where
    step : (b : Bool) → bytes_eq word e.0.items ≡ b → is_some (numbered (n + 1) (named es) word) ≡ is_some (lookup (λ key. bytes_eq word key.items) es) → is_some (numbered n (named (e ∷ es)) word) ≡ is_some (lookup (λ key. bytes_eq word key.items) (e ∷ es))
    step true is rest = rw is refl
    step false is rest = rw is rest

pub no_name : (es : Entries) (word : List ℕ) → is_some (lookup (λ key. bytes_eq word key.items) es) ≡ false → lookup (λ key. bytes_eq word key.items) es ≡ None
no_name es word none = step (lookup (λ key. bytes_eq word key.items) es) none
  where
    step : (found : Option FileName) → is_some found ≡ false → found ≡ None
    step None none = refl
    step (Some name) none = absurd (true≢false none)

-- what is known of a word of a file is what it stands for there
pub file_meaning : (types : List (Option VariableType)) (known : ℕ) (es : Entries) (word : List ℕ) (name : Option FileName) → IsDistinct (λ a b. bytes_eq a.items b.items) (keys_of es) → name ≡ known_of known (numbered 0 (named es) word)
    → find (known_names types known (named es)) word ≡ option_map (file_meant types) name
file_meaning types known es word name apart is = find_known_name types known es word apart ∙ ap (option_map (file_meant types)) (sym is)

-- of two lists of names the first counts
pub find_first : (inner outer : List Binding) (word : List ℕ) → find (inner ++ outer) word ≡ option_or (find inner word) (find outer word)
unfolding find
find_first [] outer word = refl
find_first (b ∷ rest) outer word = step (bytes_eq b.word word) refl (find_first rest outer word)
  where
    step : (is : Bool) → bytes_eq b.word word ≡ is → find (rest ++ outer) word ≡ option_or (find rest word) (find outer word) → find (b ∷ rest ++ outer) word ≡ option_or (find (b ∷ rest) word) (find outer word)
    step true e rest = rw e refl
    step false e rest = rw e rest

-- two numbers, where there are such, that are told to be one
pub same_number : (a b : Option ℕ) (r : Bool) → r ≡ option_eq ◌==◌ a b → (r ≡ true) ↔ (a ≡ b)
same_number None None r is = (λ t. refl, λ e. is)
same_number None (Some y) r is = (λ t. absurd (true≢false (sym t ∙ is)), λ e. absurd (cc))
same_number (Some x) None r is = (λ t. absurd (true≢false (sym t ∙ is)), λ e. absurd (cc))
same_number (Some x) (Some y) r is = (λ t. ap (λ (k : ℕ). Some k) (eqb-true x y (sym is ∙ t)), λ e. is ∙ eq-eqb x y (let k : x ≡ y = cc in k))
