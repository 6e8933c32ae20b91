-- What is found among the first names of a file and its functions.
use Rattle.std.proofs.Common.{◌≡◌, ℕ, suc, ◌+◌, ◌-◌, ◌<◌, ◌≤◌, Bool, true, false, List, [], ◌∷◌, ◌++◌, length, map, Option, Some, None, is_some, length-append, refl, sym, ap, subst, ◌∙◌, arith, if◌then◌else◌}
use Rattle.std.proofs.lemmas.Bool.{lt-ltb}
use Rattle.std.proofs.lemmas.List.{length-map, length-reverse, map-append, reverse-append}
use Rattle.std.proofs.lemmas.List.Elements.{All-head, All-tail}
use Rattle.std.proofs.lemmas.Option.{some_pair_parts}
use Rattle.std.proofs.lemmas.Slice.Eq.{bytes_eq-Decides}
use Rattle.std.specs.List.{All}
use Rattle.std.specs.Option.{option_or}
use Rattle.std.specs.Prelude.{bytes_eq, reverse}
use Rattle.cstar_tree.specs.Scopes.{Binding, Meaning, a_function, a_shape, a_variable, find}
use Rattle.type_scopes.specs.declared.names.FileName.{FileName}
use Rattle.type_scopes.specs.declared.names.FileName.TheVariants as N
use Rattle.type_scopes.specs.declared.names.VariableType.{VariableType}
use Rattle.type_scopes.specs.FileBindings.{file_binding, file_meant, is_known, known_names, numbered}
use Rattle.type_scopes.proofs.FileLemmas.{find_first}
use Rattle.file_names.specs.Numbers.{AreApart, declared_as, name_of}
use Rattle.file_names.proofs.Steps.{has_number, one_more}

-- a function, and nothing else
abbrev pub function_alone : Option Meaning → Option Meaning
function_alone None = None
function_alone (Some (a_shape s)) = None
function_alone (Some (a_function f)) = Some (a_function f)
function_alone (Some (a_variable v t)) = None

or_none : (m : Option Meaning) → option_or m None ≡ m
or_none None = refl
or_none (Some m) = refl

alone_or : (m : Option Meaning) → m ≡ option_or m (function_alone m)
alone_or None = refl
alone_or (Some m) = refl

second_none : (a b : Option Meaning) → option_or a b ≡ None → b ≡ None
second_none None b is = is
second_none (Some m) b is = absurd (cc)

none_behind : (later known : List Binding) (word : List ℕ) → find (later ++ known) word ≡ None → find known word ≡ None
none_behind later known word is = second_none (find later word) (find known word) (sym (find_first later known word) ∙ is)

-- ---- the names that are known

known_last : (types : List (Option VariableType)) (n : ℕ) (es : List (List ℕ × FileName)) (e : List ℕ × FileName)
    → known_names types n (es ++ e ∷ []) ≡ known_names types n es ++ (if is_known (n - length es) e.1 then file_binding types e ∷ [] else [])
unfolding known_names
known_last types n [] e =
    let all : n ≡ n - 0 = omega arith in
    ap (λ (k : ℕ). if is_known k e.1 then file_binding types e ∷ [] else []) all
known_last types n (x ∷ es) e = by (is_known n x.1) refl (known_last types (n - 1) es e)
  where
    less : n - 1 - length es ≡ n - suc (length es)
    less = omega arith

    by : (b : Bool) → is_known n x.1 ≡ b → known_names types (n - 1) (es ++ e ∷ []) ≡ known_names types (n - 1) es ++ (if is_known (n - 1 - length es) e.1 then file_binding types e ∷ [] else [])
        → known_names types n (x ∷ es ++ e ∷ []) ≡ known_names types n (x ∷ es) ++ (if is_known (n - length (x ∷ es)) e.1 then file_binding types e ∷ [] else [])
    by true is rest = rw is (ap (λ (ns : List Binding). file_binding types x ∷ ns) (rest ∙ ap (λ (k : ℕ). known_names types (n - 1) es ++ (if is_known k e.1 then file_binding types e ∷ [] else [])) less))
    by false is rest = rw is (rest ∙ ap (λ (k : ℕ). known_names types (n - 1) es ++ (if is_known k e.1 then file_binding types e ∷ [] else [])) less)

known_there : (k : ℕ) (name : FileName) → 0 < k → is_known k name ≡ true
known_there k (N.Shape s) more = lt-ltb 0 k more
known_there k (N.Function f) more = refl
known_there k (N.Variable v) more = lt-ltb 0 k more

-- what is kept of a name tells what it stands for
abbrev pub IsTold : List (Option VariableType) → Binding → Type 0
IsTold types b = file_meant types (declared_as b.meaning) ≡ b.meaning

module _ (types : List (Option VariableType)) (word : List ℕ) where
  tail_known : (k : ℕ) (b : Binding) → 0 < k → IsTold types b → (if is_known k (declared_as b.meaning) then file_binding types (name_of b) ∷ [] else []) ≡ b ∷ []
  tail_known k b more told =
      ap (λ (is : Bool). if is then file_binding types (name_of b) ∷ [] else []) (known_there k (declared_as b.meaning) more)
      ∙ ap (λ (m : Meaning). record { word = b.word; meaning = m } ∷ []) told

  tail_unknown : (w : List ℕ) (m : Meaning) → find (if is_known 0 (declared_as m) then file_binding types (w, declared_as m) ∷ [] else []) word ≡ (if bytes_eq w word then function_alone (Some m) else None)
  unfolding find
  tail_unknown w (a_shape s) = by (bytes_eq w word)
    where
      by : (b : Bool) → None ≡ (if b then function_alone (Some (a_shape s)) else None)
      by true = refl
      by false = refl
  tail_unknown w (a_function f) = refl
  tail_unknown w (a_variable v t) = by (bytes_eq w word)
    where
      by : (b : Bool) → None ≡ (if b then function_alone (Some (a_variable v t)) else None)
      by true = refl
      by false = refl

  one_found : (b : Binding) (bs : List Binding) → find bs b.word ≡ None → option_or (find bs word) (find (b ∷ []) word) ≡ find (b ∷ bs) word
  unfolding find
  one_found b bs apart = by (bytes_eq b.word word) refl
    where
      by : (is : Bool) → bytes_eq b.word word ≡ is → option_or (find bs word) (find (b ∷ []) word) ≡ find (b ∷ bs) word
      by true e =
          let none : find bs word ≡ None = subst (λ (w : List ℕ). find bs w ≡ None) ((bytes_eq-Decides b.word word).0 e) apart in
          rw (e, none) refl
      by false e = rw e (or_none (find bs word))

  last_of : (n : ℕ) (b : Binding) (bs : List Binding) → find (known_names types n (map name_of (reverse (b ∷ bs)))) word
      ≡ option_or (find (known_names types n (map name_of (reverse bs))) word) (find (if is_known (n - length (map name_of (reverse bs))) (declared_as b.meaning) then file_binding types (name_of b) ∷ [] else []) word)
  last_of n b bs =
      ap (λ (es : List (List ℕ × FileName)). find (known_names types n es) word) (one_more b bs)
      ∙ (ap (λ (ns : List Binding). find ns word) (known_last types n (map name_of (reverse bs)) (name_of b))
      ∙ find_first (known_names types n (map name_of (reverse bs))) (if is_known (n - length (map name_of (reverse bs))) (declared_as b.meaning) then file_binding types (name_of b) ∷ [] else []) word)

  as_long : (bs : List Binding) → length (map name_of (reverse bs)) ≡ length bs
  as_long bs = length-map (reverse bs) name_of ∙ length-reverse bs

  all_found : (n : ℕ) (bs : List Binding) → length bs ≤ n → AreApart bs → All (IsTold types) bs → find (known_names types n (map name_of (reverse bs))) word ≡ find bs word
  unfolding AreApart known_names find
  all_found n [] long apart told = refl
  all_found n (b ∷ bs) long apart told =
      let size = as_long bs in
      last_of n b bs
      ∙ (ap (λ (m : Option Meaning). option_or m (find (if is_known (n - length (map name_of (reverse bs))) (declared_as b.meaning) then file_binding types (name_of b) ∷ [] else []) word)) (all_found n bs (omega arith) apart.1 (All-tail (IsTold types) b bs told))
      ∙ (ap (λ (ns : List Binding). option_or (find bs word) (find ns word)) (tail_known (n - length (map name_of (reverse bs))) b (omega arith) (All-head (IsTold types) b bs told))
      ∙ one_found b bs apart.0))

  -- where only those behind are known, of the others the functions are
  pub first_found : (later known : List Binding) → AreApart (later ++ known) → All (IsTold types) known
      → find (known_names types (length known) (map name_of (reverse (later ++ known)))) word ≡ option_or (find known word) (function_alone (find (later ++ known) word))
  unfolding AreApart find
  first_found [] known apart told = all_found (length known) known (omega arith) apart told ∙ alone_or (find known word)
  first_found (b ∷ later) known apart told = last_of (length known) b (later ++ known) ∙ (both (first_found later known apart.1 told) ∙ by (bytes_eq b.word word) refl)
    where
      none_left : length known - length (map name_of (reverse (later ++ known))) ≡ 0
      none_left =
          let size = as_long (later ++ known) in
          let sum = length-append later known in
          omega arith

      both : find (known_names types (length known) (map name_of (reverse (later ++ known)))) word ≡ option_or (find known word) (function_alone (find (later ++ known) word))
          → option_or (find (known_names types (length known) (map name_of (reverse (later ++ known)))) word) (find (if is_known (length known - length (map name_of (reverse (later ++ known)))) (declared_as b.meaning) then file_binding types (name_of b) ∷ [] else []) word)
          ≡ option_or (option_or (find known word) (function_alone (find (later ++ known) word))) (if bytes_eq b.word word then function_alone (Some b.meaning) else None)
      both rest =
          ap (λ (m : Option Meaning). option_or m (find (if is_known (length known - length (map name_of (reverse (later ++ known)))) (declared_as b.meaning) then file_binding types (name_of b) ∷ [] else []) word)) rest
          ∙ ap (λ (m : Option Meaning). option_or (option_or (find known word) (function_alone (find (later ++ known) word))) m)
          (ap (λ (k : ℕ). find (if is_known k (declared_as b.meaning) then file_binding types (name_of b) ∷ [] else []) word) none_left ∙ tail_unknown b.word b.meaning)

      by : (is : Bool) → bytes_eq b.word word ≡ is → option_or (option_or (find known word) (function_alone (find (later ++ known) word))) (if bytes_eq b.word word then function_alone (Some b.meaning) else None)
          ≡ option_or (find known word) (function_alone (find (b ∷ later ++ known) word))
      by true e =
          let none : find (later ++ known) word ≡ None = subst (λ (w : List ℕ). find (later ++ known) w ≡ None) ((bytes_eq-Decides b.word word).0 e) apart.0 in
          let first = none_behind later known word none in
          rw (e, none, first) refl
      by false e = rw e (or_none (option_or (find known word) (function_alone (find (later ++ known) word))))

-- ---- the number of a name

numbered_within : (n : ℕ) (es others : List (List ℕ × FileName)) (word : List ℕ) (k : ℕ) (name : FileName) → is_some (numbered n es word) ≡ true → numbered n (es ++ others) word ≡ Some (k, name) → k < n + length es
unfolding numbered
numbered_within n [] others word k name has is = absurd (cc)
numbered_within n (e ∷ es) others word k name has is = by (bytes_eq word e.0) refl (numbered_within (n + 1) es others word k name)
  where
    by : (b : Bool) → bytes_eq word e.0 ≡ b → (is_some (numbered (n + 1) es word) ≡ true → numbered (n + 1) (es ++ others) word ≡ Some (k, name) → k < n + 1 + length es) → k < n + length (e ∷ es)
    by true same further =
        let there : Some (n, e.1) ≡ Some (k, name) = rw same at is in
        let here : n ≡ k = (some_pair_parts n k e.1 name there).0 in
        omega (arith, here)
    by false other further =
        let rest = further (rw other at has) (rw other at is) in
        omega (arith, rest)

-- a name that is known has a number among those that are known
pub known_number : (later known : List Binding) (word : List ℕ) (m : Meaning) (k : ℕ) (name : FileName) → find known word ≡ Some m → numbered 0 (map name_of (reverse (later ++ known))) word ≡ Some (k, name) → k < length known
known_number later known word m k name there is =
    let turned = ap (map name_of) (reverse-append later known) ∙ map-append name_of (reverse known) (reverse later) in
    let has : is_some (numbered 0 (map name_of (reverse known)) word) ≡ true = has_number known word ∙ ap is_some there in
    let less = numbered_within 0 (map name_of (reverse known)) (map name_of (reverse later)) word k name has (ap (λ (es : List (List ℕ × FileName)). numbered 0 es word) (sym turned) ∙ is) in
    let size : length (map name_of (reverse known)) ≡ length known = length-map (reverse known) name_of ∙ length-reverse known in
    omega (arith, less, size)
