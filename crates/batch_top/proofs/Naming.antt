-- Names by their places, and the words of a batch.
use Rattle.std.proofs.Common.{◌≡◌, ◌≢◌, ◌<◌, ◌≤◌, ◌∙◌, ℕ, zero, suc, Bool, true, false, ◌&&◌, ◌==◌, nat_le, IfNone, IfSome, List, [], ◌∷◌, Option, Some, None, is_some, length, get_or, map, ap, arith, refl, sym, true≢false}
use Rattle.std.proofs.lemmas.Bool.{le-leb}
use Rattle.std.proofs.lemmas.List.{length-map}
use Rattle.std.specs.List.{list_all}
use Rattle.batch_top.specs.Words.{are_names, callers_in, is_batch, is_name}

-- what an element says stands at its place
pub said_at : {X : Type 0} → (f : X → List ℕ) (xs : List X) (place : ℕ) (x : X) → place < length xs → x ≡ get_or xs place x → get_or (map f xs) place [] ≡ f x
said_at f [] place x inside is = absurd (omega (arith, inside))
said_at f (y ∷ ys) zero x inside is = ap f (sym is)
said_at f (y ∷ ys) (suc place) x inside is = said_at f ys place x (omega (arith, inside)) is

-- an element stands at its place, whatever else would be there
pub here_at : (xs : List (List ℕ)) (place : ℕ) (x : List ℕ) → place < length xs → x ≡ get_or xs place x → get_or xs place [] ≡ x
here_at [] place x inside is = absurd (omega (arith, inside))
here_at (y ∷ ys) zero x inside is = sym is
here_at (y ∷ ys) (suc place) x inside is = here_at ys place x (omega (arith, inside)) is

-- a test of what each element says
pub all_say : {X : Type 0} → (f : X → List ℕ) (test : List ℕ → Bool) (xs : List X) → list_all (λ x. test (f x)) xs ≡ list_all test (map f xs)
all_say f test [] = refl
all_say f test (x ∷ xs) = ap (λ rest. test (f x) && rest) (all_say f test xs)

-- no words are no batch
pub no_words : (words : List (List ℕ)) → words ≡ [] → is_batch words ≡ false
unfolding is_batch
no_words words none = rw none refl

-- nor are words without a number of callers
pub no_callers : (words : List (List ℕ)) (callers : List ℕ) (names : List (List ℕ)) → words ≡ callers ∷ names → callers_in callers ≡ None → is_batch words ≡ false
unfolding is_batch
no_callers words callers names is none = rw (is, none) refl

-- nor without names
pub no_names : (words : List (List ℕ)) (callers : List ℕ) (names : List (List ℕ)) → words ≡ callers ∷ names → are_names names ≡ false → is_batch words ≡ false
unfolding is_batch
no_names words callers names is none = ap is_batch is ∙ either (is_some (callers_in callers)) (are_names names) none
  where
    either : (a b : Bool) → b ≡ false → (a && b) ≡ false
    either true b is_not = is_not
    either false b is_not = refl

-- words with both are a batch
pub batch : (words : List (List ℕ)) (callers : List ℕ) (names : List (List ℕ)) (count : ℕ) → words ≡ callers ∷ names → callers_in callers ≡ Some count → are_names names ≡ true → is_batch words ≡ true
unfolding is_batch
batch words callers names count is counted named = ap is_batch is ∙ both (is_some (callers_in callers)) (are_names names) (ap is_some counted) named
  where
    both : (a b : Bool) → a ≡ true → b ≡ true → (a && b) ≡ true
    both a b first second = rw (first, second) refl

-- the three tests of names
pub names_tested : {X : Type 0} → (f : X → List ℕ) (xs : List X) (each : Bool) → length xs ≢ 0 → length xs ≤ 256 → each ≡ list_all (λ x. is_name (f x)) xs → each ≡ are_names (map f xs)
names_tested f xs each some few is = tested (nat_le 1 (length (map f xs))) (nat_le (length (map f xs)) 256) (le-leb 1 _ (omega (arith, length-map xs f))) (le-leb _ 256 (omega (arith, length-map xs f)))
  where
    tested : (a b : Bool) → a ≡ true → b ≡ true → each ≡ (a && (b && list_all is_name (map f xs)))
    tested a b first second = rw (first, second) (is ∙ all_say f is_name xs)

-- there is a name
pub not_empty : (count : ℕ) (empty : Bool) → empty ≡ (count == 0) → empty ≡ false → count ≢ 0
not_empty count empty tested is = λ zero. true≢false (sym (ap (λ (n : ℕ). n == 0) zero) ∙ sym tested ∙ is)

-- from one fact on an answer another
pub none_then : {A P Q : Type 0} → (o : Option A) → (P → Q) → IfNone o P → IfNone o Q
none_then (Some x) then is = tt
none_then None then is = then is

pub some_then : {A P Q : Type 0} → (o : Option A) → (P → Q) → IfSome o (λ _. P) → IfSome o (λ _. Q)
some_then (Some x) then is = then is
some_then None then is = tt

-- no words say nothing
pub none_of : {X : Type 0} → (f : X → List ℕ) (xs : List X) → length xs ≡ 0 → map f xs ≡ []
none_of f [] none = refl
none_of f (x ∷ xs) none = absurd (omega (arith, none))
