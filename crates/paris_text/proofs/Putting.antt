-- Texts that are put one behind the other.
use Rattle.std.proofs.Common.{◌≡◌, ℕ, List, ◌++◌, map, flat_map, sym, subst, ◌∙◌, Result, Ok, Err}
use Rattle.cstar_io.specs.Output.{Takes, TakesPrefix}
use Rattle.cstar_io.specs.Faults.{RisesBy}
use Rattle.cstar_io.proofs.Taking.{takes_then, prefix_then, prefix_of_first}
use Rattle.paris_code.specs.Listing.{numbered, spaced}
use Rattle.paris_text.specs.Puts.{Puts}
use Rattle.paris_text.proofs.Numbered.{numbered_words}

-- a text was put, and a call behind it failed in the next one, somewhere in the whole
pub failed_in : {S : Type 0} (agrees : S → List ℕ → Type 0) (faults : S → ℕ) (s t u : S) (whole xs ys zs : List ℕ) → whole ≡ (xs ++ ys) ++ zs → Takes agrees s t xs × (faults t ≡ faults s) → TakesPrefix agrees t u ys × RisesBy (faults t) (faults u) → TakesPrefix agrees s u whole × RisesBy (faults s) (faults u)
failed_in agrees faults s t u whole xs ys zs is first second = (
  subst (λ (bytes : List ℕ). TakesPrefix agrees s u bytes) (sym is)
      (prefix_of_first agrees s u (xs ++ ys) zs (prefix_then agrees s t u xs ys first.0 second.0)),
  subst (λ (n : ℕ). RisesBy n (faults u)) first.1 second.1,
)

-- one text was put, and then another
pub put_both : {S : Type 0} (agrees : S → List ℕ → Type 0) (faults : S → ℕ) (s t u : S) (xs ys : List ℕ) → Takes agrees s t xs × (faults t ≡ faults s) → Takes agrees t u ys × (faults u ≡ faults t) → Takes agrees s u (xs ++ ys) × (faults u ≡ faults s)
put_both agrees faults s t u xs ys first second =
    (takes_then agrees s t u xs ys first.0 second.0, second.1 ∙ first.1)

-- one text was put, and the call of the other answers for both
pub put_then : {S A E : Type 0} (agrees : S → List ℕ → Type 0) (faults : S → ℕ) (s t u : S) (r : Result A E) (xs ys : List ℕ) → Takes agrees s t xs × (faults t ≡ faults s) → Puts agrees faults t u r ys → Puts agrees faults s u r (xs ++ ys)
put_then agrees faults s t u (Ok x) xs ys first second = put_both agrees faults s t u xs ys first second
put_then agrees faults s t u (Err e) xs ys first second = (
  prefix_then agrees s t u xs ys first.0 second.0,
  subst (λ (n : ℕ). RisesBy n (faults u)) first.1 second.1,
)

-- the first of two texts failed
pub first_failed : {S : Type 0} (agrees : S → List ℕ → Type 0) (faults : S → ℕ) (s t : S) (xs ys : List ℕ) → TakesPrefix agrees s t xs × RisesBy (faults s) (faults t) → TakesPrefix agrees s t (xs ++ ys) × RisesBy (faults s) (faults t)
first_failed agrees faults s t xs ys failed = (prefix_of_first agrees s t xs ys failed.0, failed.1)

-- what was put for words, each behind a space
pub put_words : {S A B E : Type 0} (agrees : S → List ℕ → Type 0) (faults : S → ℕ) (s t : S) (r : Result B E) (f : A → List ℕ) (xs : List A) → Puts agrees faults s t r (numbered (λ n x. spaced (f x)) 0 xs) → Puts agrees faults s t r (flat_map spaced (map f xs))
put_words agrees faults s t r f xs put =
    subst (λ (text : List ℕ). Puts agrees faults s t r text) (numbered_words f 0 xs) put

-- two texts that make a whole
pub put_whole : {S A E : Type 0} (agrees : S → List ℕ → Type 0) (faults : S → ℕ) (s t u : S) (r : Result A E) (whole xs ys : List ℕ) → xs ++ ys ≡ whole → Takes agrees s t xs × (faults t ≡ faults s) → Puts agrees faults t u r ys → Puts agrees faults s u r whole
put_whole agrees faults s t u r whole xs ys e first second =
    subst (λ (text : List ℕ). Puts agrees faults s u r text) e (put_then agrees faults s t u r xs ys first second)

-- the first of two texts that make a whole failed
pub failed_whole : {S : Type 0} (agrees : S → List ℕ → Type 0) (faults : S → ℕ) (s t : S) (whole xs ys : List ℕ) → xs ++ ys ≡ whole → TakesPrefix agrees s t xs × RisesBy (faults s) (faults t) → TakesPrefix agrees s t whole × RisesBy (faults s) (faults t)
failed_whole agrees faults s t whole xs ys e failed =
    subst (λ (text : List ℕ). TakesPrefix agrees s t text × RisesBy (faults s) (faults t)) e (first_failed agrees faults s t xs ys failed)
