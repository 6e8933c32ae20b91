-- Bytes that are sent on at once.
use Rattle.std.proofs.Common.{ℕ, List, ◌++◌, length, sym, subst, Result, Ok, Err, OnErr}
use Rattle.std.proofs.Math.Seq.{take-length}
use Rattle.cstar_io.specs.Output.{Takes, TakesPrefix, TakesNothing}

-- all of the bytes, sent on or not
pub then_nothing : {S : Type 0} → (agrees : S → List ℕ → Type 0) (s t u : S) (xs : List ℕ) → Takes agrees s t xs → TakesNothing agrees t u → Takes agrees s u xs
then_nothing agrees s t u xs first nothing before is = nothing (before ++ xs) (first before is)

-- all of them are a prefix of them
pub all_of : {S : Type 0} → (agrees : S → List ℕ → Type 0) (s t u : S) (xs : List ℕ) → Takes agrees s t xs → TakesNothing agrees t u → TakesPrefix agrees s u xs
all_of agrees s t u xs first nothing =
    (length xs, λ before is. subst (λ zs. agrees u (before ++ zs)) (sym (take-length xs)) (nothing (before ++ xs) (first before is)))

-- the same where sending them on may have failed
pub all_of_if : {S A E : Type 0} → (agrees : S → List ℕ → Type 0) (s t u : S) (xs : List ℕ) (r : Result A E) → Takes agrees s t xs → TakesNothing agrees t u → OnErr r (TakesPrefix agrees s u xs)
all_of_if agrees s t u xs (Ok x) first nothing = tt
all_of_if agrees s t u xs (Err e) first nothing = all_of agrees s t u xs first nothing
