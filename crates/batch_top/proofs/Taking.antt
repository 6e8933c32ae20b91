-- What an output took in two calls.
use Rattle.std.proofs.Common.{ℕ, List, ◌++◌, length, sym, subst, Result, Ok, Err, OnOk}
use Rattle.std.proofs.Math.Seq.{take-length}
use Rattle.cstar_io.specs.Output.{Takes, TakesNothing, TakesPrefix}
use Rattle.cstar_io.proofs.Taking.{takes_then}

-- all of the bytes, and then nothing
pub then_nothing : {S : Type 0} → (agrees : S → List ℕ → Type 0) (s t u : S) (xs : List ℕ) → Takes agrees s t xs → TakesNothing agrees t u → Takes agrees s u xs
then_nothing agrees s t u xs first nothing before is = nothing (before ++ xs) (first before is)

-- the first of the bytes, and then nothing
pub part_then_nothing : {S : Type 0} → (agrees : S → List ℕ → Type 0) (s t u : S) (xs : List ℕ) → TakesPrefix agrees s t xs → TakesNothing agrees t u → TakesPrefix agrees s u xs
part_then_nothing agrees s t u xs (count, first) nothing = (count, λ before is. nothing _ (first before is))

-- all of them are a prefix of them
pub all_of : {S : Type 0} → (agrees : S → List ℕ → Type 0) (s t : S) (xs : List ℕ) → Takes agrees s t xs → TakesPrefix agrees s t xs
all_of agrees s t xs first = (length xs, λ before is. subst (λ (zs : List ℕ). agrees t (before ++ zs)) (sym (take-length xs)) (first before is))

-- these bytes, and then those, where the second call went well
pub takes_then_if : {S A E : Type 0} → (agrees : S → List ℕ → Type 0) (s t u : S) (xs ys : List ℕ) (r : Result A E) → Takes agrees s t xs → OnOk r (Takes agrees t u ys) → OnOk r (Takes agrees s u (xs ++ ys))
takes_then_if agrees s t u xs ys (Ok x) first second = takes_then agrees s t u xs ys first second
takes_then_if agrees s t u xs ys (Err e) first second = tt
