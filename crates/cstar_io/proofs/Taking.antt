-- How what a sink takes in a row of calls adds up.
use Rattle.std.proofs.Common.{ℕ, ◌+◌, List, [], ◌++◌, length, take, min, sym, ◌∙◌, subst, refl, append_assoc, arith, Result, Ok, Err, OnErr, Option, Some, None}
use Rattle.std.specs.Prelude.{⊤}
use Rattle.std.proofs.Math.Seq.{take-append-add}
use Rattle.std.proofs.lemmas.List.{append-nil, take_min, take-append-le}
use Rattle.cstar_io.specs.Input.{Took}
use Rattle.cstar_io.specs.Output.{Takes, TakesPrefix, TakesNothing}

-- these bytes, and then those
pub takes_then : {S : Type 0} → (agrees : S → List ℕ → Type 0) (s t u : S) (xs ys : List ℕ) → Takes agrees s t xs → Takes agrees t u ys → Takes agrees s u (xs ++ ys)
takes_then agrees s t u xs ys first second before is =
    subst (agrees u) (append_assoc before xs ys) (second (before ++ xs) (first before is))

-- nothing of any bytes
pub prefix_of_none : {S : Type 0} → (agrees : S → List ℕ → Type 0) (s t : S) (ys : List ℕ) → TakesNothing agrees s t → TakesPrefix agrees s t ys
prefix_of_none agrees s t ys nothing =
    (0, λ before is. subst (agrees t) (sym (append-nil before)) (nothing before is))

-- these bytes, and then a prefix of those
pub prefix_then : {S : Type 0} → (agrees : S → List ℕ → Type 0) (s t u : S) (xs ys : List ℕ) → Takes agrees s t xs → TakesPrefix agrees t u ys → TakesPrefix agrees s u (xs ++ ys)
prefix_then agrees s t u xs ys first (count, second) =
    (length xs + count, λ before is. subst (λ zs. agrees u (before ++ zs)) (sym (take-append-add xs ys count)) (takes_then agrees s t u xs (take count ys) first second before is))

-- the same where the second call failed
pub prefix_then_if : {S A E : Type 0} → (agrees : S → List ℕ → Type 0) (s t u : S) (xs ys : List ℕ) (r : Result A E) → Takes agrees s t xs → OnErr r (TakesPrefix agrees t u ys) → OnErr r (TakesPrefix agrees s u (xs ++ ys))
prefix_then_if agrees s t u xs ys (Ok x) first second = second
prefix_then_if agrees s t u xs ys (Err e) first second = prefix_then agrees s t u xs ys first second

-- a prefix of these bytes is one of these and those
pub prefix_of_first : {S : Type 0} → (agrees : S → List ℕ → Type 0) (s t : S) (xs ys : List ℕ) → TakesPrefix agrees s t xs → TakesPrefix agrees s t (xs ++ ys)
prefix_of_first agrees s t xs ys (count, first) = (
  min count (length xs),
  λ before is. subst (λ zs. agrees t (before ++ zs))
      (sym (take-append-le (min count (length xs)) xs ys (omega (arith)) ∙ take_min count xs))
      (first before is),
)

-- a sink that agrees with every list takes a prefix of any bytes
pub prefix_of_any : {S A E : Type 0} → (r : Result A E) (s t : S) (xs : List ℕ) → OnErr r (TakesPrefix (λ _ _. ⊤) s t xs)
prefix_of_any (Ok x) s t xs = tt
prefix_of_any (Err e) s t xs = (0, λ before is. tt)

-- or none
pub took_none : (a : Option (List ℕ)) → Took a [] a
took_none None = refl
took_none (Some rest) = refl
