-- How what a writer takes in a row of writes adds up, where it tells its bytes.
use Rattle.std.proofs.Common.{ℕ, List, ◌++◌, take, drop, Option, Some, None, ◌∙◌, ap, subst, append_assoc}
use Rattle.std.proofs.lemmas.List.{take-append-drop}
use Rattle.std.specs.Io.KnownBytes.{Appends}

-- these bytes, and then those
pub appends_then : (a b c : Option (List ℕ)) (xs ys : List ℕ) → Appends a b xs → Appends b c ys → Appends a c (xs ++ ys)
appends_then None b c xs ys first second = first
appends_then (Some p) None c xs ys first second = absurd first
appends_then (Some p) (Some q) None xs ys first second = absurd second
appends_then (Some p) (Some q) (Some r) xs ys first second =
    second ∙ ap (λ zs. zs ++ ys) first ∙ append_assoc p xs ys

-- the first of these bytes, and then the rest
pub appends_rest : (a b c : Option (List ℕ)) (n : ℕ) (xs : List ℕ) → Appends a b (take n xs) → Appends b c (drop n xs) → Appends a c xs
appends_rest a b c n xs first second =
    subst (λ zs. Appends a c zs) (take-append-drop n xs) (appends_then a b c (take n xs) (drop n xs) first second)
