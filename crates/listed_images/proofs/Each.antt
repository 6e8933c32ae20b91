-- Lists of which each item has what is said of it.
use Rattle.std.proofs.Common.{◌≡◌, ◌∙◌, ◌<◌, ◌≤◌, ◌+◌, ℕ, List, All, get_or, inl, inr, length, subst, ap, arith}
use Rattle.std.proofs.lemmas.Bool.{cases_lt}
use Rattle.std.proofs.lemmas.List.{get_or_default}

-- the first items have it
abbrev pub FirstHave : {X : Type 0} → (X → Type 0) → List X → ℕ → Type 0
FirstHave P xs i = (k : ℕ) (d : _) → k < i → k < length xs → P (get_or xs k d)

pub none_have : {X : Type 0} (P : X → Type 0) (xs : List X) → FirstHave P xs 0
none_have P xs k d below within = absurd (omega arith)

pub one_more_has : {X : Type 0} (P : X → Type 0) (xs : List X) (i : ℕ) (e : X) → FirstHave P xs i → i < length xs → P (get_or xs i e) → FirstHave P xs (i + 1)
one_more_has P xs i e have below own k d before within = elim (cases_lt k i) [
  | inl l ↦ have k d l within
  | inr g ↦ let here : i ≡ k = omega arith in
      subst P (ap (λ j. get_or xs j e) here ∙ get_or_default xs k e d within) own
]

pub all_have : {X : Type 0} (P : X → Type 0) (xs : List X) (i : ℕ) → FirstHave P xs i → length xs ≤ i → All P xs
all_have P xs i have past k d within = have k d (omega arith) within
