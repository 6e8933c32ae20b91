-- Lists no two of whose things have the same key.
use Rattle.std.proofs.Common.{◌≡◌, ℕ, zero, suc, List, [], ◌∷◌, slice_get, Some, refl, sym, ap, ◌∙◌}
use Rattle.std.specs.List.{All}
use Rattle.std.proofs.lemmas.Option.{none-some, same_Some}
use Rattle.code_lengths.proofs.Declaring.{all_at}

module _ {A B : Type 0} (key : A → B) where
  abbrev pub AreApart : List A → Type 0
  AreApart xs = (j k : ℕ) (a b : A) → slice_get xs j ≡ Some a → slice_get xs k ≡ Some b → key a ≡ key b → j ≡ k

  abbrev pub IsOther : A → A → Type 0
  IsOther x y = key x ≡ key y → ⊥

  pub none_apart : AreApart []
  none_apart j k a b at_j at_k same = elim (none-some a at_j) [ ]

  pub one_apart : (x : A) (rest : List A) → All (IsOther x) rest → AreApart rest → AreApart (x ∷ rest)
  one_apart x rest other apart zero zero a b at_j at_k same = refl
  one_apart x rest other apart zero (suc k) a b at_j at_k same = elim (all_at (IsOther x) rest k b other at_k (ap key (same_Some x a at_j) ∙ same)) [ ]
  one_apart x rest other apart (suc j) zero a b at_j at_k same = elim (all_at (IsOther x) rest j a other at_j (ap key (same_Some x b at_k) ∙ sym same)) [ ]
  one_apart x rest other apart (suc j) (suc k) a b at_j at_k same = ap suc (apart j k a b at_j at_k same)
