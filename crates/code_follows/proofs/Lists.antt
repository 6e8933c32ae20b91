-- What holds of all of a list.
use Rattle.std.proofs.Common.{ℕ, suc, ◌<◌, List, ◌∷◌, length, arith}
use Rattle.std.specs.List.{All}

-- what holds of all holds of those behind the first
pub all_rest : {A : Type 0} (P : A → Type 0) (x : A) (xs : List A) → All P (x ∷ xs) → All P xs
all_rest P x xs all k other within = all (suc k) other (later k (length xs) within)
  where
    later : (k n : ℕ) → k < n → suc k < suc n
    later k n h = omega (arith, h)

pub all_first : {A : Type 0} (P : A → Type 0) (x : A) (xs : List A) → All P (x ∷ xs) → P x
all_first P x xs all = all 0 x (omega arith)
