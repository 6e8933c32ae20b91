-- A fold in parts.
use Rattle.std.proofs.Common.{◌≡◌, ℕ, zero, suc, ◌+◌, ◌^◌, ◌<◌, ◌≤◌, Bool, true, false, cond, refl, sym, ◌∙◌, ap, arith}
use Rattle.cstar_base.specs.declared.operators.Combiner.TheVariants as C
use Rattle.cstar_base.specs.Folds.{fold_once, identity_of}
use Rattle.cstar_base.proofs.NumberLaws.{residue_below}
use Rattle.cstar_base.proofs.FoldLaws.{identity_first, fold_once_comm, fold_once_below, fold_once_assoc}
use Rattle.paris_code.specs.declared.operands.Reduction.{Reduction}
use Rattle.paris_code.specs.declared.operands.Reduction.TheVariants as R
use Rattle.paris_code.specs.Operators.{combiner_of}
use Rattle.cstar_base.specs.Orders.{fold_below}

-- one part after another
pub fold_on : (step : ℕ → ℕ → ℕ) (f : ℕ → Bool) (x : ℕ → ℕ) (start m n : ℕ) → fold_below step f x start (m + n) ≡ fold_below step (λ k. f (m + k)) (λ k. x (m + k)) (fold_below step f x start m) n
unfolding fold_below
fold_on step f x start m zero = ap (fold_below step f x start) (let e : m + 0 ≡ m = omega arith in e)
fold_on step f x start m (suc n) =
    ap (fold_below step f x start) (let e : m + suc n ≡ suc (m + n) = omega arith in e)
    ∙ ap (λ t. cond (f (m + n)) (step t (x (m + n))) t) (fold_on step f x start m n)

-- what does not pass adds nothing
pub fold_past : (step : ℕ → ℕ → ℕ) (f : ℕ → Bool) (x : ℕ → ℕ) (start m n : ℕ) → ((k : ℕ) → m ≤ k → k < m + n → f k ≡ false) → fold_below step f x start (m + n) ≡ fold_below step f x start m
unfolding fold_below
fold_past step f x start m zero off = ap (fold_below step f x start) (let e : m + 0 ≡ m = omega arith in e)
fold_past step f x start m (suc n) off =
    ap (fold_below step f x start) (let e : m + suc n ≡ suc (m + n) = omega arith in e)
    ∙ ap (λ t. cond t (step (fold_below step f x start (m + n)) (x (m + n))) (fold_below step f x start (m + n))) (off (m + n) (omega arith) (omega arith))
    ∙ fold_past step f x start m n (λ k b h. off k b (omega arith))

pub not_last : (r : Reduction) → (combiner_of r).0 ≡ C.Last → ⊥
not_last R.SAdd e = cc
not_last R.Logand e = cc
not_last R.Logior e = cc
not_last R.Logxor e = cc
not_last R.SMin e = cc
not_last R.UMin e = cc
not_last R.SMax e = cc
not_last R.UMax e = cc

abbrev pub once : Reduction → ℕ → ℕ → ℕ
once r a v = fold_once (combiner_of r).0 (combiner_of r).1 a v

abbrev pub none : Reduction → ℕ
none r = identity_of (combiner_of r).0 (combiner_of r).1

pub none_below : (r : Reduction) → none r < 2 ^ 32
unfolding identity_of
none_below R.SAdd = omega arith
none_below R.Logand = omega arith
none_below R.Logior = omega arith
none_below R.Logxor = omega arith
none_below R.SMin = residue_below 32 _
none_below R.UMin = residue_below 32 _
none_below R.SMax = residue_below 32 _
none_below R.UMax = residue_below 32 _

module _ (r : Reduction) where
  pub none_last : (a : ℕ) → a < 2 ^ 32 → once r a (none r) ≡ a
  none_last a b = fold_once_comm (combiner_of r).0 (combiner_of r).1 a (identity_of (combiner_of r).0 (combiner_of r).1) (not_last r) ∙ identity_first (combiner_of r).0 (combiner_of r).1 a b

  choose_below : (t : Bool) (a v : ℕ) → a < 2 ^ 32 → v < 2 ^ 32 → cond t (once r a v) a < 2 ^ 32
  choose_below true a v p q = fold_once_below (combiner_of r).0 (combiner_of r).1 a v p q
  choose_below false a v p q = p

  pub fold_fits : (f : ℕ → Bool) (x : ℕ → ℕ) (a n : ℕ) → a < 2 ^ 32 → ((k : ℕ) → x k < 2 ^ 32) → fold_below (once r) f x a n < 2 ^ 32
  unfolding fold_below
  fold_fits f x a zero p fits = p
  fold_fits f x a (suc n) p fits = choose_below (f n) (fold_below (once r) f x a n) (x n) (fold_fits f x a n p fits) (fits n)

  grouped : (t : Bool) (a s v : ℕ) → a < 2 ^ 32 → s < 2 ^ 32 → v < 2 ^ 32 → cond t (once r (once r a s) v) (once r a s) ≡ once r a (cond t (once r s v) s)
  grouped true a s v p q h = fold_once_assoc (combiner_of r).0 (combiner_of r).1 a s v p q h
  grouped false a s v p q h = refl

  -- a fold that begins with a number is the number folded with the fold from the identity
  pub fold_from : (f : ℕ → Bool) (x : ℕ → ℕ) (a n : ℕ) → a < 2 ^ 32 → ((k : ℕ) → x k < 2 ^ 32) → fold_below (once r) f x a n ≡ once r a (fold_below (once r) f x (none r) n)
  unfolding fold_below
  fold_from f x a zero p fits = sym (none_last a p)
  fold_from f x a (suc n) p fits =
      ap (λ t. cond (f n) (once r t (x n)) t) (fold_from f x a n p fits)
      ∙ grouped (f n) a (fold_below (once r) f x (none r) n) (x n) p (fold_fits f x (none r) n (none_below r) fits) (fits n)

-- the next part of a fold, by the fold of that part alone
pub next_part : (r : Reduction) (f : ℕ → Bool) (x : ℕ → ℕ) (m n : ℕ) → ((k : ℕ) → x k < 2 ^ 32)
    → once r (fold_below (once r) f x (none r) m) (fold_below (once r) (λ k. f (m + k)) (λ k. x (m + k)) (none r) n) ≡ fold_below (once r) f x (none r) (m + n)
next_part r f x m n fits =
    sym (fold_from r (λ k. f (m + k)) (λ k. x (m + k)) (fold_below (once r) f x (none r) m) n (fold_fits r f x (none r) m (none_below r) fits) (λ k. fits (m + k)))
    ∙ sym (fold_on (once r) f x (none r) m n)
