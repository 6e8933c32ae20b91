-- Folds and tests over numbers in order.
use Rattle.std.proofs.Common.{◌≡◌, ℕ, zero, suc, ◌+◌, ◌-◌, ◌<◌, ◌^◌, Bool, true, false, ◌∙◌, sym, ap, refl, arith}
use Rattle.std.specs.Prelude.{◌||◌, if◌then◌else◌}
use Rattle.cstar_base.specs.Orders.{fold_below, any_of}

-- tests of as many numbers, of which each gives what that of the other gives
pub any_alike : (f g : ℕ → Bool) (a b n : ℕ) → ((i : ℕ) → i < n → f (a + i) ≡ g (b + i)) → any_of f a n ≡ any_of g b n
unfolding any_of
any_alike f g a b zero same = refl
any_alike f g a b (suc n) same = ap (λ t. t || f (a + n)) (any_alike f g a b n (λ i h. same i (omega arith))) ∙ ap (λ t. any_of g b n || t) (same n (omega arith))

any_first : (f : ℕ → Bool) (a n : ℕ) → any_of f a (suc n) ≡ (f a || any_of f (a + 1) n)
unfolding any_of
any_first f a zero = ap f (let e : a + 0 ≡ a = omega arith in e) ∙ alone (f a)
  where
    alone : (t : Bool) → t ≡ (t || false)
    alone true = refl
    alone false = refl
any_first f a (suc n) = ap (λ t. t || f (a + suc n)) (any_first f a n) ∙ grouped (f a) (any_of f (a + 1) n) (f (a + suc n)) ∙ ap (λ j. f a || (any_of f (a + 1) n || f j)) (let e : a + suc n ≡ a + 1 + n = omega arith in e)
  where
    grouped : (x y z : Bool) → ((x || y) || z) ≡ (x || (y || z))
    grouped true y z = refl
    grouped false y z = refl

either : (x y : Bool) → (x || y) ≡ (y || x)
either true true = refl
either true false = refl
either false true = refl
either false false = refl

-- or in the opposite order
pub any_turned : (f g : ℕ → Bool) (a b n : ℕ) → ((i : ℕ) → i < n → f (a + i) ≡ g (b + (n - 1 - i))) → any_of f a n ≡ any_of g b n
unfolding any_of
any_turned f g a b zero same = refl
any_turned f g a b (suc n) same =
    ap (λ t. t || f (a + n)) (any_turned f g a (b + 1) n (λ i h. same i (omega arith) ∙ ap g (let e : b + (suc n - 1 - i) ≡ b + 1 + (n - 1 - i) = omega arith in e)))
    ∙ ap (λ t. any_of g (b + 1) n || t) (same n (omega arith) ∙ ap g (let e : b + (suc n - 1 - n) ≡ b = omega arith in e))
    ∙ either (any_of g (b + 1) n) (g b) ∙ sym (any_first g b n)

-- folds are the same whose numbers pass together, and whose steps with one that passes are the same
pub fold_alike : (one other : ℕ → ℕ → ℕ) (f g : ℕ → Bool) (x y : ℕ → ℕ) (a b n : ℕ) → a ≡ b → ((k : ℕ) → k < n → f k ≡ g k) → ((i k : ℕ) → k < n → g k ≡ true → one i (x k) ≡ other i (y k))
    → fold_below one f x a n ≡ fold_below other g y b n
unfolding fold_below
fold_alike one other f g x y a b zero start passes steps = start
fold_alike one other f g x y a b (suc n) start passes steps =
    stepped (f n) (g n) (fold_below one f x a n) (fold_below other g y b n) (passes n (omega arith))
    (fold_alike one other f g x y a b n start (λ k h. passes k (omega arith)) (λ i k h. steps i k (omega arith))) (λ i. steps i n (omega arith))
  where
    stepped : (s t : Bool) (c d : ℕ) → s ≡ t → c ≡ d → ((i : ℕ) → t ≡ true → one i (x n) ≡ other i (y n)) → (if s then one c (x n) else c) ≡ (if t then other d (y n) else d)
    stepped true true c d e so step = ap (λ i. one i (x n)) so ∙ step d refl
    stepped false false c d e so step = so
    stepped true false c d e so step = cc
    stepped false true c d e so step = cc

-- a fold of words is a word
pub fold_few : (step : ℕ → ℕ → ℕ) (f : ℕ → Bool) (x : ℕ → ℕ) (a n : ℕ) → a < 2 ^ 32 → ((i k : ℕ) → k < n → f k ≡ true → i < 2 ^ 32 → step i (x k) < 2 ^ 32) → fold_below step f x a n < 2 ^ 32
unfolding fold_below
fold_few step f x a zero few steps = few
fold_few step f x a (suc n) few steps = by (f n) refl (fold_few step f x a n few (λ i k h. steps i k (omega (arith, h))))
  where
    by : (t : Bool) → f n ≡ t → fold_below step f x a n < 2 ^ 32 → (if t then step (fold_below step f x a n) (x n) else fold_below step f x a n) < 2 ^ 32
    by true on small = steps (fold_below step f x a n) n (omega arith) on small
    by false on small = small
