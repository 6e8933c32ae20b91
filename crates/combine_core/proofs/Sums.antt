-- Sums over workers, over the claims that they hold, and over the numbers below a bound.
use Rattle.std.proofs.Common.{◌≡◌, ◌≢◌, ℕ, zero, suc, ◌+◌, ◌<◌, ◌≤◌, Bool, true, false, List, [], ◌∷◌, ◌++◌, length, get_or, set, sum_by, Any, option_to_list, refl, sym, ap, ◌∙◌, ⊎_elim, append_assoc, arith}
use Rattle.std.proofs.lemmas.List.Sums.{sum_by-cons, sum_by-append}
use Rattle.std.proofs.lemmas.Bool.{cases_lt, cases_eq}
use Rattle.combine_core.specs.declared.worker.Held.{Held}
use Rattle.combine_core.specs.declared.worker.Worker.{Worker}
use Rattle.combine_core.specs.Machine.{weigh, held_by, both_parts}
use Rattle.combine_core.specs.Kept.{sum_below}

pub sum_below-same : (n : ℕ) (f g : ℕ → ℕ) → ((c : ℕ) → c < n → f c ≡ g c) → sum_below n f ≡ sum_below n g
sum_below-same zero f g h = refl
sum_below-same (suc n) f g h = let r = sum_below-same n f g (λ c b. h c (omega arith)) in let here = h n (omega arith) in omega arith

pub sum_below-zero : (n : ℕ) (f : ℕ → ℕ) → ((c : ℕ) → c < n → f c ≡ 0) → sum_below n f ≡ 0
sum_below-zero zero f h = refl
sum_below-zero (suc n) f h = let r = sum_below-zero n f (λ c b. h c (omega arith)) in let here = h n (omega arith) in omega arith

pub sum_below-ones : (n : ℕ) → sum_below n (λ c. 1) ≡ n
sum_below-ones zero = refl
sum_below-ones (suc n) = let r = sum_below-ones n in omega arith

-- two functions that differ at c alone
pub sum_below-change : (n c : ℕ) (f g : ℕ → ℕ) → c < n → ((j : ℕ) → j ≢ c → f j ≡ g j) → sum_below n f + g c ≡ sum_below n g + f c
sum_below-change zero c f g h same = absurd (omega arith)
sum_below-change (suc n) c f g h same =
    ⊎_elim
    (λ (e : n ≡ c).
    let r = sum_below-same n f g (λ j b. same j (λ x. omega arith)) in
    let p : f n ≡ f c = ap f e in
    let q : g n ≡ g c = ap g e in
    omega arith)
    (λ (ne : n ≡ c → ⊥). let r = sum_below-change n c f g (omega arith) same in let here = same n ne in omega arith)
    (cases_eq n c)

pub sum_below-one : (n c : ℕ) (f : ℕ → ℕ) → c < n → ((j : ℕ) → j ≢ c → f j ≡ 0) → sum_below n f ≡ f c
sum_below-one n c f h zeros = let r = sum_below-change n c f (λ _. 0) h zeros in let z = sum_below-zero n (λ _. 0) (λ _ _. refl) in omega arith

module _ {X : Type 0} where
  pub sum_by-mono : (f g : X → ℕ) (xs : List X) → ((x : X) → f x ≤ g x) → sum_by f xs ≤ sum_by g xs
  sum_by-mono f g [] h = omega arith
  sum_by-mono f g (x ∷ xs) h = let r = sum_by-mono f g xs h in let here = h x in omega (arith, sum_by-cons f x xs, sum_by-cons g x xs)

  pub sum_by-same : (f g : X → ℕ) (xs : List X) → ((x : X) → f x ≡ g x) → sum_by f xs ≡ sum_by g xs
  sum_by-same f g [] h = refl
  sum_by-same f g (x ∷ xs) h = let r = sum_by-same f g xs h in let here = h x in omega (arith, sum_by-cons f x xs, sum_by-cons g x xs)

  -- a sum that is not 0 has a part that is not 0
  pub some_part : (f : X → ℕ) (xs : List X) → 0 < sum_by f xs → Any (λ x. 0 < f x) xs
  some_part f [] h = absurd (omega arith)
  some_part f (x ∷ xs) h =
      ⊎_elim
      (λ (z : 0 < f x). (0, x, omega arith, refl, z))
      (λ (z : f x ≤ 0).
      let r = some_part f xs (omega (arith, sum_by-cons f x xs)) in
      let b : r.0 < length xs = r.2 in
      (suc r.0, r.1, omega arith, r.3, r.4))
      (cases_lt 0 (f x))

  -- what holds of the elements, and of what stands past the end, after a change
  pub each_set : (P : X → Type 0) (xs : List X) (i : ℕ) (y d : X) → P y → ((j : ℕ) → P (get_or xs j d)) → (j : ℕ) → P (get_or (set xs i y) j d)
  each_set P [] i y d here h j = h j
  each_set P (x ∷ xs) zero y d here h zero = here
  each_set P (x ∷ xs) zero y d here h (suc j) = h (suc j)
  each_set P (x ∷ xs) (suc i) y d here h zero = h zero
  each_set P (x ∷ xs) (suc i) y d here h (suc j) = each_set P xs i y d here (λ k. h (suc k)) j

  pub each_push : (P : X → Type 0) (xs : List X) (y d : X) → P y → ((j : ℕ) → P (get_or xs j d)) → (j : ℕ) → P (get_or (xs ++ y ∷ []) j d)
  each_push P [] y d here h zero = here
  each_push P [] y d here h (suc j) = h (suc j)
  each_push P (x ∷ xs) y d here h zero = h zero
  each_push P (x ∷ xs) y d here h (suc j) = each_push P xs y d here (λ k. h (suc k)) j

  pub get_or-past : (xs : List X) (i : ℕ) (d : X) → length xs ≤ i → get_or xs i d ≡ d
  get_or-past [] i d h = refl
  get_or-past (x ∷ xs) zero d h = absurd (omega arith)
  get_or-past (x ∷ xs) (suc i) d h = get_or-past xs i d (omega arith)

-- 0 where a test passes, and else 1
abbrev pub unless : Bool → ℕ
unless true = 0
unless false = 1

pub unless_zero : (b : Bool) → unless b ≡ 0 → b ≡ true
unless_zero true e = refl
unless_zero false e = absurd (omega arith)

pub weigh-both : (g : ℕ → ℕ → ℕ) (v u : Worker) → weigh g (both_parts v u) ≡ weigh g v + weigh g u
weigh-both g v u =
    let f : Held → ℕ = λ h. g h.claim h.passed in
    ap (sum_by f) (sym (append_assoc (option_to_list v.last) v.others (held_by u))) ∙ sum_by-append f (held_by v) (held_by u)
