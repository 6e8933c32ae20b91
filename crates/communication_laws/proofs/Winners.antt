-- Which of several senders wins.
use Rattle.std.proofs.Common.{◌≡◌, ℕ, zero, suc, ◌+◌, ◌<◌, Bool, true, false, cond, Option, Some, None, ◌∙◌, sym, ap, refl, arith}
use Rattle.std.specs.Prelude.{◌||◌, is_some}
use Rattle.cstar_base.specs.declared.operators.Winner.{Winner}
use Rattle.cstar_base.specs.declared.operators.Winner.TheVariants as W
use Rattle.cstar_base.specs.Orders.{any_of, greatest_below, least_below, or_else}
use Rattle.paris_code.specs.Sending.{winner_of}

-- the same of senders that are the same
pub winner_alike : (w : Winner) (f g : ℕ → Bool) (n : ℕ) → ((k : ℕ) → k < n → f k ≡ g k) → winner_of w f n ≡ winner_of w g n
unfolding greatest_below least_below
winner_alike W.High f g zero same = refl
winner_alike W.Low f g zero same = refl
winner_alike W.High f g (suc n) same = ap (λ t. cond t (Some n) (greatest_below f n)) (same n (omega arith)) ∙ ap (λ o. cond (g n) (Some n) o) (winner_alike W.High f g n (λ k h. same k (omega arith)))
winner_alike W.Low f g (suc n) same = ap (λ t. or_else (least_below f n) (cond t (Some n) None)) (same n (omega arith)) ∙ ap (λ o. or_else o (cond (g n) (Some n) None)) (winner_alike W.Low f g n (λ k h. same k (omega arith)))

-- there is one where one sends at all
pub some_winner : (w : Winner) (f : ℕ → Bool) (n : ℕ) → is_some (winner_of w f n) ≡ any_of f 0 n
unfolding greatest_below least_below any_of
some_winner W.High f zero = refl
some_winner W.Low f zero = refl
some_winner W.High f (suc n) = by (f n) (greatest_below f n) ∙ ap (λ t. t || f n) (some_winner W.High f n) ∙ ap (λ k. any_of f 0 n || f k) (let e : n ≡ 0 + n = omega arith in e)
  where
    by : (t : Bool) (o : Option ℕ) → is_some (cond t (Some n) o) ≡ (is_some o || t)
    by true None = refl
    by true (Some k) = refl
    by false None = refl
    by false (Some k) = refl
some_winner W.Low f (suc n) = by (f n) (least_below f n) ∙ ap (λ t. t || f n) (some_winner W.Low f n) ∙ ap (λ k. any_of f 0 n || f k) (let e : n ≡ 0 + n = omega arith in e)
  where
    by : (t : Bool) (o : Option ℕ) → is_some (or_else o (cond t (Some n) None)) ≡ (is_some o || t)
    by true None = refl
    by true (Some k) = refl
    by false None = refl
    by false (Some k) = refl

-- and it is one that sends
pub winner_sends : (w : Winner) (f : ℕ → Bool) (n k : ℕ) → winner_of w f n ≡ Some k → (k < n) × (f k ≡ true)
unfolding greatest_below least_below
winner_sends W.High f zero k is = cc
winner_sends W.Low f zero k is = cc
winner_sends W.High f (suc n) k is = by (λ e. winner_sends W.High f n k e) (f n) (greatest_below f n) refl refl is
  where
    by : (greatest_below f n ≡ Some k → (k < n) × (f k ≡ true)) → (t : Bool) (o : Option ℕ) → f n ≡ t → greatest_below f n ≡ o → cond t (Some n) o ≡ Some k → (k < suc n) × (f k ≡ true)
    by earlier true o on was e = let same : n ≡ k = cc in (omega (arith, same), ap f (sym same) ∙ on)
    by earlier false o on was e = let so = earlier (was ∙ e) in (omega (arith, so.0), so.1)
winner_sends W.Low f (suc n) k is = by (λ e. winner_sends W.Low f n k e) (f n) (least_below f n) refl refl is
  where
    by : (least_below f n ≡ Some k → (k < n) × (f k ≡ true)) → (t : Bool) (o : Option ℕ) → f n ≡ t → least_below f n ≡ o → or_else o (cond t (Some n) None) ≡ Some k → (k < suc n) × (f k ≡ true)
    by earlier t (Some j) on was e = let so = earlier (was ∙ e) in (omega (arith, so.0), so.1)
    by earlier true None on was e = let same : n ≡ k = cc in (omega (arith, same), ap f (sym same) ∙ on)
    by earlier false None on was e = cc
