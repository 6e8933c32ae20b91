-- What the call at the first index gives, before what the calls behind it give.
use Rattle.std.proofs.Common.{◌≡◌, ℕ, zero, suc, ◌+◌, ◌<◌, List, [], ◌∷◌, get_or, refl, sym, subst, arith}
use Rattle.std.specs.Fn.{FnReturns}
use Rattle.std.specs.Fork.Halves.{GivesFrom}
use denote.Param.Members.{Shared}

module _ {F R : Type 0} (g : Shared F (ℕ × Unit {0}) R) (f : F) (from : ℕ) (x : R) (said : FnReturns g f (from, tt) x) where
  pub gives_first : (behind count : ℕ) (rest all : List R) → count ≡ behind + 1 → all ≡ x ∷ rest → GivesFrom g f (from + 1) behind rest → GivesFrom g f from count all
  gives_first behind count rest all more is others = subst (GivesFrom g f from count) (sym is) (record { len = omega (arith, others.len); each = by })
    where
      by : (k : ℕ) (d : R) → k < count → FnReturns g f (from + k, tt) (get_or (x ∷ rest) k d)
      by zero d h = subst (λ (i : ℕ). FnReturns g f (i, tt) x) {x = from} (omega arith) said
      by (suc k) d h = subst (λ (i : ℕ). FnReturns g f (i, tt) (get_or rest k d)) {x = from + 1 + k} (omega arith) (others.each k d (omega (arith, more, h)))

  pub gives_only : (count : ℕ) (all : List R) → count ≡ 1 → all ≡ x ∷ [] → GivesFrom g f from count all
  gives_only count all one is = gives_first 0 count [] all one is (record { len = refl; each = λ k d h. absurd (omega (arith, h)) })
