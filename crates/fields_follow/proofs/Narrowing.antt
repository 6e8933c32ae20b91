-- Which positions are active where the source narrows a context, and where it widens one.
use Rattle.std.proofs.Common.{◌≡◌, ◌∙◌, ℕ, ◌==◌, ◌&&◌, ◌||◌, Bool, true, false, not, sym, arith, if◌then◌else◌}
use Rattle.std.proofs.Math.Bool.{not-not}
use Rattle.std.proofs.lemmas.Bool.Decides.{nat_tests}
use Rattle.source_meaning.specs.Narrowing.{narrowed, where_nonzero, where_zero, widened as all_active}
use Rattle.source_meaning.specs.Values.{Active, Parallel, at, nonzero}

module _ (set : ℕ) (passes : ℕ → Bool) (a : Active) where
  narrowed_active : (p : ℕ) → a set p ≡ true → narrowed set passes a set p ≡ passes p
  unfolding narrowed
  narrowed_active p active = by (a set p) (passes p) active
    where
      by : (x y : Bool) → x ≡ true → (x && (if set == set then y else true)) ≡ y
      by x y e = grind (arith, nat_tests, e)

  narrowed_inactive : (p : ℕ) → a set p ≡ false → narrowed set passes a set p ≡ false
  unfolding narrowed
  narrowed_inactive p inactive = by (a set p) (passes p) inactive
    where
      by : (x y : Bool) → x ≡ false → (x && (if set == set then y else true)) ≡ false
      by x y e = grind (arith, nat_tests, e)

  narrowed_beside : (q p : ℕ) → (q ≡ set → ⊥) → narrowed set passes a q p ≡ a q p
  unfolding narrowed
  narrowed_beside q p differ = by (a q p) (passes p)
    where
      by : (x y : Bool) → (x && (if q == set then y else true)) ≡ x
      by x y = grind (arith, nat_tests, differ)

-- where a value is not zero, and where it is
abbrev pub among : ℕ → (ℕ → ℕ) → Active → Active
among set v a = where_nonzero set (Parallel v) a

abbrev pub others : ℕ → (ℕ → ℕ) → Active → Active
others set v a = where_zero set (Parallel v) a

module _ (set : ℕ) (v : ℕ → ℕ) (a : Active) where
  pub among_active : (p : ℕ) → a set p ≡ true → among set v a set p ≡ nonzero (v p)
  unfolding where_nonzero at
  among_active p active = narrowed_active set (λ q. nonzero (v q)) a p active

  pub among_inactive : (p : ℕ) → a set p ≡ false → among set v a set p ≡ false
  unfolding where_nonzero at
  among_inactive p inactive = narrowed_inactive set (λ q. nonzero (v q)) a p inactive

  pub among_beside : (q p : ℕ) → (q ≡ set → ⊥) → among set v a q p ≡ a q p
  unfolding where_nonzero at
  among_beside q p differ = narrowed_beside set (λ q. nonzero (v q)) a q p differ

  pub others_active : (p : ℕ) → a set p ≡ true → others set v a set p ≡ not (nonzero (v p))
  unfolding where_zero at
  others_active p active = narrowed_active set (λ q. v q == 0) a p active ∙ sym (not-not (v p == 0))

  pub others_inactive : (p : ℕ) → a set p ≡ false → others set v a set p ≡ false
  unfolding where_zero at
  others_inactive p inactive = narrowed_inactive set (λ q. v q == 0) a p inactive

  pub others_beside : (q p : ℕ) → (q ≡ set → ⊥) → others set v a q p ≡ a q p
  unfolding where_zero at
  others_beside q p differ = narrowed_beside set (λ q. v q == 0) a q p differ

-- where all positions of a set are active
pub widened_there : (set : ℕ) (a : Active) (p : ℕ) → all_active set a set p ≡ true
unfolding all_active
widened_there set a p = by (a set p)
  where
    by : (x : Bool) → (x || set == set) ≡ true
    by x = grind (arith, nat_tests)

pub widened_beside : (set : ℕ) (a : Active) (q p : ℕ) → (q ≡ set → ⊥) → all_active set a q p ≡ a q p
unfolding all_active
widened_beside set a q p differ = by (a q p)
  where
    by : (x : Bool) → (x || q == set) ≡ x
    by x = grind (arith, nat_tests, differ)
