-- Coordinates that are moved round the ends of their axis, as the source and the machine reckon them.
use Rattle.std.proofs.Common.{◌≡◌, ◌∙◌, ℕ, ◌+◌, ◌-◌, ◌%◌, ◌<◌, ◌≤◌, ◌^◌, ℤ, pos, negsuc, ◌+ℤ◌, Bool, true, false, ◌||◌, ◌==◌, Some, None, refl, ap, inl, inr, ◌⊎◌, if◌then◌else◌, arith}
use Rattle.std.specs.Prelude.{nat_le, unsigned_abs}
use Rattle.std.specs.Int.{int_rem_euclid}
use Rattle.std.proofs.lemmas.Bool.{cases_lt}
use Rattle.std.proofs.lemmas.Bool.Decides.{nat_tests}
use Rattle.std.proofs.lemmas.Nat.{mod_below}
use Rattle.std.proofs.Math.Nat.{mod-eq_of_lt}
use Rattle.communication_laws.specs.Steps.{IsStep}
use Rattle.communication_laws.proofs.Steps.{sums_with_steps}
use Rattle.cstar_base.specs.Numbers.{number_of, residue}
use Rattle.cstar_base.specs.Operators.{floor_rem, modulus_of, operand}
use Rattle.cstar_base.proofs.NumberLaws.{number_in_lower, number_unsigned}
use Rattle.code_follows.proofs.Standing.{some_same}
use Rattle.lower_comm.specs.News.{near, negated}
use Rattle.source_meaning.specs.Gets.{is_within}
use Rattle.vp_sets.specs.Positions.{moved}

-- the number of a step is few, or the negative of few
pub near_is : (k m : ℕ) → near k ≡ Some m → k < 2 ^ 32 → (k ≡ m) × IsStep k
unfolding near negated
near_is k m is few = by (nat_le k (2 ^ 20)) (nat_le ((2 ^ 32 - k) % 2 ^ 32) (2 ^ 20)) refl refl is
  where
    by : (a b : Bool) → nat_le k (2 ^ 20) ≡ a → nat_le ((2 ^ 32 - k) % 2 ^ 32) (2 ^ 20) ≡ b → (if a || b then Some k else None) ≡ Some m → (k ≡ m) × IsStep k
    by true b low any h = (some_same k m h, (few, inl (grind (arith, nat_tests, low))))
    by false true low high h = (some_same k m h, (few, inr (let negative : (2 ^ 32 - k) % 2 ^ 32 ≤ 2 ^ 20 = grind (arith, nat_tests, high) in let above : 2 ^ 20 < k = grind (arith, nat_tests, low) in omega (arith, negative, above, few))))
    by false false low high h = cc

pub turned_step : (k : ℕ) → IsStep k → IsStep (negated k)
unfolding negated
turned_step k (few, inl low) = (omega arith, by (cases_lt 0 k))
  where
    by : (0 < k) ⊎ (k ≤ 0) → ((2 ^ 32 - k) % 2 ^ 32 ≤ 2 ^ 20) ⊎ (2 ^ 32 ≤ (2 ^ 32 - k) % 2 ^ 32 + 2 ^ 20)
    by (inl some) = inr (omega (arith, some, low))
    by (inr none) = inl (omega (arith, none))
turned_step k (few, inr high) = (omega arith, inl (omega (arith, few, high)))

-- the remainder of a whole number is a word
wrapped_within : (z : ℤ) (extent : ℕ) → 0 < extent → unsigned_abs (int_rem_euclid z (pos extent)) < extent
wrapped_within (pos n) extent some = mod_below n extent some
wrapped_within (negsuc n) extent some = omega (arith, some)

remainder_is : (z : ℤ) (extent : ℕ) → 0 < extent → extent ≤ 2 ^ 20 → residue 32 (int_rem_euclid z (pos extent)) ≡ unsigned_abs (int_rem_euclid z (pos extent))
unfolding residue
remainder_is (pos n) extent some few = mod-eq_of_lt (let low = mod_below n extent some in omega (arith, low, few))
remainder_is (negsuc n) extent some few = mod-eq_of_lt (omega (arith, some, few))

-- so the remainder by the extent is the coordinate moved round the ends
pub wrapped_word : (extent own k : ℕ) → 0 < extent → extent ≤ 2 ^ 20 → own < extent → IsStep k → modulus_of 32 false ((own + k) % 2 ^ 32) extent ≡ moved extent own (number_of 32 true k)
unfolding modulus_of moved operand floor_rem
wrapped_word extent own k some few below step =
    let divisor : (extent == 0) ≡ false = grind (arith, nat_tests, some) in
    ap (λ (b : Bool). if b then 0 else residue 32 (floor_rem (number_of 32 true ((own + k) % 2 ^ 32)) (number_of 32 true extent))) divisor
    ∙ ap (λ (z : ℤ). residue 32 (floor_rem (number_of 32 true ((own + k) % 2 ^ 32)) z)) (number_in_lower 32 extent (omega (arith, few)))
    ∙ ap (λ (z : ℤ). residue 32 (int_rem_euclid z (pos extent))) (sums_with_steps own k (omega (arith, below, few)) step)
    ∙ remainder_is (pos own +ℤ number_of 32 true k) extent some few

pub moved_within : (extent own : ℕ) (k : ℤ) → 0 < extent → moved extent own k < extent
unfolding moved
moved_within extent own k some = wrapped_within (pos own +ℤ k) extent some

-- no step at all
pub still_there : (extent own : ℕ) → own < extent → moved extent own (number_of 32 true 0) ≡ own
unfolding moved
still_there extent own below = ap (λ (z : ℤ). unsigned_abs (int_rem_euclid (pos own +ℤ z) (pos extent))) (number_in_lower 32 0 (omega arith)) ∙ ap (λ (n : ℕ). n % extent) (omega arith) ∙ mod-eq_of_lt below

-- a coordinate within its extent, as an index
pub index_number : (signed : Bool) (w : ℕ) → w < 2 ^ 20 → number_of 32 signed w ≡ pos w
index_number true w few = number_in_lower 32 w (omega (arith, few))
index_number false w few = number_unsigned 32 w

pub within_extent : (extent c : ℕ) → c < extent → is_within extent (pos c) ≡ true
unfolding is_within
within_extent extent c below = grind (arith, nat_tests, below)
