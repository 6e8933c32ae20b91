-- Laws of residues and of the numbers that they stand for.
use Rattle.std.proofs.Common.{ℕ, zero, suc, ◌≡◌, ◌<◌, ◌≤◌, ◌-◌, ◌*◌, ◌^◌, ◌%◌, Bool, true, false, ℤ, pos, negsuc, ◌+ℤ◌, ◌-ℤ◌, ◌≤ℤ◌, refl, sym, ap, inl, inr, ◌∙◌, lit<, arith}
use Rattle.std.specs.Prelude.{unsigned_abs, nat_le, ◌&&◌, if◌then◌else◌}
use Rattle.std.proofs.lemmas.Int.{ints, int_rem_euclid_is}
use Rattle.std.proofs.lemmas.Nat.{pow_pos, mod_below}
use Rattle.std.proofs.lemmas.Bool.{cases_lt}
use Rattle.std.proofs.lemmas.Bool.Decides.{nat_tests}
use Rattle.std.proofs.Math.Nat.{pow-suc, pow-le-pow_right, mod-eq_of_lt}
use Rattle.cstar_base.specs.Kinds.{is_kind}
use Rattle.cstar_base.specs.Numbers.{residue, number_of, least_of, greatest_of}

-- a number that differs from m by k times the modulus has the residue of m
pub residue_is : (bits : ℕ) (z : ℤ) (k m : ℕ) → z +ℤ pos (k * 2 ^ bits) ≡ pos m → residue bits z ≡ m % 2 ^ bits
unfolding residue
residue_is bits z k m e = ap unsigned_abs (int_rem_euclid_is z (pos (2 ^ bits)) (2 ^ bits) k m (pow_pos bits) refl e)

pub residue_of_pos : (bits n : ℕ) → residue bits (pos n) ≡ n % 2 ^ bits
unfolding residue
residue_of_pos bits n = refl

-- every residue is below the modulus
pub residue_below : (bits : ℕ) (z : ℤ) → residue bits z < 2 ^ bits
unfolding residue
residue_below bits (pos n) = mod_below n (2 ^ bits) (pow_pos bits)
residue_below bits (negsuc n) = omega (arith, pow_pos bits)

-- an element type has 1 to 32 bits
pub kind_bits : (bits : ℕ) (signed : Bool) → is_kind bits signed ≡ true → (0 < bits) × (bits ≤ 32)
kind_bits bits signed h = grind (arith, nat_tests)

-- the modulus is twice the half of the range
pub two_halves : (bits : ℕ) → 0 < bits → 2 ^ bits ≡ 2 * 2 ^ (bits - 1)
two_halves zero h = elim h [ ]
two_halves (suc k) h = let e : suc k - 1 ≡ k = omega arith in pow-suc 2 k ∙ omega (arith, ap (λ n. 2 ^ n) e)

-- in the upper half a signed residue stands for the number below 0
pub number_in_upper : (bits w : ℕ) → 2 ^ (bits - 1) ≤ w → number_of bits true w ≡ pos w -ℤ pos (2 ^ bits)
unfolding number_of
number_in_upper bits w h = grind (arith, nat_tests)

pub number_in_lower : (bits w : ℕ) → w < 2 ^ (bits - 1) → number_of bits true w ≡ pos w
unfolding number_of
number_in_lower bits w h = grind (arith, nat_tests)

pub number_unsigned : (bits w : ℕ) → number_of bits false w ≡ pos w
unfolding number_of
number_unsigned bits w = refl

-- a number has the residue that it stands for
pub residue_of_number : (bits : ℕ) (signed : Bool) (w : ℕ) → w < 2 ^ bits → residue bits (number_of bits signed w) ≡ w
residue_of_number bits false w r = ap (residue bits) (number_unsigned bits w) ∙ residue_of_pos bits w ∙ mod-eq_of_lt r
residue_of_number bits true w r =
    elim (cases_lt w (2 ^ (bits - 1))) [
      | inl below ↦ ap (residue bits) (number_in_lower bits w below) ∙ residue_of_pos bits w ∙ mod-eq_of_lt r
      | inr above ↦ ap (residue bits) (number_in_upper bits w above) ∙ residue_is bits (pos w -ℤ pos (2 ^ bits)) 1 w (omega (arith, ints)) ∙ mod-eq_of_lt r
    ]

-- every number of a type is in its range
pub number_at_least : (bits : ℕ) (signed : Bool) (w : ℕ) → 0 < bits → least_of bits signed ≤ℤ number_of bits signed w
unfolding least_of
number_at_least bits false w h = rw (number_unsigned bits w) (omega (arith, ints))
number_at_least bits true w h =
    elim (cases_lt w (2 ^ (bits - 1))) [
      | inl below ↦ rw (number_in_lower bits w below) (omega (arith, ints))
      | inr above ↦ rw (number_in_upper bits w above) (omega (arith, ints, two_halves bits h))
    ]

pub number_at_most : (bits : ℕ) (signed : Bool) (w : ℕ) → 0 < bits → w < 2 ^ bits → number_of bits signed w ≤ℤ greatest_of bits signed
unfolding greatest_of
number_at_most bits false w h r = rw (number_unsigned bits w) (omega (arith, ints))
number_at_most bits true w h r =
    elim (cases_lt w (2 ^ (bits - 1))) [
      | inl below ↦ rw (number_in_lower bits w below) (omega (arith, ints))
      | inr above ↦ rw (number_in_upper bits w above) (omega (arith, ints, pow_pos (bits - 1)))
    ]

-- the modulus of an element type is at most that of a word
pub modulus_in_word : (bits : ℕ) (signed : Bool) → is_kind bits signed ≡ true → 2 ^ bits ≤ 2 ^ 32
modulus_in_word bits signed h = pow-le-pow_right (lit< tt) (kind_bits bits signed h).1

-- the two cases of a number by the test for the upper half
pub number_if_below_zero : (bits : ℕ) (signed : Bool) (w : ℕ) → true ≡ (signed && nat_le (2 ^ (bits - 1)) w) → number_of bits signed w ≡ pos w -ℤ pos (2 ^ bits)
unfolding number_of
number_if_below_zero bits signed w h = ap (λ t. if t then pos w -ℤ pos (2 ^ bits) else pos w) (sym h)

pub number_if_not_below_zero : (bits : ℕ) (signed : Bool) (w : ℕ) → false ≡ (signed && nat_le (2 ^ (bits - 1)) w) → number_of bits signed w ≡ pos w
unfolding number_of
number_if_not_below_zero bits signed w h = ap (λ t. if t then pos w -ℤ pos (2 ^ bits) else pos w) (sym h)

-- only the residue 0 stands for 0
pub zero_number : (bits : ℕ) (signed : Bool) (w : ℕ) → w < 2 ^ bits → number_of bits signed w ≡ pos 0 → w ≡ 0
zero_number bits signed w r e = sym (residue_of_number bits signed w r) ∙ ap (residue bits) e ∙ residue_of_pos bits 0 ∙ mod-eq_of_lt (pow_pos bits)

-- a number is its residue less some times the modulus
pub number_borrow : (bits : ℕ) (signed : Bool) (w : ℕ) → (i : ℕ) × (number_of bits signed w +ℤ pos (i * 2 ^ bits) ≡ pos w)
number_borrow bits false w = (0, rw (number_unsigned bits w) (omega (arith, ints)))
number_borrow bits true w =
    elim (cases_lt w (2 ^ (bits - 1))) [
      | inl below ↦ (0, rw (number_in_lower bits w below) (omega (arith, ints)))
      | inr above ↦ (1, rw (number_in_upper bits w above) (omega (arith, ints)))
    ]
