-- Laws of the operators.
use Rattle.std.proofs.Common.{ℕ, ◌≡◌, ◌<◌, ◌≤◌, ◌+◌, ◌-◌, ◌*◌, ◌^◌, ◌%◌, Bool, true, false, not, ℤ, pos, negsuc, neg_ℤ, ◌+ℤ◌, ◌-ℤ◌, ◌*ℤ◌, ◌<ℤ◌, refl, sym, ap, inl, inr, ◌∙◌, lit<, arith}
use Rattle.std.specs.Int.{int_rem_euclid, int_wrap, w32, cast_signed, cast_unsigned}
use Rattle.std.proofs.lemmas.Int.{ints, of_z-to_z, wrapping_mul-bits}
use Rattle.std.proofs.lemmas.Nat.{mod_below}
use Rattle.std.proofs.Math.Nat.{add-mul-mod_self_right}
use Rattle.std.proofs.lemmas.Bool.{cases_lt}
use Rattle.std.proofs.lemmas.Bool.Decides.{nat_tests}
use Rattle.cstar_base.specs.Numbers.{residue, number_of}
use Rattle.cstar_base.specs.Operators.{operand, sum_of, difference_of, product_of, floor_rem}
use Rattle.cstar_base.proofs.NumberLaws.{residue_below, number_in_lower, number_in_upper, number_unsigned, residue_of_pos, residue_is, number_borrow}

upper_word : (w : ℕ) → 2 ^ 31 ≤ w → w < 2 ^ 32 → pos w -ℤ pos (2 ^ 32) ≡ cast_signed w32 w
upper_word w h r = grind (arith, ints, nat_tests)

-- a signed word is read as the toolchain reads 32 bits
signed_word : (w : ℕ) → w < 2 ^ 32 → number_of 32 true w ≡ cast_signed w32 w
signed_word w h =
    elim (cases_lt w (2 ^ 31)) [
      | inl below ↦ number_in_lower 32 w below ∙ omega (arith, ints)
      | inr above ↦ number_in_upper 32 w above ∙ upper_word w above h
    ]

-- the 32 bits that the toolchain wraps a number to are its residue
wrapped_word : (z : ℤ) → cast_unsigned w32 (int_wrap w32 z) ≡ residue 32 z
unfolding int_wrap residue
wrapped_word z = of_z-to_z w32 (residue 32 z) (residue_below 32 z)

product_of_signed : (a b : ℕ) → a < 2 ^ 32 → b < 2 ^ 32 → residue 32 (number_of 32 true a *ℤ number_of 32 true b) ≡ (a * b) % 2 ^ 32
product_of_signed a b p q =
    rw (signed_word a p, signed_word b q)
    (sym (wrapped_word (cast_signed w32 a *ℤ cast_signed w32 b))
    ∙ sym (ap (cast_unsigned w32) (wrapping_mul-bits w32 a b p q))
    ∙ of_z-to_z w32 (a * b % 2 ^ 32) (mod_below (a * b) (2 ^ 32) (lit< tt)))

-- the product of words does not depend on their sign
pub product_by_residues : (unsigned : Bool) (a b : ℕ) → a < 2 ^ 32 → b < 2 ^ 32 → product_of 32 unsigned a b ≡ (a * b) % 2 ^ 32
unfolding product_of operand
product_by_residues true a b p q = ap (residue 32) (pos_product a b) ∙ residue_of_pos 32 (a * b)
  where
    pos_product : (a b : ℕ) → number_of 32 false a *ℤ number_of 32 false b ≡ pos (a * b)
    pos_product a b = rw (number_unsigned 32 a, number_unsigned 32 b)
product_by_residues false a b p q = product_of_signed a b p q

-- by a divisor below 0 the remainder is that of the opposite numbers, turned
pub floor_rem_negative : (x y : ℤ) → y <ℤ pos 0 → floor_rem x y ≡ neg_ℤ (int_rem_euclid (neg_ℤ x) (neg_ℤ y))
unfolding floor_rem
floor_rem_negative x (pos d) h = absurd (omega (arith, ints))
floor_rem_negative x (negsuc d) h = refl

-- sums and differences do not depend on the sign, at any width
pub sum_by_residues : (bits : ℕ) (unsigned : Bool) (a b : ℕ) → sum_of bits unsigned a b ≡ (a + b) % 2 ^ bits
unfolding sum_of operand
sum_by_residues bits unsigned a b =
    let x : (i : ℕ) × (number_of bits (not unsigned) a +ℤ pos (i * 2 ^ bits) ≡ pos a) = number_borrow bits (not unsigned) a in
    let y : (i : ℕ) × (number_of bits (not unsigned) b +ℤ pos (i * 2 ^ bits) ≡ pos b) = number_borrow bits (not unsigned) b in
    residue_is bits (number_of bits (not unsigned) a +ℤ number_of bits (not unsigned) b) (x.0 + y.0) (a + b) (omega (arith, ints, x.1, y.1))

pub difference_by_residues : (bits : ℕ) (unsigned : Bool) (a b : ℕ) → b ≤ 2 ^ bits → difference_of bits unsigned a b ≡ (a + (2 ^ bits - b)) % 2 ^ bits
unfolding difference_of operand
difference_by_residues bits unsigned a b r =
    let x : (i : ℕ) × (number_of bits (not unsigned) a +ℤ pos (i * 2 ^ bits) ≡ pos a) = number_borrow bits (not unsigned) a in
    let y : (i : ℕ) × (number_of bits (not unsigned) b +ℤ pos (i * 2 ^ bits) ≡ pos b) = number_borrow bits (not unsigned) b in
    residue_is bits (number_of bits (not unsigned) a -ℤ number_of bits (not unsigned) b) (x.0 + 1) (a + (2 ^ bits - b) + y.0 * 2 ^ bits) (omega (arith, ints, x.1, y.1))
    ∙ add-mul-mod_self_right (a + (2 ^ bits - b)) y.0 (2 ^ bits)
