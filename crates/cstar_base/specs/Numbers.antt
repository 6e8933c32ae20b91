-- Numbers of a type: residues, the whole numbers that they stand for, and conversions.
use Rattle.std.specs.Prelude.{ℕ, Bool, ℤ, pos, negsuc, zero, suc, neg_ℤ, unsigned_abs, ◌-ℤ◌, ◌-◌, ◌^◌, ◌==◌, ◌&&◌, nat_le, if◌then◌else◌}
use Rattle.std.specs.Int.{int_rem_euclid}
use Rattle.cstar_base.specs.declared.elem.Elem.{Elem}

-- the residue of a whole number modulo 2 ^ bits
unfoldable pub residue : ℕ → ℤ → ℕ
residue bits v = unsigned_abs (int_rem_euclid v (pos (2 ^ bits)))

-- the whole number that a residue stands for: in two's complement the upper half is negative
unfoldable pub number_of : ℕ → Bool → ℕ → ℤ
number_of bits signed w =
    if signed && nat_le (2 ^ (bits - 1)) w then pos w -ℤ pos (2 ^ bits) else pos w

-- the least and the greatest number of a type
unfoldable pub least_of : ℕ → Bool → ℤ
least_of bits signed = if signed then neg_ℤ (pos (2 ^ (bits - 1))) else pos 0

unfoldable pub greatest_of : ℕ → Bool → ℤ
greatest_of bits signed = if signed then pos (2 ^ (bits - 1) - 1) else pos (2 ^ bits - 1)

-- 0 for zero, 1 for every other number
unfoldable pub truth_of : ℤ → ℕ
truth_of (pos zero) = 0
truth_of (pos (suc _)) = 1
truth_of (negsuc _) = 1

-- a residue of one type converted to another: by its number, and to `bool` by whether that is zero
unfoldable pub converted : Elem → Elem → ℕ → ℕ
converted to from w =
    let number = number_of from.bits from.signed w in
    if to.bits == 1 then truth_of number else residue to.bits number
