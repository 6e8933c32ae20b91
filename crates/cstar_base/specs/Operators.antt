-- The binary operators, at a width in bits, on residues read as signed or unsigned numbers.
use Rattle.std.specs.Prelude.{ℕ, Bool, true, false, ℤ, pos, negsuc, suc, neg_ℤ, ◌+ℤ◌, ◌-ℤ◌, ◌*ℤ◌, ◌-◌, ◌*◌, ◌^◌, ◌%◌, ◌==◌, ◌&&◌, not, nat_lt, if◌then◌else◌, int_lt, int_le, int_div, int_rem, bit_and, bit_or, bit_xor, Option, Some, None}
use Rattle.std.specs.Int.{int_min, int_max, int_rem_euclid, int_shr, is_negative, from_bool}
use Rattle.cstar_base.specs.Numbers.{residue, number_of}
use Rattle.cstar_base.specs.declared.operators.Op.{Op}
use Rattle.cstar_base.specs.declared.operators.Op.TheVariants.{Add, Sub, Mul, Div, Rem, Mod, And, Or, Xor, Min, Max, Shl, Shr, Eq, Ne, Lt, Le, Gt, Ge}

-- the whole number that an operand stands for
unfoldable pub operand : ℕ → Bool → ℕ → ℤ
operand bits unsigned w = number_of bits (not unsigned) w

-- sum, difference and product
unfoldable pub sum_of : ℕ → Bool → ℕ → ℕ → ℕ
sum_of bits unsigned a b = residue bits (operand bits unsigned a +ℤ operand bits unsigned b)

unfoldable pub difference_of : ℕ → Bool → ℕ → ℕ → ℕ
difference_of bits unsigned a b = residue bits (operand bits unsigned a -ℤ operand bits unsigned b)

unfoldable pub product_of : ℕ → Bool → ℕ → ℕ → ℕ
product_of bits unsigned a b = residue bits (operand bits unsigned a *ℤ operand bits unsigned b)

-- the remainder that has the sign of the divisor, or is 0
unfoldable pub floor_rem : ℤ → ℤ → ℤ
floor_rem x (pos d) = int_rem_euclid x (pos d)
floor_rem x (negsuc d) = neg_ℤ (int_rem_euclid (neg_ℤ x) (pos (suc d)))

-- the quotient towards zero, its remainder, and the remainder with the divisor's sign; 0 for the divisor 0
unfoldable pub quotient_of : ℕ → Bool → ℕ → ℕ → ℕ
quotient_of bits unsigned a b =
    if b == 0 then 0 else residue bits (int_div (operand bits unsigned a) (operand bits unsigned b))

unfoldable pub remainder_of : ℕ → Bool → ℕ → ℕ → ℕ
remainder_of bits unsigned a b =
    if b == 0 then 0 else residue bits (int_rem (operand bits unsigned a) (operand bits unsigned b))

unfoldable pub modulus_of : ℕ → Bool → ℕ → ℕ → ℕ
modulus_of bits unsigned a b =
    if b == 0 then 0 else residue bits (floor_rem (operand bits unsigned a) (operand bits unsigned b))

-- the lesser and the greater of two numbers
unfoldable pub lesser_of : ℕ → Bool → ℕ → ℕ → ℕ
lesser_of bits unsigned a b = residue bits (int_min (operand bits unsigned a) (operand bits unsigned b))

unfoldable pub greater_of : ℕ → Bool → ℕ → ℕ → ℕ
greater_of bits unsigned a b = residue bits (int_max (operand bits unsigned a) (operand bits unsigned b))

-- shifts: the amount is unsigned, and from the width on nothing is left but the sign
unfoldable pub shifted_left : ℕ → ℕ → ℕ → ℕ
shifted_left bits a b = if nat_lt b bits then (a * 2 ^ b) % 2 ^ bits else 0

unfoldable pub shifted_right : ℕ → Bool → ℕ → ℕ → ℕ
shifted_right bits unsigned a b =
    if nat_lt b bits then residue bits (int_shr (operand bits unsigned a) b)
    else (if is_negative (operand bits unsigned a) then 2 ^ bits - 1 else 0)

-- is the first operand below the second, is it at most the second
unfoldable pub is_below : ℕ → Bool → ℕ → ℕ → Bool
is_below bits unsigned a b = int_lt (operand bits unsigned a) (operand bits unsigned b)

unfoldable pub is_at_most : ℕ → Bool → ℕ → ℕ → Bool
is_at_most bits unsigned a b = int_le (operand bits unsigned a) (operand bits unsigned b)

-- what an operator gives at a width
unfoldable pub outcome : Op → ℕ → Bool → ℕ → ℕ → ℕ
outcome Add bits unsigned a b = sum_of bits unsigned a b
outcome Sub bits unsigned a b = difference_of bits unsigned a b
outcome Mul bits unsigned a b = product_of bits unsigned a b
outcome Div bits unsigned a b = quotient_of bits unsigned a b
outcome Rem bits unsigned a b = remainder_of bits unsigned a b
outcome Mod bits unsigned a b = modulus_of bits unsigned a b
outcome And bits unsigned a b = bit_and a b
outcome Or bits unsigned a b = bit_or a b
outcome Xor bits unsigned a b = bit_xor a b
outcome Min bits unsigned a b = lesser_of bits unsigned a b
outcome Max bits unsigned a b = greater_of bits unsigned a b
outcome Shl bits unsigned a b = shifted_left bits a b
outcome Shr bits unsigned a b = shifted_right bits unsigned a b
outcome Eq bits unsigned a b = from_bool (a == b)
outcome Ne bits unsigned a b = from_bool (not (a == b))
outcome Lt bits unsigned a b = from_bool (is_below bits unsigned a b)
outcome Le bits unsigned a b = from_bool (is_at_most bits unsigned a b)
outcome Gt bits unsigned a b = from_bool (is_below bits unsigned b a)
outcome Ge bits unsigned a b = from_bool (is_at_most bits unsigned b a)

-- the operators that have no result at the divisor 0
unfoldable pub divides : Op → Bool
divides Div = true
divides Rem = true
divides Mod = true
divides _ = false

-- an operation of the language, at 32 bits: none for a division by 0
unfoldable pub operate : Op → Bool → ℕ → ℕ → Option ℕ
operate o unsigned a b = if divides o && b == 0 then None else Some (outcome o 32 unsigned a b)
