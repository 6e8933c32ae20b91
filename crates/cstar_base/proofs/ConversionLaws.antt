-- Laws of conversions.
use Rattle.std.proofs.Common.{ℕ, zero, suc, ◌≡◌, ◌<◌, ◌-◌, ◌^◌, true, false, not, ℤ, pos, negsuc, refl, sym, ap, arith}
use Rattle.std.specs.Prelude.{◌==◌, if◌then◌else◌, FitsSigned}
use Rattle.std.specs.Int.{w64, cast_unsigned, from_bool}
use Rattle.std.proofs.lemmas.Bool.Decides.{nat_tests}
use Rattle.cstar_base.specs.Numbers.{residue, number_of, truth_of, converted}
use Rattle.cstar_base.specs.declared.elem.Elem.{Elem}

same_test : (m n : ℕ) → m ≡ n → (m == n) ≡ true
same_test m n h = grind (arith, nat_tests)

zero_test : (n : ℕ) → 0 < n → (n == 0) ≡ false
zero_test n h = grind (arith, nat_tests)

-- a conversion to `bool` tells whether the number is zero
pub converted_to_bool : (to from : Elem) (w : ℕ) → to.bits ≡ 1 → converted to from w ≡ truth_of (number_of from.bits from.signed w)
unfolding converted
converted_to_bool to from w h =
    ap (λ t. if t then truth_of (number_of from.bits from.signed w) else residue to.bits (number_of from.bits from.signed w)) (same_test to.bits 1 h)

-- whether a number is zero is seen from its 64 bits
pub truth_of_bits : (z : ℤ) → FitsSigned w64 z → truth_of z ≡ from_bool (not (cast_unsigned w64 z == 0))
unfolding truth_of
truth_of_bits (pos zero) f = refl
truth_of_bits (pos (suc n)) f = ap (λ t. from_bool (not t)) (sym (zero_test (suc n) (omega arith)))
truth_of_bits (negsuc n) f = ap (λ t. from_bool (not t)) (sym (zero_test (2 ^ 64 - suc n) (omega (arith, f.sfits))))
