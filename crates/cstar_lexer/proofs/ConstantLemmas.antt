-- The value of digits, one more at a time.
use Rattle.std.proofs.Common.{◌≡◌, ℕ, ◌+◌, ◌*◌, ◌<◌, ◌≤◌, ◌^◌, true, false, List, length, take, get_or, arith, refl}
use Rattle.std.specs.Prelude.{min, nat_le}
use Rattle.std.proofs.Math.Nat.{mul-le-mul_left}
use Rattle.std.proofs.lemmas.Bool.Decides.{nat_tests}
use Rattle.std.proofs.lemmas.List.Sums.{fold_more}
use Rattle.cstar_lexer.specs.Constants.{digit_of, value_of, with_digit}

pub value_more : (radix i : ℕ) (rest : List ℕ) → i < length rest → value_of radix (take (i + 1) rest) ≡ value_of radix (take i rest) * radix + digit_of (get_or rest i 0)
unfolding value_of
value_more radix i rest h = fold_more (with_digit radix) 0 rest i 0 h

scaled : (v w r : ℕ) → 0 < r → w ≤ v → w ≤ v * r
scaled v w r some h = let one : v * 1 ≤ v * r = mul-le-mul_left v (omega arith) in omega (arith, one)

-- a value that is cut off at 2 ^ 32 goes on as one that is not
pub capped_more : (v r d x y : ℕ) → 0 < r → x ≡ min (2 ^ 32) v → y ≡ min (x * r + d) (2 ^ 32) → y ≡ min (2 ^ 32) (v * r + d)
capped_more v r d x y some is y_is = elim (nat_le (2 ^ 32) v) as (λ b. nat_le (2 ^ 32) v ≡ b → y ≡ min (2 ^ 32) (v * r + d)) [
  | true ↦ λ h. let above : 2 ^ 32 ≤ v = grind (arith, nat_tests, h) in
      let x_is : x ≡ 2 ^ 32 = omega arith in
      let far : 2 ^ 32 ≤ x * r = scaled x (2 ^ 32) r some (omega arith) in
      let too : 2 ^ 32 ≤ v * r = scaled v (2 ^ 32) r some above in omega arith
  | false ↦ λ h. let below : v < 2 ^ 32 = grind (arith, nat_tests, h) in
      let x_is : x ≡ v = omega arith in rw y_is (rw x_is (omega arith))
] refl
