-- Products of numbers that rows hold.
use Rattle.std.proofs.Common.{◌≡◌, ℕ, ◌+◌, ◌-◌, ◌*◌, ◌%◌, ◌^◌, ◌≤◌, ◌∙◌, ap, arith}
use Rattle.std.proofs.Math.Pow.{mod-mod-pow}
use Rattle.std.proofs.lemmas.Nat.{mul-mod}
use Rattle.lane_kernels.specs.Numbers.{product_of}

-- a number of 32 bits cut to fewer
pub cut_again : (x n : ℕ) → n ≤ 32 → x % 2 ^ 32 % 2 ^ n ≡ x % 2 ^ n
cut_again x n h = ap (λ m. x % 2 ^ m % 2 ^ n) (let e : 32 ≡ 32 - n + n = omega arith in e) ∙ mod-mod-pow x (32 - n) n

-- the product of two numbers of 32 bits, cut to n, is that of their lowest n
pub product_cut : (p q x y n : ℕ) → n ≤ 32 → p % 2 ^ n ≡ x → q % 2 ^ n ≡ y → p * q % 2 ^ 32 % 2 ^ n ≡ product_of n x y
product_cut p q x y n h px qy = cut_again (p * q) n h ∙ mul-mod p q (2 ^ n) ∙ ap (λ m. m * (q % 2 ^ n) % 2 ^ n) px ∙ ap (λ m. x * m % 2 ^ n) qy
