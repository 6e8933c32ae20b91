-- Products, quotients and remainders by a power of 2 that is above 0 as a signed number.
use Rattle.std.proofs.Common.{◌≡◌, ℕ, suc, ◌+◌, ◌-◌, ◌*◌, ◌/◌, ◌%◌, ◌^◌, ◌<◌, ◌≤◌, true, false, cond, eqb, nat_eq, ℤ, pos, negsuc, neg_ℤ, ◌*ℤ◌, bit_and, sym, ◌∙◌, ap, inl, inr, arith, add-mul}
use Rattle.std.specs.Prelude.{int_div, int_rem}
use Rattle.std.specs.Int.{bit_at}
use Rattle.std.proofs.lemmas.Int.{ints}
use Rattle.std.proofs.lemmas.Nat.{pow_pos, pow-add, mod_below, and_mask}
use Rattle.std.proofs.lemmas.Nat.Bits.{bit_at_above}
use Rattle.std.proofs.lemmas.Bool.{cases_lt, cases_eq, eq-eqb, ne_eqb}
use Rattle.std.proofs.Math.Nat.{mod-eq_of_lt, div-eq_of_lt, div-add-mod, add-mul-mod_self_right, mul_comm, mul-add, mul-add-div}
use Rattle.std.proofs.Math.Pow.{pow-lt}
use Rattle.cstar_base.specs.Numbers.{residue, number_of}
use Rattle.cstar_base.specs.Operators.{operand, product_of, quotient_of, remainder_of, modulus_of, floor_rem}
use Rattle.cstar_base.proofs.NumberLaws.{residue_is, residue_of_pos, number_unsigned, number_in_lower}
use Rattle.lane_kernels.specs.Numbers as N
use Rattle.lane_kernels.proofs.Arithmetic.{mod-next}
use Rattle.elementwise.proofs.Moves.{less_one, extended_low, extended_high, shifted_high}
use Rattle.elementwise.proofs.Orders.{upper}

-- it is below half the modulus
below_half : (n k : ℕ) → k + 1 < n → 2 ^ k < 2 ^ (n - 1)
below_half n k h = pow-lt (let e : k < n - 1 = omega (arith, h) in e)

below_whole : (n k : ℕ) → k + 1 < n → 2 ^ k < 2 ^ n
below_whole n k h = pow-lt (let e : k < n = omega (arith, h) in e)

power_number : (n k : ℕ) → k + 1 < n → number_of n true (2 ^ k) ≡ pos (2 ^ k)
power_number n k h = number_in_lower n (2 ^ k) (below_half n k h)

divisor : (k : ℕ) (x : ℕ) → cond (eqb (2 ^ k) 0) 0 x ≡ x
divisor k x = ap (λ t. cond t 0 x) (ne_eqb (2 ^ k) 0 (λ e. omega (arith, e, pow_pos k)))

-- products are shifts
pub product_is : (n k x : ℕ) → k + 1 < n → x < 2 ^ n → N.shifted_left n k x ≡ product_of n false x (2 ^ k)
unfolding product_of operand
product_is n k x h b =
    sym (ap (λ z. residue n (number_of n true x *ℤ z)) (power_number n k h) ∙ elim (cases_lt x (2 ^ (n - 1))) [
      | inl low ↦ ap (λ z. residue n (z *ℤ pos (2 ^ k))) (number_in_lower n x low) ∙ residue_of_pos n (x * 2 ^ k)
      | inr high ↦
          let lack : ℕ = 2 ^ n - 1 - x in
          let parts : suc lack * 2 ^ k + x * 2 ^ k ≡ 2 ^ k * 2 ^ n = sym (add-mul (suc lack) x (2 ^ k)) ∙ ap (λ m. m * 2 ^ k) (let e : suc lack + x ≡ 2 ^ n = omega (arith, b) in e) ∙ mul_comm (2 ^ n) (2 ^ k) in
          ap (λ z. residue n (z *ℤ pos (2 ^ k))) (upper n x b high)
          ∙ residue_is n (neg_ℤ (pos (suc lack * 2 ^ k))) (2 ^ k) (x * 2 ^ k) (omega (arith, ints, parts))
    ])

-- unsigned quotients are shifts, and remainders are the lowest bits
pub unsigned_quotient : (n k x : ℕ) → N.shifted_right true n k x ≡ quotient_of n true x (2 ^ k)
unfolding quotient_of operand
unsigned_quotient n k x =
    sym (divisor k _ ∙ ap (λ z. residue n (int_div z (number_of n false (2 ^ k)))) (number_unsigned n x) ∙ ap (λ z. residue n (int_div (pos x) z)) (number_unsigned n (2 ^ k)) ∙ residue_of_pos n (x / 2 ^ k))

small_rest : (n k x : ℕ) → k + 1 < n → x % 2 ^ k < 2 ^ n
small_rest n k x h = omega (arith, mod_below x (2 ^ k) (pow_pos k), below_whole n k h)

pub unsigned_remainder : (n k x : ℕ) → k + 1 < n → x % 2 ^ k ≡ remainder_of n true x (2 ^ k)
unfolding remainder_of operand
unsigned_remainder n k x h =
    sym (divisor k _ ∙ ap (λ z. residue n (int_rem z (number_of n false (2 ^ k)))) (number_unsigned n x) ∙ ap (λ z. residue n (int_rem (pos x) z)) (number_unsigned n (2 ^ k)) ∙ residue_of_pos n (x % 2 ^ k)
    ∙ mod-eq_of_lt (small_rest n k x h))

-- the lowest bits of a number of the upper half are those of what it lacks, turned
low_bits : (n k x : ℕ) → k + 1 < n → x < 2 ^ n → 2 ^ k - 1 - (2 ^ n - 1 - x) % 2 ^ k ≡ x % 2 ^ k
low_bits n k x h b =
    let s : ℕ = 2 ^ k in
    let lack : ℕ = 2 ^ n - 1 - x in
    let q : ℕ = lack / s in
    let r : ℕ = lack % s in
    let m : ℕ = 2 ^ (n - k) in
    let positive : 0 < s = pow_pos k in
    let rest : r < s = mod_below lack s positive in
    let whole : m * s ≡ 2 ^ n = sym (pow-add 2 (n - k) k) ∙ ap (λ w. 2 ^ w) (let e : n - k + k ≡ n = omega (arith, h) in e) in
    let parts : q * s + r ≡ lack = (let e : q * s + r ≡ s * q + r = ap (λ t. t + r) (mul_comm q s) in e ∙ div-add-mod lack s) in
    let few : q < m = elim (cases_lt q m) [
      | inl l ↦ l
      | inr g ↦
          let more : m * s + (q - m) * s ≡ q * s = sym (add-mul m (q - m) s) ∙ ap (λ t. t * s) (let e : m + (q - m) ≡ q = omega (arith, g) in e) in
          absurd (omega (arith, more, whole, parts, b))
    ] in
    let cut : (m - 1 - q) * s + (q * s + s) ≡ m * s =
    (let e : (m - 1 - q) * s + (q * s + s) ≡ (m - 1 - q) * s + (q * s + 1 * s) = omega arith in e)
    ∙ ap (λ t. (m - 1 - q) * s + t) (sym (add-mul q 1 s)) ∙ sym (add-mul (m - 1 - q) (q + 1) s) ∙ ap (λ t. t * s) (let e : m - 1 - q + (q + 1) ≡ m = omega (arith, few) in e) in
    sym (ap (λ t. t % s) (let e : x ≡ s - 1 - r + (m - 1 - q) * s = omega (arith, cut, whole, parts, rest, b) in e)
    ∙ add-mul-mod_self_right (s - 1 - r) (m - 1 - q) s ∙ mod-eq_of_lt (omega (arith, positive)))

pub modulus_is : (n k x : ℕ) → k + 1 < n → x < 2 ^ n → x % 2 ^ k ≡ modulus_of n false x (2 ^ k)
unfolding modulus_of floor_rem operand
modulus_is n k x h b =
    sym (divisor k _ ∙ ap (λ z. residue n (floor_rem (number_of n true x) z)) (power_number n k h) ∙ elim (cases_lt x (2 ^ (n - 1))) [
      | inl low ↦ ap (λ z. residue n (floor_rem z (pos (2 ^ k)))) (number_in_lower n x low) ∙ residue_of_pos n (x % 2 ^ k) ∙ mod-eq_of_lt (small_rest n k x h)
      | inr high ↦ ap (λ z. residue n (floor_rem z (pos (2 ^ k)))) (upper n x b high) ∙ residue_of_pos n (2 ^ k - 1 - (2 ^ n - 1 - x) % 2 ^ k)
          ∙ ap (λ t. t % 2 ^ n) (low_bits n k x h b) ∙ mod-eq_of_lt (small_rest n k x h)
    ])

pub mask_is : (n k x : ℕ) → k + 1 < n → bit_and x ((2 ^ k - 1) % 2 ^ n) ≡ x % 2 ^ k
mask_is n k x h = ap (bit_and x) (mod-eq_of_lt (omega (arith, below_whole n k h))) ∙ and_mask x k

-- the sign
pub below_zero : (n x : ℕ) → 1 ≤ n → bit_at x (n - 1) ≡ 1 → 2 ^ (n - 1) ≤ x
below_zero n x l one = elim (cases_lt x (2 ^ (n - 1))) [
  | inl low ↦ absurd (omega (arith, one, bit_at_above x (n - 1) (n - 1) low (omega arith)))
  | inr high ↦ high
]

pub not_below_zero : (n x : ℕ) → 1 ≤ n → x < 2 ^ n → bit_at x (n - 1) ≡ 0 → x < 2 ^ (n - 1)
not_below_zero n x l b none =
    let e : x ≡ 0 * 2 ^ (n - 1) + x % 2 ^ (n - 1) =
    sym (mod-eq_of_lt b) ∙ ap (λ m. x % 2 ^ m) (let e : n ≡ n - 1 + 1 = omega (arith, l) in e) ∙ mod-next x (n - 1) ∙ ap (λ t. t * 2 ^ (n - 1) + x % 2 ^ (n - 1)) none in
    omega (arith, e, mod_below x (2 ^ (n - 1)) (pow_pos (n - 1)))

-- a number that is not below 0 is shifted
quotient : (n k : ℕ) (z : ℤ) (x : ℕ) → k + 1 < n → number_of n true x ≡ z → quotient_of n false x (2 ^ k) ≡ residue n (int_div z (pos (2 ^ k)))
unfolding quotient_of operand
quotient n k z x h e = divisor k _ ∙ ap (λ y. residue n (int_div (number_of n true x) y)) (power_number n k h) ∙ ap (λ y. residue n (int_div y (pos (2 ^ k)))) e

pub divided_low : (n k x : ℕ) → k + 1 < n → x < 2 ^ (n - 1) → N.shifted_right false n k x ≡ quotient_of n false x (2 ^ k)
divided_low n k x h low = ap (λ m. m / 2 ^ k % 2 ^ n) (extended_low n (n + k) x low) ∙ sym (quotient n k (pos x) x h (number_in_lower n x low) ∙ residue_of_pos n (x / 2 ^ k))

opposite_residue : (n q : ℕ) → q ≤ 2 ^ n → residue n (neg_ℤ (pos q)) ≡ (2 ^ n - q) % 2 ^ n
opposite_residue n q h = residue_is n (neg_ℤ (pos q)) 1 (2 ^ n - q) (omega (arith, ints, h))

-- one more than a number, divided
one_more_divided : (x s : ℕ) → 0 < s → (x + 1) / s + cond (nat_eq (s - 1 - x % s) 0) 0 1 ≡ x / s + 1
one_more_divided x s positive =
    let q : ℕ = x / s in
    let parts : s * q + x % s ≡ x = div-add-mod x s in
    let rest : x % s < s = mod_below x s positive in
    elim (cases_eq (s - 1 - x % s) 0) [
      | inl none ↦
          ap (λ m. m / s + cond (nat_eq (s - 1 - x % s) 0) 0 1) (let e : x + 1 ≡ s * (q + 1) + 0 = omega (arith, parts, rest, none, mul-add s q 1) in e)
          ∙ ap (λ m. m + cond (nat_eq (s - 1 - x % s) 0) 0 1) (mul-add-div positive (q + 1) 0 ∙ ap (λ m. q + 1 + m) (div-eq_of_lt positive))
          ∙ ap (λ t. q + 1 + 0 + cond t 0 1) (eq-eqb (s - 1 - x % s) 0 none) ∙ omega arith
      | inr some ↦
          ap (λ m. m / s + cond (nat_eq (s - 1 - x % s) 0) 0 1) (let e : x + 1 ≡ s * q + (x % s + 1) = omega (arith, parts) in e)
          ∙ ap (λ m. m + cond (nat_eq (s - 1 - x % s) 0) 0 1) (mul-add-div positive q (x % s + 1) ∙ ap (λ m. q + m) (div-eq_of_lt (let e : x % s + 1 < s = omega (arith, rest, some) in e)))
          ∙ ap (λ t. q + 0 + cond t 0 1) (ne_eqb (s - 1 - x % s) 0 some) ∙ omega arith
    ]

-- a number below 0 is shifted, and gets one more where it leaves a remainder
pub divided_up : (n k x : ℕ) → k + 1 < n → 2 ^ (n - 1) ≤ x → x < 2 ^ n → (N.shifted_right false n k x + cond (nat_eq (x % 2 ^ k) 0) 0 1) % 2 ^ n ≡ quotient_of n false x (2 ^ k)
divided_up n k x h high b =
    let p : ℕ = 2 ^ n in
    let s : ℕ = 2 ^ k in
    let lack : ℕ = p - 1 - x in
    let positive : 0 < s = pow_pos k in
    let least : lack / s ≤ lack = omega (arith, div-add-mod lack s, less_one s (lack / s) positive) in
    let up : ℕ = cond (nat_eq (x % s) 0) 0 1 in
    let next : suc lack / s + up ≡ lack / s + 1 = ap (λ m. suc lack / s + cond (nat_eq m 0) 0 1) (sym (low_bits n k x h b)) ∙ ap (λ m. m / s + cond (nat_eq (s - 1 - lack % s) 0) 0 1) (let e : suc lack ≡ lack + 1 = omega arith in e) ∙ one_more_divided lack s positive in
    ap (λ m. (m + up) % p) (ap (λ m. m / s % p) (extended_high n (n + k) x high) ∙ shifted_high n k x b)
    ∙ ap (λ m. m % p) (let e : p - 1 - lack / s + up ≡ p - suc lack / s = omega (arith, next, least, b) in e)
    ∙ sym (quotient n k (negsuc lack) x h (upper n x b high) ∙ opposite_residue n (suc lack / s) (omega (arith, next, least, b)))
