-- Fields that are resized or shifted have the numbers that instructions ask for.
use Rattle.std.proofs.Common.{◌≡◌, ℕ, ◌+◌, ◌-◌, ◌*◌, ◌/◌, ◌%◌, ◌^◌, ◌<◌, ◌≤◌, Bool, true, false, cond, ltb, pos, negsuc, ◌-ℤ◌, sym, ◌∙◌, ap, inl, inr, lit<, arith, add-mul}
use Rattle.std.specs.Prelude.{not}
use Rattle.std.specs.Int.{int_shr, is_negative}
use Rattle.std.proofs.lemmas.Int.{ints}
use Rattle.std.proofs.lemmas.Nat.{pow_pos, pow-add, mod_below}
use Rattle.std.proofs.lemmas.Bool.{cases_lt, lt-ltb, le-ltb}
use Rattle.std.proofs.Math.Nat.{mod-eq_of_lt, div-eq_of_lt, pow-le-pow_right, div-add-mod, add-mul-div_left, add-mul-mod_self_right, mul-mod_left, mul_comm, mul_assoc, mul-add}
use Rattle.cstar_base.specs.Numbers.{residue, number_of}
use Rattle.cstar_base.specs.Operators.{operand, shifted_left, shifted_right}
use Rattle.cstar_base.proofs.NumberLaws.{residue_is, residue_of_pos, number_unsigned, number_in_lower, number_in_upper}
use Rattle.lane_kernels.specs.Numbers as K
use Rattle.elementwise.proofs.Orders.{upper}

-- one time less
pub less_one : (a b : ℕ) → 1 ≤ a → (a - 1) * b + b ≡ a * b
less_one a b h = (let e : (a - 1) * b + b ≡ (a - 1) * b + 1 * b = omega arith in e) ∙ sym (add-mul (a - 1) 1 b) ∙ ap (λ k. k * b) (let e : a - 1 + 1 ≡ a = omega (arith, h) in e)

-- a number of the lower half, and one of the upper half, with more bits
pub extended_low : (n more x : ℕ) → x < 2 ^ (n - 1) → K.extended false n more x ≡ x
extended_low n more x h = ap (λ t. cond t x (x + (2 ^ more - 1) * 2 ^ n)) (lt-ltb x (2 ^ (n - 1)) h)

pub extended_high : (n more x : ℕ) → 2 ^ (n - 1) ≤ x → K.extended false n more x ≡ x + (2 ^ more - 1) * 2 ^ n
extended_high n more x h = ap (λ t. cond t x (x + (2 ^ more - 1) * 2 ^ n)) (le-ltb x (2 ^ (n - 1)) h)

pub resized_is : (to n : ℕ) (signed : Bool) (x : ℕ) → x < 2 ^ n → K.resized (not signed) n to x ≡ residue to (number_of n signed x)
resized_is to n false x h = sym (ap (residue to) (number_unsigned n x) ∙ residue_of_pos to x)
resized_is to n true x h = elim (cases_lt x (2 ^ (n - 1))) [
  | inl low ↦ ap (λ k. k % 2 ^ to) (extended_low n to x low) ∙ sym (ap (residue to) (number_in_lower n x low) ∙ residue_of_pos to x)
  | inr high ↦
      ap (λ k. k % 2 ^ to) (extended_high n to x high)
      ∙ sym (ap (residue to) (number_in_upper n x high) ∙ residue_is to (pos x -ℤ pos (2 ^ n)) (2 ^ n) (x + (2 ^ to - 1) * 2 ^ n)
      (omega (arith, ints, less_one (2 ^ to) (2 ^ n) (pow_pos to), mul_comm (2 ^ to) (2 ^ n))))
]

pub left_is : (n k x : ℕ) → K.shifted_left n k x ≡ shifted_left n x k
unfolding shifted_left
left_is n k x = elim (cases_lt k n) [
  | inl l ↦ sym (ap (λ t. cond t (x * 2 ^ k % 2 ^ n) 0) (lt-ltb k n l))
  | inr g ↦
      ap (λ p. x * p % 2 ^ n) (ap (λ m. 2 ^ m) (let e : k ≡ k - n + n = omega arith in e) ∙ pow-add 2 (k - n) n)
      ∙ ap (λ p. p % 2 ^ n) (sym (mul_assoc x (2 ^ (k - n)) (2 ^ n))) ∙ mul-mod_left (x * 2 ^ (k - n)) (2 ^ n)
      ∙ sym (ap (λ t. cond t (x * 2 ^ k % 2 ^ n) 0) (le-ltb k n g))
]

-- the bits of a number of the upper half from bit k on are those of what it lacks, turned
pub shifted_high : (n k x : ℕ) → x < 2 ^ n → (x + (2 ^ (n + k) - 1) * 2 ^ n) / 2 ^ k % 2 ^ n ≡ 2 ^ n - 1 - (2 ^ n - 1 - x) / 2 ^ k
shifted_high n k x h =
    let p : ℕ = 2 ^ n in
    let s : ℕ = 2 ^ k in
    let lack : ℕ = p - 1 - x in
    let q : ℕ = lack / s in
    let r : ℕ = lack % s in
    let sp : 0 < s = pow_pos k in
    let pp : 0 < p = pow_pos n in
    let rest : r < s = mod_below lack s sp in
    let parts : s * q + r ≡ lack = div-add-mod lack s in
    let few : q < p = omega (arith, parts, mul_least s q sp) in
    let whole : (2 ^ (n + k) - 1) * p + p ≡ s * (p * p) =
    less_one (2 ^ (n + k)) p (pow_pos (n + k)) ∙ ap (λ m. m * p) (pow-add 2 n k ∙ mul_comm p s) ∙ mul_assoc s p p in
    let square : (p - 1) * p + p ≡ p * p = less_one p p pp in
    let cut : s * (p * p - 1 - q) + s * (q + 1) ≡ s * (p * p) = sym (mul-add s (p * p - 1 - q) (q + 1)) ∙ ap (λ m. s * m) (let e : p * p - 1 - q + (q + 1) ≡ p * p = omega (arith, square, few) in e) in
    let next : s * (q + 1) ≡ s * q + s = mul-add s q 1 ∙ (let e : s * q + s * 1 ≡ s * q + s = omega arith in e) in
    ap (λ m. m / s % p) (let e : x + (2 ^ (n + k) - 1) * p ≡ s - 1 - r + s * (p * p - 1 - q) = omega (arith, whole, parts, rest, cut, next, h) in e)
    ∙ ap (λ m. m % p) (add-mul-div_left (s - 1 - r) (p * p - 1 - q) sp ∙ ap (λ m. m + (p * p - 1 - q)) (div-eq_of_lt (let e : s - 1 - r < s = omega (arith, sp) in e)))
    ∙ ap (λ m. m % p) (let e : 0 + (p * p - 1 - q) ≡ p - 1 - q + (p - 1) * p = omega (arith, square, few) in e)
    ∙ add-mul-mod_self_right (p - 1 - q) (p - 1) p ∙ mod-eq_of_lt (omega (arith, pp))
  where
    mul_least : (s q : ℕ) → 0 < s → q ≤ s * q
    mul_least s q h = (let e : q ≤ (s - 1) * q + q = omega arith in omega (arith, e, less_one s q (omega (arith, h))))

-- a shift of a whole number that is not below 0, and of one that is
of_natural : (n k x : ℕ) → x < 2 ^ n → x / 2 ^ k % 2 ^ n ≡ cond (ltb k n) (residue n (int_shr (pos x) k)) (cond (is_negative (pos x)) (2 ^ n - 1) 0)
of_natural n k x h = elim (cases_lt k n) [
  | inl l ↦ sym (ap (λ t. cond t (residue n (int_shr (pos x) k)) (cond (is_negative (pos x)) (2 ^ n - 1) 0)) (lt-ltb k n l) ∙ residue_of_pos n (x / 2 ^ k))
  | inr g ↦
      let most : 2 ^ n ≤ 2 ^ k = pow-le-pow_right (lit< tt) g in
      ap (λ q. q % 2 ^ n) (div-eq_of_lt (let e : x < 2 ^ k = omega (arith, h, most) in e)) ∙ mod-eq_of_lt (pow_pos n)
      ∙ sym (ap (λ t. cond t (residue n (int_shr (pos x) k)) (cond (is_negative (pos x)) (2 ^ n - 1) 0)) (le-ltb k n g)
      ∙ ap (λ t. cond t (2 ^ n - 1) 0) (le-ltb x 0 (omega arith)))
]

of_lack : (n k lack : ℕ) → lack < 2 ^ n → 2 ^ n - 1 - lack / 2 ^ k ≡ cond (ltb k n) (residue n (int_shr (negsuc lack) k)) (cond (is_negative (negsuc lack)) (2 ^ n - 1) 0)
of_lack n k lack h = elim (cases_lt k n) [
  | inl l ↦
      let few : lack / 2 ^ k ≤ lack = div_least lack k in
      sym (ap (λ t. cond t (residue n (int_shr (negsuc lack) k)) (cond (is_negative (negsuc lack)) (2 ^ n - 1) 0)) (lt-ltb k n l)
      ∙ residue_is n (negsuc (lack / 2 ^ k)) 1 (2 ^ n - 1 - lack / 2 ^ k) (omega (arith, ints, few, h)) ∙ mod-eq_of_lt (omega (arith, pow_pos n)))
  | inr g ↦
      let most : 2 ^ n ≤ 2 ^ k = pow-le-pow_right (lit< tt) g in
      ap (λ q. 2 ^ n - 1 - q) (div-eq_of_lt (let e : lack < 2 ^ k = omega (arith, h, most) in e))
      ∙ (let e : 2 ^ n - 1 - 0 ≡ 2 ^ n - 1 = omega arith in e)
      ∙ sym (ap (λ t. cond t (residue n (int_shr (negsuc lack) k)) (cond (is_negative (negsuc lack)) (2 ^ n - 1) 0)) (le-ltb k n g))
]
  where
    div_least : (x k : ℕ) → x / 2 ^ k ≤ x
    div_least x k = omega (arith, div-add-mod x (2 ^ k), less_one (2 ^ k) (x / 2 ^ k) (pow_pos k))

pub right_is : (unsigned : Bool) (n k x : ℕ) → x < 2 ^ n → K.shifted_right unsigned n k x ≡ shifted_right n unsigned x k
unfolding shifted_right operand
right_is true n k x h = of_natural n k x h ∙ ap (λ z. cond (ltb k n) (residue n (int_shr z k)) (cond (is_negative z) (2 ^ n - 1) 0)) (sym (number_unsigned n x))
right_is false n k x h = elim (cases_lt x (2 ^ (n - 1))) [
  | inl low ↦ ap (λ m. m / 2 ^ k % 2 ^ n) (extended_low n (n + k) x low) ∙ of_natural n k x h
      ∙ ap (λ z. cond (ltb k n) (residue n (int_shr z k)) (cond (is_negative z) (2 ^ n - 1) 0)) (sym (number_in_lower n x low))
  | inr high ↦ ap (λ m. m / 2 ^ k % 2 ^ n) (extended_high n (n + k) x high) ∙ shifted_high n k x h ∙ of_lack n k (2 ^ n - 1 - x) (omega (arith, h))
      ∙ ap (λ z. cond (ltb k n) (residue n (int_shr z k)) (cond (is_negative z) (2 ^ n - 1) 0)) (sym (upper n x h high))
]
