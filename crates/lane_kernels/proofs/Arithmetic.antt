-- One bit of each kernel, on plain numbers.
use Rattle.std.proofs.Common.{◌≡◌, ℕ, suc, zero, ◌+◌, ◌-◌, ◌*◌, ◌/◌, ◌%◌, ◌^◌, ◌<◌, ◌≤◌, min, cond, nat_lt, nat_eq, Bool, true, false, refl, sym, ◌∙◌, ap, inl, inr, add_comm, arith}
use Rattle.std.specs.Int.{bit_at}
use Rattle.std.proofs.Math.Nat.{mul-add-div, div-add-mod, mul_comm, mul-add, mod-eq_of_lt, add-mod_right, pow-suc}
use Rattle.std.proofs.lemmas.Nat.{mod-pow-add, shr-shr, pow_pos, mod_below}
use Rattle.std.proofs.lemmas.Bool.{cases_lt, lt-ltb, le-ltb, eq-eqb}
use Rattle.lane_kernels.proofs.BitTables.{less_step, equal_step}
use Rattle.std.proofs.lemmas.Nat.{and_mask, and_le_l, or_lt, xor_lt}
use Rattle.std.proofs.lemmas.Nat.Bits.{bit_at-zero, bit_at_and, bit_at_or, bit_at_xor, bit_at_ones, bit_at_above, bit_at_cat_low, bit_at_cat_high}
use Rattle.std.specs.Int.Bits.{bit_and, bit_xor, xor_add_and}
use Rattle.lane_kernels.specs.declared.gates.Gate.{Gate}
use Rattle.lane_kernels.specs.declared.gates.Gate.TheVariants.{And, Or, Xor}
use Rattle.lane_kernels.specs.Gates.{gate_bit, gate_of}
use Rattle.lane_kernels.specs.Numbers.{addend, is_less, extended}

pub mod_small : (n m : ℕ) → n < m → n % m ≡ n
mod_small n m h = mod-eq_of_lt h

-- the next bit of a number, before those below it
pub mod-next : (x j : ℕ) → x % 2 ^ (j + 1) ≡ bit_at x j * 2 ^ j + x % 2 ^ j
mod-next x j = ap (λ n. x % 2 ^ n) (let e : j + 1 ≡ 1 + j = omega arith in e) ∙ mod-pow-add x 1 j

pub bit_at-lt : (x j : ℕ) → bit_at x j < 2
bit_at-lt x j = omega arith

-- a sum by its upper and lower parts
sum_div : (p x y c : ℕ) → 0 < p → (x + y + c) / p ≡ x / p + y / p + (x % p + y % p + c) / p
sum_div p x y c pos =
    let e : x + y + c ≡ p * (x / p + y / p) + (x % p + y % p + c) = omega (arith, div-add-mod x p, div-add-mod y p, mul-add p (x / p) (y / p)) in
    ap (λ n. n / p) e ∙ mul-add-div pos (x / p + y / p) (x % p + y % p + c)

-- the bit of a sum
pub sum_bit_is : (x y c j : ℕ) → bit_at (x + y + c) j ≡ (bit_at x j + bit_at y j + (x % 2 ^ j + y % 2 ^ j + c) / 2 ^ j) % 2
sum_bit_is x y c j = ap (λ n. n % 2) (sum_div (2 ^ j) x y c (pow_pos j)) ∙ omega arith

-- the carry out of a bit
pub carry_is : (x y c j : ℕ) → (x % 2 ^ (j + 1) + y % 2 ^ (j + 1) + c) / 2 ^ (j + 1) ≡ (bit_at x j + bit_at y j + (x % 2 ^ j + y % 2 ^ j + c) / 2 ^ j) / 2
carry_is x y c j =
    let p : ℕ = 2 ^ j in
    let e : x % 2 ^ (j + 1) + y % 2 ^ (j + 1) + c ≡ p * (bit_at x j + bit_at y j) + (x % p + y % p + c) =
    omega (arith, mod-next x j, mod-next y j, mul-add p (bit_at x j) (bit_at y j), mul_comm p (bit_at x j), mul_comm p (bit_at y j)) in
    sym (shr-shr (x % 2 ^ (j + 1) + y % 2 ^ (j + 1) + c) j 1) ∙ ap (λ n. n / p / 2) e
    ∙ ap (λ n. n / 2) (mul-add-div (pow_pos j) (bit_at x j + bit_at y j) (x % p + y % p + c))

-- the bit of a number with a carry, and the carry out of it
pub plus_bit_is : (x c j : ℕ) → bit_at (x + c) j ≡ (bit_at x j + (x % 2 ^ j + c) / 2 ^ j) % 2
plus_bit_is x c j =
    ap (λ n. bit_at (n + c) j) (let e : x ≡ x + 0 = omega arith in e) ∙ sum_bit_is x 0 c j
    ∙ ap (λ b. (bit_at x j + b + (x % 2 ^ j + 0 % 2 ^ j + c) / 2 ^ j) % 2) (bit_at-zero j)
    ∙ ap (λ r. (bit_at x j + 0 + (x % 2 ^ j + r + c) / 2 ^ j) % 2) (mod_small 0 (2 ^ j) (pow_pos j))
    ∙ ap (λ n. (n + (x % 2 ^ j + 0 + c) / 2 ^ j) % 2) (let e : bit_at x j + 0 ≡ bit_at x j = omega arith in e)
    ∙ ap (λ n. (bit_at x j + (n + c) / 2 ^ j) % 2) (let e : x % 2 ^ j + 0 ≡ x % 2 ^ j = omega arith in e)

pub plus_carry_is : (x c j : ℕ) → (x % 2 ^ (j + 1) + c) / 2 ^ (j + 1) ≡ (bit_at x j + (x % 2 ^ j + c) / 2 ^ j) / 2
plus_carry_is x c j =
    let p : ℕ = 2 ^ j in
    let e : x % 2 ^ (j + 1) + c ≡ p * bit_at x j + (x % p + c) = omega (arith, mod-next x j, mul_comm p (bit_at x j)) in
    sym (shr-shr (x % 2 ^ (j + 1) + c) j 1) ∙ ap (λ n. n / p / 2) e ∙ ap (λ n. n / 2) (mul-add-div (pow_pos j) (bit_at x j) (x % p + c))

-- the bits of a complement
pub complement_bits : (n x j : ℕ) → x < 2 ^ n → j < n → bit_at (2 ^ n - 1 - x) j ≡ 1 - bit_at x j
complement_bits n x j xb jb =
    let both : bit_and x (2 ^ n - 1) ≡ x = and_mask x n ∙ mod_small x (2 ^ n) xb in
    let apart : bit_xor x (2 ^ n - 1) ≡ 2 ^ n - 1 - x = omega (arith, xor_add_and x (2 ^ n - 1), both) in
    ap (λ m. bit_at m j) (sym apart) ∙ bit_at_xor x (2 ^ n - 1) j ∙ ap (λ b. (bit_at x j + b) % 2) (bit_at_ones n j jb) ∙ omega arith

-- what is added bit by bit for a number, or to take it away, beside the carry into the lowest bit
abbrev pub added : Bool → ℕ → ℕ → ℕ
added inverted n y = cond inverted (2 ^ n - 1 - y) y

pub added_bits : (inverted : Bool) (n y j : ℕ) → y < 2 ^ n → j < n → (bit_at y j + cond inverted 1 0) % 2 ≡ bit_at (added inverted n y) j
added_bits true n y j yb jb = omega (arith, complement_bits n y j yb jb)
added_bits false n y j yb jb = omega arith

pub added_whole : (inverted : Bool) (n x y : ℕ) → y < 2 ^ n → (x + added inverted n y + cond inverted 1 0) % 2 ^ n ≡ (x + addend inverted n y) % 2 ^ n
added_whole true n x y yb = ap (λ m. m % 2 ^ n) (omega arith)
added_whole false n x y yb = ap (λ m. m % 2 ^ n) (omega arith)

-- gates of numbers, bit by bit
pub gate_bits : (g : Gate) (x y j : ℕ) → bit_at (gate_of g x y) j ≡ gate_bit g (bit_at x j) (bit_at y j)
gate_bits And x y j = bit_at_and x y j
gate_bits Or x y j = bit_at_or x y j
gate_bits Xor x y j = bit_at_xor x y j

pub gate_of-lt : (g : Gate) (n x y : ℕ) → x < 2 ^ n → y < 2 ^ n → gate_of g x y < 2 ^ n
gate_of-lt And n x y xb yb = omega (arith, and_le_l x y)
gate_of-lt Or n x y xb yb = or_lt n x y xb yb
gate_of-lt Xor n x y xb yb = xor_lt n x y xb yb

-- one of two numbers, bit by bit
pub cond_bits : (t : Bool) (x y j : ℕ) → cond t (bit_at x j) (bit_at y j) ≡ bit_at (cond t x y) j
cond_bits true x y j = refl
cond_bits false x y j = refl

pub cond-lt : (t : Bool) (x y n : ℕ) → x < n → y < n → cond t x y < n
cond-lt true x y n a b = a
cond-lt false x y n a b = b

-- the place in order of a number with this upper bit, in two's complement
place_is : (p a x : ℕ) → a < 2 → x < p → (a * p + x + p) % (p * 2) ≡ (1 - a) * p + x
place_is p zero x ab xb = (let e : 0 * p + x + p ≡ x + p = omega arith in ap (λ m. m % (p * 2)) e) ∙ mod_small (x + p) (p * 2) (omega arith) ∙ omega arith
place_is p (suc zero) x ab xb = (let e : 1 * p + x + p ≡ x + p * 2 = omega arith in ap (λ m. m % (p * 2)) e) ∙ add-mod_right x (p * 2) ∙ mod_small x (p * 2) (omega arith) ∙ omega arith
place_is p (suc (suc a)) x ab xb = absurd (omega arith)

by_top : (n x : ℕ) → 1 ≤ n → x < 2 ^ n → bit_at x (n - 1) * 2 ^ (n - 1) + x % 2 ^ (n - 1) ≡ x
by_top n x nb xb = sym (mod-next x (n - 1)) ∙ ap (λ m. x % 2 ^ m) (let e : n - 1 + 1 ≡ n = omega arith in e) ∙ mod_small x (2 ^ n) xb

double : (n : ℕ) → 1 ≤ n → 2 ^ (n - 1) * 2 ≡ 2 ^ n
double n nb = sym (pow-suc 2 (n - 1)) ∙ ap (λ m. 2 ^ m) (let e : suc (n - 1) ≡ n = omega arith in e)

place : (n x : ℕ) → 1 ≤ n → x < 2 ^ n → (1 - bit_at x (n - 1)) * 2 ^ (n - 1) + x % 2 ^ (n - 1) ≡ (x + 2 ^ (n - 1)) % 2 ^ n
place n x nb xb =
    sym (place_is (2 ^ (n - 1)) (bit_at x (n - 1)) (x % 2 ^ (n - 1)) (omega arith) (mod_below x (2 ^ (n - 1)) (pow_pos (n - 1))))
    ∙ ap (λ m. (m + 2 ^ (n - 1)) % (2 ^ (n - 1) * 2)) (by_top n x nb xb) ∙ ap (λ m. (x + 2 ^ (n - 1)) % m) (double n nb)

exchanged : (a b r : ℕ) → a < 2 → b < 2 → cond (nat_eq b a) r a ≡ cond (nat_eq (1 - a) (1 - b)) r (1 - b)
exchanged zero zero r ab bb = refl
exchanged zero (suc zero) r ab bb = refl
exchanged (suc zero) zero r ab bb = refl
exchanged (suc zero) (suc zero) r ab bb = refl
exchanged (suc (suc a)) b r ab bb = absurd (omega arith)
exchanged zero (suc (suc b)) r ab bb = absurd (omega arith)
exchanged (suc zero) (suc (suc b)) r ab bb = absurd (omega arith)

-- the order of two numbers by their upper bits and what is below these
pub less_unsigned : (n x y : ℕ) → 1 ≤ n → x < 2 ^ n → y < 2 ^ n
    → cond (nat_eq (bit_at x (n - 1)) (bit_at y (n - 1))) (cond (nat_lt (x % 2 ^ (n - 1)) (y % 2 ^ (n - 1))) 1 0) (bit_at y (n - 1)) ≡ cond (is_less true n x y) 1 0
less_unsigned n x y nb xb yb =
    let p : ℕ = 2 ^ (n - 1) in
    sym (less_step p (bit_at x (n - 1)) (bit_at y (n - 1)) (x % p) (y % p) (omega arith) (omega arith) (mod_below x p (pow_pos (n - 1))) (mod_below y p (pow_pos (n - 1))))
    ∙ ap (λ a. cond (nat_lt a (bit_at y (n - 1) * p + y % p)) 1 0) (by_top n x nb xb) ∙ ap (λ b. cond (nat_lt x b) 1 0) (by_top n y nb yb)

pub less_signed : (n x y : ℕ) → 1 ≤ n → x < 2 ^ n → y < 2 ^ n
    → cond (nat_eq (bit_at y (n - 1)) (bit_at x (n - 1))) (cond (nat_lt (x % 2 ^ (n - 1)) (y % 2 ^ (n - 1))) 1 0) (bit_at x (n - 1)) ≡ cond (is_less false n x y) 1 0
less_signed n x y nb xb yb =
    let p : ℕ = 2 ^ (n - 1) in
    let a : ℕ = bit_at x (n - 1) in
    let b : ℕ = bit_at y (n - 1) in
    exchanged a b (cond (nat_lt (x % p) (y % p)) 1 0) (omega arith) (omega arith)
    ∙ sym (less_step p (1 - a) (1 - b) (x % p) (y % p) (omega arith) (omega arith) (mod_below x p (pow_pos (n - 1))) (mod_below y p (pow_pos (n - 1))))
    ∙ ap (λ m. cond (nat_lt m ((1 - b) * p + y % p)) 1 0) (place n x nb xb) ∙ ap (λ m. cond (nat_lt ((x + p) % 2 ^ n) m) 1 0) (place n y nb yb)

-- the sign of a number
sign_clear : (n x : ℕ) → 1 ≤ n → x < 2 ^ (n - 1) → bit_at x (n - 1) ≡ 0
sign_clear n x nb xb = bit_at_above x (n - 1) (n - 1) xb (omega arith)

sign_set : (n x : ℕ) → 1 ≤ n → x < 2 ^ n → 2 ^ (n - 1) ≤ x → bit_at x (n - 1) ≡ 1
sign_set n x nb xb high = elim (cases_lt (bit_at x (n - 1)) 1) [
  | inl l ↦
      let none : bit_at x (n - 1) ≡ 0 = omega arith in
      let e : 0 * 2 ^ (n - 1) + x % 2 ^ (n - 1) ≡ x = ap (λ b. b * 2 ^ (n - 1) + x % 2 ^ (n - 1)) (sym none) ∙ by_top n x nb xb in
      absurd (omega (arith, e, mod_below x (2 ^ (n - 1)) (pow_pos (n - 1))))
  | inr g ↦ omega (arith, bit_at-lt x (n - 1))
]

-- the bits of an extended number
pub extended_bits : (unsigned : Bool) (n more x m : ℕ) → 1 ≤ n → x < 2 ^ n → m < n + more
    → bit_at (extended unsigned n more x) m ≡ cond (nat_lt m n) (bit_at x m) (cond unsigned 0 (bit_at x (n - 1)))
extended_bits true n more x m nb xb mb = elim (cases_lt m n) [
  | inl l ↦ sym (ap (λ t. cond t (bit_at x m) 0) (lt-ltb m n l))
  | inr g ↦ bit_at_above x n m xb g ∙ sym (ap (λ t. cond t (bit_at x m) 0) (le-ltb m n g))
]
extended_bits false n more x m nb xb mb = elim (cases_lt x (2 ^ (n - 1))) [
  | inl small ↦ ap (λ t. bit_at (cond t x (x + (2 ^ more - 1) * 2 ^ n)) m) (lt-ltb x (2 ^ (n - 1)) small) ∙ elim (cases_lt m n) [
    | inl l ↦ sym (ap (λ t. cond t (bit_at x m) (bit_at x (n - 1))) (lt-ltb m n l))
    | inr g ↦ bit_at_above x n m xb g ∙ sym (sign_clear n x nb small) ∙ sym (ap (λ t. cond t (bit_at x m) (bit_at x (n - 1))) (le-ltb m n g))
  ]
  | inr large ↦ ap (λ t. bit_at (cond t x (x + (2 ^ more - 1) * 2 ^ n)) m) (le-ltb x (2 ^ (n - 1)) large)
      ∙ ap (λ v. bit_at v m) (add_comm x ((2 ^ more - 1) * 2 ^ n)) ∙ elim (cases_lt m n) [
        | inl l ↦ bit_at_cat_low (2 ^ more - 1) n x m l ∙ sym (ap (λ t. cond t (bit_at x m) (bit_at x (n - 1))) (lt-ltb m n l))
        | inr g ↦ bit_at_cat_high (2 ^ more - 1) n x m xb g ∙ bit_at_ones more (m - n) (omega arith) ∙ sym (sign_set n x nb xb large)
            ∙ sym (ap (λ t. cond t (bit_at x m) (bit_at x (n - 1))) (le-ltb m n g))
      ]
]

-- the order of two numbers by their lowest bits, and one bit more
pub less_none : (x y : ℕ) → ◌≡◌ {A = ℕ} 0 (cond (nat_lt (x % 2 ^ 0) (y % 2 ^ 0)) 1 0)
less_none x y = sym (ap (λ t. cond t 1 0) (le-ltb (x % 2 ^ 0) (y % 2 ^ 0) (omega arith)))

pub less_more : (x y j : ℕ) → cond (nat_eq (bit_at x j) (bit_at y j)) (cond (nat_lt (x % 2 ^ j) (y % 2 ^ j)) 1 0) (bit_at y j) ≡ cond (nat_lt (x % 2 ^ (j + 1)) (y % 2 ^ (j + 1))) 1 0
less_more x y j =
    sym (less_step (2 ^ j) (bit_at x j) (bit_at y j) (x % 2 ^ j) (y % 2 ^ j) (bit_at-lt x j) (bit_at-lt y j) (mod_below x (2 ^ j) (pow_pos j)) (mod_below y (2 ^ j) (pow_pos j)))
    ∙ ap (λ a. cond (nat_lt a (bit_at y j * 2 ^ j + y % 2 ^ j)) 1 0) (sym (mod-next x j)) ∙ ap (λ b. cond (nat_lt (x % 2 ^ (j + 1)) b) 1 0) (sym (mod-next y j))

pub equal_none : (x y : ℕ) → ◌≡◌ {A = ℕ} 1 (cond (nat_eq (x % 2 ^ 0) (y % 2 ^ 0)) 1 0)
equal_none x y = sym (ap (λ t. cond t 1 0) (eq-eqb (x % 2 ^ 0) (y % 2 ^ 0) (omega arith)))

pub equal_more : (x y j : ℕ) → min (cond (nat_eq (x % 2 ^ j) (y % 2 ^ j)) 1 0) (1 - (bit_at x j + bit_at y j) % 2) ≡ cond (nat_eq (x % 2 ^ (j + 1)) (y % 2 ^ (j + 1))) 1 0
equal_more x y j =
    sym (equal_step (2 ^ j) (bit_at x j) (bit_at y j) (x % 2 ^ j) (y % 2 ^ j) (bit_at-lt x j) (bit_at-lt y j) (mod_below x (2 ^ j) (pow_pos j)) (mod_below y (2 ^ j) (pow_pos j)))
    ∙ ap (λ a. cond (nat_eq a (bit_at y j * 2 ^ j + y % 2 ^ j)) 1 0) (sym (mod-next x j)) ∙ ap (λ b. cond (nat_eq (x % 2 ^ (j + 1)) b) 1 0) (sym (mod-next y j))

less_top : (unsigned : Bool) (n x y : ℕ) → 1 ≤ n → x < 2 ^ n → y < 2 ^ n
    → cond unsigned (cond (nat_eq (bit_at x (n - 1)) (bit_at y (n - 1))) (cond (nat_lt (x % 2 ^ (n - 1)) (y % 2 ^ (n - 1))) 1 0) (bit_at y (n - 1)))
    (cond (nat_eq (bit_at y (n - 1)) (bit_at x (n - 1))) (cond (nat_lt (x % 2 ^ (n - 1)) (y % 2 ^ (n - 1))) 1 0) (bit_at x (n - 1)))
    ≡ cond (is_less unsigned n x y) 1 0
less_top true n x y nb xb yb = less_unsigned n x y nb xb yb
less_top false n x y nb xb yb = less_signed n x y nb xb yb

-- the order of two numbers by their highest bits a and b, and by what is known of the bits below
pub less_result : (unsigned : Bool) (n x y top a b known : ℕ) → 1 ≤ n → x < 2 ^ n → y < 2 ^ n → top ≡ n - 1 → a ≡ bit_at x top → b ≡ bit_at y top
    → known ≡ cond (nat_lt (x % 2 ^ top) (y % 2 ^ top)) 1 0
    → cond unsigned (cond (nat_eq a b) known b) (cond (nat_eq b a) known a) ≡ cond (is_less unsigned n x y) 1 0
less_result unsigned n x y top a b known nb xb yb at ea eb ek =
    let p : ℕ = bit_at x (n - 1) in
    let q : ℕ = bit_at y (n - 1) in
    ap (λ m. cond unsigned (cond (nat_eq m b) known b) (cond (nat_eq b m) known m)) (ea ∙ ap (bit_at x) at)
    ∙ ap (λ m. cond unsigned (cond (nat_eq p m) known m) (cond (nat_eq m p) known p)) (eb ∙ ap (bit_at y) at)
    ∙ ap (λ m. cond unsigned (cond (nat_eq p q) m q) (cond (nat_eq q p) m p)) (ek ∙ ap (λ t. cond (nat_lt (x % 2 ^ t) (y % 2 ^ t)) 1 0) at)
    ∙ less_top unsigned n x y nb xb yb
