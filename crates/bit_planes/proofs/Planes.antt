-- Planes in a list, and the numbers that stand across them.
use Rattle.std.proofs.Common.{◌≡◌, ◌≢◌, ℕ, suc, zero, ◌+◌, ◌-◌, ◌*◌, ◌/◌, ◌%◌, ◌^◌, ◌<◌, ◌≤◌, List, length, [], get_or, refl, sym, ◌∙◌, ap, inl, inr, ◌⊎◌, add_comm, arith}
use Rattle.std.proofs.Math.Nat.{mul_comm, mod-le, pow-suc, pow-le-pow_right}
use Rattle.std.proofs.Math.Numerals.{one-add, add-one}
use Rattle.std.proofs.lemmas.Nat.{mod-pow-add, pow_pos, mod_below, shl_whole, mul-le}
use Rattle.std.proofs.lemmas.Nat.Bits.{same_from_bits_below, bit_at_above, bit_at_cat_low, bit_at_cat_high}
use Rattle.std.proofs.lemmas.Bool.{cases_lt}
use Rattle.cstar_base.proofs.BitCuts.{bit_at-cut}
use Rattle.bit_planes.proofs.Words.{bit-lt}
use Rattle.std.specs.Int.{bit_at}
use Rattle.std.proofs.Math.ListN.{set}
use Rattle.std.proofs.lemmas.List.{get_or-set_same, get_or-set_other, get_or_read}
use Rattle.bit_planes.specs.Bits.{bit}
use Rattle.bit_planes.specs.Planes.{plane_at, number, SetsNumber}
use Rattle.bit_planes.specs.declared.plane.Plane.{Plane}

pub plane-set_same : (planes : List Plane) (i : ℕ) (w : List ℕ) → i < length planes → plane_at (set planes i (record { bits = w })) i ≡ w
plane-set_same planes i w h = ap (λ p. p.bits) (get_or-set_same planes i (record { bits = w }) (record { bits = [] }) h)

pub plane-set_other : (planes : List Plane) (i j : ℕ) (p : Plane) → j ≢ i → plane_at (set planes i p) j ≡ plane_at planes j
plane-set_other planes i j p n = ap (λ q. q.bits) (get_or-set_other planes i j p (record { bits = [] }) n)

-- a plane that was read from the list
pub plane_read : (planes : List Plane) (i : ℕ) (p : Plane) → i < length planes → p ≡ get_or planes i p → p.bits ≡ plane_at planes i
plane_read planes i p h e = ap (λ q. q.bits) (get_or_read planes i p h e (record { bits = [] }))

-- a number by the bits of its planes
pub number_is : (planes : List Plane) (offset n i x : ℕ) → ((j : ℕ) → j < n → bit (plane_at planes (offset + j)) i ≡ bit_at x j) → number planes offset n i ≡ x % 2 ^ n
unfolding number
number_is planes offset zero i x h = omega arith
number_is planes offset (suc n) i x h =
    let low : number planes offset n i ≡ x % 2 ^ n = number_is planes offset n i x (λ j b. h j (omega arith)) in
    let top : bit (plane_at planes (offset + n)) i ≡ bit_at x n = h n (omega arith) in
    let whole : x % 2 ^ (1 + n) ≡ x / 2 ^ n % 2 ^ 1 * 2 ^ n + x % 2 ^ n = mod-pow-add x 1 n in
    ap (λ m. m + 2 ^ n * bit (plane_at planes (offset + n)) i) low ∙ ap (λ b. x % 2 ^ n + 2 ^ n * b) top
    ∙ add_comm (x % 2 ^ n) (2 ^ n * (x / 2 ^ n % 2)) ∙ ap (λ m. m + x % 2 ^ n) (mul_comm (2 ^ n) (x / 2 ^ n % 2))
    ∙ sym whole ∙ ap (λ m. x % 2 ^ m) (one-add n)

-- a number without bits from n on is its lowest n bits
pub low_bits : (x n m : ℕ) → x < 2 ^ m → ((j : ℕ) → n ≤ j → j < m → bit_at x j ≡ 0) → x % 2 ^ n ≡ x
low_bits x n m b h = same_from_bits_below m (x % 2 ^ n) x (omega (arith, mod-le x (2 ^ n))) b (λ j jb. elim (cases_lt j n) [
  | inl l ↦ bit_at-cut x n j l
  | inr g ↦ bit_at_above (x % 2 ^ n) n j (mod_below x (2 ^ n) (pow_pos n)) g ∙ sym (h j g jb)
])

-- two fields with the same bits in a lane have the same number there
pub number-same : (xs ys : List Plane) (at to n i : ℕ) → ((j : ℕ) → j < n → bit (plane_at xs (at + j)) i ≡ bit (plane_at ys (to + j)) i) → number xs at n i ≡ number ys to n i
unfolding number
number-same xs ys at to zero i h = refl
number-same xs ys at to (suc n) i h =
    ap (λ m. m + 2 ^ n * bit (plane_at xs (at + n)) i) (number-same xs ys at to n i (λ j b. h j (omega arith)))
    ∙ ap (λ b. number ys to n i + 2 ^ n * b) (h n (omega arith))

pub number-lt : (planes : List Plane) (offset n i : ℕ) → number planes offset n i < 2 ^ n
unfolding number
number-lt planes offset zero i = omega arith
number-lt planes offset (suc n) i =
    let top : 2 ^ n * bit (plane_at planes (offset + n)) i ≤ 2 ^ n * 1 = mul-le (2 ^ n) (bit (plane_at planes (offset + n)) i) (2 ^ n) 1 (omega arith) (omega (arith, bit-lt (plane_at planes (offset + n)) i)) in
    omega (arith, number-lt planes offset n i, pow-suc 2 n)

pub number-suc : (planes : List Plane) (offset n i : ℕ) → number planes offset (n + 1) i ≡ number planes offset n i + 2 ^ n * bit (plane_at planes (offset + n)) i
unfolding number
number-suc planes offset n i = ap (λ m. number planes offset m i) (add-one n)

pow_top : (j : ℕ) → j < 32 → 2 ^ (j + 1) ≤ 2 ^ 32
pow_top j h = pow-le-pow_right {n = 2} (omega arith) {i = j + 1} {j = 32} (omega arith)

pub number-none : (planes : List Plane) (offset i : ℕ) → number planes offset 0 i ≡ 0
unfolding number
number-none planes offset i = refl

-- one more bit of a number that is read bit by bit
pub number_step : (planes : List Plane) (offset j row : ℕ) → j < 32 → (n b : ℕ) → n ≡ number planes offset j row → b ≡ bit (plane_at planes (offset + j)) row
    → (n + b * 2 ^ j % 2 ^ 32 ≡ number planes offset (j + 1) row) × (n + b * 2 ^ j % 2 ^ 32 < 2 ^ 32)
number_step planes offset j row jb n b ne be =
    let whole : b * 2 ^ j % 2 ^ 32 ≡ b * 2 ^ j = shl_whole b 1 j 32 (omega (arith, bit-lt (plane_at planes (offset + j)) row)) (omega arith) in
    let same : n + b * 2 ^ j % 2 ^ 32 ≡ number planes offset (j + 1) row =
    ap (λ m. n + m) (whole ∙ mul_comm b (2 ^ j)) ∙ ap (λ m. m + 2 ^ j * b) ne ∙ ap (λ m. number planes offset j row + 2 ^ j * m) be ∙ sym (number-suc planes offset j row) in
    (same, omega (arith, same, number-lt planes offset (j + 1) row, pow_top j jb))

-- the planes of a field before j are copied
pub record FieldCopied (offset j : ℕ) (planes copy : List Plane) : Type 0 where
  pub long : length copy ≡ 32
  pub copied : (k : ℕ) → k < j → plane_at copy k ≡ plane_at planes (offset + k)

-- the bits of a row's number before j are written
pub record BitsWritten (offset j row v : ℕ) (old new : List Plane) : Type 0 where
  pub long : length new ≡ length old
  pub bits : (k : ℕ) → k < j → bit (plane_at new (offset + k)) row ≡ bit_at v k
  pub other_planes : (k : ℕ) → (k < offset) ⊎ (offset + j ≤ k) → plane_at new k ≡ plane_at old k
  pub other_rows : (k i : ℕ) → i < 512 → i ≢ row → bit (plane_at new k) i ≡ bit (plane_at old k) i

pub number_written : (offset n row v : ℕ) (old new : List Plane) → BitsWritten offset n row v old new → SetsNumber offset n row v old new
number_written offset n row v old new done = record {
  long = done.long;
  number = number_is new offset n row v done.bits;
  other_planes = done.other_planes;
  other_rows = done.other_rows;
}

-- the bits of the number in a lane are those of its planes
pub number-bits : (planes : List Plane) (offset n i j : ℕ) → j < n → bit_at (number planes offset n i) j ≡ bit (plane_at planes (offset + j)) i
unfolding number
number-bits planes offset zero i j h = absurd (omega arith)
number-bits planes offset (suc n) i j h =
    let b : ℕ = bit (plane_at planes (offset + n)) i in
    let low : ℕ = number planes offset n i in
    let turned : low + 2 ^ n * b ≡ b * 2 ^ n + low = omega (arith, mul_comm (2 ^ n) b) in
    ap (λ m. bit_at m j) turned ∙ elim (cases_lt j n) [
      | inl l ↦ bit_at_cat_low b n low j l ∙ number-bits planes offset n i j l
      | inr g ↦
          let e : j ≡ n = omega arith in
          let z : j - n ≡ 0 = omega arith in
          bit_at_cat_high b n low j (number-lt planes offset n i) g ∙ ap (bit_at b) z
          ∙ (let k : bit_at b 0 ≡ b = omega (arith, bit-lt (plane_at planes (offset + n)) i) in k) ∙ ap (λ m. bit (plane_at planes (offset + m)) i) (sym e)
    ]
