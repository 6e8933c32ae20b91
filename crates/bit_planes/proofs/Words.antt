-- A lane of a plane, by the words of the plane.
use Rattle.std.proofs.Common.{◌≡◌, ◌≢◌, ℕ, ◌+◌, ◌-◌, ◌*◌, ◌/◌, ◌%◌, ◌^◌, ◌<◌, ◌≤◌, cond, nat_lt, List, map, length, get_or, Fits, w64, sym, ◌∙◌, ap, inl, inr, arith}
use Rattle.std.specs.Simd.Lanes.{zip2, Each1}
use Rattle.std.specs.Int.{bit_at, bit_not}
use Rattle.std.specs.Prelude.{slice_index}
use Rattle.std.proofs.Math.ListN.{replicate, set}
use Rattle.std.proofs.lemmas.List.{get_or-map, get_or-set_same, get_or-set_other}
use Rattle.std.proofs.lemmas.Simd.{get_or-zip2, Each1-get_or, get_or-replicate}
use Rattle.std.proofs.lemmas.Nat.Bits.{bit_at_not, bit_at_above, bit_at_ones, bit_at-zero, bit_at_cat_low, bit_at_cat_high}
use Rattle.std.proofs.lemmas.Nat.{pow_pos}
use Rattle.std.proofs.lemmas.Bool.{cases_lt, cases_eq, lt-ltb, le-ltb}
use Rattle.cstar_base.proofs.BitCuts.{bit_at-cut, bit_at-shr}
use Rattle.bit_planes.specs.Bits.{bit}

pub bit-lt : (plane : List ℕ) (i : ℕ) → bit plane i < 2
unfolding bit
bit-lt plane i = omega arith

-- an operator on two planes, lane by lane
pub bit-zip2 : (f g : ℕ → ℕ → ℕ) → ((x y j : ℕ) → bit_at (f x y) j ≡ g (bit_at x j) (bit_at y j))
    → (a b : List ℕ) → length a ≡ 8 → length b ≡ 8 → (i : ℕ) → i < 512 → bit (zip2 f a b) i ≡ g (bit a i) (bit b i)
unfolding bit
bit-zip2 f g each a b la lb i h =
    ap (λ n. bit_at n (i % 64)) (get_or-zip2 f a b (i / 64) 0 0 0 (omega arith) (omega arith)) ∙ each (get_or a (i / 64) 0) (get_or b (i / 64) 0) (i % 64)

-- a plane of one word repeated
pub bit-repeated : (w i : ℕ) → i < 512 → bit (replicate 8 w) i ≡ bit_at w (i % 64)
unfolding bit
bit-repeated w i h = ap (λ n. bit_at n (i % 64)) (get_or-replicate 8 (i / 64) w 0 (omega arith))

pub bit-ones : (i : ℕ) → i < 512 → bit (replicate 8 (2 ^ 64 - 1)) i ≡ 1
bit-ones i h = bit-repeated (2 ^ 64 - 1) i h ∙ bit_at_ones 64 (i % 64) (omega arith)

pub bit-zeros : (i : ℕ) → i < 512 → bit (replicate 8 0) i ≡ 0
bit-zeros i h = bit-repeated 0 i h ∙ bit_at-zero (i % 64)

-- the word of a lane fits
word_fits : (a : List ℕ) → length a ≡ 8 → Each1 (Fits w64) a → (k : ℕ) → k < 8 → get_or a k 0 < 2 ^ 64
word_fits a la fits k h = (Each1-get_or (Fits w64) a k 0 (omega arith) fits).fits

pub bit-opposite : (a : List ℕ) → length a ≡ 8 → Each1 (Fits w64) a → (i : ℕ) → i < 512 → bit (map (bit_not w64) a) i ≡ 1 - bit a i
unfolding bit
bit-opposite a la fits i h =
    ap (λ n. bit_at n (i % 64)) (get_or-map (bit_not w64) a (i / 64) 0 0 (omega arith))
    ∙ bit_at_not w64 (get_or a (i / 64) 0) (i % 64) (word_fits a la fits (i / 64) (omega arith)) (omega arith)

pub bit_at-shl_low : (x k j : ℕ) → j < k → bit_at (x * 2 ^ k) j ≡ 0
bit_at-shl_low x k j h = ap (λ n. bit_at n j) (let e : x * 2 ^ k ≡ x * 2 ^ k + 0 = omega arith in e) ∙ bit_at_cat_low x k 0 j h ∙ bit_at-zero j

pub bit_at-shl_high : (x k j : ℕ) → 0 < 2 ^ k → k ≤ j → bit_at (x * 2 ^ k) j ≡ bit_at x (j - k)
bit_at-shl_high x k j p h = ap (λ n. bit_at n j) (let e : x * 2 ^ k ≡ x * 2 ^ k + 0 = omega arith in e) ∙ bit_at_cat_high x k 0 j p h

pub bit-moved_up : (a : List ℕ) (k : ℕ) → length a ≡ 8 → k < 64 → (i : ℕ) → i < 512
    → bit (zip2 (λ x s. x * 2 ^ s % 2 ^ 64) a (replicate 8 k)) i ≡ cond (nat_lt (i % 64) k) 0 (bit a (i - k))
unfolding bit
bit-moved_up a k la kb i h =
    let x : ℕ = get_or a (i / 64) 0 in
    ap (λ n. bit_at n (i % 64)) (get_or-zip2 (λ x s. x * 2 ^ s % 2 ^ 64) a (replicate 8 k) (i / 64) 0 0 0 (omega arith) (omega arith))
    ∙ bit_at-cut (x * 2 ^ get_or (replicate 8 k) (i / 64) 0) 64 (i % 64) (omega arith)
    ∙ ap (λ s. bit_at (x * 2 ^ s) (i % 64)) (get_or-replicate 8 (i / 64) k 0 (omega arith))
    ∙ elim (cases_lt (i % 64) k) [
      | inl low ↦ bit_at-shl_low x k (i % 64) low ∙ sym (ap (λ t. cond t 0 (bit_at (get_or a ((i - k) / 64) 0) ((i - k) % 64))) (lt-ltb (i % 64) k low))
      | inr high ↦
          bit_at-shl_high x k (i % 64) (pow_pos k) high
          ∙ ap (λ w. bit_at (get_or a w 0) (i % 64 - k)) (let e : i / 64 ≡ (i - k) / 64 = omega arith in e)
          ∙ ap (λ j. bit_at (get_or a ((i - k) / 64) 0) j) (let e : i % 64 - k ≡ (i - k) % 64 = omega arith in e)
          ∙ sym (ap (λ t. cond t 0 (bit_at (get_or a ((i - k) / 64) 0) ((i - k) % 64))) (le-ltb (i % 64) k high))
    ]

pub bit-moved_down : (a : List ℕ) (k : ℕ) → length a ≡ 8 → Each1 (Fits w64) a → k < 64 → (i : ℕ) → i < 512
    → bit (zip2 (λ x s. x / 2 ^ s) a (replicate 8 k)) i ≡ cond (nat_lt (i % 64 + k) 64) (bit a (i + k)) 0
unfolding bit
bit-moved_down a k la fits kb i h =
    let x : ℕ = get_or a (i / 64) 0 in
    ap (λ n. bit_at n (i % 64)) (get_or-zip2 (λ x s. x / 2 ^ s) a (replicate 8 k) (i / 64) 0 0 0 (omega arith) (omega arith))
    ∙ ap (λ s. bit_at (x / 2 ^ s) (i % 64)) (get_or-replicate 8 (i / 64) k 0 (omega arith))
    ∙ bit_at-shr x k (i % 64)
    ∙ elim (cases_lt (i % 64 + k) 64) [
      | inl low ↦
          ap (λ w. bit_at (get_or a w 0) (k + i % 64)) (let e : i / 64 ≡ (i + k) / 64 = omega arith in e)
          ∙ ap (λ j. bit_at (get_or a ((i + k) / 64) 0) j) (let e : k + i % 64 ≡ (i + k) % 64 = omega arith in e)
          ∙ sym (ap (λ t. cond t (bit_at (get_or a ((i + k) / 64) 0) ((i + k) % 64)) 0) (lt-ltb (i % 64 + k) 64 low))
      | inr high ↦
          bit_at_above x 64 (k + i % 64) (word_fits a la fits (i / 64) (omega arith)) (omega arith)
          ∙ sym (ap (λ t. cond t (bit_at (get_or a ((i + k) / 64) 0) ((i + k) % 64)) 0) (le-ltb (i % 64 + k) 64 high))
    ]

-- a word of the plane is replaced
pub bit-set_same : (a : List ℕ) → length a ≡ 8 → (i : ℕ) → i < 512 → (w b : ℕ) → bit_at w (i % 64) ≡ b → bit (set a (i / 64) w) i ≡ b
unfolding bit
bit-set_same a la i h w b e = ap (λ n. bit_at n (i % 64)) (get_or-set_same a (i / 64) w 0 (omega arith)) ∙ e

pub bit-set_other : (a : List ℕ) → length a ≡ 8 → (i : ℕ) → i < 512 → (w : ℕ) → ((j : ℕ) → j < 64 → j ≢ i % 64 → bit_at w j ≡ bit_at (get_or a (i / 64) 0) j)
    → (k : ℕ) → k < 512 → k ≢ i → bit (set a (i / 64) w) k ≡ bit a k
unfolding bit
bit-set_other a la i h w same k kb n = elim (cases_eq (k / 64) (i / 64)) [
  | inl e ↦
      ap (λ p. bit_at (get_or (set a (i / 64) w) p 0) (k % 64)) e ∙ ap (λ p. bit_at p (k % 64)) (get_or-set_same a (i / 64) w 0 (omega arith))
      ∙ same (k % 64) (omega arith) (λ q. absurd (omega arith)) ∙ ap (λ p. bit_at (get_or a p 0) (k % 64)) (sym e)
  | inr m ↦ ap (λ p. bit_at p (k % 64)) (get_or-set_other a (i / 64) (k / 64) w 0 m)
]

-- the lanes of a word that is 0
pub word_none : (plane : List ℕ) (j : ℕ) → slice_index plane j ≡ 0 → ((i : ℕ) → i < 64 * j → bit plane i ≡ 0) → (i : ℕ) → i < 64 * (j + 1) → bit plane i ≡ 0
unfolding bit
word_none plane j none before i h = elim (cases_lt i (64 * j)) [
  | inl l ↦ before i l
  | inr g ↦ ap (λ w. bit_at (slice_index plane w) (i % 64)) (let q : i / 64 ≡ j = omega (arith, g, h) in q) ∙ ap (λ w. bit_at w (i % 64)) none ∙ bit_at-zero (i % 64)
]
