-- How many lanes have a 1, by words.
use Rattle.std.proofs.Common.{◌≡◌, ℕ, suc, zero, ◌+◌, ◌*◌, ◌/◌, ◌%◌, ◌^◌, ◌<◌, ◌≤◌, List, length, get_or, Fits, w64, refl, sym, ◌∙◌, ap, arith}
use Rattle.std.specs.Simd.Lanes.{Each1}
use Rattle.std.proofs.lemmas.Simd.{Each1-get_or}
use Rattle.std.specs.Int.{bit_at}
use Rattle.std.specs.Int.Count.{ones}
use Rattle.std.proofs.lemmas.Nat.{ones_cat}
use Rattle.std.proofs.Math.Numerals.{add-one}
use Rattle.std.proofs.lemmas.Nat.{mod_below, pow_pos}
use Rattle.bit_planes.specs.Bits.{bit}
use Rattle.bit_planes.proofs.Words.{bit-lt}
use Rattle.lane_kernels.specs.Numbers.{ones_before}
use Rattle.lane_kernels.proofs.Arithmetic.{mod-next, mod_small}

pub ones_before-none : (plane : List ℕ) → 0 ≡ ones_before plane 0
unfolding ones_before
ones_before-none plane = refl

pub ones_before-le : (plane : List ℕ) (n : ℕ) → ones_before plane n ≤ n
unfolding ones_before
ones_before-le plane zero = omega arith
ones_before-le plane (suc n) = omega (arith, ones_before-le plane n, bit-lt plane n)

ones-bit : (b : ℕ) → b < 2 → ones b ≡ b
unfolding ones
ones-bit zero h = refl
ones-bit (suc zero) h = refl
ones-bit (suc (suc b)) h = absurd (omega arith)

-- the ones of the lowest bits of a word are those of its first lanes
ones_of_word : (plane : List ℕ) (w j : ℕ) → j ≤ 64 → ones_before plane (64 * w + j) ≡ ones_before plane (64 * w) + ones (get_or plane w 0 % 2 ^ j)
unfolding ones_before bit
ones_of_word plane w zero h = ap (ones_before plane) (let z : 64 * w + zero ≡ 64 * w = omega arith in z) ∙ (let e : ones_before plane (64 * w) ≡ ones_before plane (64 * w) + ones 0 = omega (arith, ones-bit 0 (omega arith)) in e) ∙ ap (λ n. ones_before plane (64 * w) + ones n) (let z : 0 ≡ get_or plane w 0 % 2 ^ zero = omega arith in z)
ones_of_word plane w (suc j) h =
    let x : ℕ = get_or plane w 0 in
    let at : bit plane (64 * w + j) ≡ bit_at x j =
    ap (λ n. bit_at (get_or plane n 0) ((64 * w + j) % 64)) (let e : (64 * w + j) / 64 ≡ w = omega arith in e) ∙ ap (bit_at x) (let e : (64 * w + j) % 64 ≡ j = omega arith in e) in
    let split : ones (x % 2 ^ suc j) ≡ bit_at x j + ones (x % 2 ^ j) =
    ap (λ n. ones (x % 2 ^ n)) (sym (add-one j)) ∙ ap ones (mod-next x j) ∙ ones_cat j (bit_at x j) (x % 2 ^ j) (mod_below x (2 ^ j) (pow_pos j)) ∙ ap (λ n. n + ones (x % 2 ^ j)) (ones-bit (bit_at x j) (omega arith)) in
    ap (ones_before plane) (let e : 64 * w + suc j ≡ suc (64 * w + j) = omega arith in e)
    ∙ omega (arith, ones_of_word plane w j (omega arith), at, split)

pub word_counted : (plane : List ℕ) (w : ℕ) → get_or plane w 0 < 2 ^ 64 → ones_before plane (64 * w) + ones (get_or plane w 0) ≡ ones_before plane (64 * (w + 1))
word_counted plane w h =
    ap (λ n. ones_before plane (64 * w) + ones n) (sym (mod_small (get_or plane w 0) (2 ^ 64) h)) ∙ sym (ones_of_word plane w 64 (omega arith)) ∙ ap (ones_before plane) (let z : 64 * w + 64 ≡ 64 * (w + 1) = omega arith in z)

-- the count with one word more, and that it fits
pub counted_more : (mask : List ℕ) → length mask ≡ 8 → Each1 (Fits w64) mask → (w : ℕ) → w < 8 → (total : ℕ) → total ≡ ones_before mask (64 * w)
    → (total + ones (get_or mask w 0) ≡ ones_before mask (64 * (w + 1))) × (total + ones (get_or mask w 0) < 2 ^ 32)
counted_more mask long fits w wb total e =
    let all : total + ones (get_or mask w 0) ≡ ones_before mask (64 * (w + 1)) =
    ap (λ n. n + ones (get_or mask w 0)) e ∙ word_counted mask w (Each1-get_or (Fits w64) mask w 0 (omega arith) fits).fits in
    (all, omega (arith, all, ones_before-le mask (64 * (w + 1))))
