-- The number of a lane as a word.
use Rattle.std.proofs.Common.{◌≡◌, ℕ, suc, ◌+◌, ◌-◌, ◌*◌, ◌^◌, ◌<◌, ◌≤◌, pos, ◌-ℤ◌, true, not, eqb, List, inl, inr, ◌∙◌, ap, add-one, arith}
use Rattle.std.specs.Int.{bit_at}
use Rattle.std.proofs.lemmas.Bool.{cases_eq}
use Rattle.std.proofs.lemmas.Int.{ints}
use Rattle.std.proofs.lemmas.Nat.Bits.{bit_at_above}
use Rattle.std.proofs.Math.Nat.{mod-eq_of_lt, pow-suc}
use Rattle.std.proofs.Math.Pow.{pow_mono}
use Rattle.cstar_base.specs.Numbers.{number_of, residue}
use Rattle.cstar_base.specs.Orders.{fold_below}
use Rattle.cstar_base.proofs.NumberLaws.{residue_is, residue_of_pos, residue_below, number_in_upper, number_in_lower, number_unsigned, residue_of_number}
use Rattle.bit_planes.specs.declared.plane.Plane.{Plane}
use Rattle.bit_planes.specs.Bits.{bit}
use Rattle.bit_planes.specs.Planes.{plane_at, number}
use Rattle.bit_planes.proofs.Planes.{number-suc, number-lt, number-bits}
use Rattle.bit_planes.proofs.Words.{bit-lt}
use Rattle.lane_kernels.specs.Numbers.{ones_before}
use Rattle.paris_code.specs.declared.operands.Field.{Field}
use Rattle.paris_code.specs.declared.operands.Reduction.{Reduction}
use Rattle.paris_code.specs.declared.operands.Reduction.TheVariants as R
use Rattle.paris_code.specs.Operators.{combiner_of}
use Rattle.reduce_scan.specs.Blocks.{block_fold, lane_word}
use Rattle.reduce_scan.proofs.Parts.{fold_past, once, none}
use Rattle.reduce_scan.proofs.WordRuns.{none_before}

pub lane_fits : (r : Reduction) (planes : List Plane) (a : Field) (i : ℕ) → lane_word r planes a i < 2 ^ 32
unfolding lane_word
lane_fits r planes a i = residue_below 32 (number_of a.len (not (combiner_of r).1) (number planes a.offset a.len i))

-- a field of 32 bits holds words
pub lane_whole : (r : Reduction) (planes : List Plane) (a : Field) (i : ℕ) → a.len ≡ 32 → lane_word r planes a i ≡ number planes a.offset a.len i
unfolding lane_word
lane_whole r planes a i whole =
    let v : ℕ = number planes a.offset a.len i in
    ap (λ n. residue 32 (number_of n (not (combiner_of r).1) v)) whole
    ∙ residue_of_number 32 (not (combiner_of r).1) v (omega (arith, number-lt planes a.offset a.len i, ap (λ n. 2 ^ n) whole))

-- without a sign the number is the word
pub lane_unsigned : (r : Reduction) (planes : List Plane) (a : Field) (i : ℕ) → (combiner_of r).1 ≡ true → a.len ≤ 32 → lane_word r planes a i ≡ number planes a.offset a.len i
unfolding lane_word
lane_unsigned r planes a i unsigned few =
    let v : ℕ = number planes a.offset a.len i in
    ap (λ u. residue 32 (number_of a.len (not u) v)) unsigned ∙ ap (residue 32) (number_unsigned a.len v) ∙ residue_of_pos 32 v
    ∙ mod-eq_of_lt (let e : v < 2 ^ 32 = omega (arith, number-lt planes a.offset a.len i, pow_mono {i = a.len} {j = 32} few) in e)

-- with a sign the highest bit takes away what it would weigh
pub lane_signed : (planes : List Plane) (a : Field) (sign i : ℕ) → a.len ≡ sign + 1 → sign < 32
    → lane_word R.SAdd planes a i ≡ number planes a.offset sign i + (2 ^ 32 - 2 ^ sign) * bit (plane_at planes (a.offset + sign)) i
unfolding lane_word
lane_signed planes a sign i long small =
    let v : ℕ = number planes a.offset a.len i in
    let low : ℕ = number planes a.offset sign i in
    let b : ℕ = bit (plane_at planes (a.offset + sign)) i in
    let weight : ℕ = 2 ^ 32 - 2 ^ sign in
    let is : v ≡ low + 2 ^ sign * b = ap (λ n. number planes a.offset n i) long ∙ number-suc planes a.offset sign i in
    let half : 2 ^ (a.len - 1) ≡ 2 ^ sign = ap (λ n. 2 ^ n) (let e : a.len - 1 ≡ sign = omega (arith, long) in e) in
    let top : 2 ^ a.len ≡ 2 * 2 ^ sign = ap (λ n. 2 ^ n) (long ∙ add-one sign) ∙ (let e : 2 ^ suc sign ≡ 2 * 2 ^ sign = omega (arith, pow-suc 2 sign) in e) in
    let room = pow_mono {i = suc sign} {j = 32} (omega (arith, small)) in
    let double = pow-suc 2 sign in
    elim (cases_eq b 1) [
      | inl one ↦
          let all : v ≡ low + 2 ^ sign = omega (arith, is, ap (λ d. 2 ^ sign * d) one) in
          ap (residue 32) (number_in_upper a.len v (omega (arith, half, all)))
          ∙ residue_is 32 (pos v -ℤ pos (2 ^ a.len)) 1 (low + weight) (omega (arith, ints, all, top, room, double))
          ∙ mod-eq_of_lt (let e : low + weight < 2 ^ 32 = omega (arith, number-lt planes a.offset sign i, room, double) in e)
          ∙ omega (arith, ap (λ d. weight * d) one)
      | inr off ↦
          let zero_here : b ≡ 0 = omega (arith, off, bit-lt (plane_at planes (a.offset + sign)) i) in
          let all : v ≡ low = omega (arith, is, ap (λ d. 2 ^ sign * d) zero_here) in
          ap (residue 32) (number_in_lower a.len v (omega (arith, half, all, number-lt planes a.offset sign i)))
          ∙ residue_of_pos 32 v ∙ mod-eq_of_lt (let e : v < 2 ^ 32 = omega (arith, all, number-lt planes a.offset sign i, room, double) in e)
          ∙ omega (arith, all, ap (λ d. weight * d) zero_here)
    ]

-- a bit of the word of a number without a sign: that of its plane, or above the field 0
pub lane_bit : (r : Reduction) (planes : List Plane) (a : Field) (i j : ℕ) → (combiner_of r).1 ≡ true → a.len ≤ 32 → j < a.len
    → bit_at (lane_word r planes a i) j ≡ bit (plane_at planes (a.offset + j)) i
lane_bit r planes a i j unsigned few b = ap (λ v. bit_at v j) (lane_unsigned r planes a i unsigned few) ∙ number-bits planes a.offset a.len i j b

pub lane_above : (r : Reduction) (planes : List Plane) (a : Field) (i j : ℕ) → (combiner_of r).1 ≡ true → a.len ≤ 32 → a.len ≤ j → bit_at (lane_word r planes a i) j ≡ 0
lane_above r planes a i j unsigned few b =
    ap (λ v. bit_at v j) (lane_unsigned r planes a i unsigned few)
    ∙ bit_at_above (number planes a.offset a.len i) a.len j (number-lt planes a.offset a.len i) b

-- a block without active lanes folds to the identity
pub idle_fold : (r : Reduction) (planes : List Plane) (a : Field) (context : ℕ) → ones_before (plane_at planes context) 512 ≡ 0 → block_fold r planes a context 512 ≡ none r
unfolding fold_below
idle_fold r planes a context idle =
    fold_past (once r) (λ i. eqb (bit (plane_at planes context) i) 1) (lane_word r planes a) (none r) 0 512
    (λ k h b. ap (λ d. eqb d 1) (none_before (plane_at planes context) 512 idle k b))
