-- Words of a type with a sign: their bits from the sign on are all 0 or all 1, and operators that take each
-- bit by itself keep that.
use Rattle.std.proofs.Common.{◌≡◌, ℕ, suc, ◌+◌, ◌*◌, ◌/◌, ◌<◌, ◌≤◌, ◌-◌, ◌^◌, ◌%◌, ◌⊎◌, bit_and, bit_or, bit_xor, true, pos, ◌-ℤ◌, sym, ◌∙◌, ap, inl, inr, lit<, arith, add-mul}
use Rattle.std.specs.Int.Bits.{and_self, or_self, or_zero_l, or_zero_r, xor_self, xor_zero_l, xor_zero_r}
use Rattle.std.proofs.lemmas.Int.{ints}
use Rattle.std.proofs.lemmas.Nat.{pow_pos, mod_below, mod_low, shr_high, shr_split, div_below, and_le_l, and_le_r, and_shr, or_shr, xor_shr}
use Rattle.std.proofs.lemmas.Bool.{cases_lt}
use Rattle.std.proofs.Math.Nat.{mod-eq_of_lt, pow-suc, pow-le-pow_right}
use Rattle.cstar_base.specs.Numbers.{residue, number_of}
use Rattle.cstar_base.proofs.NumberLaws.{number_in_lower, number_in_upper, residue_is, residue_of_pos}
use Rattle.short_values.proofs.LowestBits.{times, whole_word}

-- the bits of a word from a place on: all are 0, or all are 1
abbrev pub Repeats : ℕ → ℕ → Type 0
Repeats k word = (word / 2 ^ k ≡ 0) ⊎ (word / 2 ^ k ≡ times k - 1)

-- operators on such words
pub and_repeats : (k a b : ℕ) → Repeats k a → Repeats k b → Repeats k (bit_and a b)
and_repeats k a b (inl p) q = inl (and_shr a b k ∙ ap (λ n. bit_and n (b / 2 ^ k)) p ∙ omega (arith, and_le_l 0 (b / 2 ^ k)))
and_repeats k a b (inr p) (inl q) = inl (and_shr a b k ∙ ap (λ n. bit_and (a / 2 ^ k) n) q ∙ omega (arith, and_le_r (a / 2 ^ k) 0))
and_repeats k a b (inr p) (inr q) =
    inr (and_shr a b k ∙ ap (λ n. bit_and n (b / 2 ^ k)) p ∙ ap (λ n. bit_and (times k - 1) n) q ∙ and_self (times k - 1))

pub or_repeats : (k a b : ℕ) → Repeats k a → Repeats k b → Repeats k (bit_or a b)
or_repeats k a b (inl p) (inl q) = inl (or_shr a b k ∙ ap (λ n. bit_or n (b / 2 ^ k)) p ∙ or_zero_l (b / 2 ^ k) ∙ q)
or_repeats k a b (inl p) (inr q) = inr (or_shr a b k ∙ ap (λ n. bit_or n (b / 2 ^ k)) p ∙ or_zero_l (b / 2 ^ k) ∙ q)
or_repeats k a b (inr p) (inl q) = inr (or_shr a b k ∙ ap (λ n. bit_or (a / 2 ^ k) n) q ∙ or_zero_r (a / 2 ^ k) ∙ p)
or_repeats k a b (inr p) (inr q) =
    inr (or_shr a b k ∙ ap (λ n. bit_or n (b / 2 ^ k)) p ∙ ap (λ n. bit_or (times k - 1) n) q ∙ or_self (times k - 1))

pub xor_repeats : (k a b : ℕ) → Repeats k a → Repeats k b → Repeats k (bit_xor a b)
xor_repeats k a b (inl p) (inl q) = inl (xor_shr a b k ∙ ap (λ n. bit_xor n (b / 2 ^ k)) p ∙ xor_zero_l (b / 2 ^ k) ∙ q)
xor_repeats k a b (inl p) (inr q) = inr (xor_shr a b k ∙ ap (λ n. bit_xor n (b / 2 ^ k)) p ∙ xor_zero_l (b / 2 ^ k) ∙ q)
xor_repeats k a b (inr p) (inl q) = inr (xor_shr a b k ∙ ap (λ n. bit_xor (a / 2 ^ k) n) q ∙ xor_zero_r (a / 2 ^ k) ∙ p)
xor_repeats k a b (inr p) (inr q) =
    inl (xor_shr a b k ∙ ap (λ n. bit_xor n (b / 2 ^ k)) p ∙ ap (λ n. bit_xor (times k - 1) n) q ∙ xor_self (times k - 1))

-- 2 ^ 32 is all ones from place k on, and one more
tops : (k : ℕ) → k ≤ 32 → (times k - 1) * 2 ^ k + 2 ^ k ≡ 2 ^ 32
tops k h =
    let split : times k ≡ times k - 1 + 1 = omega (arith, pow_pos (32 - k)) in
    let product : times k * 2 ^ k ≡ (times k - 1 + 1) * 2 ^ k = ap (λ n. n * 2 ^ k) split in
    let parts = add-mul (times k - 1) 1 (2 ^ k) in
    omega (arith, whole_word k h)

-- the words 0 and all ones
pub zero_repeats : (k : ℕ) → Repeats k 0
zero_repeats k = let none = div_below 0 (2 ^ k) 1 (pow_pos k) (omega (arith, pow_pos k)) in inl (omega arith)

pub ones_repeat : (k : ℕ) → k ≤ 32 → Repeats k (2 ^ 32 - 1)
ones_repeat k h =
    let some = pow_pos k in
    let is : 2 ^ 32 - 1 ≡ (times k - 1) * 2 ^ k + (2 ^ k - 1) = omega (arith, tops k h) in
    inr (ap (λ n. n / 2 ^ k) is ∙ shr_high (times k - 1) k (2 ^ k - 1) (omega arith))

-- the halves of the numbers of k + 1 bits
half_is : (k : ℕ) → 2 ^ (suc k - 1) ≡ 2 ^ k
half_is k = ap (λ n. 2 ^ n) (let e : suc k - 1 ≡ k = omega arith in e)

-- a word whose bits repeat from the sign on is the number of its lowest bits
pub sign_extended : (k word : ℕ) → k < 31 → Repeats k word → residue 32 (number_of (suc k) true (word % 2 ^ suc k)) ≡ word
sign_extended k word h (inl p) =
    let low : word < 2 ^ k = omega (arith, shr_split word k, ap (λ q. q * 2 ^ k) p, mod_below word (2 ^ k) (pow_pos k)) in
    let twice : 2 ^ suc k ≡ 2 * 2 ^ k = omega (arith, pow-suc 2 k) in
    let most : 2 ^ k ≤ 2 ^ 32 = pow-le-pow_right (lit< tt) (let e : k ≤ 32 = omega arith in e) in
    ap (λ n. residue 32 (number_of (suc k) true n)) (mod-eq_of_lt (omega arith))
    ∙ ap (residue 32) (number_in_lower (suc k) word (omega (arith, half_is k)))
    ∙ residue_of_pos 32 word ∙ mod-eq_of_lt (omega arith)
sign_extended k word h (inr p) =
    let r : ℕ = word % 2 ^ k in
    let below : r < 2 ^ k = mod_below word (2 ^ k) (pow_pos k) in
    let twice : 2 ^ suc k ≡ 2 * 2 ^ k = omega (arith, pow-suc 2 k) in
    let is : word ≡ (times k - 1) * 2 ^ k + r = sym (shr_split word k) ∙ ap (λ q. q * 2 ^ k + r) p in
    let whole = tops k (let e : k ≤ 32 = omega arith in e) in
    let wide = tops (suc k) (let e : suc k ≤ 32 = omega arith in e) in
    let n : ℕ = 2 ^ k + r in
    let high : word ≡ (times (suc k) - 1) * 2 ^ suc k + n = omega arith in
    let cut : word % 2 ^ suc k ≡ n = ap (λ x. x % 2 ^ suc k) high ∙ mod_low (times (suc k) - 1) (suc k) n (omega arith) in
    ap (λ m. residue 32 (number_of (suc k) true m)) cut
    ∙ ap (residue 32) (number_in_upper (suc k) n (omega (arith, half_is k)))
    ∙ residue_is 32 (pos n -ℤ pos (2 ^ suc k)) 1 word (omega (arith, ints)) ∙ mod-eq_of_lt (omega arith)

-- and such is the word of every number of k + 1 bits with a sign
pub number_repeats : (k n : ℕ) → k < 31 → n < 2 ^ suc k → Repeats k (residue 32 (number_of (suc k) true n))
number_repeats k n h b = elim (cases_lt n (2 ^ k)) [
  | inl low ↦
      let most : 2 ^ k ≤ 2 ^ 32 = pow-le-pow_right (lit< tt) (let e : k ≤ 32 = omega arith in e) in
      let is : residue 32 (number_of (suc k) true n) ≡ n =
      ap (residue 32) (number_in_lower (suc k) n (omega (arith, half_is k))) ∙ residue_of_pos 32 n ∙ mod-eq_of_lt (omega arith) in
      let none = div_below n (2 ^ k) 1 (pow_pos k) (omega arith) in
      inl (ap (λ x. x / 2 ^ k) is ∙ omega arith)
  | inr upper ↦
      let twice : 2 ^ suc k ≡ 2 * 2 ^ k = omega (arith, pow-suc 2 k) in
      let whole = tops k (let e : k ≤ 32 = omega arith in e) in
      let word : ℕ = (times k - 1) * 2 ^ k + (n - 2 ^ k) in
      let is : residue 32 (number_of (suc k) true n) ≡ word =
      ap (residue 32) (number_in_upper (suc k) n (omega (arith, half_is k)))
      ∙ residue_is 32 (pos n -ℤ pos (2 ^ suc k)) 1 word (omega (arith, ints)) ∙ mod-eq_of_lt (omega arith) in
      inr (ap (λ x. x / 2 ^ k) is ∙ shr_high (times k - 1) k (n - 2 ^ k) (omega arith))
]
