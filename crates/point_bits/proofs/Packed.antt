-- Numbers among the bits of bytes.
use Rattle.std.proofs.Common.{◌≡◌, ◌≢◌, ℕ, ◌+◌, ◌-◌, ◌*◌, ◌/◌, ◌%◌, ◌^◌, ◌<◌, ◌≤◌, ◌⊎◌, List, length, get_or, min, max, refl, sym, ◌∙◌, ap, inl, inr, add-mul, arith}
use Rattle.std.specs.Int.{bit_at}
use Rattle.std.proofs.Math.ListN.{set, length-set}
use Rattle.std.proofs.Math.Nat.{le_refl, pow-le-pow_right}
use Rattle.std.proofs.lemmas.Bool.{cases_lt, cases_eq}
use Rattle.std.proofs.lemmas.List.{get_or-set_same, get_or-set_other}
use Rattle.std.proofs.lemmas.Nat.{mul-le, pow-add, pow_pos, shl_below}
use Rattle.std.proofs.lemmas.Nat.Bits.{bit_at-zero, bit_at_above, bit_at_cat_high, bit_at_cat_low, bit_at_ones}
use Rattle.cstar_base.proofs.BitCuts.{bit_at-cut, bit_at-shr}
use Rattle.point_bits.specs.Strings.{byte_bit}

-- a number that is moved up
shl_low : (x k j : ℕ) → j < k → bit_at (x * 2 ^ k) j ≡ 0
shl_low x k j h = ap (λ n. bit_at n j) (let e : x * 2 ^ k ≡ x * 2 ^ k + 0 = omega arith in e) ∙ bit_at_cat_low x k 0 j h ∙ bit_at-zero j

shl_high : (x k j : ℕ) → k ≤ j → bit_at (x * 2 ^ k) j ≡ bit_at x (j - k)
shl_high x k j h = ap (λ n. bit_at n j) (let e : x * 2 ^ k ≡ x * 2 ^ k + 0 = omega arith in e) ∙ bit_at_cat_high x k 0 j (pow_pos k) h

-- a number of few bits that is moved up by less than a byte fits a word
pub moved_fits : (x len shift : ℕ) → x < 2 ^ len → len ≤ 32 → shift < 8 → x * 2 ^ shift < 2 ^ 64
moved_fits x len shift small l s =
    let most : 2 ^ (len + shift) ≤ 2 ^ 64 = pow-le-pow_right {n = 2} (omega arith) {i = len + shift} {j = 64} (omega arith) in
    omega (arith, shl_below x len shift small, most)

-- the bits of a number of few bits that is moved up, in place of the old ones
bit_small : (n j : ℕ) → bit_at n j < 2
bit_small n j = omega arith

module _ (len shift number old x j : ℕ) (small : number < 2 ^ len) where
  inside : shift ≤ x → x < shift + len → max (min (bit_at old j) (1 - bit_at ((2 ^ len - 1) * 2 ^ shift) x)) (bit_at (number * 2 ^ shift) x) ≡ bit_at number (x - shift)
  inside l h =
      omega (arith, shl_high (2 ^ len - 1) shift x l, bit_at_ones len (x - shift) (omega arith), shl_high number shift x l)

  below : x < shift → max (min (bit_at old j) (1 - bit_at ((2 ^ len - 1) * 2 ^ shift) x)) (bit_at (number * 2 ^ shift) x) ≡ bit_at old j
  below h = omega (arith, shl_low (2 ^ len - 1) shift x h, shl_low number shift x h, bit_small old j)

  above : shift + len ≤ x → max (min (bit_at old j) (1 - bit_at ((2 ^ len - 1) * 2 ^ shift) x)) (bit_at (number * 2 ^ shift) x) ≡ bit_at old j
  above h =
      omega (
        arith,
        shl_high (2 ^ len - 1) shift x (omega arith),
        bit_at_above (2 ^ len - 1) len (x - shift) (omega (arith, pow_pos len)) (omega arith),
        shl_high number shift x (omega arith),
        bit_at_above number len (x - shift) small (omega arith),
        bit_small old j,
      )

-- the first bytes of a number are put
pub record PutUntil (at len number k : ℕ) (first bytes : List ℕ) : Type 0 where
  pub long : length bytes ≡ length first
  pub inside : (n : ℕ) → at ≤ n → n < at + len → n < 8 * (at / 8 + k) → byte_bit bytes n ≡ bit_at number (n - at)
  pub outside : (n : ℕ) → (n < at) ⊎ ((at + len ≤ n) ⊎ (8 * (at / 8 + k) ≤ n)) → byte_bit bytes n ≡ byte_bit first n

pub put_none : (at len number : ℕ) (bytes : List ℕ) → PutUntil at len number 0 bytes bytes
put_none at len number bytes = record {
  long = refl;
  inside = λ n l h b. absurd (omega arith);
  outside = λ n apart. refl;
}

module _ (at len number k : ℕ) (first old new : List ℕ) (byte : ℕ) (small : number < 2 ^ len) (within : at / 8 + k < length old) (is : new ≡ set old (at / 8 + k) byte)
    (gives : (j : ℕ) → j < 8 → bit_at byte j ≡ max (min (bit_at (get_or old (at / 8 + k) 0) j) (1 - bit_at ((2 ^ len - 1) * 2 ^ (at % 8)) (8 * k + j))) (bit_at (number * 2 ^ (at % 8)) (8 * k + j)))
    (until : PutUntil at len number k first old) where
  other : (n : ℕ) → n / 8 ≢ at / 8 + k → byte_bit new n ≡ byte_bit old n
  unfolding byte_bit
  other n m = ap (λ (b : List ℕ). bit_at (get_or b (n / 8) 0) (n % 8)) is ∙ ap (λ x. bit_at x (n % 8)) (get_or-set_other old (at / 8 + k) (n / 8) byte 0 m)

  here : (n : ℕ) → n / 8 ≡ at / 8 + k → byte_bit new n ≡ bit_at byte (n % 8)
  unfolding byte_bit
  here n e = ap (λ (b : List ℕ). bit_at (get_or b (n / 8) 0) (n % 8)) is ∙ ap (λ q. bit_at (get_or (set old (at / 8 + k) byte) q 0) (n % 8)) e ∙ ap (λ x. bit_at x (n % 8)) (get_or-set_same old (at / 8 + k) byte 0 within)

  was : (n : ℕ) → n / 8 ≡ at / 8 + k → bit_at (get_or old (at / 8 + k) 0) (n % 8) ≡ byte_bit old n
  unfolding byte_bit
  was n e = ap (λ q. bit_at (get_or old q 0) (n % 8)) (sym e)

  place : (n : ℕ) → n / 8 ≡ at / 8 + k → 8 * k + n % 8 + at ≡ n + at % 8
  place n e = omega arith

  pub put_more : PutUntil at len number (k + 1) first new
  put_more = record {
    long = ap length is ∙ length-set old (at / 8 + k) byte ∙ until.long;
    inside = λ n l h b. elim (cases_eq (n / 8) (at / 8 + k)) [
      | inr m ↦ other n m ∙ until.inside n l h (omega arith)
      | inl e ↦
          here n e ∙ gives (n % 8) (omega arith)
          ∙ inside len (at % 8) number (get_or old (at / 8 + k) 0) (8 * k + n % 8) (n % 8) small (omega (arith, place n e)) (omega (arith, place n e))
          ∙ ap (λ j. bit_at number j) (let q : 8 * k + n % 8 - at % 8 ≡ n - at = omega (arith, place n e) in q)
    ];
    outside = λ n apart. elim (cases_eq (n / 8) (at / 8 + k)) [
      | inr m ↦ other n m ∙ until.outside n (elim apart [
        | inl l ↦ inl l
        | inr r ↦ inr (elim r [ inl a ↦ inl a | inr b ↦ inr (omega arith) ])
      ])
      | inl e ↦
          here n e ∙ gives (n % 8) (omega arith)
          ∙ elim apart [
            | inl l ↦ below len (at % 8) number (get_or old (at / 8 + k) 0) (8 * k + n % 8) (n % 8) small (omega (arith, place n e)) ∙ was n e ∙ until.outside n (inl l)
            | inr r ↦ elim r [
              | inl a ↦ above len (at % 8) number (get_or old (at / 8 + k) 0) (8 * k + n % 8) (n % 8) small (omega (arith, place n e)) ∙ was n e ∙ until.outside n (inr (inl a))
              | inr b ↦ absurd (omega arith)
            ]
          ]
    ];
  }

-- the first bytes of a window
pub record ReadUntil (at k window : ℕ) (bytes : List ℕ) : Type 0 where
  pub small : window < 2 ^ (8 * k)
  pub bits : (x : ℕ) → x < 8 * k → bit_at window x ≡ byte_bit bytes (8 * (at / 8) + x)

pub read_none : (at : ℕ) (bytes : List ℕ) → ReadUntil at 0 0 bytes
read_none at bytes = record { small = pow_pos 0; bits = λ x h. absurd (omega arith) }

-- a byte that is put above a window does not leave a word
pub above_fits : (byte k : ℕ) → byte < 256 → k < 5 → byte * 2 ^ (8 * k) < 2 ^ (8 * (k + 1))
above_fits byte k fits h = omega (arith, shl_below byte 8 (8 * k) fits, ap (λ w. 2 ^ w) (let e : 8 + 8 * k ≡ 8 * (k + 1) = omega arith in e))

pub read_more : (at k window byte : ℕ) (bytes : List ℕ) → byte < 256 → byte ≡ get_or bytes (at / 8 + k) 0 → ReadUntil at k window bytes
    → ReadUntil at (k + 1) (byte * 2 ^ (8 * k) + window) bytes
unfolding byte_bit
read_more at k window byte bytes fits is until = record {
  small =
      let top : (byte + 1) * 2 ^ (8 * k) ≡ byte * 2 ^ (8 * k) + 1 * 2 ^ (8 * k) = add-mul byte 1 (2 ^ (8 * k)) in
      let most : (byte + 1) * 2 ^ (8 * k) ≤ 2 ^ 8 * 2 ^ (8 * k) = mul-le (byte + 1) (2 ^ (8 * k)) (2 ^ 8) (2 ^ (8 * k)) (omega arith) (le_refl (2 ^ (8 * k))) in
      let all : 2 ^ (8 * (k + 1)) ≡ 2 ^ 8 * 2 ^ (8 * k) = ap (λ w. 2 ^ w) (let e : 8 * (k + 1) ≡ 8 + 8 * k = omega arith in e) ∙ pow-add 2 8 (8 * k) in
      omega (arith, until.small, top, most, all);
  bits = λ x h. elim (cases_lt x (8 * k)) [
    | inl l ↦ bit_at_cat_low byte (8 * k) window x l ∙ until.bits x l
    | inr g ↦
        bit_at_cat_high byte (8 * k) window x until.small g
        ∙ ap (λ b. bit_at b (x - 8 * k)) is
        ∙ ap (λ q. bit_at (get_or bytes q 0) (x - 8 * k)) (let e : at / 8 + k ≡ (8 * (at / 8) + x) / 8 = omega arith in e)
        ∙ ap (λ j. bit_at (get_or bytes ((8 * (at / 8) + x) / 8) 0) j) (let e : x - 8 * k ≡ (8 * (at / 8) + x) % 8 = omega arith in e)
  ];
}

-- the number in a window
pub window_has : (at len k window : ℕ) (bytes : List ℕ) → at % 8 + len ≤ 8 * k → ReadUntil at k window bytes
    → (j : ℕ) → j < len → bit_at (window / 2 ^ (at % 8) % 2 ^ len) j ≡ byte_bit bytes (at + j)
window_has at len k window bytes all until j h =
    bit_at-cut (window / 2 ^ (at % 8)) len j h ∙ bit_at-shr window (at % 8) j ∙ until.bits (at % 8 + j) (omega arith)
    ∙ ap (byte_bit bytes) (let e : 8 * (at / 8) + (at % 8 + j) ≡ at + j = omega arith in e)
