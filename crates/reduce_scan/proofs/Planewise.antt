-- A fold over lanes, plane by plane.
use Rattle.std.proofs.Common.{◌≡◌, ℕ, zero, suc, ◌≢◌, ◌+◌, ◌-◌, ◌*◌, ◌%◌, ◌^◌, ◌<◌, ◌≤◌, min, max, Bool, true, false, cond, eqb, List, [], inl, inr, refl, sym, ◌∙◌, ap, arith}
use Rattle.std.specs.Int.{bit_at}
use Rattle.std.specs.Int.Bits.{bit_and, bit_or, bit_xor}
use Rattle.std.proofs.Math.Nat.{mul-add, mul_comm, add-mod-mod, mod-add-mod, pow-le-pow_right}
use Rattle.std.proofs.Math.Pow.{pow_mono}
use Rattle.std.proofs.lemmas.Bool.{cases_eq, eq-eqb, ne_eqb}
use Rattle.std.proofs.lemmas.Nat.{shl_whole, mod_below, pow_pos}
use Rattle.std.proofs.lemmas.Nat.Bits.{bit_at_and, bit_at_or, bit_at_xor, bit_at_ones, bit_at-lt, bit_at-zero}
use Rattle.cstar_base.specs.Folds.{fold_once, identity_of}
use Rattle.cstar_base.specs.Orders.{fold_below}
use Rattle.cstar_base.proofs.OperatorLaws.{sum_by_residues}
use Rattle.bit_planes.specs.declared.plane.Plane.{Plane}
use Rattle.bit_planes.specs.Bits.{bit}
use Rattle.bit_planes.specs.Planes.{plane_at, number}
use Rattle.bit_planes.proofs.Planes.{low_bits, number-none}
use Rattle.bit_planes.proofs.Words.{bit-lt}
use Rattle.lane_kernels.specs.Numbers.{ones_before}
use Rattle.lane_kernels.proofs.Arithmetic.{mod-next}
use Rattle.paris_code.specs.declared.operands.Field.{Field}
use Rattle.paris_code.specs.declared.operands.Reduction.TheVariants as R
use Rattle.paris_code.specs.Operators.{combiner_of}
use Rattle.reduce_scan.specs.declared.counts.BitFold.{BitFold}
use Rattle.reduce_scan.specs.declared.counts.BitFold.TheVariants as B
use Rattle.reduce_scan.specs.Blocks.{block_fold, lane_word}
use Rattle.reduce_scan.specs.Planewise.{folded_bit, reduction_of}
use Rattle.reduce_scan.proofs.LaneWords.{lane_fits, lane_bit, lane_above}
use Rattle.reduce_scan.proofs.Parts.{once, none, none_below, fold_fits}

-- the sum over the active lanes of the first lanes
abbrev pub plain_sum : List ℕ → (ℕ → ℕ) → ℕ → ℕ
plain_sum active value n = fold_below (λ total v. total + v) (λ i. eqb (bit active i) 1) value 0 n

-- without bits there is nothing to add
pub sum_none : (active : List ℕ) (planes : List Plane) (offset n : ℕ) → plain_sum active (number planes offset 0) n ≡ 0
unfolding fold_below
sum_none active planes offset zero = refl
sum_none active planes offset (suc n) =
    let before : ℕ = plain_sum active (number planes offset 0) n in
    elim (cases_eq (bit active n) 1) [
      | inl on ↦ ap (λ t. cond t (before + number planes offset 0 n) before) (eq-eqb (bit active n) 1 on) ∙ omega (arith, sum_none active planes offset n, number-none planes offset n)
      | inr off ↦ ap (λ t. cond t (before + number planes offset 0 n) before) (ne_eqb (bit active n) 1 off) ∙ sum_none active planes offset n
    ]

sum_step : (t : Bool) (a v p : ℕ) → a ≡ p % 2 ^ 32 → cond t (once R.SAdd a v) a ≡ cond t (p + v) p % 2 ^ 32
unfolding fold_once
sum_step true a v p e = sum_by_residues 32 false a v ∙ ap (λ q. (q + v) % 2 ^ 32) e ∙ mod-add-mod p (2 ^ 32) v
sum_step false a v p e = e

-- the fold is that sum of the words
pub sum_is : (planes : List Plane) (a : Field) (context n : ℕ) → block_fold R.SAdd planes a context n ≡ plain_sum (plane_at planes context) (lane_word R.SAdd planes a) n % 2 ^ 32
unfolding fold_below identity_of
sum_is planes a context zero = refl
sum_is planes a context (suc n) =
    sum_step (eqb (bit (plane_at planes context) n) 1) (block_fold R.SAdd planes a context n) (lane_word R.SAdd planes a n) (plain_sum (plane_at planes context) (lane_word R.SAdd planes a) n) (sum_is planes a context n)

-- the sum with one more bit, by how many lanes have it
pub total_more : (total ones sum next j : ℕ) → total ≡ sum % 2 ^ 32 → next ≡ sum + 2 ^ j * ones → (total + ones * 2 ^ j % 2 ^ 32) % 2 ^ 32 ≡ next % 2 ^ 32
total_more total ones sum next j e is =
    add-mod-mod total (ones * 2 ^ j) (2 ^ 32) ∙ ap (λ t. (t + ones * 2 ^ j) % 2 ^ 32) e ∙ mod-add-mod sum (2 ^ 32) (ones * 2 ^ j)
    ∙ ap (λ x. x % 2 ^ 32) (let f : sum + ones * 2 ^ j ≡ next = omega (arith, is, mul_comm ones (2 ^ j)) in f)

-- and with the sign, by how many lanes have it
pub total_signed : (total negative sum all sign : ℕ) → sign < 32 → total ≡ sum % 2 ^ 32 → all ≡ sum + (2 ^ 32 - 2 ^ sign) * negative
    → (total + (2 ^ 32 - negative * 2 ^ sign % 2 ^ 32)) % 2 ^ 32 ≡ all % 2 ^ 32
total_signed total negative sum all sign small e is =
    let below = pow_mono {i = sign} {j = 32} (omega (arith, small)) in
    let taken : ℕ = negative * 2 ^ sign in
    let whole : (2 ^ 32 - 2 ^ sign) * negative + taken ≡ 2 ^ 32 * negative =
    omega (arith, below, mul_comm negative (2 ^ sign), mul_comm negative (2 ^ 32 - 2 ^ sign), mul-add negative (2 ^ 32 - 2 ^ sign) (2 ^ sign), ap (λ w. negative * w) (let f : (2 ^ 32 - 2 ^ sign) + 2 ^ sign ≡ 2 ^ 32 = omega (arith, below) in f)) in
    omega (arith, e, is, whole)

all_step : (o c a b : ℕ) → o ≤ c → a < 2 → b < 2 → cond (eqb a 1) (min (cond (eqb o c) 1 0) b) (cond (eqb o c) 1 0) ≡ cond (eqb (o + min b a) (c + a)) 1 0
all_step o c zero b h p q = ap (λ t. cond t 1 0) (elim (cases_eq o c) [
  | inl e ↦ eq-eqb o c e ∙ sym (eq-eqb (o + min b 0) (c + 0) (omega arith))
  | inr n ↦ ne_eqb o c n ∙ sym (ne_eqb (o + min b 0) (c + 0) (λ e. n (omega arith)))
])
all_step o c (suc zero) b h p q = elim (cases_eq o c) [
  | inl e ↦ ap (λ t. min (cond t 1 0) b) (eq-eqb o c e) ∙ elim (cases_eq b 1) [
    | inl one ↦ omega arith ∙ sym (ap (λ t. cond t 1 0) (eq-eqb (o + min b 1) (c + 1) (omega arith)))
    | inr n ↦ omega arith ∙ sym (ap (λ t. cond t 1 0) (ne_eqb (o + min b 1) (c + 1) (λ f. absurd (omega arith))))
  ]
  | inr n ↦ ap (λ t. min (cond t 1 0) b) (ne_eqb o c n) ∙ omega arith ∙ sym (ap (λ t. cond t 1 0) (ne_eqb (o + min b 1) (c + 1) (λ f. n (omega arith))))
]
all_step o c (suc (suc a)) b h p q = absurd (omega arith)

any_step : (o a b : ℕ) → a < 2 → b < 2 → cond (eqb a 1) (max (cond (eqb o 0) 0 1) b) (cond (eqb o 0) 0 1) ≡ cond (eqb (o + min b a) 0) 0 1
any_step o zero b p q = ap (λ n. cond (eqb n 0) 0 1) (let e : o ≡ o + min b 0 = omega arith in e)
any_step o (suc zero) zero p q = ap (λ n. n) (let e : max (cond (eqb o 0) 0 1) 0 ≡ cond (eqb o 0) 0 1 = omega arith in e) ∙ ap (λ n. cond (eqb n 0) 0 1) (let e : o ≡ o + min 0 1 = omega arith in e)
any_step o (suc zero) (suc zero) p q = elim (cases_eq o 0) [
  | inl e ↦ ap (λ t. max (cond t 0 1) 1) (eq-eqb o 0 e) ∙ sym (ap (λ t. cond t 0 1) (ne_eqb (o + min 1 1) 0 (λ f. absurd (omega arith))))
  | inr n ↦ ap (λ t. max (cond t 0 1) 1) (ne_eqb o 0 n) ∙ sym (ap (λ t. cond t 0 1) (ne_eqb (o + min 1 1) 0 (λ f. absurd (omega arith))))
]
any_step o (suc zero) (suc (suc b)) p q = absurd (omega arith)
any_step o (suc (suc a)) b p q = absurd (omega arith)

odd_step : (o a b : ℕ) → a < 2 → b < 2 → cond (eqb a 1) ((o % 2 + b) % 2) (o % 2) ≡ (o + min b a) % 2
odd_step o zero b p q = omega arith
odd_step o (suc zero) b p q = omega arith
odd_step o (suc (suc a)) b p q = absurd (omega arith)

-- each of some numbers has one digit more than another
module _ (active digits mask : List ℕ) (low high : ℕ → ℕ) (weight : ℕ) (more : (i : ℕ) → high i ≡ low i + weight * bit digits i)
    (is : (i : ℕ) → i < 512 → bit mask i ≡ min (bit digits i) (bit active i)) where
  pub sum_more : (n : ℕ) → n ≤ 512 → plain_sum active high n ≡ plain_sum active low n + weight * ones_before mask n
  unfolding fold_below ones_before
  sum_more zero h = omega arith
  sum_more (suc n) h =
      let below : ℕ = plain_sum active low n in
      let above : ℕ = plain_sum active high n in
      let b : ℕ = bit digits n in
      let rest : above ≡ below + weight * ones_before mask n = sum_more n (omega arith) in
      let own : bit mask n ≡ min b (bit active n) = is n (omega arith) in
      elim (cases_eq (bit active n) 1) [
        | inl on ↦
            let one : bit mask n ≡ b = omega (arith, own, on, bit-lt digits n) in
            ap (λ t. cond t (above + high n) above) (eq-eqb (bit active n) 1 on)
            ∙ (let e : above + high n ≡ below + low n + weight * (ones_before mask n + bit mask n) =
            omega (arith, rest, more n, mul-add weight (ones_before mask n) (bit mask n), ap (λ x. weight * x) one) in e)
            ∙ sym (ap (λ t. cond t (below + low n) below + weight * (ones_before mask n + bit mask n)) (eq-eqb (bit active n) 1 on))
        | inr off ↦
            let none_here : bit mask n ≡ 0 = omega (arith, own, off, bit-lt active n) in
            ap (λ t. cond t (above + high n) above) (ne_eqb (bit active n) 1 off)
            ∙ rest ∙ ap (λ x. below + weight * x) (let e : ones_before mask n ≡ ones_before mask n + bit mask n = omega (arith, none_here) in e)
            ∙ sym (ap (λ t. cond t (below + low n) below + weight * (ones_before mask n + bit mask n)) (ne_eqb (bit active n) 1 off))
      ]

-- the fold of words bit by bit over the active lanes of the first lanes
abbrev bit_fold : BitFold → List ℕ → (ℕ → ℕ) → ℕ → ℕ
bit_fold fold active word n = fold_below (once (reduction_of fold)) (λ i. eqb (bit active i) 1) word (none (reduction_of fold)) n

-- the lanes of a mask are the active ones whose word has a 1
module _ (active : List ℕ) (word : ℕ → ℕ) (j : ℕ) (mask : List ℕ) (is : (i : ℕ) → i < 512 → bit mask i ≡ min (bit_at (word i) j) (bit active i)) where
  ones_few : (n : ℕ) → n ≤ 512 → ones_before mask n ≤ ones_before active n
  unfolding ones_before
  ones_few zero h = omega arith
  ones_few (suc n) h = omega (arith, ones_few n (omega arith), is n (omega arith))

  chosen : (t : Bool) (x y : ℕ) → bit_at (cond t x y) j ≡ cond t (bit_at x j) (bit_at y j)
  chosen true x y = refl
  chosen false x y = refl

  -- the bit of a fold bit by bit
  pub bit_is : (fold : BitFold) → j < 32 → (n : ℕ) → n ≤ 512
      → bit_at (bit_fold fold active word n) j ≡ folded_bit fold (ones_before mask n) (ones_before active n)
  unfolding fold_below fold_once identity_of ones_before
  bit_is B.All small zero h = bit_at_ones 32 j small
  bit_is B.Any small zero h = bit_at-zero j
  bit_is B.Odd small zero h = bit_at-zero j
  bit_is B.All small (suc n) h =
      let f : ℕ = bit_fold B.All active word n in
      let v : ℕ = word n in
      let b : ℕ = bit_at v j in
      let o : ℕ = ones_before mask n in
      let c : ℕ = ones_before active n in
      chosen (eqb (bit active n) 1) (bit_and f v) f ∙ ap (λ x. cond (eqb (bit active n) 1) x (bit_at f j)) (bit_at_and f v j)
      ∙ ap (λ x. cond (eqb (bit active n) 1) (min x (bit_at v j)) x) (bit_is B.All small n (omega arith))
      ∙ all_step o c (bit active n) b (ones_few n (omega arith)) (bit-lt active n) (bit_at-lt v j)
      ∙ ap (λ x. cond (eqb (o + x) (c + bit active n)) 1 0) (sym (is n (omega arith)))
  bit_is B.Any small (suc n) h =
      let f : ℕ = bit_fold B.Any active word n in
      let v : ℕ = word n in
      let b : ℕ = bit_at v j in
      let o : ℕ = ones_before mask n in
      chosen (eqb (bit active n) 1) (bit_or f v) f ∙ ap (λ x. cond (eqb (bit active n) 1) x (bit_at f j)) (bit_at_or f v j)
      ∙ ap (λ x. cond (eqb (bit active n) 1) (max x (bit_at v j)) x) (bit_is B.Any small n (omega arith))
      ∙ any_step o (bit active n) b (bit-lt active n) (bit_at-lt v j)
      ∙ ap (λ x. cond (eqb (o + x) 0) 0 1) (sym (is n (omega arith)))
  bit_is B.Odd small (suc n) h =
      let f : ℕ = bit_fold B.Odd active word n in
      let v : ℕ = word n in
      let b : ℕ = bit_at v j in
      let o : ℕ = ones_before mask n in
      chosen (eqb (bit active n) 1) (bit_xor f v) f ∙ ap (λ x. cond (eqb (bit active n) 1) x (bit_at f j)) (bit_at_xor f v j)
      ∙ ap (λ x. cond (eqb (bit active n) 1) ((x + bit_at v j) % 2) x) (bit_is B.Odd small n (omega arith))
      ∙ odd_step o (bit active n) b (bit-lt active n) (bit_at-lt v j)
      ∙ ap (λ x. (o + x) % 2) (sym (is n (omega arith)))

-- one more bit of a number that is put together bit by bit
pub bit_more : (x total b j : ℕ) → j < 32 → total ≡ x % 2 ^ j → b ≡ bit_at x j → (total + b * 2 ^ j % 2 ^ 32 ≡ x % 2 ^ (j + 1)) × (total + b * 2 ^ j % 2 ^ 32 < 2 ^ 32)
bit_more x total b j small e is =
    let digit : b < 2 = omega (arith, is) in
    let top : 2 ^ (j + 1) ≤ 2 ^ 32 = pow-le-pow_right {n = 2} (omega arith) {i = j + 1} {j = 32} (omega arith) in
    let whole : b * 2 ^ j % 2 ^ 32 ≡ b * 2 ^ j = shl_whole b 1 j 32 (omega arith) (omega arith) in
    let same : total + b * 2 ^ j % 2 ^ 32 ≡ x % 2 ^ (j + 1) = omega (arith, whole, e, ap (λ d. d * 2 ^ j) is, mod-next x j) in
    (same, omega (arith, same, mod_below x (2 ^ (j + 1)) (pow_pos (j + 1)), top))

-- a fold bit by bit of a block some of whose lanes are active
module _ (fold : BitFold) (planes : List Plane) (a : Field) (context : ℕ) (few : a.len ≤ 32) where
  reads_unsigned : (other : BitFold) → (combiner_of (reduction_of other)).1 ≡ true
  reads_unsigned B.All = refl
  reads_unsigned B.Any = refl
  reads_unsigned B.Odd = refl

  abbrev whole : ℕ
  whole = block_fold (reduction_of fold) planes a context 512

  -- a bit of the field
  pub field_bit : (j : ℕ) (mask : List ℕ) → j < a.len → ((i : ℕ) → i < 512 → bit mask i ≡ min (bit (plane_at planes (a.offset + j)) i) (bit (plane_at planes context) i))
      → bit_at whole j ≡ folded_bit fold (ones_before mask 512) (ones_before (plane_at planes context) 512)
  field_bit j mask b is =
      bit_is (plane_at planes context) (lane_word (reduction_of fold) planes a) j mask
      (λ i h. is i h ∙ ap (λ x. min x (bit (plane_at planes context) i)) (sym (lane_bit (reduction_of fold) planes a i j (reads_unsigned fold) few b)))
      fold (omega (arith, b, few)) 512 (omega arith)

  empty : (i : ℕ) → bit [] i ≡ 0
  unfolding bit
  empty i = bit_at-zero (i % 64)

  no_lane : (n : ℕ) → ones_before [] n ≡ 0
  unfolding ones_before
  no_lane zero = refl
  no_lane (suc n) = omega (arith, no_lane n, empty n)

  none_of : (n : ℕ) → 0 ≡ min 0 n
  none_of n = omega arith

  not_all : (other : BitFold) (active : ℕ) → active ≢ 0 → folded_bit other 0 active ≡ 0
  not_all B.All active some = ap (λ t. cond t 1 0) (ne_eqb 0 active (λ e. some (sym e)))
  not_all B.Any active some = refl
  not_all B.Odd active some = refl

  -- above the field there is none
  pub all_bits : ones_before (plane_at planes context) 512 ≢ 0 → whole % 2 ^ a.len ≡ whole
  all_bits some = low_bits whole a.len 32
      (fold_fits (reduction_of fold) (λ i. eqb (bit (plane_at planes context) i) 1) (lane_word (reduction_of fold) planes a) (none (reduction_of fold)) 512 (none_below (reduction_of fold)) (lane_fits (reduction_of fold) planes a))
      (λ j above b.
      bit_is (plane_at planes context) (lane_word (reduction_of fold) planes a) j []
      (λ i h. empty i ∙ none_of (bit (plane_at planes context) i) ∙ ap (λ x. min x (bit (plane_at planes context) i)) (sym (lane_above (reduction_of fold) planes a i j (reads_unsigned fold) few above)))
      fold b 512 (omega arith)
      ∙ ap (λ o. folded_bit fold o (ones_before (plane_at planes context) 512)) (no_lane 512)
      ∙ not_all fold (ones_before (plane_at planes context) 512) some)
