-- Running sums over the numbers that rows hold.
use Rattle.std.proofs.Common.{◌≡◌, ◌⊎◌, ℕ, zero, suc, ◌+◌, ◌*◌, ◌/◌, ◌%◌, ◌^◌, ◌<◌, ◌≤◌, cond, eqb, false, List, length, get_or, map, refl, sym, ◌∙◌, ap, inl, inr, zero-add, arith}
use Rattle.std.specs.Prelude.{slice_index}
use Rattle.std.proofs.Math.ListN.{set, length-set, replicate}
use Rattle.std.proofs.lemmas.Simd.{get_or-replicate}
use Rattle.std.proofs.lemmas.Bool.{cases_lt, cases_eq}
use Rattle.std.proofs.lemmas.List.{get_or-set_same, get_or-set_other, get_or-map}
use Rattle.std.proofs.lemmas.List.FromFn.{get_or-range_with_len, length-range_with_len}
use Rattle.std.specs.List.{range_with_len}
use Rattle.cstar_base.specs.declared.operators.Inclusion.{Inclusion}
use Rattle.cstar_base.specs.declared.operators.Inclusion.TheVariants as N
use Rattle.cstar_base.specs.Folds.{fold_once}
use Rattle.cstar_base.proofs.OperatorLaws.{sum_by_residues}
use Rattle.bit_planes.specs.declared.plane.Plane.{Plane}
use Rattle.bit_planes.specs.Bits.{bit}
use Rattle.bit_planes.specs.Planes.{plane_at}
use Rattle.bit_planes.specs.Rows.{half, held}
use Rattle.bit_planes.proofs.Planes.{plane-set_same, plane-set_other}
use Rattle.paris_code.specs.declared.operands.Reduction.TheVariants as R
use Rattle.paris_code.specs.Scanning.{with_own}
use Rattle.reduce_scan.specs.declared.words.Run.{Run}
use Rattle.reduce_scan.specs.Running.{running}
use Rattle.reduce_scan.specs.Sums.{own_of, owns, row_start, sum_from, HasRun}
use Rattle.reduce_scan.specs.WithinBlocks.{run_to, run_word}
use Rattle.reduce_scan.proofs.Parts.{once, none}

-- ---- halves of words

-- the number among whose lanes lane i is: the lower half of a word, or the upper one
pub halves : (plane : List ℕ) (i : ℕ) → ((i / 32 % 2 ≡ 0) × (half plane i ≡ get_or plane (i / 64) 0 % 2 ^ 32)) ⊎ ((i / 32 % 2 ≡ 1) × (half plane i ≡ get_or plane (i / 64) 0 / 2 ^ 32 % 2 ^ 32))
unfolding half
halves plane i = elim (cases_lt (i / 32 % 2) 1) [
  | inl l ↦
      let e : i / 32 % 2 ≡ 0 = omega (arith, l) in
      inl (e, ap (λ q. get_or plane (i / 64) 0 / 2 ^ (32 * q) % 2 ^ 32) e ∙ ap (λ n. n % 2 ^ 32) (let z : get_or plane (i / 64) 0 / 2 ^ 0 ≡ get_or plane (i / 64) 0 = omega arith in z))
  | inr g ↦
      let e : i / 32 % 2 ≡ 1 = omega (arith, g) in
      inr (e, ap (λ q. get_or plane (i / 64) 0 / 2 ^ (32 * q) % 2 ^ 32) e)
]

pub half_below : (plane : List ℕ) (i : ℕ) → half plane i < 2 ^ 32
unfolding half
half_below plane i = omega arith

half_same : (plane : List ℕ) (i l : ℕ) → i / 32 ≡ l / 32 → half plane i ≡ half plane l
unfolding half
half_same plane i l e =
    ap (λ q. get_or plane (i / 64) 0 / 2 ^ (32 * (q % 2)) % 2 ^ 32) e
    ∙ ap (λ w. get_or plane w 0 / 2 ^ (32 * (l / 32 % 2)) % 2 ^ 32) (let z : i / 64 ≡ l / 64 = omega (arith, e) in z)

pub half_none : (i : ℕ) → i < 512 → half (replicate 8 0) i ≡ 0
half_none i ib = elim (halves (replicate 8 0) i) [
  | inl e ↦ omega (arith, e.1, get_or-replicate {A = ℕ} 8 (i / 64) 0 0 (omega (arith, ib)))
  | inr e ↦ omega (arith, e.1, get_or-replicate {A = ℕ} 8 (i / 64) 0 0 (omega (arith, ib)))
]

raised_down : (x : ℕ) → x * 2 ^ 32 % 2 ^ 64 / 2 ^ 32 ≡ x % 2 ^ 32
raised_down x = omega arith

raised_up : (x : ℕ) → x * 2 ^ 32 % 2 ^ 64 ≡ x % 2 ^ 32 * 2 ^ 32
raised_up x = omega arith

cut_sum : (a b : ℕ) → (a + b) % 2 ^ 64 % 2 ^ 32 ≡ (a % 2 ^ 32 + b % 2 ^ 32) % 2 ^ 32
cut_sum a b = omega arith

low_sum : (a b : ℕ) → (a + b) % 2 ^ 64 * 2 ^ 32 % 2 ^ 64 / 2 ^ 32 ≡ (a % 2 ^ 32 + b % 2 ^ 32) % 2 ^ 32
low_sum a b = raised_down ((a + b) % 2 ^ 64) ∙ cut_sum a b

high_sum : (a b : ℕ) → (a / 2 ^ 32 + b / 2 ^ 32) % 2 ^ 64 * 2 ^ 32 % 2 ^ 64 ≡ (a / 2 ^ 32 % 2 ^ 32 + b / 2 ^ 32 % 2 ^ 32) % 2 ^ 32 * 2 ^ 32
high_sum a b = raised_up ((a / 2 ^ 32 + b / 2 ^ 32) % 2 ^ 64) ∙ ap (λ n. n * 2 ^ 32) (cut_sum (a / 2 ^ 32) (b / 2 ^ 32))

low_of_both : (l h : ℕ) → l < 2 ^ 32 → h < 2 ^ 32 → (l + h * 2 ^ 32) % 2 ^ 64 % 2 ^ 32 ≡ l
low_of_both l h p q = omega arith

high_of_both : (l h : ℕ) → l < 2 ^ 32 → h < 2 ^ 32 → (l + h * 2 ^ 32) % 2 ^ 64 / 2 ^ 32 % 2 ^ 32 ≡ h
high_of_both l h p q = omega arith

-- a plane whose words are the sums of those of two others, half by half
pub half_of_sums : (x y r : List ℕ)
    → ((w : ℕ) → w < 8 → get_or r w 0 ≡ ((get_or x w 0 + get_or y w 0) % 2 ^ 64 * 2 ^ 32 % 2 ^ 64 / 2 ^ 32 + (get_or x w 0 / 2 ^ 32 + get_or y w 0 / 2 ^ 32) % 2 ^ 64 * 2 ^ 32 % 2 ^ 64) % 2 ^ 64)
    → (i : ℕ) → i < 512 → half r i ≡ (half x i + half y i) % 2 ^ 32
half_of_sums x y r is i ib =
    let a : ℕ = get_or x (i / 64) 0 in
    let b : ℕ = get_or y (i / 64) 0 in
    let l : ℕ = (a % 2 ^ 32 + b % 2 ^ 32) % 2 ^ 32 in
    let h : ℕ = (a / 2 ^ 32 % 2 ^ 32 + b / 2 ^ 32 % 2 ^ 32) % 2 ^ 32 in
    let word : get_or r (i / 64) 0 ≡ (l + h * 2 ^ 32) % 2 ^ 64 =
    is (i / 64) (omega (arith, ib)) ∙ ap (λ n. (n + (a / 2 ^ 32 + b / 2 ^ 32) % 2 ^ 64 * 2 ^ 32 % 2 ^ 64) % 2 ^ 64) (low_sum a b) ∙ ap (λ n. (l + n) % 2 ^ 64) (high_sum a b) in
    elim (halves r i) [
      | inl e ↦ elim (halves x i) [
        | inl p ↦ elim (halves y i) [
          | inl q ↦ e.1 ∙ ap (λ n. n % 2 ^ 32) word ∙ low_of_both l h (omega arith) (omega arith) ∙ ap (λ n. (n + b % 2 ^ 32) % 2 ^ 32) (sym p.1) ∙ ap (λ n. (half x i + n) % 2 ^ 32) (sym q.1)
          | inr q ↦ absurd (omega (arith, e.0, q.0))
        ]
        | inr p ↦ absurd (omega (arith, e.0, p.0))
      ]
      | inr e ↦ elim (halves x i) [
        | inl p ↦ absurd (omega (arith, e.0, p.0))
        | inr p ↦ elim (halves y i) [
          | inl q ↦ absurd (omega (arith, e.0, q.0))
          | inr q ↦ e.1 ∙ ap (λ n. n / 2 ^ 32 % 2 ^ 32) word ∙ high_of_both l h (omega arith) (omega arith) ∙ ap (λ n. (n + b / 2 ^ 32 % 2 ^ 32) % 2 ^ 32) (sym p.1) ∙ ap (λ n. (half x i + n) % 2 ^ 32) (sym q.1)
        ]
      ]
    ]

-- ---- sums

sum_split : (f : ℕ → ℕ) (from m n : ℕ) → sum_from f from (m + n) ≡ sum_from f from m + sum_from f (from + m) n
sum_split f from m zero = ap (sum_from f from) (let e : m + 0 ≡ m = omega arith in e) ∙ (let e : sum_from f from m ≡ sum_from f from m + 0 = omega arith in e)
sum_split f from m (suc n) =
    ap (sum_from f from) (let e : m + suc n ≡ suc (m + n) = omega arith in e)
    ∙ ap (λ s. s + f (from + (m + n))) (sum_split f from m n)
    ∙ ap (λ k. sum_from f from m + sum_from f (from + m) n + f k) (let e : from + (m + n) ≡ from + m + n = omega arith in e)
    ∙ (let e : sum_from f from m + sum_from f (from + m) n + f (from + m + n) ≡ sum_from f from m + (sum_from f (from + m) n + f (from + m + n)) = omega arith in e)

sum_same : (f g : ℕ → ℕ) (from n : ℕ) → ((j : ℕ) → j < n → f (from + j) ≡ g (from + j)) → sum_from f from n ≡ sum_from g from n
sum_same f g from zero same = refl
sum_same f g from (suc n) same = ap (λ s. s + f (from + n)) (sum_same f g from n (λ j b. same j (omega arith))) ∙ ap (λ x. sum_from g from n + x) (same n (omega arith))

cut_step : (s t x : ℕ) → s % 2 ^ 32 ≡ t % 2 ^ 32 → (s + x % 2 ^ 32) % 2 ^ 32 ≡ (t + x) % 2 ^ 32
cut_step s t x e = omega (arith, e)

sum_cut : (f : ℕ → ℕ) (from n : ℕ) → sum_from (λ k. f k % 2 ^ 32) from n % 2 ^ 32 ≡ sum_from f from n % 2 ^ 32
sum_cut f from zero = refl
sum_cut f from (suc n) = cut_step (sum_from (λ k. f k % 2 ^ 32) from n) (sum_from f from n) (f (from + n)) (sum_cut f from n)

-- sums of 32 numbers each
sum_groups : (f : ℕ → ℕ) (n : ℕ) → sum_from (λ g. sum_from f (32 * g) 32) 0 n ≡ sum_from f 0 (32 * n)
sum_groups f zero = ap (sum_from f 0) (let e : 0 ≡ 32 * 0 = omega arith in e)
sum_groups f (suc n) =
    ap (λ s. s + sum_from f (32 * (0 + n)) 32) (sum_groups f n)
    ∙ ap (λ k. sum_from f 0 (32 * n) + sum_from f k 32) (let e : 32 * (0 + n) ≡ 0 + 32 * n = omega arith in e)
    ∙ sym (sum_split f 0 (32 * n) 32) ∙ ap (sum_from f 0) (let e : 32 * n + 32 ≡ 32 * suc n = omega arith in e)

-- ---- sums within 32 lanes

own_number : (old : List Plane) (row i : ℕ) → row < 32 → half (plane_at old row) i ≡ held old (row_start i + row)
own_number old row i small =
    half_same (plane_at old row) i (row_start i + row) (omega (arith, small))
    ∙ ap (λ r. half (plane_at old r) (row_start i + row)) (let e : row ≡ (row_start i + row) % 32 = omega (arith, small) in e)

-- a sum with one row more
pub next_total : (old : List Plane) (base row i total next : ℕ) → row < 32 → next ≡ (total + half (plane_at old row) i) % 2 ^ 32 → total ≡ (base + sum_from (held old) (row_start i) row) % 2 ^ 32
    → next ≡ (base + sum_from (held old) (row_start i) (row + 1)) % 2 ^ 32
next_total old base row i total next small is so_far =
    let s : ℕ = sum_from (held old) (row_start i) row in
    is ∙ ap (λ n. (n + half (plane_at old row) i) % 2 ^ 32) so_far ∙ ap (λ n. ((base + s) % 2 ^ 32 + n) % 2 ^ 32) (own_number old row i small)
    ∙ (let e : ((base + s) % 2 ^ 32 + held old (row_start i + row)) % 2 ^ 32 ≡ (base + (s + held old (row_start i + row))) % 2 ^ 32 = omega arith in e)
    ∙ ap (λ n. (base + sum_from (held old) (row_start i) n) % 2 ^ 32) (let e : suc row ≡ row + 1 = omega arith in e)

-- the totals of the rows before one
abbrev pub Totalled : List Plane → ℕ → List ℕ → Type 0
Totalled rows row total = (i : ℕ) → i < 512 → half total i ≡ (0 + sum_from (held rows) (row_start i) row) % 2 ^ 32

-- the rows before one have taken their sums, from what stands before each 32 lanes
pub record Summing (old : List Plane) (inclusion : Inclusion) (base : List ℕ) (row : ℕ) (rows : List Plane) (total : List ℕ) : Type 0 where
  pub long : length rows ≡ 32
  pub behind : (r : ℕ) → row ≤ r → plane_at rows r ≡ plane_at old r
  pub done : (i : ℕ) → i < 512 → i % 32 < row → held rows i ≡ (half base i + sum_from (held old) (row_start i) (i % 32 + owns inclusion)) % 2 ^ 32
  pub totals : (i : ℕ) → i < 512 → half total i ≡ (half base i + sum_from (held old) (row_start i) row) % 2 ^ 32

pub summing_none : (old : List Plane) (inclusion : Inclusion) (base : List ℕ) → length old ≡ 32 → Summing old inclusion base 0 old base
summing_none old _ base long = record {
  long = long;
  behind = λ r h. refl;
  done = λ i ib h. absurd (omega (arith, h));
  totals = λ i ib. omega (arith, half_below base i);
}

module _ (old : List Plane) (inclusion : Inclusion) (base : List ℕ) (row : ℕ) (rows : List Plane) (total next : List ℕ) (small : row < 32) (before : Summing old inclusion base row rows total)
    (is : (i : ℕ) → i < 512 → half next i ≡ (half total i + half (plane_at rows row) i) % 2 ^ 32) where
  further : (i : ℕ) → i < 512 → half next i ≡ (half base i + sum_from (held old) (row_start i) (row + 1)) % 2 ^ 32
  further i ib = next_total old (half base i) row i (half total i) (half next i) small (is i ib ∙ ap (λ p. (half total i + half p i) % 2 ^ 32) (before.behind row (omega arith))) (before.totals i ib)

  own_taken : (i : ℕ) → i < 512 → half (own_of inclusion total next) i ≡ (half base i + sum_from (held old) (row_start i) (row + owns inclusion)) % 2 ^ 32
  own_taken i ib = elim inclusion as (λ n. half (own_of n total next) i ≡ (half base i + sum_from (held old) (row_start i) (row + owns n)) % 2 ^ 32) [
    | N.Exclusive ↦ before.totals i ib ∙ ap (λ n. (half base i + sum_from (held old) (row_start i) n) % 2 ^ 32) (let e : row ≡ row + 0 = omega arith in e)
    | N.Inclusive ↦ further i ib
  ]

  pub summing_more : (taken : List ℕ) → taken ≡ own_of inclusion total next → Summing old inclusion base (row + 1) (set rows row (record { bits = taken })) next
  summing_more taken at = record {
    long = length-set rows row (record { bits = taken }) ∙ before.long;
    behind = λ r h. plane-set_other rows row r (record { bits = taken }) (λ e. absurd (omega (arith, e, h))) ∙ before.behind r (omega (arith, h));
    done = λ i ib h. elim (cases_eq (i % 32) row) [
      | inl e ↦
          ap (λ r. half (plane_at (set rows row (record { bits = taken })) r) i) e ∙ ap (λ p. half p i) (plane-set_same rows row taken (omega (arith, before.long, small)))
          ∙ ap (λ p. half p i) at ∙ own_taken i ib ∙ ap (λ r. (half base i + sum_from (held old) (row_start i) (r + owns inclusion)) % 2 ^ 32) (sym e)
      | inr n ↦ ap (λ p. half p i) (plane-set_other rows row (i % 32) (record { bits = taken }) n) ∙ before.done i ib (omega (arith, n, h))
    ];
    totals = further;
  }

-- ---- the sums before each 32 lanes

abbrev pub before_of : List ℕ → ℕ → ℕ → ℕ
before_of totals start g = (start + sum_from (λ k. half totals (32 * k)) 0 g) % 2 ^ 32

-- the pairs of sums that are found
pub record Before (totals : List ℕ) (start word : ℕ) (before : List ℕ) (sum : ℕ) : Type 0 where
  pub long : length before ≡ 8
  pub sum_is : sum ≡ before_of totals start (2 * word)
  pub done : (w : ℕ) → w < word → get_or before w 0 ≡ before_of totals start (2 * w + 1) * 2 ^ 32 + before_of totals start (2 * w)

one_further : (totals : List ℕ) (start g s x : ℕ) → s ≡ before_of totals start g → x ≡ half totals (32 * g) → (s + x) % 2 ^ 32 ≡ before_of totals start (g + 1)
one_further totals start g s x is at =
    ap (λ n. (n + x) % 2 ^ 32) is ∙ ap (λ n. (before_of totals start g + n) % 2 ^ 32) (at ∙ ap (λ k. half totals (32 * k)) (let e : g ≡ 0 + g = omega arith in e))
    ∙ (let e : ((start + sum_from (λ k. half totals (32 * k)) 0 g) % 2 ^ 32 + half totals (32 * (0 + g))) % 2 ^ 32 ≡ (start + (sum_from (λ k. half totals (32 * k)) 0 g + half totals (32 * (0 + g)))) % 2 ^ 32 = omega arith in e)
    ∙ ap (before_of totals start) (let e : suc g ≡ g + 1 = omega arith in e)

low_word : (totals : List ℕ) (w : ℕ) → get_or totals w 0 % 2 ^ 32 ≡ half totals (32 * (2 * w))
low_word totals w = elim (halves totals (32 * (2 * w))) [
  | inl e ↦ ap (λ k. get_or totals k 0 % 2 ^ 32) (let z : w ≡ 32 * (2 * w) / 64 = omega arith in z) ∙ sym e.1
  | inr e ↦ absurd (omega (arith, e.0))
]

high_word : (totals : List ℕ) (w : ℕ) → get_or totals w 0 < 2 ^ 64 → get_or totals w 0 / 2 ^ 32 ≡ half totals (32 * (2 * w + 1))
high_word totals w fits = elim (halves totals (32 * (2 * w + 1))) [
  | inl e ↦ absurd (omega (arith, e.0))
  | inr e ↦ (let z : get_or totals w 0 / 2 ^ 32 ≡ get_or totals w 0 / 2 ^ 32 % 2 ^ 32 = omega (arith, fits) in z) ∙ ap (λ k. get_or totals k 0 / 2 ^ 32 % 2 ^ 32) (let z : w ≡ 32 * (2 * w + 1) / 64 = omega arith in z) ∙ sym e.1
]

pub before_none : (totals : List ℕ) (start : ℕ) (before : List ℕ) → length before ≡ 8 → start < 2 ^ 32 → Before totals start 0 before start
before_none totals start before long small = record {
  long = long;
  sum_is = omega (arith, small);
  done = λ w h. absurd (omega (arith, h));
}

pub before_more : (totals : List ℕ) (start word : ℕ) (before : List ℕ) (sum middle last pair : ℕ) → word < 8 → get_or totals word 0 < 2 ^ 64 → Before totals start word before sum
    → middle ≡ (sum + get_or totals word 0 % 2 ^ 32) % 2 ^ 32 → pair ≡ middle * 2 ^ 32 + sum → last ≡ (middle + get_or totals word 0 / 2 ^ 32) % 2 ^ 32
    → Before totals start (word + 1) (set before word pair) last
before_more totals start word before sum middle last pair small fits so_far m p l =
    let mid : middle ≡ before_of totals start (2 * word + 1) = m ∙ one_further totals start (2 * word) sum _ so_far.sum_is (low_word totals word) in
    record {
      long = length-set before word pair ∙ so_far.long;
      sum_is = l ∙ one_further totals start (2 * word + 1) middle _ mid (high_word totals word fits) ∙ ap (before_of totals start) (let e : 2 * word + 1 + 1 ≡ 2 * (word + 1) = omega arith in e);
      done = λ w h. elim (cases_eq w word) [
        | inl e ↦
            ap (λ k. get_or (set before word pair) k 0) e ∙ get_or-set_same before word pair 0 (omega (arith, so_far.long, small)) ∙ p
            ∙ ap (λ n. n * 2 ^ 32 + sum) mid ∙ ap (λ n. before_of totals start (2 * word + 1) * 2 ^ 32 + n) so_far.sum_is
            ∙ ap (λ k. before_of totals start (2 * k + 1) * 2 ^ 32 + before_of totals start (2 * k)) (sym e)
        | inr n ↦ get_or-set_other before word w pair 0 n ∙ so_far.done w (omega (arith, n, h))
      ];
    }

low_of_pair : (l h : ℕ) → l < 2 ^ 32 → (h * 2 ^ 32 + l) % 2 ^ 32 ≡ l
low_of_pair l h p = omega arith

high_of_pair : (l h : ℕ) → l < 2 ^ 32 → h < 2 ^ 32 → (h * 2 ^ 32 + l) / 2 ^ 32 % 2 ^ 32 ≡ h
high_of_pair l h p q = omega arith

pub before_all : (totals : List ℕ) (start word : ℕ) (before : List ℕ) (sum : ℕ) → 8 ≤ word → Before totals start word before sum → (i : ℕ) → i < 512 → half before i ≡ before_of totals start (i / 32)
before_all totals start word before sum whole all i ib =
    let w : ℕ = i / 64 in
    let pair = all.done w (omega (arith, ib, whole)) in
    elim (halves before i) [
      | inl e ↦ e.1 ∙ ap (λ n. n % 2 ^ 32) pair ∙ low_of_pair (before_of totals start (2 * w)) (before_of totals start (2 * w + 1)) (omega arith) ∙ ap (before_of totals start) (let z : 2 * w ≡ i / 32 = omega (arith, e.0) in z)
      | inr e ↦ e.1 ∙ ap (λ n. n / 2 ^ 32 % 2 ^ 32) pair ∙ high_of_pair (before_of totals start (2 * w)) (before_of totals start (2 * w + 1)) (omega arith) (omega arith)
          ∙ ap (before_of totals start) (let z : 2 * w + 1 ≡ i / 32 = omega (arith, e.0) in z)
    ]

-- ---- all together

join_sums : (s a b : ℕ) → ((s + b) % 2 ^ 32 + a) % 2 ^ 32 ≡ (s + (b + a)) % 2 ^ 32
join_sums s a b = omega arith

add_cut : (s a b : ℕ) → a % 2 ^ 32 ≡ b % 2 ^ 32 → (s + a) % 2 ^ 32 ≡ (s + b) % 2 ^ 32
add_cut s a b e = omega (arith, e)

module _ (old : List Plane) (totals : List ℕ) (start : ℕ) (whole : (i : ℕ) → i < 512 → half totals i ≡ sum_from (held old) (row_start i) 32 % 2 ^ 32) where
  -- the sum before 32 lanes is that of all numbers before them
  pub groups_before : (n : ℕ) → n ≤ 16 → before_of totals start n ≡ (start + sum_from (held old) 0 (32 * n)) % 2 ^ 32
  groups_before n most =
      let f : ℕ → ℕ = held old in
      let each : sum_from (λ g. half totals (32 * g)) 0 n ≡ sum_from (λ g. sum_from f (32 * g) 32 % 2 ^ 32) 0 n =
      sum_same (λ g. half totals (32 * g)) (λ g. sum_from f (32 * g) 32 % 2 ^ 32) 0 n
      (λ g b. whole (32 * (0 + g)) (omega (arith, b, most)) ∙ ap (λ k. sum_from f k 32 % 2 ^ 32) (let e : row_start (32 * (0 + g)) ≡ 32 * (0 + g) = omega arith in e)) in
      let groups : sum_from (λ g. sum_from f (32 * g) 32 % 2 ^ 32) 0 n % 2 ^ 32 ≡ sum_from f 0 (32 * n) % 2 ^ 32 =
      sum_cut (λ g. sum_from f (32 * g) 32) 0 n ∙ ap (λ s. s % 2 ^ 32) (sum_groups f n) in
      ap (λ s. (start + s) % 2 ^ 32) each ∙ add_cut start (sum_from (λ g. sum_from f (32 * g) 32 % 2 ^ 32) 0 n) (sum_from f 0 (32 * n)) groups

pub all_summed : (old new : List Plane) (inclusion : Inclusion) (totals before : List ℕ) (start : ℕ) → ((i : ℕ) → i < 512 → half totals i ≡ sum_from (held old) (row_start i) 32 % 2 ^ 32)
    → ((i : ℕ) → i < 512 → half before i ≡ before_of totals start (i / 32))
    → ((i : ℕ) → i < 512 → held new i ≡ (half before i + sum_from (held old) (row_start i) (i % 32 + owns inclusion)) % 2 ^ 32)
    → (i : ℕ) → i < 512 → held new i ≡ (start + sum_from (held old) 0 (i + owns inclusion)) % 2 ^ 32
all_summed old new inclusion totals before start whole earlier added i ib =
    let f : ℕ → ℕ = held old in
    let n : ℕ = i % 32 + owns inclusion in
    let start_is : before_of totals start (i / 32) ≡ (start + sum_from f 0 (row_start i)) % 2 ^ 32 = groups_before old totals start whole (i / 32) (omega (arith, ib)) in
    added i ib ∙ ap (λ x. (x + sum_from f (row_start i) n) % 2 ^ 32) (earlier i ib ∙ start_is)
    ∙ join_sums start (sum_from f (row_start i) n) (sum_from f 0 (row_start i))
    ∙ ap (λ s. (start + s) % 2 ^ 32)
    (ap (λ k. sum_from f 0 (row_start i) + sum_from f k n) (let e : row_start i ≡ 0 + row_start i = omega arith in e) ∙ sym (sum_split f 0 (row_start i) n)
    ∙ ap (sum_from f 0) (let e : row_start i + n ≡ i + owns inclusion = omega arith in e))

-- ---- a run that adds, and is nowhere cut

one_more : (run : Run) (words : List ℕ) (n before : ℕ) → run.combiner ≡ R.SAdd → before ≡ (run.start + sum_from (λ j. slice_index words j) 0 n) % 2 ^ 32
    → once run.combiner before (slice_index words n) ≡ (run.start + sum_from (λ j. slice_index words j) 0 (suc n)) % 2 ^ 32
unfolding fold_once
one_more run words n before adds is =
    let s : ℕ = sum_from (λ j. slice_index words j) 0 n in
    let x : ℕ = slice_index words n in
    ap (λ c. once c before x) adds ∙ sum_by_residues 32 false before x ∙ ap (λ t. (t + x) % 2 ^ 32) is
    ∙ (let e : ((run.start + s) % 2 ^ 32 + x) % 2 ^ 32 ≡ (run.start + (s + x)) % 2 ^ 32 = omega arith in e)
    ∙ ap (λ k. (run.start + (s + slice_index words k)) % 2 ^ 32) (let e : n ≡ 0 + n = omega arith in e)

sum_to : (run : Run) (words : List ℕ) (n : ℕ) → run.combiner ≡ R.SAdd → ((i : ℕ) → i < 512 → bit run.cuts i ≡ 0) → run.start < 2 ^ 32
    → run_to run words n ≡ (run.start + sum_from (λ j. slice_index words j) 0 n) % 2 ^ 32
unfolding running
sum_to run words zero adds steady small = omega (arith, small)
sum_to run words (suc n) adds steady small =
    ap (λ b. cond (eqb b 1) (none run.combiner) (once run.combiner (run_to run words n) (slice_index words n))) (steady (suc n % 512) (omega arith))
    ∙ one_more run words n (run_to run words n) adds (sum_to run words n adds steady small)

-- the numbers that rows hold, as a list
held_list : List Plane → List ℕ
held_list rows = map (held rows) (range_with_len 0 512)

held_here : (rows : List Plane) (i : ℕ) → i < 512 → slice_index (held_list rows) i ≡ held rows i
unfolding held_list
held_here rows i ib = get_or-map (held rows) (range_with_len 0 512) i 0 0 (omega (arith, ib, length-range_with_len 0 512)) ∙ ap (held rows) (get_or-range_with_len 0 512 i 0 ib ∙ zero-add i)

word_is : (run : Run) (words : List ℕ) (i : ℕ) → run.combiner ≡ R.SAdd → ((i : ℕ) → i < 512 → bit run.cuts i ≡ 0) → run.start < 2 ^ 32
    → run_word run words i ≡ (run.start + sum_from (λ j. slice_index words j) 0 (i + owns run.inclusion)) % 2 ^ 32
word_is run words i adds steady small =
    elim run.inclusion as (λ n. with_own n (λ t. once run.combiner t (slice_index words i)) (run_to run words i) ≡ (run.start + sum_from (λ j. slice_index words j) 0 (i + owns n)) % 2 ^ 32) [
      | N.Exclusive ↦ sum_to run words i adds steady small ∙ ap (λ k. (run.start + sum_from (λ j. slice_index words j) 0 k) % 2 ^ 32) (let e : i ≡ i + 0 = omega arith in e)
      | N.Inclusive ↦
          one_more run words i (run_to run words i) adds (sum_to run words i adds steady small)
          ∙ ap (λ k. (run.start + sum_from (λ j. slice_index words j) 0 k) % 2 ^ 32) (let e : suc i ≡ i + 1 = omega arith in e)
    ]

owns_few : (n : Inclusion) → owns n ≤ 1
owns_few N.Inclusive = omega arith
owns_few N.Exclusive = omega arith

pub run_is_sum : (run : Run) (old new : List Plane) → run.combiner ≡ R.SAdd → ((i : ℕ) → i < 512 → bit run.cuts i ≡ 0) → run.start < 2 ^ 32
    → ((i : ℕ) → i < 512 → held new i ≡ (run.start + sum_from (held old) 0 (i + owns run.inclusion)) % 2 ^ 32)
    → (total : ℕ) → total ≡ (run.start + sum_from (held old) 0 512) % 2 ^ 32 → HasRun run old new total
run_is_sum run old new adds steady small is total ends = record {
  words = held_list old;
  are = held_here old;
  given = λ i ib.
      is i ib
      ∙ ap (λ s. (run.start + s) % 2 ^ 32) (sym (sum_same (λ j. slice_index (held_list old) j) (held old) 0 (i + owns run.inclusion) (λ j b. held_here old (0 + j) (omega (arith, b, ib, owns_few run.inclusion)))))
      ∙ sym (word_is run (held_list old) i adds steady small);
  ends =
      ends ∙ ap (λ s. (run.start + s) % 2 ^ 32) (sym (sum_same (λ j. slice_index (held_list old) j) (held old) 0 512 (λ j b. held_here old (0 + j) (omega (arith, b)))))
      ∙ sym (sum_to run (held_list old) 512 adds steady small);
}
