-- The least and the greatest of numbers, bit by bit from the highest one.
use Rattle.std.proofs.Common.{◌≡◌, ◌≢◌, ℕ, zero, suc, ◌+◌, ◌-◌, ◌*◌, ◌/◌, ◌%◌, ◌^◌, ◌<◌, ◌≤◌, ◌⊎◌, min, Bool, true, false, not, ◌&&◌, cond, eqb, ℤ, ◌≤ℤ◌, List, inl, inr, refl, sym, ◌∙◌, ap, subst, add-one, mul_assoc, arith}
use Rattle.std.specs.Int.{int_min, int_max}
use Rattle.std.proofs.lemmas.Bool.{cases_eq, cases_lt, cases_Bool, eq-eqb, eqb-true, ne_eqb}
use Rattle.std.proofs.lemmas.Int.{ints, clamps}
use Rattle.std.proofs.Math.Nat.{pow-suc}
use Rattle.std.proofs.Math.Pow.{pow_mono}
use Rattle.cstar_base.specs.declared.operators.Combiner.{Combiner}
use Rattle.cstar_base.specs.declared.operators.Combiner.TheVariants as C
use Rattle.cstar_base.specs.Folds.{fold_once}
use Rattle.cstar_base.specs.Numbers.{number_of, residue}
use Rattle.cstar_base.specs.Operators.{operand, lesser_of, greater_of}
use Rattle.cstar_base.specs.Orders.{fold_below}
use Rattle.cstar_base.proofs.FoldLaws.{residue_of_operand, fold_once_comm, fold_once_assoc}
use Rattle.cstar_base.proofs.NumberLaws.{residue_below, number_in_upper, number_in_lower, number_unsigned}
use Rattle.bit_planes.specs.declared.plane.Plane.{Plane}
use Rattle.bit_planes.specs.Bits.{bit}
use Rattle.bit_planes.specs.Planes.{plane_at, number}
use Rattle.bit_planes.proofs.Planes.{number-lt}
use Rattle.bit_planes.proofs.Words.{bit-lt}
use Rattle.lane_kernels.specs.Numbers.{ones_before}
use Rattle.paris_code.specs.declared.operands.Field.{Field}
use Rattle.paris_code.specs.declared.operands.Reduction.{Reduction}
use Rattle.paris_code.specs.Operators.{combiner_of}
use Rattle.reduce_scan.specs.Blocks.{block_fold, lane_word}
use Rattle.reduce_scan.specs.Extremes.{extreme_of, wants_one}
use Rattle.phase_meaning.proofs.Runs.{fold_same}
use Rattle.phase_meaning.proofs.Widths.{number_in_word}
use Rattle.reduce_scan.proofs.Parts.{fold_fits, not_last, once, none, none_below, none_last}
use Rattle.reduce_scan.proofs.WithinBlocks.{flag}
use Rattle.reduce_scan.proofs.WordRuns.{none_before}

-- a number by how good it is, from its first n bits: the least is the best one
pub rank : Bool → Bool → ℕ → ℕ → ℕ
rank g u zero v = 0
rank g u (suc n) v = 2 * rank g u n (v / 2) + cond (eqb (v % 2) (flag (wants_one g u n))) 0 1

abbrev miss : Bool → ℕ
miss t = cond t 0 1

digit_small : (t : Bool) → miss t < 2
digit_small true = omega arith
digit_small false = omega arith

rank_fits : (g u : Bool) (n v : ℕ) → rank g u n v < 2 ^ n
unfolding rank
rank_fits g u zero v = omega arith
rank_fits g u (suc n) v = omega (arith, rank_fits g u n (v / 2), digit_small (eqb (v % 2) (flag (wants_one g u n))), pow-suc 2 n)

-- only with a sign is the first bit another one
wants_plain : (g : Bool) (n : ℕ) → wants_one g true n ≡ g
wants_plain g n = off (eqb n 0)
  where
    off : (t : Bool) → cond (t && false) (not g) g ≡ g
    off true = refl
    off false = refl

wants_later : (g u : Bool) (n : ℕ) → wants_one g u (suc n) ≡ g
wants_later g u n = ap (λ t. cond (t && not u) (not g) g) (ne_eqb (suc n) 0 (λ e. absurd (omega (arith, e))))

-- the greatest is the least from the other end
opposed : (u : Bool) (n d : ℕ) → d < 2 → cond (eqb d (flag (wants_one true u n))) 0 1 + cond (eqb d (flag (wants_one false u n))) 0 1 ≡ 1
opposed u n d b =
    ap (λ t. cond (eqb d (flag t)) 0 1 + cond (eqb d (flag (wants_one false u n))) 0 1) (turned (eqb n 0 && not u))
    ∙ other d (wants_one false u n) b
  where
    turned : (t : Bool) → cond t (not true) true ≡ not (cond t (not false) false)
    turned true = refl
    turned false = refl

    other : (d : ℕ) (t : Bool) → d < 2 → cond (eqb d (flag (not t))) 0 1 + cond (eqb d (flag t)) 0 1 ≡ suc zero
    other zero true b = refl
    other zero false b = refl
    other (suc zero) true b = refl
    other (suc zero) false b = refl
    other (suc (suc d)) t b = absurd (omega (arith, b))

rank_opposed : (u : Bool) (n v : ℕ) → rank true u n v + rank false u n v + 1 ≡ 2 ^ n
unfolding rank
rank_opposed u zero v = refl
rank_opposed u (suc n) v = omega (arith, rank_opposed u n (v / 2), opposed u n (v % 2) (omega arith), pow-suc 2 n)

low_digit : (d : ℕ) → d < 2 → cond (eqb d 0) 0 1 ≡ d
low_digit zero b = refl
low_digit (suc zero) b = refl
low_digit (suc (suc d)) b = absurd (omega arith)

rank_unsigned : (n v : ℕ) → v < 2 ^ n → rank false true n v ≡ v
unfolding rank
rank_unsigned zero v b = omega (arith, b)
rank_unsigned (suc n) v b =
    omega (
      arith,
      rank_unsigned n (v / 2) (omega (arith, b, pow-suc 2 n)),
      ap (λ t. cond (eqb (v % 2) (flag t)) 0 1) (wants_plain false n) ∙ low_digit (v % 2) (omega arith),
    )

high_digit : (d : ℕ) → d < 2 → cond (eqb d 1) 0 1 + d ≡ 1
high_digit zero b = refl
high_digit (suc zero) b = refl
high_digit (suc (suc d)) b = absurd (omega arith)

rank_signed : (n v : ℕ) → v < 2 ^ (suc n) → (v < 2 ^ n → rank false false (suc n) v ≡ v + 2 ^ n) × (2 ^ n ≤ v → rank false false (suc n) v + 2 ^ n ≡ v)
unfolding rank
rank_signed zero v b = (λ l. omega (arith, b, l, high_digit (v % 2) (omega arith)), λ h. omega (arith, b, h, high_digit (v % 2) (omega arith)))
rank_signed (suc n) v b =
    let p = pow-suc 2 n in
    let q = pow-suc 2 (suc n) in
    let rest = rank_signed n (v / 2) (omega (arith, b, q)) in
    let digit = ap (λ t. cond (eqb (v % 2) (flag t)) 0 1) (wants_later false false n) ∙ low_digit (v % 2) (omega arith) in
    (λ l. omega (arith, rest.0 (omega (arith, l, p)), digit, p), λ h. omega (arith, rest.1 (omega (arith, h, p)), digit, p))

abbrev extreme_combiner : Bool → Combiner
extreme_combiner false = C.Min
extreme_combiner true = C.Max

extreme_combines : (g u : Bool) → combiner_of (extreme_of g u) ≡ (extreme_combiner g, u)
extreme_combines false false = refl
extreme_combines false true = refl
extreme_combines true false = refl
extreme_combines true true = refl

-- the better of two numbers of some bits
order : (u : Bool) (len a b : ℕ) → 1 ≤ len → a < 2 ^ len → b < 2 ^ len → rank false u len a ≤ rank false u len b → number_of len (not u) a ≤ℤ number_of len (not u) b
order u zero a b some p q h = absurd (omega (arith, some))
order true (suc m) a b some p q h = omega (arith, ints, number_unsigned (suc m) a, number_unsigned (suc m) b, rank_unsigned (suc m) a p, rank_unsigned (suc m) b q, h)
order false (suc m) a b some p q h =
    let x = rank_signed m a p in
    let y = rank_signed m b q in
    let double = pow-suc 2 m in
    let half : 2 ^ (suc m - 1) ≡ 2 ^ m = ap (λ k. 2 ^ k) (let e : suc m - 1 ≡ m = omega arith in e) in
    elim (cases_lt a (2 ^ m)) [
      | inl la ↦ elim (cases_lt b (2 ^ m)) [
        | inl lb ↦ omega (arith, ints, number_in_lower (suc m) a (omega (arith, la, half)), number_in_lower (suc m) b (omega (arith, lb, half)), x.0 la, y.0 lb, h)
        | inr hb ↦ absurd (omega (arith, x.0 la, y.1 hb, h, q, double))
      ]
      | inr ha ↦ elim (cases_lt b (2 ^ m)) [
        | inl lb ↦ omega (arith, ints, number_in_upper (suc m) a (omega (arith, ha, half)), number_in_lower (suc m) b (omega (arith, lb, half)), p)
        | inr hb ↦ omega (arith, ints, number_in_upper (suc m) a (omega (arith, ha, half)), number_in_upper (suc m) b (omega (arith, hb, half)), x.1 ha, y.1 hb, h)
      ]
    ]

lesser : (x y : ℤ) → x ≤ℤ y → int_min x y ≡ x
lesser x y h = omega (arith, ints, clamps)

greater : (x y : ℤ) → y ≤ℤ x → int_max x y ≡ x
greater x y h = omega (arith, ints, clamps)

-- the words of numbers of some bits
module _ (g u : Bool) (len : ℕ) (some : 1 ≤ len) (few : len ≤ 32) where
  abbrev pub word : ℕ → ℕ
  word n = residue 32 (number_of len (not u) n)

  word_fits : (n : ℕ) → word n < 2 ^ 32
  word_fits n = residue_below 32 (number_of len (not u) n)

  ordered_words : (a b : ℕ) → a < 2 ^ len → b < 2 ^ len → rank false u len a ≤ rank false u len b → operand 32 u (word a) ≤ℤ operand 32 u (word b)
  unfolding operand
  ordered_words a b p q h = omega (arith, ints, number_in_word len (not u) a some few p, number_in_word len (not u) b some few q, order u len a b some p q h)

  chosen : (greatest : Bool) (a b : ℕ) → a < 2 ^ len → b < 2 ^ len → rank greatest u len a ≤ rank greatest u len b → fold_once (extreme_combiner greatest) u (word a) (word b) ≡ word a
  unfolding fold_once lesser_of greater_of
  chosen false a b p q h = ap (residue 32) (lesser (operand 32 u (word a)) (operand 32 u (word b)) (ordered_words a b p q h)) ∙ residue_of_operand u (word a) (word_fits a)
  chosen true a b p q h =
      ap (residue 32) (greater (operand 32 u (word a)) (operand 32 u (word b)) (ordered_words b a q p (omega (arith, h, rank_opposed u len a, rank_opposed u len b)))) ∙ residue_of_operand u (word a) (word_fits a)

  once_best : (a b : ℕ) → a < 2 ^ len → b < 2 ^ len → rank g u len a ≤ rank g u len b → once (extreme_of g u) (word a) (word b) ≡ word a
  once_best a b p q h = ap (λ r. fold_once r.0 r.1 (word a) (word b)) (extreme_combines g u) ∙ chosen g a b p q h

  -- a fold of the best is the best one, where it is among them
  module _ (f : ℕ → Bool) (v : ℕ → ℕ) (short : (k : ℕ) → v k < 2 ^ len) where
    abbrev r : Reduction
    r = extreme_of g u

    abbrev x : ℕ → ℕ
    x k = word (v k)

    fits : (k : ℕ) → x k < 2 ^ 32
    fits k = word_fits (v k)

    abbrev fold_to : ℕ → ℕ
    fold_to n = fold_below (once r) f x (none r) n

    to_fits : (n : ℕ) → fold_to n < 2 ^ 32
    to_fits n = fold_fits r f x (none r) n (none_below r) fits

    bound : (a n : ℕ) → a < 2 ^ 32 → ((k : ℕ) → k < n → f k ≡ true → once r a (x k) ≡ a) → once r a (fold_to n) ≡ a
    unfolding fold_below
    bound a zero b best = none_last r a b
    bound a (suc n) b best =
        let rest : once r a (fold_to n) ≡ a = bound a n b (λ k h. best k (omega arith)) in
        elim (cases_Bool (f n)) [
          | inl on ↦ ap (λ t. once r a (cond t (once r (fold_to n) (x n)) (fold_to n))) on
              ∙ sym (fold_once_assoc (combiner_of r).0 (combiner_of r).1 a (fold_to n) (x n) b (to_fits n) (fits n)) ∙ ap (λ y. once r y (x n)) rest ∙ best n (omega arith) on
          | inr off ↦ ap (λ t. once r a (cond t (once r (fold_to n) (x n)) (fold_to n))) off ∙ rest
        ]

    reached : (i n : ℕ) → i < n → f i ≡ true → once r (fold_to n) (x i) ≡ fold_to n
    unfolding fold_below
    reached i zero b on = absurd (omega arith)
    reached i (suc n) b on = elim (cases_eq i n) [
      | inl e ↦
          let here : f n ≡ true = ap f (sym e) ∙ on in
          ap (once r (fold_to (suc n))) (ap x e) ∙ ap (λ t. once r (cond t (once r (fold_to n) (x n)) (fold_to n)) (x n)) here
          ∙ fold_once_assoc (combiner_of r).0 (combiner_of r).1 (fold_to n) (x n) (x n) (to_fits n) (fits n) (fits n)
          ∙ ap (once r (fold_to n)) (once_best (v n) (v n) (short n) (short n) (omega arith))
          ∙ sym (ap (λ t. cond t (once r (fold_to n) (x n)) (fold_to n)) here)
      | inr apart ↦
          let rest : once r (fold_to n) (x i) ≡ fold_to n = reached i n (omega (arith, b, apart)) on in
          elim (cases_Bool (f n)) [
            | inl here ↦ ap (λ t. once r (cond t (once r (fold_to n) (x n)) (fold_to n)) (x i)) here
                ∙ fold_once_assoc (combiner_of r).0 (combiner_of r).1 (fold_to n) (x n) (x i) (to_fits n) (fits n) (fits i)
                ∙ ap (once r (fold_to n)) (fold_once_comm (combiner_of r).0 (combiner_of r).1 (x n) (x i) (not_last r))
                ∙ sym (fold_once_assoc (combiner_of r).0 (combiner_of r).1 (fold_to n) (x i) (x n) (to_fits n) (fits i) (fits n))
                ∙ ap (λ y. once r y (x n)) rest ∙ sym (ap (λ t. cond t (once r (fold_to n) (x n)) (fold_to n)) here)
            | inr off ↦ ap (λ t. once r (cond t (once r (fold_to n) (x n)) (fold_to n)) (x i)) off ∙ rest ∙ sym (ap (λ t. cond t (once r (fold_to n) (x n)) (fold_to n)) off)
          ]
    ]

    pub best_is : (a n i : ℕ) → a < 2 ^ len → ((k : ℕ) → k < n → f k ≡ true → rank g u len a ≤ rank g u len (v k)) → i < n → f i ≡ true → v i ≡ a → word a ≡ fold_to n
    best_is a n i b best within on is =
        sym (bound (word a) n (word_fits a) (λ k h t. once_best a (v k) b (short k) (best k h t)))
        ∙ fold_once_comm (combiner_of r).0 (combiner_of r).1 (word a) (fold_to n) (not_last r) ∙ ap (once r (fold_to n)) (ap word (sym is)) ∙ reached i n within on

-- some lane has a 1
pub some_before : (mask : List ℕ) (n : ℕ) → ones_before mask n ≢ 0 → (i : ℕ) × (i < n) × (bit mask i ≡ 1)
unfolding ones_before
some_before mask zero n = absurd (n refl)
some_before mask (suc n) more = elim (cases_eq (bit mask n) 1) [
  | inl on ↦ (n, omega arith, on)
  | inr off ↦
      let rest = some_before mask n (λ e. more (omega (arith, e, bit-lt mask n, off))) in
      (rest.0, omega (arith, rest.1), rest.2)
]

both_ones : (x y : ℕ) → x < 2 → y < 2 → min x y ≡ 1 → (x ≡ 1) × (y ≡ 1)
both_ones x y a b e = (omega (arith, a, b, e), omega (arith, a, b, e))

flag_is : (t : Bool) → flag t ≡ 1 → t ≡ true
flag_is true e = refl
flag_is false e = absurd (omega (arith, e))

-- the lanes that are left after n bits have the best ones
module _ (g u : Bool) (planes : List Plane) (a : Field) (context : ℕ) where
  pub active : ℕ → Bool
  active i = eqb (bit (plane_at planes context) i) 1

  pub top : ℕ → ℕ → ℕ
  top n i = number planes (a.offset + (a.len - n)) n i

  pub record Narrowed (n : ℕ) (left : List ℕ) (total : ℕ) : Type 0 where
    pub small : total < 2 ^ n
    pub kept : (i : ℕ) → i < 512 → bit left i ≡ 1 → (active i ≡ true) × (top n i ≡ total)
    pub best : (i : ℕ) → i < 512 → active i ≡ true → rank g u n total ≤ rank g u n (top n i)
    pub tied : (i : ℕ) → i < 512 → active i ≡ true → rank g u n (top n i) ≡ rank g u n total → bit left i ≡ 1
    pub some : (i : ℕ) × (i < 512) × (bit left i ≡ 1)

  -- a number that is read on from its highest bits
  number_below : (o n i : ℕ) → number planes o (suc n) i ≡ bit (plane_at planes o) i + 2 * number planes (suc o) n i
  unfolding number
  number_below o zero i = omega (arith, ap (λ k. bit (plane_at planes k) i) (let e : o + 0 ≡ o = omega arith in e))
  number_below o (suc n) i =
      let b : ℕ = bit (plane_at planes (o + suc n)) i in
      let same : b ≡ bit (plane_at planes (suc o + n)) i = ap (λ k. bit (plane_at planes k) i) (let e : o + suc n ≡ suc o + n = omega arith in e) in
      omega (arith, number_below o n i, ap (λ d. 2 ^ suc n * d) same, ap (λ t. t * bit (plane_at planes (suc o + n)) i) (pow-suc 2 n), twice (2 ^ n) (bit (plane_at planes (suc o + n)) i))
    where
      twice : (p d : ℕ) → 2 * p * d ≡ 2 * (p * d)
      twice p d = omega (arith, mul_assoc 2 p d)

  top_more : (n i : ℕ) → n < a.len → top (suc n) i ≡ bit (plane_at planes (a.offset + (a.len - 1 - n))) i + 2 * top n i
  unfolding top
  top_more n i b =
      number_below (a.offset + (a.len - suc n)) n i
      ∙ ap (λ o. bit (plane_at planes o) i + 2 * number planes (suc (a.offset + (a.len - suc n))) n i) (let e : a.offset + (a.len - suc n) ≡ a.offset + (a.len - 1 - n) = omega arith in e)
      ∙ ap (λ o. bit (plane_at planes (a.offset + (a.len - 1 - n))) i + 2 * number planes o n i) (let e : suc (a.offset + (a.len - suc n)) ≡ a.offset + (a.len - n) = omega (arith, b) in e)

  rank_more : (n d t : ℕ) → d < 2 → rank g u (suc n) (d + 2 * t) ≡ 2 * rank g u n t + cond (eqb d (flag (wants_one g u n))) 0 1
  unfolding rank
  rank_more n d t b =
      ap (λ q. 2 * rank g u n q + cond (eqb ((d + 2 * t) % 2) (flag (wants_one g u n))) 0 1) (let e : (d + 2 * t) / 2 ≡ t = omega (arith, b) in e)
      ∙ ap (λ q. 2 * rank g u n t + cond (eqb q (flag (wants_one g u n))) 0 1) (let e : (d + 2 * t) % 2 ≡ d = omega (arith, b) in e)

  pub narrowed_none : (left : List ℕ) → left ≡ plane_at planes context → ones_before (plane_at planes context) 512 ≢ 0 → Narrowed 0 left 0
  unfolding rank top number active
  narrowed_none left is there = record {
    small = omega arith;
    kept = λ i b on. (eq-eqb (bit (plane_at planes context) i) 1 (ap (λ l. bit l i) (sym is) ∙ on), refl);
    best = λ i b on. omega arith;
    tied = λ i b on e. ap (λ l. bit l i) is ∙ eqb-true (bit (plane_at planes context) i) 1 on;
    some = some_before left 512 (λ e. there (ap (λ l. ones_before l 512) (sym is) ∙ e));
  }

  module _ (n : ℕ) (low : n < a.len) (left better : List ℕ) (total : ℕ) (so_far : Narrowed n left total)
      (is : (i : ℕ) → i < 512 → bit better i ≡ min (bit left i) (flag (eqb (bit (plane_at planes (a.offset + (a.len - 1 - n))) i) (flag (wants_one g u n))))) where
    abbrev pub one : ℕ → ℕ
    one i = bit (plane_at planes (a.offset + (a.len - 1 - n))) i

    abbrev pub wanted : ℕ
    wanted = flag (wants_one g u n)

    wanted_small : wanted < 2
    wanted_small = flag_small (wants_one g u n)
      where
        flag_small : (t : Bool) → flag t < 2
        flag_small true = omega arith
        flag_small false = omega arith

    rank_top : (i : ℕ) → rank g u (suc n) (top (suc n) i) ≡ 2 * rank g u n (top n i) + miss (eqb (one i) wanted)
    rank_top i = ap (rank g u (suc n)) (top_more n i low) ∙ rank_more n (one i) (top n i) (bit-lt (plane_at planes (a.offset + (a.len - 1 - n))) i)

    better_is : (i : ℕ) → i < 512 → bit better i ≡ 1 → (bit left i ≡ 1) × (one i ≡ wanted)
    better_is i b on =
        let parts = both_ones (bit left i) (flag (eqb (one i) wanted)) (bit-lt left i) (small (eqb (one i) wanted)) (sym (is i b) ∙ on) in
        (parts.0, eqb-true (one i) wanted (flag_is (eqb (one i) wanted) parts.1))
      where
        small : (t : Bool) → flag t < 2
        small true = omega arith
        small false = omega arith

    better_on : (i : ℕ) → i < 512 → bit left i ≡ 1 → one i ≡ wanted → bit better i ≡ 1
    better_on i b on e = is i b ∙ ap (λ x. min x (flag (eqb (one i) wanted))) on ∙ ap (λ t. min 1 (flag t)) (eq-eqb (one i) wanted e)

    digit_is : (i : ℕ) → (one i ≡ wanted) ⊎ (miss (eqb (one i) wanted) ≡ 1)
    digit_is i = elim (cases_eq (one i) wanted) [
      | inl e ↦ inl e
      | inr m ↦ inr (ap miss (ne_eqb (one i) wanted m))
    ]

    at_most_one : (i : ℕ) → miss (eqb (one i) wanted) < 2
    at_most_one i = digit_small (eqb (one i) wanted)

    one_small : (i : ℕ) → one i < 2
    one_small i = bit-lt (plane_at planes (a.offset + (a.len - 1 - n))) i

    -- some lane that is left has the better bit
    pub narrowed_found : ones_before better 512 ≢ 0 → Narrowed (suc n) better (wanted + 2 * total)
    narrowed_found found =
        let rank_is : rank g u (suc n) (wanted + 2 * total) ≡ 2 * rank g u n total =
        rank_more n wanted total wanted_small ∙ omega (arith, ap miss (eq-eqb wanted wanted refl)) in
        record {
          small = omega (arith, so_far.small, wanted_small, pow-suc 2 n);
          kept = λ i b on.
              let parts = better_is i b on in
              let was = so_far.kept i b parts.0 in
              (was.0, top_more n i low ∙ omega (arith, parts.1, was.1));
          best = λ i b on. omega (arith, rank_is, rank_top i, so_far.best i b on);
          tied = λ i b on e.
              let same : rank g u n (top n i) ≡ rank g u n total = omega (arith, e, rank_is, rank_top i, at_most_one i) in
              elim (digit_is i) [
                | inl has ↦ better_on i b (so_far.tied i b on same) has
                | inr hasnt ↦ absurd (omega (arith, e, rank_is, rank_top i, same, hasnt))
              ];
          some = some_before better 512 found;
        }

    -- none has it
    pub narrowed_missed : ones_before better 512 ≡ 0 → (other : ℕ) → other < 2 → other ≢ wanted → Narrowed (suc n) left (other + 2 * total)
    narrowed_missed missed other small apart =
        let rank_is : rank g u (suc n) (other + 2 * total) ≡ 2 * rank g u n total + 1 =
        rank_more n other total small ∙ ap (λ t. 2 * rank g u n total + miss t) (ne_eqb other wanted apart) in
        let lacks : (i : ℕ) → i < 512 → bit left i ≡ 1 → one i ≢ wanted = λ i b on e. absurd (omega (arith, better_on i b on e, none_before better 512 missed i b)) in
        record {
          small = omega (arith, so_far.small, small, pow-suc 2 n);
          kept = λ i b on.
              let was = so_far.kept i b on in
              let digit : one i ≡ other = omega (arith, lacks i b on, apart, small, wanted_small, one_small i) in
              (was.0, top_more n i low ∙ omega (arith, digit, was.1));
          best = λ i b on. elim (cases_eq (rank g u n (top n i)) (rank g u n total)) [
            | inl same ↦ elim (digit_is i) [
              | inl has ↦ absurd (lacks i b (so_far.tied i b on same) has)
              | inr hasnt ↦ omega (arith, rank_is, rank_top i, same, hasnt)
            ]
            | inr more ↦ omega (arith, rank_is, rank_top i, so_far.best i b on, more)
          ];
          tied = λ i b on e. so_far.tied i b on (omega (arith, e, rank_is, rank_top i, at_most_one i));
          some = so_far.some;
        }

  -- and after all bits the word of the total is the fold
  pub extreme_is : 1 ≤ a.len → a.len ≤ 32 → (left : List ℕ) (total : ℕ) → Narrowed a.len left total → residue 32 (number_of a.len (not u) total) ≡ block_fold (extreme_of g u) planes a context 512
  unfolding top active lane_word
  extreme_is some few left total all =
      let value : ℕ → ℕ = λ i. number planes a.offset a.len i in
      let at : (i : ℕ) → top a.len i ≡ value i = λ i. ap (λ o. number planes o a.len i) (let e : a.offset + (a.len - a.len) ≡ a.offset = omega arith in e) in
      let lane : ℕ = all.some.0 in
      let was = all.kept lane all.some.1 all.some.2 in
      best_is g u a.len some few active value (λ k. number-lt planes a.offset a.len k) total 512 lane all.small
      (λ k h on. subst (λ v. rank g u a.len total ≤ rank g u a.len v) (at k) (all.best k h on)) all.some.1 was.0 (sym (at lane) ∙ was.1)
      ∙ fold_same _ _ _ _ _ _ 512 (λ k b. refl) (λ k b. ap (λ r. residue 32 (number_of a.len (not r.1) (value k))) (sym (extreme_combines g u)))

  -- one more bit, as it is found
  pub narrowed_step : (n : ℕ) → n < a.len → (left better : List ℕ) (total : ℕ) → Narrowed n left total
      → ((i : ℕ) → i < 512 → bit better i ≡ min (bit left i) (flag (eqb (bit (plane_at planes (a.offset + (a.len - 1 - n))) i) (flag (wants_one g u n)))))
      → (count : ℕ) → count ≡ ones_before better 512 → (found : Bool) → found ≡ not (eqb count 0) → (stays : List ℕ) → stays ≡ cond found better left
      → (digit : ℕ) → digit ≡ cond found (cond (wants_one g u n) 1 0) (cond (wants_one g u n) 0 1) → Narrowed (n + 1) stays (total * 2 + digit)
  narrowed_step n low left better total so_far is count counted found tells stays stays_is digit picks = subst (λ m. Narrowed m stays (total * 2 + digit)) (sym (add-one n)) (elim (cases_eq count 0) [
    | inl none ↦
        let missed : found ≡ false = tells ∙ ap not (eq-eqb count 0 none) in
        let other = unlike digit (wants_one g u n) (picks ∙ ap (λ t. cond t (cond (wants_one g u n) 1 0) (cond (wants_one g u n) 0 1)) missed) in
        let lanes : stays ≡ left = stays_is ∙ ap (λ t. cond t better left) missed in
        subst (λ l. Narrowed (suc n) l (total * 2 + digit)) (sym lanes)
        (subst (λ x. Narrowed (suc n) left x) (let e : digit + 2 * total ≡ total * 2 + digit = omega arith in e)
        (narrowed_missed n low left better total so_far is (sym counted ∙ none) digit other.0 other.1))
    | inr some ↦
        let hit : found ≡ true = tells ∙ ap not (ne_eqb count 0 some) in
        let one_is : digit ≡ flag (wants_one g u n) = picks ∙ ap (λ t. cond t (cond (wants_one g u n) 1 0) (cond (wants_one g u n) 0 1)) hit in
        let lanes : stays ≡ better = stays_is ∙ ap (λ t. cond t better left) hit in
        subst (λ l. Narrowed (suc n) l (total * 2 + digit)) (sym lanes)
        (subst (λ x. Narrowed (suc n) better x) (let e : flag (wants_one g u n) + 2 * total ≡ total * 2 + digit = omega (arith, one_is) in e)
        (narrowed_found n low left better total so_far is (λ e. some (counted ∙ e))))
  ])
    where
      unlike : (d : ℕ) (t : Bool) → d ≡ cond t 0 1 → (d < 2) × (d ≢ flag t)
      unlike d true e = (omega (arith, e), λ f. absurd (omega (arith, e, f)))
      unlike d false e = (omega (arith, e), λ f. absurd (omega (arith, e, f)))

pub has_one : (d : ℕ) (t : Bool) → d < 2 → t ≡ true → d ≡ flag (eqb d (flag t))
has_one zero true b e = refl
has_one (suc zero) true b e = refl
has_one (suc (suc d)) true b e = absurd (omega (arith, b))
has_one d false b e = cc

pub has_zero : (d : ℕ) (t : Bool) → d < 2 → t ≡ false → 1 - d ≡ flag (eqb d (flag t))
has_zero zero false b e = refl
has_zero (suc zero) false b e = refl
has_zero (suc (suc d)) false b e = absurd (omega (arith, b))
has_zero d true b e = cc

-- a number of fewer than 32 bits
pub few_bits : (n v : ℕ) → n < 32 → v < 2 ^ n → v * 2 + 1 < 2 ^ 32
few_bits n v b h = omega (arith, h, pow_mono {i = n} {j = 31} (omega (arith, b)))
