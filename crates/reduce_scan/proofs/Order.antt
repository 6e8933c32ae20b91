-- Line order goes through each line in the scan's direction.
use Rattle.std.proofs.Common.{◌≡◌, ◌≢◌, ℕ, zero, suc, ◌+◌, ◌*◌, ◌/◌, ◌%◌, ◌<◌, ◌≤◌, List, [], ◌∷◌, length, take, drop, sym, ◌∙◌, ap, inl, inr, arith, add-mul, mul_assoc}
use Rattle.std.specs.Prelude.{slice_index}
use Rattle.std.proofs.lemmas.Bool.{cases_eq}
use Rattle.std.proofs.Math.Nat.{add-mul-div_right, add-mul-mod_self_right, div-eq_of_lt, mod-eq_of_lt, mod-lt, div-add-mod, div-lt_iff_lt-mul, mul_comm}
use Rattle.vp_sets.specs.Lines.{steps_before}
use Rattle.vp_sets.specs.Positions.{position_count}
use Rattle.cstar_base.specs.declared.operators.Direction.{Direction}
use Rattle.cstar_base.specs.declared.operators.Direction.TheVariants as D
use Rattle.phase_meaning.proofs.Lines.{steps_below, steps_twice, Backs}
use Rattle.reduce_scan.specs.declared.lines.Lines.{Lines}
use Rattle.reduce_scan.specs.Order.{position_at, place_at}

-- a number in two digits
pub low_high : (a b m : ℕ) → 0 < m → a < m → ((a + b * m) / m ≡ b) × ((a + b * m) % m ≡ a)
low_high a b m p h = (
  add-mul-div_right a b p ∙ ap (λ x. x + b) (div-eq_of_lt h) ∙ (let f : 0 + b ≡ b = omega arith in f),
  add-mul-mod_self_right a b m ∙ mod-eq_of_lt h,
)

module _ (d : Direction) (e t : ℕ) (ep : 0 < e) (tp : 0 < t) where
  high : ℕ → ℕ
  high q = q / e / t

  own : ℕ → ℕ
  own q = steps_before d e (q % e)

  own_below : (q : ℕ) → own q < e
  unfolding own
  own_below q = steps_below d e (q % e) (mod-lt q ep)

  shape : (q : ℕ) → position_at d e t q ≡ q / e % t + (own q + high q * e) * t
  unfolding own high
  shape q = omega (arith, add-mul (steps_before d e (q % e)) (q / e / t * e) t, mul_assoc (q / e / t) e t)

  digits : (q : ℕ) → (position_at d e t q / t ≡ own q + high q * e) × (position_at d e t q % t ≡ q / e % t)
  digits q =
      let both = low_high (q / e % t) (own q + high q * e) t tp (mod-lt (q / e) tp) in
      (ap (λ x. x / t) (shape q) ∙ both.0, ap (λ x. x % t) (shape q) ∙ both.1)

  -- the coordinate of a place
  pub own_is : (q : ℕ) → position_at d e t q / t % e ≡ steps_before d e (q % e)
  unfolding own
  own_is q = ap (λ x. x % e) (digits q).0 ∙ (low_high (own q) (high q) e ep (own_below q)).1

  pub position_of_place : (p : ℕ) → position_at d e t (place_at d e t p) ≡ p
  position_of_place p =
      let c : ℕ = p / t % e in
      let line : ℕ = p / t / e * t + p % t in
      let step : ℕ = steps_before d e c in
      let q : ℕ = place_at d e t p in
      let is : q ≡ step + line * e = omega arith in
      let lows = low_high step line e ep (steps_below d e c (mod-lt (p / t) ep)) in
      let quotient : q / e ≡ line = ap (λ x. x / e) is ∙ lows.0 in
      let rest : q % e ≡ step = ap (λ x. x % e) is ∙ lows.1 in
      let lines = low_high (p % t) (p / t / e) t tp (mod-lt p tp) in
      let turned : line ≡ p % t + p / t / e * t = omega arith in
      ap (λ x. x / t * (e * t) + steps_before d e (q % e) * t + x % t) (quotient ∙ turned)
      ∙ ap (λ x. x * (e * t) + steps_before d e (q % e) * t + (p % t + p / t / e * t) % t) lines.0
      ∙ ap (λ x. p / t / e * (e * t) + steps_before d e (q % e) * t + x) lines.1
      ∙ ap (λ x. p / t / e * (e * t) + steps_before d e x * t + p % t) rest
      ∙ ap (λ x. p / t / e * (e * t) + x * t + p % t) (steps_twice d e c (mod-lt (p / t) ep))
      ∙ (let f : p / t / e * (e * t) + c * t + p % t ≡ (p / t / e * e + c) * t + p % t = omega (arith, add-mul (p / t / e * e) c t, mul_assoc (p / t / e) e t) in f)
      ∙ ap (λ x. x * t + p % t) (let f : p / t / e * e + p / t % e ≡ p / t = omega (arith, div-add-mod (p / t) e, mul_comm e (p / t / e)) in f)
      ∙ (let f : p / t * t + p % t ≡ p = omega (arith, div-add-mod p t, mul_comm t (p / t)) in f)

  -- the step of a position
  pub place_rest : (p : ℕ) → place_at d e t p % e ≡ steps_before d e (p / t % e)
  place_rest p =
      let c : ℕ = p / t % e in
      let line : ℕ = p / t / e * t + p % t in
      ap (λ x. x % e) (let is : place_at d e t p ≡ steps_before d e c + line * e = omega arith in is)
      ∙ (low_high (steps_before d e c) line e ep (steps_below d e c (mod-lt (p / t) ep))).1

  -- the next place on the same line
  next_digits : (q : ℕ) → (q + 1) % e ≢ 0 → ((q + 1) / e ≡ q / e) × ((q + 1) % e ≡ q % e + 1)
  next_digits q n =
      let whole : q + 1 ≡ q % e + 1 + q / e * e = omega (arith, div-add-mod q e, mul_comm e (q / e)) in
      let below : q % e + 1 < e = elim (cases_eq (q % e + 1) e) [
        | inr m ↦ (let f : q % e < e = mod-lt q ep in omega (arith, f, m))
        | inl same ↦ absurd (n (ap (λ x. x % e) (let f : q + 1 ≡ 0 + (q / e + 1) * e = omega (arith, whole, same, add-mul (q / e) 1 e) in f) ∙ add-mul-mod_self_right 0 (q / e + 1) e ∙ mod-eq_of_lt ep))
      ] in
      let both = low_high (q % e + 1) (q / e) e ep below in
      (ap (λ x. x / e) whole ∙ both.0, ap (λ x. x % e) whole ∙ both.1)

  -- two neighbours differ in the coordinate alone
  pub next_position : (q : ℕ) → (q + 1) % e ≢ 0 → position_at d e t q + steps_before d e ((q + 1) % e) * t ≡ position_at d e t (q + 1) + steps_before d e (q % e) * t
  next_position q n =
      let next = next_digits q n in
      omega (arith, ap (λ x. x / t * (e * t)) next.0, ap (λ x. x % t) next.0)

  pub backs : (q : ℕ) → (q + 1) % e ≢ 0 → Backs d (steps_before d e ((q + 1) % e)) (steps_before d e (q % e))
  backs q n = go d (next_digits q n).1 (mod-lt (q + 1) ep)
    where
      go : (b : Direction) → (q + 1) % e ≡ q % e + 1 → (q + 1) % e < e → Backs b (steps_before b e ((q + 1) % e)) (steps_before b e (q % e))
      go D.Upward is h = sym is
      go D.Downward is h = omega arith

  -- the position of a place is one of the positions
  pub position_below : (h q : ℕ) → q < h * (e * t) → position_at d e t q < h * (e * t)
  unfolding own high
  position_below h q b =
      let turned : h * (e * t) ≡ h * t * e = omega (arith, mul_assoc h t e, ap (λ x. h * x) (mul_comm e t)) in
      let lines : q / e < h * t = (div-lt_iff_lt-mul ep).1 (omega arith) in
      let highs : q / e / t < h = (div-lt_iff_lt-mul tp).1 lines in
      let rows : (own q + high q * e) / e < h = omega (arith, (low_high (own q) (high q) e ep (own_below q)).0) in
      let over : own q + high q * e < h * e = (div-lt_iff_lt-mul ep).0 rows in
      let quotient : position_at d e t q / t < h * e = omega (arith, (digits q).0) in
      let all : position_at d e t q < h * e * t = (div-lt_iff_lt-mul tp).0 quotient in
      omega (arith, mul_assoc h e t)

-- where there is a position there is a row
pub one_row : (h m q : ℕ) → q < h * m → m ≤ h * m
one_row zero m q b = absurd (omega arith)
one_row (suc h) m q b = omega (arith, add-mul h 1 m)

-- the positions by the axes before one, its own and those behind it
pub count_split : (xs : List ℕ) (axis : ℕ) → axis < length xs → position_count xs ≡ position_count (take axis xs) * (slice_index xs axis * position_count (drop (suc axis) xs))
unfolding position_count
count_split [] axis b = absurd (omega arith)
count_split (x ∷ xs) zero b = omega arith
count_split (x ∷ xs) (suc k) b =
    ap (λ n. x * n) (count_split xs k (omega arith)) ∙ sym (mul_assoc x (position_count (take k xs)) (slice_index xs k * position_count (drop (suc k) xs)))

pub same_lines : (d : Direction) (e f t u p q : ℕ) → e ≡ f → t ≡ u → p ≡ q
    → let first : Lines = record { direction = d; extent = e; apart = t; positions = p } in
    let second : Lines = record { direction = d; extent = f; apart = u; positions = q } in
    first ≡ second
same_lines d e f t u p q a b c =
    let of : ℕ → ℕ → ℕ → Lines = λ x y z. record { direction = d; extent = x; apart = y; positions = z } in
    ap (λ x. of x t p) a ∙ ap (λ y. of f y p) b ∙ ap (λ z. of f u z) c

-- neighbours along the last axis upward: each place is its position
pub straight : (l : Lines) (q : ℕ) → l.direction ≡ D.Upward → l.apart ≡ 1 → position_at l.direction l.extent l.apart q ≡ q
straight l q up one =
    let e : ℕ = l.extent in
    let once : q / e / 1 ≡ q / e = omega arith in
    let same : e * 1 ≡ e = omega arith in
    ap (λ d. position_at d e l.apart q) up ∙ ap (λ t. position_at D.Upward e t q) one
    ∙ ap (λ x. x * (e * 1) + q % e * 1 + q / e % 1) once ∙ ap (λ y. q / e * y + q % e * 1 + q / e % 1) same
    ∙ omega (arith, div-add-mod q e, mul_comm e (q / e))
