-- Scans by the positions of a set, each from the one before it on its line.
use Rattle.std.proofs.Common.{◌≡◌, ◌≢◌, ℕ, zero, suc, ◌+◌, ◌-◌, ◌*◌, ◌/◌, ◌%◌, ◌<◌, true, false, eqb, List, length, drop, sym, ◌∙◌, ap, subst, inl, inr, arith, add-mul, mul_assoc}
use Rattle.std.specs.Prelude.{slice_index}
use Rattle.std.proofs.lemmas.Bool.{cases_lt, eqb-true}
use Rattle.std.proofs.Math.Nat.{div-lt_iff_lt-mul, div-add-mod, mod-eq_of_lt, mod-lt, mul_comm, zero-mod}
use Rattle.vp_sets.specs.Lines.{steps_before}
use Rattle.vp_sets.specs.Positions.{position_count, are_positive}
use Rattle.vp_sets.proofs.PositionLaws.{extent_positive, count_positive, later_positive}
use Rattle.cstar_base.specs.declared.operators.Direction.{Direction}
use Rattle.cstar_base.specs.declared.operators.Direction.TheVariants as D
use Rattle.paris_code.specs.Scanning.{ScanOf, own_step}
use Rattle.phase_meaning.specs.Scans.{IsPrevious}
use Rattle.phase_meaning.proofs.Lines.{Backs}
use Rattle.reduce_scan.specs.declared.lines.Lines.{Lines}
use Rattle.reduce_scan.specs.Across.{begins_line, previous, has_previous, HasPrevious}
use Rattle.reduce_scan.specs.Along.{lines_of}
use Rattle.reduce_scan.specs.Order.{apart_of, ordered, place_at}
use Rattle.reduce_scan.specs.Parts.{AreLines}
use Rattle.reduce_scan.proofs.LineOrder.{first_place, neighbours}
use Rattle.reduce_scan.proofs.Order.{low_high, place_rest, position_of_place, next_position, backs}

-- a position that is not the first one of its line has one before it
step_back : (d : Direction) (e t h p : ℕ) → 0 < e → 0 < t → p < h * (e * t) → steps_before d e (p / t % e) ≢ 0 → has_previous d t (h * (e * t)) p
step_back D.Upward e t h p ep tp b n = elim (cases_lt p t) [
  | inr g ↦ g
  | inl l ↦
      let low : p / t < 1 = (div-lt_iff_lt-mul tp).1 (omega (arith, l)) in
      absurd (n (ap (λ x. x % e) (let z : p / t ≡ 0 = omega (arith, low) in z) ∙ mod-eq_of_lt ep))
]
step_back D.Downward e t h p ep tp b n =
    let c : ℕ = p / t % e in
    let g : ℕ = p / t / e in
    let all : h * (e * t) ≡ h * e * t = sym (mul_assoc h e t) in
    let rows : p / t < h * e = (div-lt_iff_lt-mul tp).1 (omega (arith, all, b)) in
    let lines : g < h = (div-lt_iff_lt-mul ep).1 rows in
    let digits : p / t ≡ c + g * e = omega (arith, div-add-mod (p / t) e, mul_comm e g) in
    let low : c < e = mod-lt (p / t) ep in
    let more : c + 1 < e = omega (arith, n, low) in
    let next : p / t + 1 ≡ (c + 1) + g * e = omega (arith, digits) in
    let group : ((c + 1) + g * e) / e ≡ g = (low_high (c + 1) g e ep more).0 in
    let inside : p / t + 1 < h * e = omega (arith, next, (div-lt_iff_lt-mul ep).0 (let f : ((c + 1) + g * e) / e < h = omega (arith, group, lines) in f)) in
    let parts : p ≡ p % t + p / t * t = omega (arith, div-add-mod p t, mul_comm t (p / t)) in
    let up : p + t ≡ p % t + (p / t + 1) * t = omega (arith, parts, add-mul (p / t) 1 t) in
    let quotient : (p + t) / t ≡ p / t + 1 = ap (λ x. x / t) up ∙ (low_high (p % t) (p / t + 1) t tp (mod-lt p tp)).0 in
    omega (arith, all, (div-lt_iff_lt-mul tp).0 (let f : (p + t) / t < h * e = omega (arith, quotient, inside) in f))

not_first : (n : ℕ) → eqb n 0 ≡ false → n ≢ 0
not_first zero e = absurd (cc)
not_first (suc n) e = λ f. absurd (omega (arith, f))

pub back_of : (lines : Lines) → AreLines lines → (p : ℕ) → p < lines.positions → begins_line lines p ≡ false → HasPrevious lines p
back_of lines is p b n =
    subst (λ c. has_previous lines.direction lines.apart c p) (sym is.filled)
    (step_back lines.direction lines.extent lines.apart is.rows p is.some is.apart (omega (arith, is.filled, b)) (not_first (steps_before lines.direction lines.extent (p / lines.apart % lines.extent)) n))

pub previous_below : (d : Direction) (t count p : ℕ) → p < count → has_previous d t count p → previous d t p < count
previous_below D.Upward t count p b h = omega arith
previous_below D.Downward t count p b h = h

pub previous_earlier : (d : Direction) (t count p : ℕ) → 0 < t → p < count → has_previous d t count p → steps_before d count (previous d t p) < steps_before d count p
previous_earlier D.Upward t count p some b h = omega (arith, some, h)
previous_earlier D.Downward t count p some b h = omega (arith, some, h)

behind : (d : Direction) (own there t a p : ℕ) → a + own * t ≡ p + there * t → Backs d own there → a ≡ previous d t p
behind D.Upward own there t a p is back = omega (arith, is, ap (λ n. n * t) back, add-mul there 1 t)
behind D.Downward own there t a p is back = omega (arith, is, ap (λ n. n * t) back, add-mul own 1 t)

module _ (extents : List ℕ) (scan : ScanOf) (positive : are_positive extents ≡ true) (axis : scan.axis < length extents) where
  some : 0 < slice_index extents scan.axis
  some = extent_positive extents scan.axis positive axis

  stride : 0 < apart_of extents scan
  stride = count_positive (drop (suc scan.axis) extents) (later_positive (suc scan.axis) extents positive)

  pub first_of_line : (p : ℕ) → begins_line (lines_of extents scan.axis scan.direction) p ≡ true → own_step extents scan p ≡ 0
  first_of_line p is =
      let d : Direction = scan.direction in
      let e : ℕ = slice_index extents scan.axis in
      let t : ℕ = apart_of extents scan in
      ap (own_step extents scan) (sym (position_of_place d e t some stride p))
      ∙ first_place extents scan positive axis (place_at d e t p) (place_rest d e t some stride p ∙ eqb-true (steps_before d e (p / t % e)) 0 is)

  pub line_before : (p : ℕ) → p < position_count extents → previous scan.direction (apart_of extents scan) p < position_count extents
      → begins_line (lines_of extents scan.axis scan.direction) p ≡ false → IsPrevious extents scan p (previous scan.direction (apart_of extents scan) p)
  line_before p p_in q_in n =
      let d : Direction = scan.direction in
      let e : ℕ = slice_index extents scan.axis in
      let t : ℕ = apart_of extents scan in
      let q : ℕ = place_at d e t p in
      let rest : q % e ≢ 0 = λ z. not_first (steps_before d e (p / t % e)) n (sym (place_rest d e t some stride p) ∙ z) in
      let more : q - 1 + 1 ≡ q = omega (arith, positive_of q e rest) in
      let at : ordered extents scan (q - 1 + 1) ≡ p = ap (ordered extents scan) more ∙ position_of_place d e t some stride p in
      let apart : (q - 1 + 1) % e ≢ 0 = λ z. rest (ap (λ x. x % e) (sym more) ∙ z) in
      let there : ordered extents scan (q - 1) ≡ previous d t p =
      behind d (steps_before d e ((q - 1 + 1) % e)) (steps_before d e ((q - 1) % e)) t (ordered extents scan (q - 1)) p
      (next_position d e t some stride (q - 1) apart ∙ ap (λ x. x + steps_before d e ((q - 1) % e) * t) at) (backs d e t some stride (q - 1) apart) in
      subst (λ x. IsPrevious extents scan x (previous d t p)) at
      (subst (λ x. IsPrevious extents scan (ordered extents scan (q - 1 + 1)) x) there
      (neighbours extents scan positive axis (q - 1) (omega (arith, at, p_in)) (omega (arith, there, q_in)) apart))
    where
      positive_of : (q e : ℕ) → q % e ≢ 0 → 0 < q
      positive_of zero e n = absurd (n (zero-mod e))
      positive_of (suc q) e n = omega arith
