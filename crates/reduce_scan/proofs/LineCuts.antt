-- Where lines and segments begin, by lanes.
use Rattle.std.proofs.Common.{◌≡◌, ℕ, zero, suc, ◌+◌, ◌-◌, ◌*◌, ◌/◌, ◌%◌, ◌^◌, ◌<◌, ◌≤◌, max, Bool, true, false, not, ◌&&◌, cond, eqb, ltb, List, Option, Some, None, inl, inr, refl, sym, ◌∙◌, ap, subst, arith, add-mul, mul_assoc}
use Rattle.std.specs.Prelude.{◌||◌}
use Rattle.std.proofs.lemmas.Bool.{cases_eq, cases_lt, cases_Bool, eq-eqb, eqb-true, ne_eqb, lt-ltb, le-ltb}
use Rattle.std.proofs.lemmas.Nat.{le-div, mul-le}
use Rattle.std.proofs.Math.Nat.{div-add-mod, div-mul-le_self, mod-lt, mul_comm}
use Rattle.vp_sets.specs.Lines.{steps_before}
use Rattle.cstar_base.specs.declared.operators.Direction.{Direction}
use Rattle.cstar_base.specs.declared.operators.Direction.TheVariants as D
use Rattle.cstar_base.specs.declared.operators.SegmentMode.{SegmentMode}
use Rattle.cstar_base.specs.declared.operators.SegmentMode.TheVariants as M
use Rattle.bit_planes.specs.declared.block.Block.{Block}
use Rattle.bit_planes.specs.declared.plane.Plane.{Plane}
use Rattle.bit_planes.specs.Bits.{bit}
use Rattle.bit_planes.specs.Planes.{plane_at, number}
use Rattle.paris_code.specs.declared.operands.Field.{Field}
use Rattle.paris_code.specs.Memory.{run_number}
use Rattle.paris_code.specs.Scanning.{parts}
use Rattle.phase_meaning.proofs.Lines.{steps_below, steps_twice}
use Rattle.block_store.specs.Planes.{planes_at, block_bit}
use Rattle.block_store.proofs.Lanes.{run_is}
use Rattle.reduce_scan.specs.declared.lines.Lines.{Lines}
use Rattle.reduce_scan.specs.declared.lines.Scan.{Scan}
use Rattle.reduce_scan.specs.Across.{begins_line, has_previous, marks_behind, own_there, previous}
use Rattle.reduce_scan.specs.Parts.{AreLines, active_there, value_there, bit_there, begins_there}
use Rattle.reduce_scan.specs.WithinBlocks.{active_in, bit_in, begins_in}
use Rattle.reduce_scan.proofs.LineSteps.{back_of}
use Rattle.reduce_scan.proofs.Order.{low_high, one_row}
use Rattle.reduce_scan.proofs.Parts.{none}
use Rattle.reduce_scan.proofs.WithinBlocks.{flag}

pub div_up : (p q size : ℕ) → 0 < size → p ≤ q → p / size ≤ q / size
div_up p q size some b = le-div (p / size) q size some (omega (arith, div-mul-le_self p size))

-- where there is a position, its rows are no longer than all positions
pub size_small : (lines : Lines) → AreLines lines → (p : ℕ) → p < lines.positions → lines.extent * lines.apart ≤ 2 ^ 20
size_small lines is p b = omega (arith, is.few, is.filled, one_row is.rows (lines.extent * lines.apart) p (omega (arith, b, is.filled)))

-- the first row of a group ends at the group's end at most
pub row_small : (lines : Lines) → AreLines lines → (p x : ℕ) → p < lines.positions → x ≡ steps_before lines.direction lines.extent 0 → x * lines.apart + lines.apart ≤ lines.extent * lines.apart
row_small lines is p x b e =
    let low : x < lines.extent = omega (arith, e, steps_below lines.direction lines.extent 0 is.some) in
    omega (arith, mul-le (x + 1) lines.apart lines.extent lines.apart (omega (arith, low)) (omega arith), add-mul x 1 lines.apart)

pub at_small : (lines : Lines) → AreLines lines → (from group x : ℕ) → from < lines.positions → group < (from + 511) / (lines.extent * lines.apart) + 1 → x ≡ steps_before lines.direction lines.extent 0
    → group * (lines.extent * lines.apart) + x * lines.apart + lines.apart < 2 ^ 32
at_small lines is from group x b last e =
    let size : ℕ = lines.extent * lines.apart in
    let below : group * size ≤ (from + 511) / size * size = mul-le group size ((from + 511) / size) size (omega (arith, last)) (omega arith) in
    omega (arith, below, div-mul-le_self (from + 511) size, row_small lines is from x b e, size_small lines is from b, is.few)

module _ (d : Direction) (e t : ℕ) (ep : 0 < e) (tp : 0 < t) where
  pub size_some : 0 < e * t
  size_some = omega (arith, mul_positive e t ep tp)
    where
      mul_positive : (a b : ℕ) → 0 < a → 0 < b → 0 < a * b
      mul_positive zero b p q = absurd (omega arith)
      mul_positive (suc a) b p q = omega (arith, add-mul a 1 b, q)

  -- the group of a position
  group_is : (p : ℕ) → (p / (e * t) ≡ p / t / e) × (p ≡ p % t + p / t % e * t + p / (e * t) * (e * t))
  group_is p =
      let c : ℕ = p / t % e in
      let g : ℕ = p / t / e in
      let digits : p / t ≡ c + g * e = omega (arith, div-add-mod (p / t) e, mul_comm e g) in
      let whole : p ≡ p % t + p / t * t = omega (arith, div-add-mod p t, mul_comm t (p / t)) in
      let spread : p ≡ p % t + c * t + g * (e * t) = omega (arith, whole, ap (λ x. x * t) digits, add-mul c (g * e) t, mul_assoc g e t) in
      let small : p % t + c * t < e * t = omega (arith, mod-lt p tp, below c (mod-lt (p / t) ep)) in
      let both = low_high (p % t + c * t) g (e * t) size_some small in
      let is : p / (e * t) ≡ g = ap (λ x. x / (e * t)) spread ∙ both.0 in
      (is, omega (arith, spread, ap (λ x. x * (e * t)) is))
    where
      below : (c : ℕ) → c < e → c * t + t ≤ e * t
      below c b = omega (arith, le_mul (c + 1) e t (omega arith), add-mul c 1 t)
        where
          le_mul : (a b t : ℕ) → a ≤ b → a * t ≤ b * t
          le_mul a b t h = mul-le a t b t h (omega arith)

  -- the positions of the first row of a group
  pub first_row : (p group at : ℕ) → at ≡ group * (e * t) + steps_before d e 0 * t → eqb (steps_before d e (p / t % e)) 0 ≡ true → p / (e * t) ≡ group → (at ≤ p) × (p < at + t)
  first_row p group at is first same =
      let own : p / t % e ≡ steps_before d e 0 = sym (steps_twice d e (p / t % e) (mod-lt (p / t) ep)) ∙ ap (steps_before d e) (eqb-true (steps_before d e (p / t % e)) 0 first) in
      let spread = (group_is p).1 in
      let at_is : p ≡ p % t + at = omega (arith, is, spread, ap (λ x. x * t) own, ap (λ x. x * (e * t)) same) in
      (omega (arith, at_is), omega (arith, at_is, mod-lt p tp))

  pub within_row : (p group at : ℕ) → at ≡ group * (e * t) + steps_before d e 0 * t → at ≤ p → p < at + t → (p / (e * t) ≡ group) × (eqb (steps_before d e (p / t % e)) 0 ≡ true)
  within_row p group at is low high =
      let c : ℕ = steps_before d e 0 in
      let row : at ≡ (c + group * e) * t = omega (arith, is, add-mul c (group * e) t, mul_assoc group e t) in
      let own : p ≡ (p - at) + (c + group * e) * t = omega (arith, row, low) in
      let quotient : p / t ≡ c + group * e = ap (λ x. x / t) own ∙ (low_high (p - at) (c + group * e) t tp (omega (arith, low, high))).0 in
      let digits = low_high c group e ep (steps_below d e 0 ep) in
      let first : p / t % e ≡ c = ap (λ x. x % e) quotient ∙ digits.1 in (
        (group_is p).0 ∙ ap (λ x. x / e) quotient ∙ digits.0,
        eq-eqb (steps_before d e (p / t % e)) 0 (ap (steps_before d e) first ∙ steps_twice d e 0 ep),
      )

-- the lines of the groups below one, and those of one more
abbrev pub begun_below : Lines → ℕ → ℕ → Bool
begun_below lines group p = begins_line lines p && ltb (p / (lines.extent * lines.apart)) group

lanes : ℕ → ℕ → ℕ → ℕ
lanes low high i = cond (ltb i high && not (ltb i low)) 1 0

inside : (low high i : ℕ) → low ≤ i → i < high → lanes low high i ≡ 1
unfolding lanes
inside low high i l h = ap (λ t. cond (t && not (ltb i low)) 1 0) (lt-ltb i high h) ∙ ap (λ t. cond (not t) 1 0) (le-ltb i low l)

before : (low high i : ℕ) → i < low → lanes low high i ≡ 0
unfolding lanes
before low high i l = ap (λ t. cond (ltb i high && not t) 1 0) (lt-ltb i low l) ∙ off (ltb i high)
  where
    off : (t : Bool) → flag (t && false) ≡ 0
    off true = refl
    off false = refl

behind : (low high i : ℕ) → high ≤ i → lanes low high i ≡ 0
unfolding lanes
behind low high i h = ap (λ t. cond (t && not (ltb i low)) 1 0) (le-ltb i high h)

module _ (lines : Lines) (is : AreLines lines) (k from group at : ℕ) (from_is : from ≡ k * 512) (at_is : at ≡ group * (lines.extent * lines.apart) + steps_before lines.direction lines.extent 0 * lines.apart) where
  abbrev size : ℕ
  size = lines.extent * lines.apart

  -- a lane is in the row where its line begins there
  row_is : (i p : ℕ) → p ≡ 512 * k + i → lanes (at - from) (at + lines.apart - from) i ≡ flag (begins_line lines p && eqb (p / size) group)
  row_is i p here = elim (cases_lt p at) [
    | inl l ↦ before (at - from) (at + lines.apart - from) i (omega (arith, here, from_is, l)) ∙ sym (off p (λ h. absurd (omega (arith, l, h.0))))
    | inr g ↦ elim (cases_lt p (at + lines.apart)) [
      | inr past ↦ behind (at - from) (at + lines.apart - from) i (omega (arith, here, from_is, past)) ∙ sym (off p (λ h. absurd (omega (arith, past, h.1))))
      | inl low ↦
          let in_row = within_row lines.direction lines.extent lines.apart is.some is.apart p group at at_is g low in
          inside (at - from) (at + lines.apart - from) i (omega (arith, here, from_is, g)) (omega (arith, here, from_is, low))
          ∙ sym (ap (λ t. flag (t && eqb (p / size) group)) in_row.1 ∙ ap flag (eq-eqb (p / size) group in_row.0))
    ]
  ]
    where
      off : (p : ℕ) → ((at ≤ p) × (p < at + lines.apart) → ⊥) → flag (begins_line lines p && eqb (p / size) group) ≡ 0
      off p n = elim (cases_Bool (begins_line lines p)) [
        | inr f ↦ ap (λ t. flag (t && eqb (p / size) group)) f
        | inl first ↦ elim (cases_eq (p / size) group) [
          | inl same ↦ absurd (n (first_row lines.direction lines.extent lines.apart is.some is.apart p group at at_is first same))
          | inr other ↦ ap (λ t. flag (t && eqb (p / size) group)) first ∙ ap flag (ne_eqb (p / size) group other)
        ]
      ]

  more : (b : Bool) (g : ℕ) → max (flag (b && ltb g group)) (flag (b && eqb g group)) ≡ flag (b && ltb g (group + 1))
  more false g = refl
  more true g = elim (cases_lt g group) [
    | inl l ↦ ap (λ t. max (flag t) (flag (eqb g group))) (lt-ltb g group l) ∙ one (eqb g group) ∙ sym (ap flag (lt-ltb g (group + 1) (omega (arith, l))))
    | inr h ↦ ap (λ t. max (flag t) (flag (eqb g group))) (le-ltb g group h) ∙ elim (cases_eq g group) [
      | inl same ↦ ap (λ t. max 0 (flag t)) (eq-eqb g group same) ∙ sym (ap flag (lt-ltb g (group + 1) (omega (arith, same))))
      | inr other ↦ ap (λ t. max 0 (flag t)) (ne_eqb g group other) ∙ sym (ap flag (le-ltb g (group + 1) (omega (arith, h, other))))
    ]
  ]
    where
      one : (t : Bool) → max 1 (flag t) ≡ 1
      one true = refl
      one false = refl

  pub begun_more : (old new between : List ℕ) (low high : ℕ) → low ≡ at - from → high ≡ at + lines.apart - from → ((i : ℕ) → i < 512 → bit old i ≡ flag (begun_below lines group (512 * k + i)))
      → ((i : ℕ) → i < 512 → bit between i ≡ cond (ltb i high && not (ltb i low)) 1 0)
      → ((i : ℕ) → i < 512 → bit new i ≡ max (bit old i) (bit between i)) → (i : ℕ) → i < 512 → bit new i ≡ flag (begun_below lines (group + 1) (512 * k + i))
  unfolding lanes
  begun_more old new between low high low_is high_is so_far here joined i b =
      let p : ℕ = 512 * k + i in
      joined i b ∙ ap (λ x. max x (bit between i)) (so_far i b)
      ∙ ap (λ y. max (flag (begun_below lines group p)) y)
      (here i b ∙ ap (λ l. lanes l high i) low_is ∙ ap (λ h. lanes (at - from) h i) high_is ∙ row_is i p refl)
      ∙ more (begins_line lines p) (p / size)

-- none at the first group, and all at the last
pub begun_none : (lines : Lines) (p group : ℕ) → group ≤ p / (lines.extent * lines.apart) → flag (begun_below lines group p) ≡ 0
begun_none lines p group h = ap (λ t. flag (begins_line lines p && t)) (le-ltb (p / (lines.extent * lines.apart)) group h) ∙ off (begins_line lines p)
  where
    off : (t : Bool) → flag (t && false) ≡ 0
    off true = refl
    off false = refl

pub begun_all : (lines : Lines) (p group : ℕ) → p / (lines.extent * lines.apart) < group → flag (begun_below lines group p) ≡ flag (begins_line lines p)
begun_all lines p group h = ap (λ t. flag (begins_line lines p && t)) (lt-ltb (p / (lines.extent * lines.apart)) group h) ∙ on (begins_line lines p)
  where
    on : (t : Bool) → flag (t && true) ≡ flag t
    on true = refl
    on false = refl

-- segments
own_marks : (mode : SegmentMode) (d : Direction) (first second active : Bool) → marks_behind mode d ≡ false → parts mode d first second active ≡ parts mode D.Upward false second active
own_marks M.NoSegments d first second active e = refl
own_marks M.StartBit d first second active e = refl
own_marks M.SegmentBit D.Upward first second active e = refl
own_marks M.SegmentBit D.Downward first second active e = cc

pub other_marks : (mode : SegmentMode) (d : Direction) (first second active : Bool) → marks_behind mode d ≡ true → (parts mode d first second active ≡ first) × (d ≡ D.Downward) × (mode ≡ M.SegmentBit)
other_marks M.NoSegments d first second active e = cc
other_marks M.StartBit d first second active e = cc
other_marks M.SegmentBit D.Upward first second active e = cc
other_marks M.SegmentBit D.Downward first second active e = (refl, refl, refl)

-- on a line downward, where the bit of the position before says so
pub behind_mark : (blocks : List Block) (scan : Scan) (lines : Lines) → AreLines lines → (p : ℕ) → p < lines.positions → begins_line lines p ≡ false → marks_behind scan.mode lines.direction ≡ true
    → (p + lines.apart < lines.positions) × (begins_there blocks scan lines (previous lines.direction lines.apart p) p ≡ bit_there blocks scan.bit (p + lines.apart))
behind_mark blocks scan lines is p b n marks =
    let q : ℕ = previous lines.direction lines.apart p in
    let other = other_marks scan.mode lines.direction (bit_there blocks scan.bit q) (bit_there blocks scan.bit p) (active_there blocks scan p) marks in (
      subst (λ d. has_previous d lines.apart lines.positions p) other.1 (back_of lines is p b n),
      other.0 ∙ ap (λ d. bit_there blocks scan.bit (previous d lines.apart p)) other.1,
    )

module _ (blocks : List Block) (k i : ℕ) (b : i < 512) where
  lane_is : (planes : List Plane) → planes ≡ planes_at blocks k → (x : ℕ) → block_bit blocks (512 * k + i) x ≡ bit (plane_at planes x) i
  unfolding block_bit
  lane_is planes here x =
      ap (λ j. bit (plane_at (planes_at blocks j) x) ((512 * k + i) % 512)) (let e : (512 * k + i) / 512 ≡ k = omega (arith, b) in e)
      ∙ ap (λ l. bit (plane_at (planes_at blocks k) x) l) (let e : (512 * k + i) % 512 ≡ i = omega (arith, b) in e)
      ∙ ap (λ ps. bit (plane_at ps x) i) (sym here)

  pub run_there : (planes : List Plane) → planes ≡ planes_at blocks k → (offset len : ℕ) → run_number (block_bit blocks (512 * k + i)) offset len ≡ number planes offset len i
  unfolding block_bit
  run_there planes here offset len =
      sym (run_is (planes_at blocks ((512 * k + i) / 512)) offset len ((512 * k + i) % 512))
      ∙ ap (λ j. number (planes_at blocks j) offset len ((512 * k + i) % 512)) (let e : (512 * k + i) / 512 ≡ k = omega (arith, b) in e)
      ∙ ap (λ l. number (planes_at blocks k) offset len l) (let e : (512 * k + i) % 512 ≡ i = omega (arith, b) in e)
      ∙ ap (λ ps. number ps offset len i) (sym here)

  pub active_lane : (planes : List Plane) → planes ≡ planes_at blocks k → (scan : Scan) → active_there blocks scan (512 * k + i) ≡ active_in planes scan i
  active_lane planes here scan = ap (λ n. eqb n 1) (lane_is planes here scan.context)

  marked_lane : (planes : List Plane) → planes ≡ planes_at blocks k → (f : Option Field) → bit_there blocks f (512 * k + i) ≡ bit_in planes f i
  marked_lane planes here None = refl
  marked_lane planes here (Some f) = ap (λ n. eqb n 1) (run_there planes here f.offset f.len)

  pub begins_lane : (planes : List Plane) → planes ≡ planes_at blocks k → (scan : Scan) (lines : Lines) (first : ℕ) → marks_behind scan.mode lines.direction ≡ false
      → begins_there blocks scan lines first (512 * k + i) ≡ begins_in planes scan i
  begins_lane planes here scan lines first own =
      let p : ℕ = 512 * k + i in
      own_marks scan.mode lines.direction (bit_there blocks scan.bit first) (bit_there blocks scan.bit p) (active_there blocks scan p) own
      ∙ ap (λ t. parts scan.mode D.Upward false t (active_there blocks scan p)) (marked_lane planes here scan.bit)
      ∙ ap (λ t. parts scan.mode D.Upward false (bit_in planes scan.bit i) t) (active_lane planes here scan)

  pub own_lane : (planes : List Plane) → planes ≡ planes_at blocks k → (scan : Scan) → scan.source.len ≡ 32 → (x : ℕ) → x ≡ none scan.combiner
      → cond (eqb (bit (plane_at planes scan.context) i) 1) (number planes scan.source.offset 32 i) x ≡ own_there blocks scan (512 * k + i)
  own_lane planes here scan word x is =
      let p : ℕ = 512 * k + i in
      ap (λ t. cond t (number planes scan.source.offset 32 i) x) (sym (active_lane planes here scan))
      ∙ ap (λ l. cond (active_there blocks scan p) (number planes scan.source.offset l i) x) (sym word)
      ∙ ap (λ v. cond (active_there blocks scan p) v x) (sym (run_there planes here scan.source.offset scan.source.len))
      ∙ ap (λ y. cond (active_there blocks scan p) (value_there blocks scan p) y) is

-- a lane has a 1 where a line or a segment begins
pub either_cut : (x y r : ℕ) (s t : Bool) → x ≡ flag s → (s ≡ false → y ≡ flag t) → y < 2 → r ≡ max x y → eqb r 1 ≡ (s || t)
either_cut x y r true t e f small is = eq-eqb r 1 (omega (arith, e, is, small))
either_cut x y r false true e f small is = eq-eqb r 1 (omega (arith, e, is, f refl))
either_cut x y r false false e f small is = ne_eqb r 1 (λ h. absurd (omega (arith, e, is, f refl, h)))
