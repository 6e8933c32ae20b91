-- Where a step along an axis leads, by the numbers of positions; and the lanes from which it crosses the end of a turn.
use Rattle.std.proofs.Common.{◌≡◌, ℕ, zero, suc, ◌+◌, ◌-◌, ◌*◌, ◌%◌, ◌<◌, ◌≤◌, true, cond, eqb, ltb, max, min, List, [], ◌∷◌, drop, refl, sym, ◌∙◌, ap, inl, inr, zero-add, add-mul, arith}
use Rattle.std.specs.Prelude.{ℤ, pos, negsuc, ◌+ℤ◌, unsigned_abs, slice_index, length}
use Rattle.std.proofs.lemmas.Int.{int_rem_euclid_is, ints}
use Rattle.std.proofs.Math.Arith.{mod-mul}
use Rattle.std.proofs.Math.Nat.{mod-eq_of_lt, mod-lt, add-mod-mod, add-mod_right, mul-le-mul_right, le-mul_of_pos_right, mod-le, mod_self}
use Rattle.std.proofs.lemmas.Nat.{mul-mod_second}
use Rattle.std.proofs.lemmas.Bool.{cases_lt}
use Rattle.vp_sets.specs.Positions.{position_count, are_positive, coordinate, moved, shifted}
use Rattle.vp_sets.proofs.PositionLaws.{Step, step_of, axis_count, extent_positive, later_positive, count_positive, coordinate_by_stride}
use Rattle.vp_sets.specs.Blocks.{block_count}
use Rattle.bit_planes.specs.declared.plane.Plane.{Plane}
use Rattle.bit_planes.specs.Bits.{bit}
use Rattle.phase_meaning.proofs.Alike.{shifted_below}
use Rattle.phase_meaning.proofs.Tests.{less, not_less}
use Rattle.news_grid.specs.declared.step.Step.{Step as Lead}
use Rattle.news_grid.specs.declared.window.Window.{Window}
use Rattle.news_grid.specs.Steps.{led, turn_blocks, beside, number_held, number_seen, Leads, Views}
use Rattle.news_grid.proofs.Windows.{seen_there}

-- a number that leaves the same as an integer
abbrev natural : ℤ → ℕ → ℕ
natural (pos a) e = a
natural (negsuc a) e = suc a * e - suc a

moved_is : (e own : ℕ) (by : ℤ) → 0 < e → moved e own by ≡ (own + natural by e) % e
unfolding moved
moved_is e own (pos a) p = refl
moved_is e own (negsuc a) p =
    let much : suc a ≤ suc a * e = le-mul_of_pos_right (suc a) p in
    ap unsigned_abs (int_rem_euclid_is (pos own +ℤ negsuc a) (pos e) e (suc a) (own + (suc a * e - suc a)) p refl (omega (arith, ints, much)))

-- a number that is past one extent and not past two
pub past_once : (n e : ℕ) → e ≤ n → n < 2 * e → n % e ≡ n - e
past_once n e g few = ap (λ m. m % e) (let q : n ≡ (n - e) + e = omega (arith, g) in q) ∙ add-mod_right (n - e) e ∙ mod-eq_of_lt (let q : n - e < e = omega (arith, few, g) in q)

-- round the end by less than an extent
round_once : (e own k : ℕ) → own < e → k < e → (own + k) % e ≡ cond (ltb (own + k) e) (own + k) (own + k - e)
round_once e own k o h = elim (cases_lt (own + k) e) [
  | inl l ↦ mod-eq_of_lt l ∙ less (own + k) e (own + k) (own + k - e) l
  | inr g ↦ past_once (own + k) e g (omega (arith, o, h)) ∙ not_less (own + k) e (own + k) (own + k - e) g
]

moved_by : (e own : ℕ) (by : ℤ) → own < e → (moved e 0 by < e) × (moved e own by ≡ cond (ltb (own + moved e 0 by) e) (own + moved e 0 by) (own + moved e 0 by - e))
moved_by e own by o =
    let p : 0 < e = omega (arith, o) in
    let k : moved e 0 by ≡ natural by e % e = moved_is e 0 by p ∙ ap (λ m. m % e) (zero-add (natural by e)) in
    let small : moved e 0 by < e = omega (arith, k, mod-lt (natural by e) p) in (
      small,
      moved_is e own by p ∙ sym (add-mod-mod own (natural by e) e) ∙ ap (λ m. (own + m) % e) (sym k) ∙ round_once e own (moved e 0 by) o small,
    )

-- a step of k along an axis of extent e whose neighbours are t apart, from coordinate c
one_step : (n c k e t rest : ℕ) → 0 < t → rest < t → c < e → k < e → n % (e * t) ≡ c * t + rest → c * t ≤ n
    → n - c * t + cond (ltb (c + k) e) (c + k) (c + k - e) * t ≡ cond (ltb (n % (e * t) + k * t) (e * t)) (n + k * t) (n + k * t - e * t)
one_step n c k e t rest tp rb cb kb is part =
    let split : (c + k) * t ≡ c * t + k * t = grind arith in
    elim (cases_lt (c + k) e) [
      | inl l ↦
          let room : (c + k + 1) * t ≤ e * t = mul-le-mul_right t (omega (arith, l)) in
          let more : (c + k + 1) * t ≡ c * t + k * t + t = grind arith in
          ap (λ x. n - c * t + x * t) (sym (less (c + k) e (c + k) (c + k - e) l))
          ∙ (let q : n - c * t + (c + k) * t ≡ n + k * t = omega (arith, split, part) in q)
          ∙ less (n % (e * t) + k * t) (e * t) (n + k * t) (n + k * t - e * t) (omega (arith, is, rb, room, more))
      | inr g ↦
          let past : e * t ≤ (c + k) * t = mul-le-mul_right t g in
          let back : (c + k - e) * t + e * t ≡ (c + k) * t = grind (arith, ap (λ x. x * t) (let q : c + k - e + e ≡ c + k = omega (arith, g) in q)) in
          ap (λ x. n - c * t + x * t) (sym (not_less (c + k) e (c + k) (c + k - e) g))
          ∙ (let q : n - c * t + (c + k - e) * t ≡ n + k * t - e * t = omega (arith, split, past, back, part) in q)
          ∙ not_less (n % (e * t) + k * t) (e * t) (n + k * t) (n + k * t - e * t) (omega (arith, is, past, split))
    ]

-- the turns of an axis fill the set
axis_fills : (xs : List ℕ) (axis : ℕ) → axis < length xs → position_count xs % (slice_index xs axis * position_count (drop (suc axis) xs)) ≡ 0
unfolding position_count
axis_fills [] axis r = elim r [ ]
axis_fills (x ∷ xs) zero r = mod_self (x * position_count xs)
axis_fills (x ∷ xs) (suc axis) r =
    let turn : ℕ = slice_index xs axis * position_count (drop (suc axis) xs) in
    sym (mul-mod_second x (position_count xs) turn) ∙ ap (λ n. (x * n) % turn) (axis_fills xs axis (omega arith)) ∙ (let q : (x * 0) % turn ≡ 0 = omega arith in q)

module _ (xs : List ℕ) (axis : ℕ) (by : ℤ) (positive : are_positive xs ≡ true) (there : axis < length xs) where
  abbrev pub extent : ℕ
  extent = slice_index xs axis

  abbrev pub stride : ℕ
  stride = position_count (drop (suc axis) xs)

  abbrev pub steps : ℕ
  steps = moved extent 0 by

  extent_is : 0 < extent
  extent_is = extent_positive xs axis positive there

  stride_is : 0 < stride
  stride_is = count_positive (drop (suc axis) xs) (later_positive (suc axis) xs positive)

  own_below : (n : ℕ) → coordinate xs n axis < extent
  own_below n = rw (coordinate_by_stride xs n axis there) (mod-lt _ extent_is)

  stepped : (n : ℕ) → n < position_count xs → shifted xs n axis by ≡ cond (ltb (n % (extent * stride) + steps * stride) (extent * stride)) (n + steps * stride) (n + steps * stride - extent * stride)
  unfolding shifted
  stepped n within =
      let own : ℕ = coordinate xs n axis in
      let moves = moved_by extent own by (own_below n) in
      let below : moved extent own by < extent = omega (arith, moved_is extent own by extent_is, mod-lt (own + natural by extent) extent_is) in
      let step : Step xs n axis own (moved extent own by) stride = step_of xs n axis own (moved extent own by) stride positive within there refl refl below in
      let digits : n % (extent * stride) ≡ own * stride + n % stride = mod-mul n extent_is stride_is ∙ ap (λ c. c * stride + n % stride) (sym (coordinate_by_stride xs n axis there)) in
      sym step.value ∙ ap (λ x. n - own * stride + x * stride) moves.1
      ∙ one_step n own steps extent stride (n % stride) stride_is (mod-lt n stride_is) (own_below n) moves.0 digits step.part

  -- the step from the first position says how far it leads
  from_first : shifted xs 0 axis by ≡ steps * stride
  from_first =
      let small : steps < extent = (moved_by extent 0 by extent_is).0 in
      let less_than : (steps + 1) * stride ≤ extent * stride = mul-le-mul_right stride (omega (arith, small)) in
      let more : (steps + 1) * stride ≡ steps * stride + stride = grind arith in
      let zero_is : 0 % (extent * stride) ≡ 0 = omega arith in
      let short : 0 % (extent * stride) + steps * stride < extent * stride = omega (arith, zero_is, less_than, more, stride_is) in
      stepped 0 (count_positive xs positive) ∙ sym (less (0 % (extent * stride) + steps * stride) (extent * stride) (0 + steps * stride) (0 + steps * stride - extent * stride) short) ∙ (let q : 0 + steps * stride ≡ steps * stride = omega arith in q)

  pub leads : (step : Lead) → step.turn ≡ extent * stride → step.ahead ≡ shifted xs 0 axis by → step.blocks ≡ turn_blocks step.turn → Leads xs axis by step
  leads step turn ahead blocks =
      let is : step.ahead ≡ steps * stride = ahead ∙ from_first in
      let small : steps < extent = (moved_by extent 0 by extent_is).0 in
      let less_than : (steps + 1) * stride ≤ extent * stride = mul-le-mul_right stride (omega (arith, small)) in
      let more : (steps + 1) * stride ≡ steps * stride + stride = grind arith in
      record {
        short = omega (arith, is, turn, less_than, more, stride_is);
        within = omega (arith, turn, axis_count xs axis positive there);
        fills = ap (λ t. position_count xs % t) turn ∙ axis_fills xs axis there;
        blocks = blocks;
        there = λ n within. stepped n within
            ∙ ap (λ a. cond (ltb (n % (extent * stride) + a) (extent * stride)) (n + a) (n + a - extent * stride)) (sym is)
            ∙ ap (λ t. cond (ltb (n % t + step.ahead) t) (n + step.ahead) (n + step.ahead - t)) (sym turn);
        inside = λ n within. shifted_below xs n axis by positive within there;
      }

-- what a lane of block k takes: what is held for the position to which the step leads
pub lane_taken : (extents : List ℕ) (axis : ℕ) (by : ℤ) (step : Lead) (held : List Plane) (k blocks len i : ℕ) (crossing : List ℕ) (staying round : Window) → Leads extents axis by step → blocks ≡ block_count extents
    → bit crossing i ≡ cond (ltb ((512 * k + i) % step.turn + step.ahead) step.turn) 0 1
    → Views staying (512 * k + step.ahead) blocks → Views round (512 * k + step.ahead + (512 * blocks - step.turn)) blocks → i < 512 → 512 * k + i < position_count extents
    → cond (eqb (bit crossing i) 1) (number_seen held round len i) (number_seen held staying len i) ≡ number_held held len (shifted extents (512 * k + i) axis by)
unfolding block_count
lane_taken extents axis by step held k blocks len i crossing staying round leads all crosses is_staying is_round ib within =
    let n : ℕ = 512 * k + i in
    let there : shifted extents n axis by ≡ led step n = leads.there n within in
    let inside : shifted extents n axis by < position_count extents = leads.inside n within in
    let much : position_count extents ≤ 512 * blocks = omega (arith, all) in
    elim (cases_lt (n % step.turn + step.ahead) step.turn) [
      | inl l ↦
          let p : led step n ≡ n + step.ahead = sym (less (n % step.turn + step.ahead) step.turn (n + step.ahead) (n + step.ahead - step.turn) l) in
          let off : bit crossing i ≡ 0 = crosses ∙ sym (less (n % step.turn + step.ahead) step.turn 0 1 l) in
          ap (λ b. cond (eqb b 1) (number_seen held round len i) (number_seen held staying len i)) off
          ∙ seen_there held staying (512 * k + step.ahead) blocks len i (n + step.ahead) 0 is_staying ib (omega (arith, much, inside, there, p)) (omega arith)
          ∙ ap (number_held held len) (sym (there ∙ p))
      | inr g ↦
          let p : led step n ≡ n + step.ahead - step.turn = sym (not_less (n % step.turn + step.ahead) step.turn (n + step.ahead) (n + step.ahead - step.turn) g) in
          let on : bit crossing i ≡ 1 = crosses ∙ sym (not_less (n % step.turn + step.ahead) step.turn 0 1 g) in
          let far : step.turn ≤ n + step.ahead = omega (arith, g, mod-le n step.turn) in
          ap (λ b. cond (eqb b 1) (number_seen held round len i) (number_seen held staying len i)) on
          ∙ seen_there held round (512 * k + step.ahead + (512 * blocks - step.turn)) blocks len i (n + step.ahead - step.turn) 1 is_round ib (omega (arith, much, inside, there, p)) (omega (arith, far, leads.within, much))
          ∙ ap (number_held held len) (sym (there ∙ p))
    ]

-- how far into its turn a lane is, by how far the first one is
within_turn : (from i turn : ℕ) → 0 < turn → i < turn → (from + i) % turn ≡ cond (ltb (from % turn + i) turn) (from % turn + i) (from % turn + i - turn)
within_turn from i turn p b =
    ap (λ n. n % turn) (let q : from + i ≡ i + from = omega arith in q) ∙ sym (add-mod-mod i from turn) ∙ ap (λ n. n % turn) (let q : i + from % turn ≡ from % turn + i = omega arith in q)
    ∙ round_once turn (from % turn) i (mod-lt from p) b

-- the lanes below one count and not below another
bits_between : (a b i x : ℕ) → x ≡ min (cond (ltb i a) 1 0) (1 - cond (ltb i b) 1 0) → (i < a → b ≤ i → x ≡ 1) × ((a ≤ i → x ≡ 0) × (i < b → x ≡ 0))
bits_between a b i x e = (
  λ l g. e ∙ ap (λ t. min t (1 - cond (ltb i b) 1 0)) (sym (less i a 1 0 l)) ∙ ap (λ t. min 1 (1 - t)) (sym (not_less i b 1 0 g)),
  (
    λ g. e ∙ ap (λ t. min t (1 - cond (ltb i b) 1 0)) (sym (not_less i a 1 0 g)) ∙ (let q : min 0 (1 - cond (ltb i b) 1 0) ≡ 0 = omega arith in q),
    λ l. e ∙ ap (λ t. min (cond (ltb i a) 1 0) (1 - t)) (sym (less i b 1 0 l)) ∙ (let q : min (cond (ltb i a) 1 0) (1 - 1) ≡ 0 = omega arith in q),
  ),
)

-- the crossing lanes of the first turn that is seen, and 0 behind it
pub first_turn : (from turn ahead i x y z : ℕ) → ahead < turn → let past : ℕ = from % turn in let last : ℕ = turn - ahead in
    x ≡ min (cond (ltb i (turn - past)) 1 0) (1 - cond (ltb i (last - past)) 1 0) → y ≡ min (cond (ltb i turn) 1 0) (1 - cond (ltb i (turn - past + last)) 1 0) → z ≡ max x y
    → (i < turn → z ≡ cond (ltb ((from + i) % turn + ahead) turn) 0 1) × (turn ≤ i → z ≡ 0)
first_turn from turn ahead i x y z short is_x is_y is_z =
    let past : ℕ = from % turn in
    let last : ℕ = turn - ahead in
    let p : past < turn = mod-lt from (omega (arith, short)) in
    let this = bits_between (turn - past) (last - past) i x is_x in
    let next = bits_between turn (turn - past + last) i y is_y in
    let seen : ℕ = (from + i) % turn in (
      λ b.
          let where_is : seen ≡ cond (ltb (past + i) turn) (past + i) (past + i - turn) = within_turn from i turn (omega (arith, short)) b in
          elim (cases_lt (past + i) turn) [
            | inl l ↦
                let at : seen ≡ past + i = where_is ∙ sym (less (past + i) turn (past + i) (past + i - turn) l) in
                let second : y ≡ 0 = next.1.1 (omega (arith, l, short)) in
                elim (cases_lt (seen + ahead) turn) [
                  | inl s ↦ is_z ∙ (let q : max x y ≡ 0 = omega (arith, second, this.1.1 (omega (arith, s, at))) in q) ∙ less (seen + ahead) turn 0 1 s
                  | inr c ↦ is_z ∙ (let q : max x y ≡ 1 = omega (arith, second, this.0 (omega (arith, l)) (omega (arith, c, at))) in q) ∙ not_less (seen + ahead) turn 0 1 c
                ]
            | inr g ↦
                let at : seen ≡ past + i - turn = where_is ∙ sym (not_less (past + i) turn (past + i) (past + i - turn) g) in
                let first : x ≡ 0 = this.1.0 (omega (arith, g, p)) in
                elim (cases_lt (seen + ahead) turn) [
                  | inl s ↦ is_z ∙ (let q : max x y ≡ 0 = omega (arith, first, next.1.1 (omega (arith, s, at, g, p, short))) in q) ∙ less (seen + ahead) turn 0 1 s
                  | inr c ↦ is_z ∙ (let q : max x y ≡ 1 = omega (arith, first, next.0 b (omega (arith, c, at, g, p, short))) in q) ∙ not_less (seen + ahead) turn 0 1 c
                ]
          ],
      λ g. is_z ∙ (let q : max x y ≡ 0 = omega (arith, this.1.0 (omega (arith, g)), next.1.0 g) in q),
    )

-- lanes that are both below a count and not below another
pub lanes_between : (a b i : ℕ) (below early late both : List ℕ) → bit below i ≡ cond (ltb i a) 1 0 → bit early i ≡ cond (ltb i b) 1 0 → bit late i ≡ 1 - bit early i → bit both i ≡ min (bit below i) (bit late i)
    → bit both i ≡ min (cond (ltb i a) 1 0) (1 - cond (ltb i b) 1 0)
lanes_between a b i below early late both is_below is_early is_late is_both =
    is_both ∙ ap (λ n. min n (bit late i)) is_below ∙ ap (min (cond (ltb i a) 1 0)) (is_late ∙ ap (λ n. 1 - n) is_early)

-- the same of planes
pub first_lanes_cross : (past turn ahead i : ℕ) (this next all : List ℕ) → past < turn → ahead < turn → let last : ℕ = turn - ahead in
    bit this i ≡ min (cond (ltb i (turn - past)) 1 0) (1 - cond (ltb i (last - past)) 1 0) → bit next i ≡ min (cond (ltb i turn) 1 0) (1 - cond (ltb i (turn - past + last)) 1 0) → bit all i ≡ max (bit this i) (bit next i)
    → (i < turn → bit all i ≡ cond (ltb ((past + i) % turn + ahead) turn) 0 1) × (turn ≤ i → bit all i ≡ 0)
first_lanes_cross past turn ahead i this next all within short is_this is_next is_all =
    let own : past ≡ past % turn = sym (mod-eq_of_lt within) in
    first_turn past turn ahead i (bit this i) (bit next i) (bit all i) short
    (is_this ∙ ap (λ f. min (cond (ltb i (turn - f)) 1 0) (1 - cond (ltb i (turn - ahead - f)) 1 0)) own)
    (is_next ∙ ap (λ f. min (cond (ltb i turn) 1 0) (1 - cond (ltb i (turn - f + (turn - ahead))) 1 0)) own) is_all

-- the other turns repeat it
pub turns_alike : (from turn ahead i : ℕ) → ◌≡◌ {A = ℕ} (cond (ltb ((from + i % turn) % turn + ahead) turn) 0 1) (cond (ltb ((from + i) % turn + ahead) turn) 0 1)
turns_alike from turn ahead i = ap (λ n. cond (ltb (n + ahead) turn) 0 1) (add-mod-mod from i turn)

-- ---- a block in its turn

-- it begins so far past the start of its turn
pub from_its_start : (k turn ahead i : ℕ) → ◌≡◌ {A = ℕ} (cond (ltb ((k * 512 % turn + i) % turn + ahead) turn) 0 1) (cond (ltb ((512 * k + i) % turn + ahead) turn) 0 1)
from_its_start k turn ahead i =
    ap (λ n. cond (ltb (n + ahead) turn) 0 1)
    (ap (λ n. n % turn) (let q : k * 512 % turn + i ≡ i + k * 512 % turn = omega arith in q) ∙ add-mod-mod i (k * 512) turn ∙ ap (λ n. n % turn) (let q : i + k * 512 ≡ 512 * k + i = omega arith in q))

module _ (k turn ahead i : ℕ) (inside : i < 512) (whole : k * 512 % turn + 512 ≤ turn) where
  own_place : (512 * k + i) % turn ≡ k * 512 % turn + i
  own_place =
      ap (λ n. n % turn) (let q : 512 * k + i ≡ i + k * 512 = omega arith in q) ∙ sym (add-mod-mod i (k * 512) turn)
      ∙ mod-eq_of_lt (let q : i + k * 512 % turn < turn = omega (arith, inside, whole) in q) ∙ (let q : i + k * 512 % turn ≡ k * 512 % turn + i = omega arith in q)

  -- the whole block stays in its turn, or leaves it
  pub none_crosses : k * 512 % turn + 512 + ahead ≤ turn → ◌≡◌ {A = ℕ} 0 (cond (ltb ((512 * k + i) % turn + ahead) turn) 0 1)
  none_crosses room = less ((512 * k + i) % turn + ahead) turn 0 1 (omega (arith, own_place, inside, room))

  pub all_cross : turn ≤ k * 512 % turn + ahead → ◌≡◌ {A = ℕ} 1 (cond (ltb ((512 * k + i) % turn + ahead) turn) 0 1)
  all_cross past = not_less ((512 * k + i) % turn + ahead) turn 0 1 (omega (arith, own_place, past))

-- the first lanes are known, and 0 stands behind them
pub record Known (first : List ℕ) (count known : ℕ) (lanes : List ℕ) : Type 0 where
  pub some : 0 < known
  pub whole : known % count ≡ 0
  pub below : (i : ℕ) → i < 512 → i < known → bit lanes i ≡ bit first (i % count)
  pub above : (i : ℕ) → i < 512 → known ≤ i → bit lanes i ≡ 0

pub known_first : (first : List ℕ) (count : ℕ) → 0 < count → ((i : ℕ) → count ≤ i → i < 512 → bit first i ≡ 0) → Known first count count first
known_first first count p rest = record {
  some = p;
  whole = ap (λ n. n % count) (let q : count ≡ 0 + count = omega arith in q) ∙ add-mod_right 0 count ∙ (let q : 0 % count ≡ 0 = omega arith in q);
  below = λ i ib b. ap (bit first) (sym (mod-eq_of_lt b));
  above = λ i ib g. rest i g ib;
}

-- twice as many are known with the same lanes moved behind them
pub known_twice : (first : List ℕ) (count known : ℕ) (lanes none behind new : List ℕ) → known < 512 → Known first count known lanes
    → ((i : ℕ) → i < 512 → bit none i ≡ 0) → ((i : ℕ) → i < 512 → bit behind i ≡ beside none lanes (512 - known + i)) → ((i : ℕ) → i < 512 → bit new i ≡ max (bit lanes i) (bit behind i))
    → Known first count (known * 2) new
known_twice first count known lanes none behind new few before is_none is_behind is_new =
    let early : (i : ℕ) → i < 512 → i < known → bit behind i ≡ 0 = λ i ib b.
    is_behind i ib ∙ sym (less (512 - known + i) 512 (bit none (512 - known + i)) (bit lanes (512 - known + i - 512)) (omega (arith, b, few))) ∙ is_none (512 - known + i) (omega (arith, b, few)) in
    let late : (i : ℕ) → i < 512 → known ≤ i → bit behind i ≡ bit lanes (i - known) = λ i ib g.
    is_behind i ib ∙ sym (not_less (512 - known + i) 512 (bit none (512 - known + i)) (bit lanes (512 - known + i - 512)) (omega (arith, g, few)))
    ∙ ap (bit lanes) (let q : 512 - known + i - 512 ≡ i - known = omega (arith, g, few) in q) in
    let again : (i : ℕ) → known ≤ i → (i - known) % count ≡ i % count = λ i g.
    sym (ap (λ n. n % count) (let q : i ≡ i - known + known = omega (arith, g) in q) ∙ sym (add-mod-mod (i - known) known count) ∙ ap (λ n. (i - known + n) % count) before.whole ∙ ap (λ n. n % count) (let q : i - known + 0 ≡ i - known = omega arith in q)) in
    record {
      some = omega (arith, before.some);
      whole = ap (λ n. n % count) (let q : known * 2 ≡ known + known = omega arith in q) ∙ sym (add-mod-mod known known count) ∙ ap (λ n. (known + n) % count) before.whole
          ∙ ap (λ n. n % count) (let q : known + 0 ≡ known = omega arith in q) ∙ before.whole;
      below = λ i ib b. is_new i ib ∙ elim (cases_lt i known) [
        | inl l ↦ (let q : max (bit lanes i) (bit behind i) ≡ bit lanes i = omega (arith, early i ib l) in q) ∙ before.below i ib l
        | inr g ↦ (let q : max (bit lanes i) (bit behind i) ≡ bit lanes (i - known) = omega (arith, before.above i ib g, late i ib g) in q)
            ∙ before.below (i - known) (omega (arith, ib)) (omega (arith, b, g)) ∙ ap (bit first) (again i g)
      ];
      above = λ i ib g. is_new i ib
          ∙ (let q : max (bit lanes i) (bit behind i) ≡ 0 = omega (arith, before.above i ib (omega (arith, g)), late i ib (omega (arith, g)), before.above (i - known) (omega (arith, ib)) (omega (arith, g))) in q);
    }

-- ---- the lanes from a coordinate on

-- a step from a coordinate above 0 to the end of its axis leads past it from those that are not below the coordinate
pub step_to_end : (xs : List ℕ) (axis from turn ahead p : ℕ) → are_positive xs ≡ true → axis < length xs → 0 < from → from ≤ slice_index xs axis
    → turn ≡ slice_index xs axis * position_count (drop (suc axis) xs) → ahead ≡ (slice_index xs axis - from) * position_count (drop (suc axis) xs)
    → (ahead < turn) × (◌≡◌ {A = ℕ} (cond (ltb (p % turn + ahead) turn) 0 1) (cond (ltb (coordinate xs p axis) from) 0 1))
step_to_end xs axis from turn ahead p positive there some few is_turn is_ahead =
    let extent : ℕ = slice_index xs axis in
    let stride : ℕ = position_count (drop (suc axis) xs) in
    let own : ℕ = coordinate xs p axis in
    let stride_is : 0 < stride = count_positive (drop (suc axis) xs) (later_positive (suc axis) xs positive) in
    let extent_is : 0 < extent = extent_positive xs axis positive there in
    let digits : p % (extent * stride) ≡ own * stride + p % stride = mod-mul p extent_is stride_is ∙ ap (λ c. c * stride + p % stride) (sym (coordinate_by_stride xs p axis there)) in
    let place : p % turn ≡ own * stride + p % stride = ap (λ t. p % t) is_turn ∙ digits in
    let rest : p % stride < stride = mod-lt p stride_is in
    let cut : (extent - from) * stride + from * stride ≡ extent * stride = sym (add-mul (extent - from) from stride) ∙ ap (λ n. n * stride) (let q : extent - from + from ≡ extent = omega (arith, few) in q) in
    let one : 1 * stride ≤ from * stride = mul-le-mul_right stride some in (
      omega (arith, is_turn, is_ahead, cut, one, stride_is),
      elim (cases_lt own from) [
        | inl l ↦
            let room : (own + 1) * stride ≤ from * stride = mul-le-mul_right stride (omega (arith, l)) in
            let more : (own + 1) * stride ≡ own * stride + stride = grind arith in
            sym (less (p % turn + ahead) turn 0 1 (omega (arith, is_turn, is_ahead, cut, place, rest, room, more))) ∙ less own from 0 1 l
        | inr g ↦
            let over : from * stride ≤ own * stride = mul-le-mul_right stride g in
            sym (not_less (p % turn + ahead) turn 0 1 (omega (arith, is_turn, is_ahead, cut, place, over))) ∙ not_less own from 0 1 g
      ],
    )

-- and from 0 on there are all
pub all_from_none : (own from : ℕ) → from ≡ 0 → ◌≡◌ {A = ℕ} 1 (cond (ltb own from) 0 1)
all_from_none own from e = not_less own from 0 1 (omega (arith, e))
