-- Lanes of planes side by side, and of windows on the planes that are held.
use Rattle.std.proofs.Common.{◌≡◌, ℕ, zero, suc, eqb, ◌⊎◌, ◌+◌, ◌-◌, ◌*◌, ◌/◌, ◌%◌, ◌^◌, ◌<◌, ◌≤◌, Bool, true, false, cond, ltb, max, min, List, [], ◌∷◌, length, get_or, sym, ◌∙◌, ap, subst, inl, inr, arith}
use Rattle.std.specs.Int.{bit_at}
use Rattle.std.proofs.Math.Nat.{mod-eq_of_lt, mod-lt, add-mul-mod_self_right, mul-le-mul_left, mul-le-mul_right}
use Rattle.std.proofs.lemmas.Bool.{cases_lt, cases_eq, eq-eqb, ne_eqb}
use Rattle.std.proofs.lemmas.Nat.{div_below, div-mul-add, div-add-mod'}
use Rattle.bit_planes.specs.declared.block.Block.{Block}
use Rattle.block_store.specs.Phases.{LanesWritten}
use Rattle.block_store.specs.Planes.{planes_in, planes_at}
use Rattle.block_store.proofs.Kernels.{put_at}
use Rattle.phase_meaning.proofs.Entries.{entry}
use Rattle.bit_planes.proofs.Planes.{plane_read, number-bits, number-lt, number-same}
use Rattle.bit_planes.proofs.Words.{bit-lt}
use Rattle.bit_planes.specs.declared.plane.Plane.{Plane}
use Rattle.bit_planes.specs.Bits.{bit}
use Rattle.bit_planes.specs.Planes.{plane_at, number}
use Rattle.lane_kernels.specs.declared.target.Target.{Target}
use Rattle.lane_kernels.specs.Kernels.{Becomes}
use Rattle.lane_kernels.proofs.Lifted.{same_change}
use Rattle.phase_meaning.proofs.Tests.{less, not_less}
use Rattle.news_grid.specs.declared.window.Turn.{Turn}
use Rattle.news_grid.specs.declared.window.Window.{Window}
use Rattle.news_grid.specs.Steps.{number_taken, number_held, number_seen, position_seen, seen_through, beside, HasHeld, Views}

-- a word of the first plane, or of the second
pub word_low : (low high : List ℕ) (at : ℕ) → at < 8 → (i : ℕ) → i < 64 → bit_at (get_or low at 0) i ≡ beside low high (64 * at + i)
unfolding bit
word_low low high at b i ib =
    ap (λ w. bit_at (get_or low w 0) i) (let e : at ≡ (64 * at + i) / 64 = omega arith in e)
    ∙ ap (λ j. bit_at (get_or low ((64 * at + i) / 64) 0) j) (let e : i ≡ (64 * at + i) % 64 = omega arith in e)
    ∙ less (64 * at + i) 512 (bit low (64 * at + i)) (bit high (64 * at + i - 512)) (omega arith)

pub word_high : (low high : List ℕ) (at : ℕ) → 8 ≤ at → (i : ℕ) → i < 64 → bit_at (get_or high (at - 8) 0) i ≡ beside low high (64 * at + i)
unfolding bit
word_high low high at b i ib =
    let n : ℕ = 64 * at + i - 512 in
    ap (λ w. bit_at (get_or high w 0) i) (let e : at - 8 ≡ n / 64 = omega arith in e)
    ∙ ap (λ j. bit_at (get_or high (n / 64) 0) j) (let e : i ≡ n % 64 = omega arith in e)
    ∙ not_less (64 * at + i) 512 (bit low (64 * at + i)) (bit high n) (omega arith)

abbrev pub WordFrom : List ℕ → List ℕ → ℕ → ℕ → ℕ → Type 0
WordFrom low high from x w = (i : ℕ) → i < 64 → bit_at x i ≡ beside low high (from + 64 * w + i)

-- the word so many behind another
pub word_behind : (low high : List ℕ) (skip w at x : ℕ) → at ≡ skip + w → ((i : ℕ) → i < 64 → bit_at x i ≡ beside low high (64 * at + i)) → WordFrom low high (64 * skip) x w
word_behind low high skip w at x e is i ib = is i ib ∙ ap (beside low high) (let q : 64 * at + i ≡ 64 * skip + 64 * w + i = omega (arith, e) in q)

-- eight words, each by its place
eight : (P : ℕ → ℕ → Type 0) (a b c d e g h k : ℕ) → P a 0 → P b 1 → P c 2 → P d 3 → P e 4 → P g 5 → P h 6 → P k 7 → (w : ℕ) → w < 8 → P (get_or (a ∷ b ∷ c ∷ d ∷ e ∷ g ∷ h ∷ k ∷ []) w 0) w
eight P a b c d e g h k p0 p1 p2 p3 p4 p5 p6 p7 zero l = p0
eight P a b c d e g h k p0 p1 p2 p3 p4 p5 p6 p7 (suc zero) l = p1
eight P a b c d e g h k p0 p1 p2 p3 p4 p5 p6 p7 (suc (suc zero)) l = p2
eight P a b c d e g h k p0 p1 p2 p3 p4 p5 p6 p7 (suc (suc (suc zero))) l = p3
eight P a b c d e g h k p0 p1 p2 p3 p4 p5 p6 p7 (suc (suc (suc (suc zero)))) l = p4
eight P a b c d e g h k p0 p1 p2 p3 p4 p5 p6 p7 (suc (suc (suc (suc (suc zero))))) l = p5
eight P a b c d e g h k p0 p1 p2 p3 p4 p5 p6 p7 (suc (suc (suc (suc (suc (suc zero)))))) l = p6
eight P a b c d e g h k p0 p1 p2 p3 p4 p5 p6 p7 (suc (suc (suc (suc (suc (suc (suc zero))))))) l = p7
eight P a b c d e g h k p0 p1 p2 p3 p4 p5 p6 p7 (suc (suc (suc (suc (suc (suc (suc (suc w)))))))) l = absurd (omega arith)

pub all_words : (low high : List ℕ) (from a b c d e g h k : ℕ) → WordFrom low high from a 0 → WordFrom low high from b 1 → WordFrom low high from c 2 → WordFrom low high from d 3
    → WordFrom low high from e 4 → WordFrom low high from g 5 → WordFrom low high from h 6 → WordFrom low high from k 7
    → (i : ℕ) → i < 512 → bit (a ∷ b ∷ c ∷ d ∷ e ∷ g ∷ h ∷ k ∷ []) i ≡ beside low high (from + i)
unfolding bit
all_words low high from a b c d e g h k p0 p1 p2 p3 p4 p5 p6 p7 i ib =
    eight (WordFrom low high from) a b c d e g h k p0 p1 p2 p3 p4 p5 p6 p7 (i / 64) (omega arith) (i % 64) (omega arith)
    ∙ ap (beside low high) (let q : from + 64 * (i / 64) + i % 64 ≡ from + i = omega arith in q)

-- the lanes that begin at a word, and those some lanes behind it
pub lanes_shifted : (low high first next up down x : List ℕ) (skip by : ℕ) → skip < 8 → by < 64
    → ((i : ℕ) → i < 512 → bit first i ≡ beside low high (64 * skip + i)) → ((i : ℕ) → i < 512 → bit next i ≡ beside low high (64 * (skip + 1) + i))
    → ((i : ℕ) → i < 512 → bit down i ≡ cond (ltb (i % 64 + by) 64) (bit first (i + by)) 0)
    → ((i : ℕ) → i < 512 → bit up i ≡ cond (ltb (i % 64) (64 - by)) 0 (bit next (i - (64 - by))))
    → ((i : ℕ) → i < 512 → bit x i ≡ max (bit down i) (bit up i))
    → (i : ℕ) → i < 512 → bit x i ≡ beside low high (64 * skip + by + i)
lanes_shifted low high first next up down x skip by sb bb is_first is_next is_down is_up is i ib =
    is i ib ∙ ap (λ d. max d (bit up i)) (is_down i ib) ∙ ap (max (cond (ltb (i % 64 + by) 64) (bit first (i + by)) 0)) (is_up i ib)
    ∙ elim (cases_lt (i % 64 + by) 64) [
      | inl l ↦
          ap (λ d. max d (cond (ltb (i % 64) (64 - by)) 0 (bit next (i - (64 - by))))) (sym (less (i % 64 + by) 64 (bit first (i + by)) 0 l))
          ∙ ap (max (bit first (i + by))) (sym (less (i % 64) (64 - by) 0 (bit next (i - (64 - by))) (omega (arith, l, bb))))
          ∙ (let e : max (bit first (i + by)) 0 ≡ bit first (i + by) = omega arith in e)
          ∙ is_first (i + by) (omega (arith, l, ib))
          ∙ ap (beside low high) (let q : 64 * skip + (i + by) ≡ 64 * skip + by + i = omega arith in q)
      | inr g ↦
          ap (λ d. max d (cond (ltb (i % 64) (64 - by)) 0 (bit next (i - (64 - by))))) (sym (not_less (i % 64 + by) 64 (bit first (i + by)) 0 g))
          ∙ ap (max 0) (sym (not_less (i % 64) (64 - by) 0 (bit next (i - (64 - by))) (omega (arith, g, bb))))
          ∙ (let e : max 0 (bit next (i - (64 - by))) ≡ bit next (i - (64 - by)) = omega arith in e)
          ∙ is_next (i - (64 - by)) (omega (arith, ib))
          ∙ ap (beside low high) (let q : 64 * (skip + 1) + (i - (64 - by)) ≡ 64 * skip + by + i = omega (arith, g, bb) in q)
    ]

-- a bit of a number in a lane of a window
pub seen_bit : (held : List Plane) (window : Window) (len i j : ℕ) → j < len → bit_at (number_seen held window len i) j ≡ seen_through window held len j i
seen_bit held window len i j jb =
    let n : ℕ = window.from + i in
    let low : ℕ = window.first * len in
    let high : ℕ = window.next * len in
    elim (cases_lt n 512) [
      | inl l ↦ ap (λ x. bit_at x j) (sym (less n 512 (number held low len n) (number held high len (n - 512)) l)) ∙ number-bits held low len n j jb
          ∙ less n 512 (bit (plane_at held (low + j)) n) (bit (plane_at held (high + j)) (n - 512)) l
      | inr g ↦ ap (λ x. bit_at x j) (sym (not_less n 512 (number held low len n) (number held high len (n - 512)) g)) ∙ number-bits held high len (n - 512) j jb
          ∙ not_less n 512 (bit (plane_at held (low + j)) n) (bit (plane_at held (high + j)) (n - 512)) g
    ]

-- the planes of a field of one of the blocks lie in those that are held
pub block_held : (k blocks len count : ℕ) → k < blocks → len ≤ 32 → 32 * blocks ≤ count → k * len + len ≤ count
block_held k blocks len count kb few much =
    let most : (k + 1) * len ≤ (k + 1) * 32 = mul-le-mul_left (k + 1) few in
    let all : (k + 1) * len ≡ k * len + len = grind arith in
    omega (arith, most, all, kb, much)

pub window_held : (held : List Plane) (window : Window) (lane blocks len : ℕ) → Views window lane blocks → 0 < blocks → len ≤ 32 → 32 * blocks ≤ length held → HasHeld window len held
window_held held window lane blocks len views some few much = (
  block_held window.first blocks len (length held) (subst (λ k. k < blocks) (sym views.first) (mod-lt (lane / 512) some)) few much,
  block_held window.next blocks len (length held) (subst (λ k. k < blocks) (sym views.next) (mod-lt (lane / 512 + 1) some)) few much,
  omega (arith, views.from),
)

-- a block's number, round the end of the set
same_block : (p turns blocks : ℕ) → p / 512 < blocks → (p / 512 + turns * blocks) % blocks ≡ p / 512
same_block p turns blocks b = add-mul-mod_self_right (p / 512) turns blocks ∙ mod-eq_of_lt b

-- a lane of a window shows what is held for its position, so many times round the set
pub seen_there : (held : List Plane) (window : Window) (lane blocks len i p turns : ℕ) → Views window lane blocks → i < 512 → p / 512 < blocks → lane + i ≡ p + 512 * (turns * blocks)
    → number_seen held window len i ≡ number_held held len p
seen_there held window lane blocks len i p turns views ib pb e =
    let n : ℕ = window.from + i in
    let low : ℕ = number held (window.first * len) len n in
    let high : ℕ = number held (window.next * len) len (n - 512) in
    elim (cases_lt n 512) [
      | inl l ↦ sym (less n 512 low high l)
          ∙ ap (λ k. number held (k * len) len n) (views.first ∙ ap (λ q. q % blocks) (let q : lane / 512 ≡ p / 512 + turns * blocks = omega (arith, views.from, l, e) in q) ∙ same_block p turns blocks pb)
          ∙ ap (number held (p / 512 * len) len) (let q : n ≡ p % 512 = omega (arith, views.from, l, e) in q)
      | inr g ↦ sym (not_less n 512 low high g)
          ∙ ap (λ k. number held (k * len) len (n - 512)) (views.next ∙ ap (λ q. q % blocks) (let q : lane / 512 + 1 ≡ p / 512 + turns * blocks = omega (arith, views.from, g, ib, e) in q) ∙ same_block p turns blocks pb)
          ∙ ap (number held (p / 512 * len) len) (let q : n - 512 ≡ p % 512 = omega (arith, views.from, g, ib, e) in q)
    ]

-- and by the position that it shows
pub seen_held : (held : List Plane) (window : Window) (len i : ℕ) → i < 512 → window.from < 512 → number_seen held window len i ≡ number_held held len (position_seen window i)
seen_held held window len i ib fb =
    let n : ℕ = window.from + i in
    let low : ℕ = 512 * window.first + n in
    let high : ℕ = 512 * window.next + (n - 512) in
    elim (cases_lt n 512) [
      | inl l ↦ sym (less n 512 (number held (window.first * len) len n) (number held (window.next * len) len (n - 512)) l)
          ∙ ap (λ k. number held (k * len) len n) (let q : window.first ≡ low / 512 = omega (arith, l) in q) ∙ ap (number held (low / 512 * len) len) (let q : n ≡ low % 512 = omega (arith, l) in q)
          ∙ ap (number_held held len) (less n 512 low high l)
      | inr g ↦ sym (not_less n 512 (number held (window.first * len) len n) (number held (window.next * len) len (n - 512)) g)
          ∙ ap (λ k. number held (k * len) len (n - 512)) (let q : window.next ≡ high / 512 = omega (arith, ib, fb) in q) ∙ ap (number held (high / 512 * len) len) (let q : n - 512 ≡ high % 512 = omega (arith, ib, fb) in q)
          ∙ ap (number_held held len) (not_less n 512 low high g)
    ]

-- the number of a lane fits
pub seen-lt : (held : List Plane) (window : Window) (len i : ℕ) → number_seen held window len i < 2 ^ len
seen-lt held window len i =
    let n : ℕ = window.from + i in
    let low : ℕ = number held (window.first * len) len n in
    let high : ℕ = number held (window.next * len) len (n - 512) in
    elim (cases_lt n 512) [
      | inl l ↦ subst (λ x. x < 2 ^ len) (less n 512 low high l) (number-lt held (window.first * len) len n)
      | inr g ↦ subst (λ x. x < 2 ^ len) (not_less n 512 low high g) (number-lt held (window.next * len) len (n - 512))
    ]

-- what one window puts in some lanes and another in the others of a target is what a turn takes
pub both_put : (held : List Plane) (turn : Turn) (to staying round : Target) (old mid new : List Plane)
    → staying.offset ≡ to.offset → staying.len ≡ to.len → round.offset ≡ to.offset → round.len ≡ to.len
    → ((i : ℕ) → i < 512 → bit staying.lanes i ≡ min (bit to.lanes i) (1 - bit turn.crossing i)) → ((i : ℕ) → i < 512 → bit round.lanes i ≡ min (bit to.lanes i) (bit turn.crossing i))
    → Becomes staying (λ i. number_seen held turn.staying staying.len i) old mid → Becomes round (λ i. number_seen held turn.round round.len i) mid new
    → Becomes to (λ i. number_taken held turn to.len i) old new
both_put held turn to staying round old mid new so sl ro rl stays rounds first second = record {
  long = second.long ∙ first.long;
  written = λ i ib on. elim (cases_eq (bit turn.crossing i) 1) [
    | inl e ↦
        let it : bit round.lanes i ≡ 1 = omega (arith, rounds i ib, on, e) in
        ap (λ o. number new o to.len i) (sym ro) ∙ ap (λ n. number new round.offset n i) (sym rl) ∙ second.written i ib it ∙ ap (λ n. number_seen held turn.round n i) rl
        ∙ sym (ap (λ t. cond t (number_seen held turn.round to.len i) (number_seen held turn.staying to.len i)) (eq-eqb (bit turn.crossing i) 1 e))
    | inr n ↦
        let out : bit round.lanes i ≡ 0 = omega (arith, rounds i ib, on, n, bit-lt turn.crossing i) in
        let it : bit staying.lanes i ≡ 1 = omega (arith, stays i ib, on, n, bit-lt turn.crossing i) in
        number-same new mid to.offset to.offset to.len i (λ j jb. second.kept (to.offset + j) i ib out)
        ∙ ap (λ o. number mid o to.len i) (sym so) ∙ ap (λ n. number mid staying.offset n i) (sym sl) ∙ first.written i ib it ∙ ap (λ n. number_seen held turn.staying n i) sl
        ∙ sym (ap (λ t. cond t (number_seen held turn.round to.len i) (number_seen held turn.staying to.len i)) (ne_eqb (bit turn.crossing i) 1 n))
  ];
  kept = λ j i ib off. second.kept j i ib (omega (arith, rounds i ib, off)) ∙ first.kept j i ib (omega (arith, stays i ib, off));
  outside = λ j far. second.outside j (subst (λ o. (j < o) ⊎ (o + round.len ≤ j)) (sym ro) (subst (λ n. (j < to.offset) ⊎ (to.offset + n ≤ j)) (sym rl) far))
      ∙ first.outside j (subst (λ o. (j < o) ⊎ (o + staying.len ≤ j)) (sym so) (subst (λ n. (j < to.offset) ⊎ (to.offset + n ≤ j)) (sym sl) far));
}

-- what a target becomes is written in its field and lanes
pub target_written : (to : Target) (offset len : ℕ) (lanes : List ℕ) (numbers : ℕ → ℕ → ℕ) (old new : List Plane) → to.offset ≡ offset → to.len ≡ len → to.lanes ≡ lanes
    → Becomes to (numbers to.len) old new → LanesWritten offset len lanes (numbers len) old new
target_written to offset len lanes numbers old new is_offset is_len is_lanes becomes =
    put_at to offset len lanes (numbers len) old new is_offset is_len is_lanes (same_change to (numbers to.len) (numbers len) old new (λ i ib. ap (λ n. numbers n i) is_len) becomes)

-- the one of two bits that a third chooses
pub chosen : (c r s a d b x : ℕ) → c < 2 → r < 2 → s < 2 → a ≡ min c r → d ≡ 1 - c → b ≡ min d s → x ≡ max a b → x ≡ cond (eqb c 1) r s
chosen c r s a d b x cb rb sb is_a is_d is_b is = elim (cases_eq c 1) [
  | inl e ↦ (let q : x ≡ r = omega arith in q) ∙ sym (ap (λ t. cond t r s) (eq-eqb c 1 e))
  | inr n ↦ (let q : x ≡ s = omega arith in q) ∙ sym (ap (λ t. cond t r s) (ne_eqb c 1 n))
]

-- what a lane takes that stays in its turn, and one that crosses its end
pub taken_staying : (held : List Plane) (turn : Turn) (len i : ℕ) → bit turn.crossing i ≡ 0 → number_seen held turn.staying len i ≡ number_taken held turn len i
taken_staying held turn len i off = sym (ap (λ b. cond (eqb b 1) (number_seen held turn.round len i) (number_seen held turn.staying len i)) off)

pub taken_round : (held : List Plane) (turn : Turn) (len i : ℕ) → bit turn.crossing i ≡ 1 → number_seen held turn.round len i ≡ number_taken held turn len i
taken_round held turn len i on = sym (ap (λ b. cond (eqb b 1) (number_seen held turn.round len i) (number_seen held turn.staying len i)) on)

-- a bit of it, and how large it is
pub taken_bit : (held : List Plane) (turn : Turn) (len i j : ℕ) → j < len
    → bit_at (number_taken held turn len i) j ≡ cond (eqb (bit turn.crossing i) 1) (seen_through turn.round held len j i) (seen_through turn.staying held len j i)
taken_bit held turn len i j jb = by_test (eqb (bit turn.crossing i) 1)
  where
    by_test : (t : Bool) → bit_at (cond t (number_seen held turn.round len i) (number_seen held turn.staying len i)) j ≡ cond t (seen_through turn.round held len j i) (seen_through turn.staying held len j i)
    by_test true = seen_bit held turn.round len i j jb
    by_test false = seen_bit held turn.staying len i j jb

pub taken-lt : (held : List Plane) (turn : Turn) (len i : ℕ) → number_taken held turn len i < 2 ^ len
taken-lt held turn len i = by_test (eqb (bit turn.crossing i) 1)
  where
    by_test : (t : Bool) → cond t (number_seen held turn.round len i) (number_seen held turn.staying len i) < 2 ^ len
    by_test true = seen-lt held turn.round len i
    by_test false = seen-lt held turn.staying len i

-- a place where the planes of a field lie side by side
pub place_block : (n blocks len : ℕ) → 0 < len → n < blocks * len → n / len < blocks
place_block n blocks len some b = div_below n len blocks some b

pub block_place : (k blocks len j : ℕ) → k < blocks → j < len → (k * len + j < blocks * len) × ((k * len + j) / len ≡ k) × ((k * len + j) % len ≡ j)
block_place k blocks len j kb jb =
    let n : ℕ = k * len + j in
    let quotient : n / len ≡ k = div-mul-add k len j jb in
    let whole : n / len * len + n % len ≡ n = div-add-mod' n len in
    let same : n / len * len ≡ k * len = ap (λ q. q * len) quotient in
    let most : (k + 1) * len ≤ blocks * len = mul-le-mul_right len (let q : k + 1 ≤ blocks = omega (arith, kb) in q) in
    let all : (k + 1) * len ≡ k * len + len = grind arith in (
      omega (arith, most, all, jb),
      quotient,
      omega (arith, whole, same),
    )

-- the plane that is read at such a place
pub block_read : (blocks : List Block) (k j : ℕ) (block : Block) (plane : Plane) → k < length blocks → block ≡ get_or blocks k block → plane ≡ get_or (planes_in block) j plane → j < length (planes_in block)
    → plane.bits ≡ plane_at (planes_at blocks k) j
block_read blocks k j block plane kb is at jb = plane_read (planes_in block) j plane jb at ∙ ap (λ ps. plane_at ps j) (entry planes_in blocks k block [] kb is)

-- the number of a block's field is that of its copy among those of the other blocks
pub number_copied : (blocks : List Block) (held : List Plane) (offset len k i : ℕ) → k < length blocks
    → ((n : ℕ) → n < length blocks * len → plane_at held n ≡ plane_at (planes_at blocks (n / len)) (offset + n % len))
    → number held (k * len) len i ≡ number (planes_at blocks k) offset len i
number_copied blocks held offset len k i b copied =
    number-same held (planes_at blocks k) (k * len) offset len i (λ j jb.
    let place = block_place k (length blocks) len j b jb in
    ap (λ q. bit q i) (copied (k * len + j) place.0 ∙ ap (λ m. plane_at (planes_at blocks m) (offset + (k * len + j) % len)) place.1 ∙ ap (λ m. plane_at (planes_at blocks k) (offset + m)) place.2))

-- the fields of so many blocks lie in the planes that are held
pub fields_fit : (blocks len count : ℕ) → len ≤ 32 → 32 * blocks ≤ count → blocks * len ≤ count
fields_fit blocks len count few much =
    let most : blocks * len ≤ blocks * 32 = mul-le-mul_left blocks few in
    omega (arith, most, much)
