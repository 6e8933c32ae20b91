-- Blocks and sets that come to be from the last one on.
use Rattle.std.proofs.Common.{◌≡◌, ℕ, ◌+◌, ◌-◌, ◌*◌, ◌/◌, ◌%◌, ◌<◌, ◌≤◌, List, [], ◌∷◌, ◌++◌, length, get_or, take, drop, min, refl, sym, ◌∙◌, ap, subst, inl, inr, arith}
use Rattle.std.specs.Int.{bit_at}
use Rattle.std.specs.Prelude.{All}
use Rattle.std.proofs.Math.Seq.{drop-drop, get_or-drop}
use Rattle.std.proofs.lemmas.Bool.{cases_lt}
use Rattle.std.proofs.lemmas.List.{get_or-map, length-append, length-drop}
use Rattle.std.proofs.lemmas.Nat.{mul-add-lt, mul-le}
use Rattle.bit_planes.specs.declared.block.Block.{Block}
use Rattle.bit_planes.specs.declared.plane.Plane.{Plane}
use Rattle.bit_planes.specs.Bits.{bit}
use Rattle.bit_planes.specs.Planes.{plane_at}
use Rattle.block_store.specs.declared.set.BlockSet.{BlockSet}
use Rattle.block_store.specs.Planes.{HasPlanes, block_bit, planes_at, planes_in}
use Rattle.block_store.specs.Stored.{AreWhole, blocks_at, blocks_in, stored}
use Rattle.cstar_base.specs.declared.operators.Winner.{Winner}
use Rattle.paris_code.specs.Memory.{SameBits, processors}
use Rattle.paris_code.specs.Shapes.{SetShape, bits_at, extents_at}
use Rattle.paris_code.specs.Sound.{IsShape}
use Rattle.phase_meaning.proofs.Entries.{pushed_before, pushed_last}
use Rattle.vp_sets.specs.Blocks.{block_count}
use Rattle.point_bits.specs.declared.strings.SetString.{SetString}
use Rattle.point_bits.specs.Strings.{IsBlockOf, IsSetOf, IsStringOf, byte_bit, restored, start_of, string_at, total_size, width_of}
use Rattle.point_bits.proofs.Cuts.{in_set}
use Rattle.point_bits.proofs.Takings.{blocks_of}
use Rattle.point_bits.proofs.Sizes.{own_bit}

-- planes are those of a block of a set with these bytes
pub record IsBlockFor (s : SetString) (bytes : List ℕ) (k : ℕ) (planes : List Plane) : Type 0 where
  pub long : length planes ≡ s.width
  pub bits : (p i : ℕ) → 512 * k + p < s.positions → p < 512 → i < s.width → bit (plane_at planes i) p ≡ string_at s.width bytes (512 * k + p) i
  pub quiet : (p i : ℕ) → s.positions ≤ 512 * k + p → p < 512 → i < s.width → bit (plane_at planes i) p ≡ 0

-- blocks are those of a set among the sets with these bytes
pub record IsSetFor (shapes : List SetShape) (bytes : List ℕ) (set : ℕ) (blocks : List Block) : Type 0 where
  pub count : length blocks ≡ block_count (extents_at shapes set)
  pub planes : HasPlanes (bits_at shapes set + 2) blocks
  pub bits : (p i : ℕ) → p < processors shapes set → i < bits_at shapes set + 2 → block_bit blocks p i ≡ byte_bit bytes (8 * start_of shapes set + (p * width_of shapes set + i))
  pub padding : (p i : ℕ) → processors shapes set ≤ p → p < 512 * length blocks → i < bits_at shapes set + 2 → block_bit blocks p i ≡ 0

-- the bytes of a set end where its last block ends
abbrev pub end_of : SetString → ℕ → ℕ
end_of s k = min (k * (64 * s.width)) ((s.positions * s.width + 7) / 8)

pub end_last : (s : SetString) (total : ℕ) → s.positions ≤ 512 * total → end_of s total ≡ (s.positions * s.width + 7) / 8
end_last s total all =
    let rows : s.positions * s.width ≤ 512 * total * s.width = mul-le s.positions s.width (512 * total) s.width all (omega arith) in
    let turn : 512 * total * s.width ≡ 8 * (total * (64 * s.width)) = omega arith in
    omega (arith, rows, turn)

module _ (s part : SetString) (k : ℕ) (all left : List ℕ) (exists : 512 * k < s.positions) (few : part.positions ≡ min (s.positions - 512 * k) 512) (width : part.width ≡ s.width)
    (long : (s.positions * s.width + 7) / 8 ≤ length all) (is : left ≡ drop (end_of s k) all) where
  abbrev size : ℕ
  size = (part.positions * s.width + 7) / 8

  rows : 8 * (k * (64 * s.width)) + part.positions * s.width ≤ s.positions * s.width
  rows =
      let fit : (512 * k + part.positions) * s.width ≤ s.positions * s.width = mul-le (512 * k + part.positions) s.width s.positions s.width (omega (arith, few)) (omega arith) in
      omega (arith, fit, in_set k part.positions 0 s.width)

  at : end_of s k ≡ k * (64 * s.width)
  at = omega (arith, rows)

  pub part_within : size ≤ length left
  part_within = omega (arith, ap length is, length-drop (end_of s k) all, at, rows, long)

  pub next_end : end_of s (k + 1) ≡ end_of s k + size
  next_end = elim (cases_lt (s.positions - 512 * k) 512) [
    | inl last ↦
        let positions : (512 * k + part.positions) * s.width ≡ s.positions * s.width = ap (λ q. q * s.width) (omega (arith, few, last)) in
        let most : part.positions * s.width ≤ 512 * s.width = mul-le part.positions s.width 512 s.width (omega (arith, few)) (omega arith) in
        omega (arith, at, positions, in_set k part.positions 0 s.width, most)
    | inr full ↦
        let whole : part.positions * s.width ≡ 512 * s.width = ap (λ q. q * s.width) (omega (arith, few, full)) in
        omega (arith, at, rows, whole)
  ]

  pub rest_of : (new : List ℕ) → new ≡ drop size left → new ≡ drop (end_of s (k + 1)) all
  rest_of new e = e ∙ ap (drop size) is ∙ drop-drop size (end_of s k) all ∙ ap (λ n. drop n all) (sym next_end)

  pub block_for : (bytes : List ℕ) (planes : List Plane) → bytes ≡ take size left → IsBlockOf part bytes planes → IsBlockFor s all k planes
  block_for bytes planes e of = record {
    long = of.long ∙ width;
    bits = λ p i exists low short.
        let here : p < part.positions = omega (arith, few, exists, low) in
        let bit_in : p * s.width + i < 8 * size = omega (arith, mul-add-lt p s.width i part.positions here short) in
        of.bits p i here (omega (arith, short, width))
        ∙ ap (λ w. byte_bit bytes (p * w + i)) width ∙ ap (λ (bs : List ℕ). byte_bit bs (p * s.width + i)) (e ∙ ap (take size) is)
        ∙ own_bit all (end_of s k) size (p * s.width + i) bit_in
        ∙ ap (byte_bit all) (let q : 8 * end_of s k + (p * s.width + i) ≡ (512 * k + p) * s.width + i = omega (arith, at, in_set k p i s.width) in q);
    quiet = λ p i past low short. of.quiet p i (omega (arith, few, past)) low (omega (arith, short, width));
  }

-- one more block
pub block_more : (s : SetString) (bytes : List ℕ) (blocks : List Block) (block : Block)
    → ((j : ℕ) → j < length blocks → IsBlockFor s bytes j (planes_at blocks j)) → IsBlockFor s bytes (length blocks) (planes_in block)
    → (j : ℕ) → j < length (blocks ++ block ∷ []) → IsBlockFor s bytes j (planes_at (blocks ++ block ∷ []) j)
block_more s bytes blocks block before new j b = elim (cases_lt j (length blocks)) [
  | inl l ↦ subst (λ (ps : List Plane). IsBlockFor s bytes j ps) (sym (pushed_before planes_in blocks block [] j l)) (before j l)
  | inr g ↦
      let last : j ≡ length blocks = omega (arith, b, length-append blocks (block ∷ []), g) in
      subst (λ n. IsBlockFor s bytes n (planes_at (blocks ++ block ∷ []) n)) (sym last)
      (subst (λ (ps : List Plane). IsBlockFor s bytes (length blocks) ps) (sym (pushed_last planes_in blocks block [])) new)
]

-- all blocks
pub all_blocks : (s : SetString) (bytes : List ℕ) (blocks : List Block) → length blocks ≡ (s.positions + 511) / 512
    → ((j : ℕ) → j < length blocks → IsBlockFor s bytes j (planes_at blocks j)) → IsSetOf s bytes blocks
unfolding block_bit
all_blocks s bytes blocks count each = record {
  count = count;
  planes = λ k none b. omega (arith, (each k b).long, ap length (get_or-map planes_in blocks k none [] b));
  bits = λ p i within short.
      (each (p / 512) (omega (arith, within, count))).bits (p % 512) i (omega (arith, within)) (omega arith) short
      ∙ ap (λ q. string_at s.width bytes q i) (let e : 512 * (p / 512) + p % 512 ≡ p = omega arith in e);
  padding = λ p i past til short. (each (p / 512) (omega (arith, til))).quiet (p % 512) i (omega (arith, past)) (omega arith) short;
}

drop_bit : (bytes : List ℕ) (start n : ℕ) → byte_bit (drop start bytes) n ≡ byte_bit bytes (8 * start + n)
unfolding byte_bit
drop_bit bytes start n =
    ap (λ x. bit_at x (n % 8)) (get_or-drop start bytes (n / 8) 0)
    ∙ ap (λ q. bit_at (get_or bytes q 0) (n % 8)) (let e : start + n / 8 ≡ (8 * start + n) / 8 = omega arith in e)
    ∙ ap (λ j. bit_at (get_or bytes ((8 * start + n) / 8) 0) j) (let e : n % 8 ≡ (8 * start + n) % 8 = omega arith in e)

-- a set among all
pub set_for : (shapes : List SetShape) (s : SetString) (all left : List ℕ) (blocks : List Block) → IsStringOf shapes s → length all ≡ total_size shapes → left ≡ drop (start_of shapes s.set) all
    → IsSetOf s left blocks → IsSetFor shapes all s.set blocks
set_for shapes s all left blocks is long left_is of = record {
  count = of.count ∙ ap (λ m. (m + 511) / 512) is.positions ∙ sym (blocks_of (extents_at shapes s.set));
  planes = subst (λ m. HasPlanes m blocks) is.width of.planes;
  bits = λ p i within short.
      let low : p < s.positions = omega (arith, within, is.positions) in
      let narrow : i < s.width = omega (arith, short, is.width) in
      of.bits p i low narrow
      ∙ ap (λ (bs : List ℕ). byte_bit bs (p * s.width + i)) left_is
      ∙ drop_bit all (start_of shapes s.set) (p * s.width + i)
      ∙ ap (λ w. byte_bit all (8 * start_of shapes s.set + (p * w + i))) is.width;
  padding = λ p i past til short. of.padding p i (omega (arith, past, is.positions)) til (omega (arith, short, is.width));
}

-- one more set
pub set_more : (shapes : List SetShape) (bytes : List ℕ) (sets : List BlockSet) (set : BlockSet)
    → ((j : ℕ) → j < length sets → IsSetFor shapes bytes j (blocks_at sets j)) → IsSetFor shapes bytes (length sets) (blocks_in set)
    → (j : ℕ) → j < length (sets ++ set ∷ []) → IsSetFor shapes bytes j (blocks_at (sets ++ set ∷ []) j)
set_more shapes bytes sets set before new j b = elim (cases_lt j (length sets)) [
  | inl l ↦ subst (λ (bs : List Block). IsSetFor shapes bytes j bs) (sym (pushed_before blocks_in sets set [] j l)) (before j l)
  | inr g ↦
      let last : j ≡ length sets = omega (arith, b, length-append sets (set ∷ []), g) in
      subst (λ n. IsSetFor shapes bytes n (blocks_at (sets ++ set ∷ []) n)) (sym last)
      (subst (λ (bs : List Block). IsSetFor shapes bytes (length sets) bs) (sym (pushed_last blocks_in sets set [])) new)
]

-- all sets
module _ (shapes : List SetShape) (bytes : List ℕ) (sets : List BlockSet) (count : length sets ≡ length shapes)
    (each : (j : ℕ) → j < length sets → IsSetFor shapes bytes j (blocks_at sets j)) where
  at_set : (k : ℕ) → k < length shapes → IsSetFor shapes bytes k (blocks_at sets k)
  at_set k b = each k (omega (arith, b, count))

  pub all_whole : All IsShape shapes → AreWhole shapes sets
  all_whole grids = record {
    count = count;
    grids = grids;
    each = λ k b. record {
      count = (at_set k b).count;
      planes = (at_set k b).planes;
      padding = λ p past til. (at_set k b).padding p (bits_at shapes k) past (omega (arith, til, (at_set k b).count)) (omega arith);
    };
  }

  pub all_restored : (w : Winner) → SameBits shapes (stored sets w) (restored shapes bytes w)
  unfolding stored restored
  all_restored w = record {
    bits = λ s p i there within b. (at_set s there).bits p i within b;
    winner = refl;
  }
