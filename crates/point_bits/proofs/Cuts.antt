-- The bytes of a block's positions among those of their set.
use Rattle.std.proofs.Common.{◌≡◌, ℕ, ◌+◌, ◌-◌, ◌*◌, ◌/◌, ◌%◌, ◌<◌, ◌≤◌, min, List, [], ◌++◌, cond, eqb, length, get_or, take, drop, sym, ◌∙◌, ap, inl, inr, arith}
use Rattle.std.specs.Int.{bit_at, from_bool}
use Rattle.std.proofs.Math.ListN.{length-drop, length-take}
use Rattle.std.proofs.Math.Seq.{drop-drop, get_or-drop, get_or-take}
use Rattle.std.proofs.lemmas.Bool.{cases_lt, lt-ltb, le-ltb}
use Rattle.std.proofs.lemmas.Grind.{same_number_lists}
use Rattle.std.proofs.lemmas.List.{drop_all, take-append-drop}
use Rattle.std.proofs.lemmas.List.FromFn.{get_or-map-range_with_len, length-map-range_with_len}
use Rattle.std.proofs.lemmas.Nat.{div-add-mod', div-mul-add, mod-mul-add, mod_below, div_below, mul-le}
use Rattle.bit_planes.specs.declared.plane.Plane.{Plane}
use Rattle.bit_planes.specs.Bits.{bit}
use Rattle.bit_planes.specs.Planes.{plane_at}
use Rattle.paris_code.specs.Memory.{BitMemory}
use Rattle.paris_code.specs.Shapes.{SetShape}
use Rattle.phase_meaning.proofs.RunBits.{run_number_is}
use Rattle.point_bits.specs.declared.strings.SetString.{SetString}
use Rattle.point_bits.specs.Strings.{IsPart, IsStringOf, bit_count, byte_bit, set_bytes, set_size, string_bit, string_byte, width_of}
use Rattle.point_bits.proofs.Sizes.{count_is, size_is}
use Rattle.point_bits.proofs.Steps.{bit_again, byte_bit_small}

-- the bit of a position in its block and in its set
pub in_set : (k p i w : ℕ) → 8 * (k * (64 * w)) + (p * w + i) ≡ (512 * k + p) * w + i
in_set k p i w = omega arith

module _ (shapes : List SetShape) (m : BitMemory) (s part : SetString) (k : ℕ) (planes : List Plane) (bytes : List ℕ) (is : IsStringOf shapes s) (wide : 0 < s.width) (exists : 512 * k < s.positions)
    (few : part.positions ≡ min (s.positions - 512 * k) 512) (width : part.width ≡ s.width) (of : IsPart part planes bytes)
    (holds : (p i : ℕ) → p < part.positions → i < s.width → m.bit s.set (512 * k + p) i ≡ bit (plane_at planes i) p) where
  within : (p i : ℕ) → p < part.positions → i < s.width → 8 * (k * (64 * s.width)) + (p * s.width + i) < bit_count shapes s.set
  within p i l h =
      let row : (512 * k + p + 1) * s.width ≤ s.positions * s.width = mul-le (512 * k + p + 1) s.width s.positions s.width (omega (arith, few)) (omega arith) in
      omega (arith, row, in_set k p i s.width, count_is shapes s is)

  -- a part is as long as a block, or ends with its set
  behind : (n : ℕ) → n < 8 * length bytes → part.positions * s.width ≤ n → bit_count shapes s.set ≤ 8 * (k * (64 * s.width)) + n
  behind n h past = elim (cases_lt (s.positions - 512 * k) 512) [
    | inl last ↦
        let positions : (512 * k + part.positions) * s.width ≡ s.positions * s.width = ap (λ q. q * s.width) (omega (arith, few, last)) in
        omega (arith, positions, in_set k part.positions 0 s.width, count_is shapes s is)
    | inr full ↦
        let whole : part.positions * s.width ≡ 512 * s.width = ap (λ q. q * s.width) (omega (arith, few, full)) in
        absurd (omega (arith, whole, of.long, ap (λ w. part.positions * w) width, h, past))
  ]

  same_bit : (n : ℕ) → n < 8 * length bytes → byte_bit bytes n ≡ string_bit shapes m s.set (8 * (k * (64 * s.width)) + n)
  unfolding string_bit
  same_bit n h = elim (cases_lt n (part.positions * s.width)) [
    | inl l ↦
        let whole : n / s.width * s.width + n % s.width ≡ n = div-add-mod' n s.width in
        let p : ℕ = n / s.width in
        let i : ℕ = n % s.width in
        let low : p < part.positions = div_below n s.width part.positions wide l in
        let short : i < s.width = mod_below n s.width wide in
        let at : ℕ = 8 * (k * (64 * s.width)) + n in
        let stands : at ≡ (512 * k + p) * s.width + i = omega (arith, whole, in_set k p i s.width) in
        let inside : at < bit_count shapes s.set = omega (arith, whole, within p i low short) in
        let own : ℕ = m.bit s.set (512 * k + p) i in
        let is_bit : byte_bit bytes n ≡ own =
        ap (byte_bit bytes) (sym whole) ∙ ap (λ w. byte_bit bytes (p * w + i)) (sym width) ∙ of.bits p i low (omega (arith, short, width)) ∙ sym (holds p i low short) in
        let place : m.bit s.set (at / s.width) (at % s.width) ≡ own =
        ap (λ q. m.bit s.set (q / s.width) (q % s.width)) stands
        ∙ ap (λ q. m.bit s.set q (((512 * k + p) * s.width + i) % s.width)) (div-mul-add (512 * k + p) s.width i short)
        ∙ ap (λ q. m.bit s.set (512 * k + p) q) (mod-mul-add (512 * k + p) s.width i short) in
        is_bit ∙ sym (bit_again own (omega (arith, is_bit, byte_bit_small bytes n)))
        ∙ sym (ap (λ q. from_bool (eqb q 1)) place)
        ∙ ap (λ w. from_bool (eqb (m.bit s.set (at / w) (at % w)) 1)) is.width
        ∙ sym (ap (λ t. cond t (from_bool (eqb (m.bit s.set (at / width_of shapes s.set) (at % width_of shapes s.set)) 1)) 0) (lt-ltb at (bit_count shapes s.set) inside))
    | inr g ↦
        let at : ℕ = 8 * (k * (64 * s.width)) + n in
        let past : bit_count shapes s.set ≤ at = behind n h g in
        of.behind n (omega (arith, g, ap (λ w. part.positions * w) width))
        ∙ sym (ap (λ t. cond t (from_bool (eqb (m.bit s.set (at / width_of shapes s.set) (at % width_of shapes s.set)) 1)) 0) (le-ltb at (bit_count shapes s.set) past))
  ]

  pub same_byte : (j : ℕ) → j < length bytes → get_or bytes j 0 < 256 → string_byte shapes m s.set (k * (64 * s.width) + j) ≡ get_or bytes j 0
  unfolding string_byte byte_bit
  same_byte j h small =
      run_number_is (string_bit shapes m s.set) (8 * (k * (64 * s.width) + j)) 8 (get_or bytes j 0) (λ b l.
      ap (string_bit shapes m s.set) (let e : 8 * (k * (64 * s.width) + j) + b ≡ 8 * (k * (64 * s.width)) + (8 * j + b) = omega arith in e)
      ∙ sym (same_bit (8 * j + b) (omega arith))
      ∙ ap (λ q. bit_at (get_or bytes q 0) ((8 * j + b) % 8)) (let e : (8 * j + b) / 8 ≡ j = omega arith in e)
      ∙ ap (λ i. bit_at (get_or bytes j 0) i) (let e : (8 * j + b) % 8 ≡ b = omega arith in e))
      ∙ (let e : get_or bytes j 0 % 256 ≡ get_or bytes j 0 = omega (arith, small) in e)

  fits_in : 8 * (k * (64 * s.width)) + part.positions * s.width ≤ s.positions * s.width
  fits_in =
      let rows : (512 * k + part.positions) * s.width ≤ s.positions * s.width = mul-le (512 * k + part.positions) s.width s.positions s.width (omega (arith, few)) (omega arith) in
      omega (arith, rows, in_set k part.positions 0 s.width)

  next_cut : (all : List ℕ) → length all ≡ set_size shapes s.set → drop ((k + 1) * (64 * s.width)) all ≡ drop (k * (64 * s.width) + length bytes) all
  next_cut all long = elim (cases_lt (s.positions - 512 * k) 512) [
    | inl last ↦
        let positions : (512 * k + part.positions) * s.width ≡ s.positions * s.width = ap (λ q. q * s.width) (omega (arith, few, last)) in
        let most : part.positions * s.width ≤ 512 * s.width = mul-le part.positions s.width 512 s.width (omega (arith, few)) (omega arith) in
        let same : k * (64 * s.width) + length bytes ≡ length all =
        omega (arith, long, size_is shapes s is, of.long, ap (λ w. part.positions * w) width, positions, in_set k part.positions 0 s.width) in
        drop_all ((k + 1) * (64 * s.width)) all (omega (arith, same, of.long, ap (λ w. part.positions * w) width, most))
        ∙ sym (drop_all (k * (64 * s.width) + length bytes) all (omega (arith, same)))
    | inr full ↦
        let whole : part.positions * s.width ≡ 512 * s.width = ap (λ q. q * s.width) (omega (arith, few, full)) in
        ap (λ n. drop n all) (omega (arith, of.long, ap (λ w. part.positions * w) width, whole))
  ]

  -- the bytes of a set from one block on are those of the block and those from the next one on
  pub part_cut : bytes ++ drop ((k + 1) * (64 * s.width)) (set_bytes shapes m s.set) ≡ drop (k * (64 * s.width)) (set_bytes shapes m s.set)
  unfolding set_bytes
  part_cut =
      let all : List ℕ = set_bytes shapes m s.set in
      let start : ℕ = k * (64 * s.width) in
      let long : length all ≡ set_size shapes s.set = length-map-range_with_len (string_byte shapes m s.set) 0 (set_size shapes s.set) in
      let size : set_size shapes s.set ≡ (s.positions * s.width + 7) / 8 = size_is shapes s is in
      let fits : start + length bytes ≤ length all = omega (arith, long, size, fits_in, of.long, ap (λ w. part.positions * w) width) in
      let rest : List ℕ = drop start all in
      let front : bytes ≡ take (length bytes) rest =
      same_number_lists bytes (take (length bytes) rest) (omega (arith, length-take (length bytes) rest, length-drop start all, fits)) (λ j h.
      sym (same_byte j h (of.small j))
      ∙ sym (get_or-map-range_with_len (string_byte shapes m s.set) 0 (set_size shapes s.set) (start + j) (start + j) 0 (omega (arith, fits, long, h)) (omega arith))
      ∙ sym (get_or-drop start all j 0) ∙ sym (get_or-take (length bytes) rest j 0 h)) in
      let back : drop ((k + 1) * (64 * s.width)) all ≡ drop (length bytes) rest = next_cut all long ∙ sym (drop-drop (length bytes) start all) in
      ap (λ (t : List ℕ). t ++ drop ((k + 1) * (64 * s.width)) all) front
      ∙ ap (λ (t : List ℕ). take (length bytes) rest ++ t) back
      ∙ take-append-drop (length bytes) rest

-- behind the last block of a set there is nothing
pub all_cut : (shapes : List SetShape) (m : BitMemory) (s : SetString) (count : ℕ) → IsStringOf shapes s → s.positions ≤ 512 * count → drop (count * (64 * s.width)) (set_bytes shapes m s.set) ≡ []
unfolding set_bytes
all_cut shapes m s count is all =
    let rows : s.positions * s.width ≤ 512 * count * s.width = mul-le s.positions s.width (512 * count) s.width all (omega arith) in
    let turn : 512 * count * s.width ≡ 8 * (count * (64 * s.width)) = omega arith in
    drop_all (count * (64 * s.width)) (set_bytes shapes m s.set)
    (omega (arith, rows, turn, size_is shapes s is, length-map-range_with_len (string_byte shapes m s.set) 0 (set_size shapes s.set)))
