-- How many bytes sets take, and where those of each stand.
use Rattle.std.proofs.Common.{◌≡◌, ℕ, zero, suc, ◌+◌, ◌-◌, ◌*◌, ◌/◌, ◌%◌, ◌^◌, ◌<◌, ◌≤◌, List, length, map, get_or, take, drop, true, false, Bool, nat_eq, inl, inr, refl, sym, ◌∙◌, ap, arith}
use Rattle.std.specs.Int.{bit_at}
use Rattle.std.specs.List.{range_with_len}
use Rattle.std.specs.Prelude.{MatchBool, sum}
use Rattle.std.proofs.Math.Seq.{drop-drop, get_or-drop, get_or-take}
use Rattle.std.proofs.lemmas.Bool.{cases_lt, eqb-true, eqb-false}
use Rattle.std.proofs.lemmas.List.FromFn.{map-range_with_len_more}
use Rattle.std.proofs.lemmas.List.Sums.{sum_by_push}
use Rattle.std.proofs.lemmas.Nat.{div_below, mul-le, pow_pos}
use Rattle.std.proofs.lemmas.Nat.Bits.{bit_at-zero, bit_at_above, same_from_bits_below}
use Rattle.cstar_base.proofs.BitCuts.{bit_at-shr}
use Rattle.paris_code.specs.Shapes.{SetShape}
use Rattle.point_bits.specs.declared.strings.SetString.{SetString}
use Rattle.point_bits.specs.Strings.{IsString, IsStringOf, bit_count, byte_bit, set_size, start_of}

-- the bits and the bytes of a set
pub count_is : (shapes : List SetShape) (s : SetString) → IsStringOf shapes s → bit_count shapes s.set ≡ s.positions * s.width
unfolding bit_count
count_is shapes s is = sym (rw (is.positions, is.width) refl)

pub size_is : (shapes : List SetShape) (s : SetString) → IsStringOf shapes s → set_size shapes s.set ≡ (s.positions * s.width + 7) / 8
unfolding set_size
size_is shapes s is = ap (λ n. (n + 7) / 8) (count_is shapes s is)

pub size_small : (s : SetString) → IsString s → (s.positions * s.width + 7) / 8 ≤ 140737488617472
size_small s fits =
    let most : s.positions * s.width ≤ 1048576 * 1073741826 = mul-le s.positions s.width 1048576 1073741826 fits.few fits.narrow in
    omega arith

-- where the bytes of sets begin
pub start_none : (shapes : List SetShape) → start_of shapes 0 ≡ 0
unfolding start_of
start_none shapes = refl

pub start_more : (shapes : List SetShape) (n : ℕ) → start_of shapes (n + 1) ≡ start_of shapes n + set_size shapes n
unfolding start_of
start_more shapes n =
    ap sum (map-range_with_len_more (set_size shapes) 0 n n (omega arith)) ∙ sum_by_push (λ (x : ℕ). x) (map (set_size shapes) (range_with_len 0 n)) (set_size shapes n)

pub start_below : (shapes : List SetShape) (n d : ℕ) → start_of shapes n ≤ start_of shapes (n + d)
start_below shapes n zero = omega (arith, ap (start_of shapes) (let e : n + 0 ≡ n = omega arith in e))
start_below shapes n (suc d) =
    omega (arith, start_below shapes n d, start_more shapes (n + d), ap (start_of shapes) (let e : n + suc d ≡ n + d + 1 = omega arith in e))

pub set_within : (shapes : List SetShape) (n : ℕ) → n < length shapes → start_of shapes n + set_size shapes n ≤ start_of shapes (length shapes)
set_within shapes n h =
    omega (arith, start_more shapes n, start_below shapes (n + 1) (length shapes - (n + 1)), ap (start_of shapes) (let e : n + 1 + (length shapes - (n + 1)) ≡ length shapes = omega arith in e))

-- a bit of a part of bytes
pub own_bit : (bytes : List ℕ) (start size n : ℕ) → n < 8 * size → byte_bit (take size (drop start bytes)) n ≡ byte_bit bytes (8 * start + n)
unfolding byte_bit
own_bit bytes start size n h =
    ap (λ x. bit_at x (n % 8)) (get_or-take size (drop start bytes) (n / 8) 0 (omega arith) ∙ get_or-drop start bytes (n / 8) 0)
    ∙ ap (λ q. bit_at (get_or bytes q 0) (n % 8)) (let e : start + n / 8 ≡ (8 * start + n) / 8 = omega arith in e)
    ∙ ap (λ j. bit_at (get_or bytes ((8 * start + n) / 8) 0) j) (let e : n % 8 ≡ (8 * start + n) % 8 = omega arith in e)

pub rest_more : (bytes : List ℕ) (start size : ℕ) → drop size (drop start bytes) ≡ drop (start + size) bytes
rest_more bytes start size = drop-drop size start bytes

-- zeros have no bit
pub zero_bits : (bytes : List ℕ) → ((k : ℕ) → get_or bytes k 0 ≡ 0) → (n : ℕ) → byte_bit bytes n ≡ 0
unfolding byte_bit
zero_bits bytes zeros n = ap (λ x. bit_at x (n % 8)) (zeros (n / 8)) ∙ bit_at-zero (n % 8)

-- the last byte has zeros behind the last bit
module _ (bytes : List ℕ) (count : ℕ) (long : length bytes ≡ (count + 7) / 8) (odd : count % 8 ≡ 0 → ⊥) (small : get_or bytes (length bytes - 1) 0 < 256) where
  abbrev last : ℕ
  last = get_or bytes (length bytes - 1) 0

  abbrev IsFilled : Type 0
  IsFilled = (n : ℕ) → count ≤ n → n < 8 * length bytes → byte_bit bytes n ≡ 0

  high : last / 2 ^ (count % 8) ≡ 0 → IsFilled
  unfolding byte_bit
  high none n from til =
      ap (λ q. bit_at (get_or bytes q 0) (n % 8)) (let e : n / 8 ≡ length bytes - 1 = omega arith in e)
      ∙ ap (λ j. bit_at (get_or bytes (length bytes - 1) 0) j) (let e : n % 8 ≡ count % 8 + (n % 8 - count % 8) = omega arith in e)
      ∙ sym (bit_at-shr (get_or bytes (length bytes - 1) 0) (count % 8) (n % 8 - count % 8))
      ∙ ap (λ x. bit_at x (n % 8 - count % 8)) none ∙ bit_at-zero (n % 8 - count % 8)

  none : IsFilled → last / 2 ^ (count % 8) ≡ 0
  unfolding byte_bit
  none filled = same_from_bits_below 8 (get_or bytes (length bytes - 1) 0 / 2 ^ (count % 8)) 0 (div_below (get_or bytes (length bytes - 1) 0) (2 ^ (count % 8)) 256 (pow_pos (count % 8)) (omega (arith, mul-le 256 1 256 (2 ^ (count % 8)) (omega arith) (pow_pos (count % 8)), small))) (omega arith) (λ i h.
      bit_at-shr (get_or bytes (length bytes - 1) 0) (count % 8) i ∙ elim (cases_lt (count % 8 + i) 8) [
        | inl l ↦
            ap (λ q. bit_at (get_or bytes q 0) (count % 8 + i)) (let e : length bytes - 1 ≡ (count + i) / 8 = omega arith in e)
            ∙ ap (λ j. bit_at (get_or bytes ((count + i) / 8) 0) j) (let e : count % 8 + i ≡ (count + i) % 8 = omega arith in e)
            ∙ filled (count + i) (omega arith) (omega arith) ∙ sym (bit_at-zero i)
        | inr g ↦ bit_at_above (get_or bytes (length bytes - 1) 0) 8 (count % 8 + i) small g ∙ sym (bit_at-zero i)
      ])

  pub filled_where : MatchBool (nat_eq (last / 2 ^ (count % 8)) 0) IsFilled (IsFilled → ⊥)
  filled_where = go (nat_eq (last / 2 ^ (count % 8)) 0) refl
    where
      go : (b : Bool) → nat_eq (last / 2 ^ (count % 8)) 0 ≡ b → MatchBool b IsFilled (IsFilled → ⊥)
      go true e = high (eqb-true _ 0 e)
      go false e = λ filled. eqb-false _ 0 e (none filled)
