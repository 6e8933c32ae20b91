-- The words of indexes, and when they lie within extents.
use Rattle.std.proofs.Common.{◌≡◌, ℕ, ◌<◌, ◌≤◌, ◌^◌, Bool, true, false, not, ℤ, pos, negsuc, ◌∙◌, sym, ap, refl, ◌⊎◌, ◌-ℤ◌, inl, inr, lit<, arith}
use Rattle.std.specs.Prelude.{nat_lt, ◌||◌, unsigned_abs}
use Rattle.std.proofs.lemmas.Bool.{cases_lt, lt-ltb, le-ltb}
use Rattle.std.proofs.lemmas.Int.{ints}
use Rattle.std.proofs.lemmas.Bool.Decides.{nat_tests}
use Rattle.std.proofs.Math.Nat.{mod-eq_of_lt, pow-le-pow_right}
use Rattle.cstar_base.specs.declared.elem.Elem.{Elem}
use Rattle.cstar_base.specs.Numbers.{number_of, residue}
use Rattle.cstar_base.proofs.NumberLaws.{kind_bits, number_in_lower, number_in_upper, number_unsigned, residue_of_pos}
use Rattle.lower_base.specs.Operators.{is_signed}
use Rattle.paris_code.specs.Checking.{is_outside}
use Rattle.phase_meaning.proofs.Widths.{number_in_word}
use Rattle.source_meaning.specs.Gets.{Operand, index_at, is_within}
use Rattle.source_meaning.specs.Reductions.{int_type}
use Rattle.source_meaning.specs.Values.{at}
use Rattle.communication_laws.specs.Indexes.{index_word}
use Rattle.communication_laws.proofs.Conversions.{converted_below, wide_converted}

-- a number within an extent is not below 0
pub within_number : (extent : ℕ) (z : ℤ) → is_within extent z ≡ true → (z ≡ pos (unsigned_abs z)) × (unsigned_abs z < extent)
unfolding is_within
within_number extent (pos n) is = (refl, grind (arith, nat_tests))
within_number extent (negsuc n) is = cc

-- outside is not within
pub outside_is : (extent : ℕ) (z : ℤ) → is_outside extent z ≡ not (is_within extent z)
unfolding is_within is_outside
outside_is extent (pos n) = grind (arith, nat_tests)
outside_is extent (negsuc n) = refl

-- so a word that lies within an extent is the number
pub word_within : (extent : ℕ) (index : Operand) (p : ℕ) → extent ≤ 2 ^ 32 → is_within extent (index_at index p) ≡ true → index_word index p ≡ unsigned_abs (index_at index p)
unfolding index_at
word_within extent index p few is =
    let z : ℤ = number_of index.elem.bits index.elem.signed (at index.value p) in
    let within = within_number extent z is in
    wide_converted int_type index.elem (at index.value p) refl ∙ ap (residue 32) within.0 ∙ residue_of_pos 32 (unsigned_abs z) ∙ mod-eq_of_lt (omega (arith, few, within.1))

-- a number of few bits as a word, which is read with a sign unless it has all 32 bits and none
word_read : (bits : ℕ) (signed : Bool) (w : ℕ) → 0 < bits → bits ≤ 32 → w < 2 ^ bits → number_of 32 (signed || nat_lt bits 32) (residue 32 (number_of bits signed w)) ≡ number_of bits signed w
word_read bits true w some few small = number_in_word bits true w some few small
word_read bits false w some few small = elim (cases_lt bits 32) [
  | inl less ↦
      let half : 2 ^ bits ≤ 2 ^ 31 = pow-le-pow_right (lit< tt) (let e : bits ≤ 31 = omega (arith, less) in e) in
      let word : residue 32 (number_of bits false w) ≡ w = ap (residue 32) (number_unsigned bits w) ∙ residue_of_pos 32 w ∙ mod-eq_of_lt (omega (arith, half, small)) in
      ap (λ t. number_of 32 t (residue 32 (number_of bits false w))) (lt-ltb bits 32 less) ∙ ap (number_of 32 true) word ∙ number_in_lower 32 w (omega (arith, half, small)) ∙ sym (number_unsigned bits w)
  | inr all ↦ ap (λ t. number_of 32 t (residue 32 (number_of bits false w))) (le-ltb bits 32 all) ∙ number_in_word bits false w some few small
]

-- The word of an index, read with the sign with which it is checked, is its number.
pub index_read : (index : Operand) (p : ℕ) → at index.value p < 2 ^ index.elem.bits → number_of 32 (is_signed index.elem) (index_word index p) ≡ index_at index p
unfolding index_at is_signed
index_read index p small =
    let elem : Elem = index.elem in
    let bits = kind_bits elem.bits elem.signed elem.kind in
    ap (number_of 32 (elem.signed || nat_lt elem.bits 32)) (wide_converted int_type elem (at index.value p) refl) ∙ word_read elem.bits elem.signed (at index.value p) bits.0 bits.1 small

least_within : (count w : ℕ) → nat_lt w count ≡ is_within count (pos w)
unfolding is_within
least_within count w = grind (arith, nat_tests)

-- a word that is read with a sign lies within an extent of at most half the words where it does without
word_is_within : (count : ℕ) (signed : Bool) (w : ℕ) → count ≤ 2 ^ 31 → w < 2 ^ 32 → nat_lt w count ≡ is_within count (number_of 32 signed w)
word_is_within count signed w few small = by signed (cases_lt w (2 ^ 31))
  where
    plain : nat_lt w count ≡ is_within count (pos w)
    plain = least_within count w

    by : (s : Bool) → (w < 2 ^ 31) ⊎ (2 ^ 31 ≤ w) → nat_lt w count ≡ is_within count (number_of 32 s w)
    by false which = plain ∙ sym (ap (is_within count) (number_unsigned 32 w))
    by true (inl low) = plain ∙ sym (ap (is_within count) (number_in_lower 32 w low))
    by true (inr high) = le-ltb w count (omega (arith, few, high)) ∙ sym (ap (is_within count) (number_in_upper 32 w high) ∙ below (is_within count (pos w -ℤ pos (2 ^ 32))) refl)
      where
        below : (t : Bool) → is_within count (pos w -ℤ pos (2 ^ 32)) ≡ t → t ≡ false
        below true is = let number = (within_number count (pos w -ℤ pos (2 ^ 32)) is).0 in absurd (omega (arith, ints, small, number))
        below false is = refl

-- so the word of an index is below a count where the index lies within it
pub index_is_within : (count : ℕ) (index : Operand) (p : ℕ) → count ≤ 2 ^ 31 → at index.value p < 2 ^ index.elem.bits → nat_lt (index_word index p) count ≡ is_within count (index_at index p)
index_is_within count index p few small =
    word_is_within count (is_signed index.elem) (index_word index p) few (converted_below int_type index.elem (at index.value p)) ∙ ap (is_within count) (index_read index p small)
