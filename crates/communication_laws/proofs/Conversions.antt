-- Words of either sign are converted alike.
use Rattle.std.proofs.Common.{◌≡◌, ℕ, zero, suc, ◌^◌, ◌%◌, ◌<◌, Bool, true, false, ℤ, pos, negsuc, ◌∙◌, sym, ap, subst, refl, arith}
use Rattle.std.specs.Prelude.{◌==◌, if◌then◌else◌}
use Rattle.std.proofs.lemmas.Bool.{eqb-true}
use Rattle.cstar_base.specs.declared.elem.Elem.{Elem}
use Rattle.cstar_base.specs.Numbers.{residue, number_of, truth_of, converted}
use Rattle.cstar_base.proofs.NumberLaws.{kind_bits, residue_below, residue_of_number, residue_of_pos, zero_number}
use Rattle.phase_meaning.proofs.Widths.{residue_cut}

-- a number as one of so many bits: of one bit it is a truth value
abbrev cut : ℕ → ℤ → ℕ
cut bits z = if bits == 1 then truth_of z else residue bits z

truth_one : (z : ℤ) → (z ≡ pos 0 → ⊥) → truth_of z ≡ 1
unfolding truth_of
truth_one (pos zero) other = absurd (other refl)
truth_one (pos (suc n)) other = refl
truth_one (negsuc n) other = refl

-- whether a word is 0 does not depend on its sign
truth_of_word : (signed : Bool) (w : ℕ) → w < 2 ^ 32 → truth_of (number_of 32 signed w) ≡ truth_of (pos w)
unfolding truth_of number_of
truth_of_word true zero few = refl
truth_of_word false zero few = refl
truth_of_word signed (suc w) few = truth_one (number_of 32 signed (suc w)) (λ is. let none : suc w ≡ 0 = zero_number 32 signed (suc w) few is in absurd (omega (arith, none)))

residue_of_word : (bits : ℕ) (signed : Bool) (w : ℕ) → bits < 33 → w < 2 ^ 32 → residue bits (number_of 32 signed w) ≡ residue bits (pos w)
residue_of_word bits signed w few small =
    sym (residue_cut bits (number_of 32 signed w) (omega (arith, few))) ∙ ap (λ n. n % 2 ^ bits) (residue_of_number 32 signed w small) ∙ sym (residue_of_pos bits w)

cut_of_word : (bits : ℕ) (one other : Bool) (w : ℕ) → bits < 33 → w < 2 ^ 32 → cut bits (number_of 32 one w) ≡ cut bits (number_of 32 other w)
cut_of_word bits one other w few small =
    (λ i. if bits == 1 then truth_of_word one w small i else residue_of_word bits one w few small i)
    ∙ sym (λ i. if bits == 1 then truth_of_word other w small i else residue_of_word bits other w few small i)

-- a conversion of a word does not depend on its sign
pub converted_alike : (to from other : Elem) (w : ℕ) → from.bits ≡ 32 → other.bits ≡ 32 → w < 2 ^ 32 → converted to from w ≡ converted to other w
unfolding converted
converted_alike to from other w wide also small =
    ap (λ n. cut to.bits (number_of n from.signed w)) wide ∙ cut_of_word to.bits from.signed other.signed w (omega (arith, kind_bits to.bits to.signed to.kind)) small
    ∙ ap (λ n. cut to.bits (number_of n other.signed w)) (sym also)

-- one to a type of 32 bits takes the word of the number
pub wide_converted : (to from : Elem) (w : ℕ) → to.bits ≡ 32 → converted to from w ≡ residue 32 (number_of from.bits from.signed w)
unfolding converted
wide_converted to from w wide = ap (λ n. cut n (number_of from.bits from.signed w)) wide

truth_below : (z : ℤ) → truth_of z < 2
unfolding truth_of
truth_below (pos zero) = omega arith
truth_below (pos (suc n)) = omega arith
truth_below (negsuc n) = omega arith

-- a converted number has the bits of its type
pub converted_below : (to from : Elem) (w : ℕ) → converted to from w < 2 ^ to.bits
unfolding converted
converted_below to from w = by (to.bits == 1) refl
  where
    z : ℤ
    z = number_of from.bits from.signed w

    by : (t : Bool) → (to.bits == 1) ≡ t → (if t then truth_of z else residue to.bits z) < 2 ^ to.bits
    by true one = subst (λ (n : ℕ). truth_of z < 2 ^ n) (sym (eqb-true to.bits 1 one)) (truth_below z)
    by false other = residue_below to.bits z
