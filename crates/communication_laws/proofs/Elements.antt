-- How an element of an array is chosen.
use Rattle.std.proofs.Common.{[], ◌∷◌, ◌≡◌, ◌+◌, ◌*◌, true, ◌∙◌, sym, ap, arith}
use Rattle.std.specs.Prelude.{◌||◌, unsigned_abs, int_lt}
use Rattle.std.specs.Int.{from_bool}
use Rattle.vp_sets.specs.Positions.{number_at, position_count}
use Rattle.cstar_base.specs.Numbers.{number_of}
use Rattle.cstar_base.specs.Operators.{is_below, operand, operate, outcome, divides}
use Rattle.paris_code.specs.Scalar.{any_register_outside, compared}
use Rattle.paris_code.specs.Checking.{is_outside}
use Rattle.lower_expr.specs.Spots.{everywhere_at}
use Rattle.source_meaning.specs.Gets.{coordinates_of, index_at, named_by}
use Rattle.communication_laws.specs.Elements.{ChecksOfElementsAreTheLanguages, MissingElementsAreRefused, ElementsAreNumberedByWords}
use Rattle.communication_laws.specs.Indexes.{index_word}
use Rattle.communication_laws.proofs.IndexWords.{index_is_within, word_within}
use Rattle.cstar_base.proofs.NumberLaws.{number_unsigned}

pub elements : ElementsAreNumberedByWords
unfolding named_by number_at position_count coordinates_of
elements count index few is = (let e : unsigned_abs (index_at index 0) * 1 + 0 ≡ unsigned_abs (index_at index 0) = omega arith in e) ∙ sym (word_within count index 0 (omega (arith, few)) is)

pub checks_of_elements : ChecksOfElementsAreTheLanguages
unfolding compared operate divides outcome is_below operand
checks_of_elements count index few small =
    ap from_bool
    ((λ i. int_lt (number_unsigned 32 (index_word index 0) i) (number_unsigned 32 count i))
    ∙ index_is_within count index 0 few small)

pub missing_elements : MissingElementsAreRefused
unfolding any_register_outside everywhere_at is_outside number_of
missing_elements [] registers r some is = absurd (omega (arith, some))
missing_elements (extent ∷ extents) registers r some is = ap (λ w. is_outside extent (number_of 32 true w) || any_register_outside extents (everywhere_at r extents) registers) is
