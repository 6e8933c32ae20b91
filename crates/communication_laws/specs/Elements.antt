-- How an element of an array is chosen: by the word of its index, which is checked against the length.
use Rattle.std.specs.Prelude.{◌≡◌, ℕ, ◌<◌, ◌≤◌, ◌-◌, ◌^◌, true, List, [], ◌∷◌, length, slice_index}
use Rattle.std.specs.Int.{from_bool}
use Rattle.lower_expr.specs.Spots.{everywhere_at}
use Rattle.paris_code.specs.declared.operands.Compare.TheVariants as C
use Rattle.paris_code.specs.Scalar.{any_register_outside, compared}
use Rattle.source_meaning.specs.Gets.{Operand, index_at, is_within, named_by}
use Rattle.source_meaning.specs.Values.{at}
use Rattle.communication_laws.specs.Indexes.{index_word}

-- The number of the element that an index within the length names is its word.
abbrev pub ElementsAreNumberedByWords : Type 0
ElementsAreNumberedByWords =
    (count : ℕ) (index : Operand) → count ≤ 2 ^ 31 → is_within count (index_at index 0) ≡ true → named_by (count ∷ []) (index ∷ []) 0 ≡ index_word index 0

-- The comparison of the word with the length, both unsigned, tells whether the index lies within it.
abbrev pub ChecksOfElementsAreTheLanguages : Type 0
ChecksOfElementsAreTheLanguages =
    (count : ℕ) (index : Operand) → count ≤ 2 ^ 31 → at index.value 0 < 2 ^ index.elem.bits → compared C.ULt (index_word index 0) count ≡ from_bool (is_within count (index_at index 0))

-- Where there is no such element, a coordinate of -1 on each axis is checked instead, which fails.
abbrev pub MissingElementsAreRefused : Type 0
MissingElementsAreRefused =
    (extents registers : List ℕ) (r : ℕ) → 0 < length extents → slice_index registers r ≡ 2 ^ 32 - 1 → any_register_outside extents (everywhere_at r extents) registers ≡ true
