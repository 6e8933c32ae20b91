-- What is read and written at one position.
use Rattle.std.proofs.Common.{◌≡◌, ℕ, ◌+◌, ◌*◌, ◌≤◌, ◌^◌, ◌%◌, Bool, true, false, not, List, [], ◌∷◌, length, map, ◌∙◌, sym, ap, refl, arith}
use Rattle.std.specs.Prelude.{Some, None, ◌||◌, ◌==◌, if◌then◌else◌, slice_index, unsigned_abs}
use Rattle.std.proofs.lemmas.Bool.{lt-ltb}
use Rattle.std.proofs.Math.Nat.{mod-eq_of_lt}
use Rattle.vp_sets.specs.Positions.{are_positive, number_at, position_count}
use Rattle.vp_sets.proofs.PositionLaws.{FirstOf, extent_bound, first_of, geometry_parts}
use Rattle.cstar_base.specs.Numbers.{converted, number_of, residue}
use Rattle.cstar_base.proofs.NumberLaws.{kind_bits, residue_of_number}
use Rattle.lower_base.specs.Operators.{is_signed}
use Rattle.paris_code.specs.declared.program.Reply.TheVariants as R
use Rattle.paris_code.specs.Checking.{is_outside}
use Rattle.paris_code.specs.Fetching.{at_one, word_of_one}
use Rattle.paris_code.specs.Meaning.{after}
use Rattle.paris_code.specs.Memory.{field_number, processors, whole_number}
use Rattle.paris_code.specs.Scalar.{address_of, any_register_outside}
use Rattle.phase_meaning.proofs.Widths.{residue_cut}
use Rattle.source_meaning.specs.Gets.{Operand, are_within, coordinates_of, index_at, is_within, named_by}
use Rattle.source_meaning.specs.Reductions.{int_type}
use Rattle.source_meaning.specs.Targets.{read, stored}
use Rattle.source_meaning.specs.Values.{failing, number}
use Rattle.communication_laws.specs.OnePosition.{ReadsOfPositionsAreTheLanguages, RegistersHaveIndexes, ScalarAddressesAreTheLanguages, ScalarChecksAreTheLanguages, WritesOfPositionsStore, failing_nowhere, registers_with_signs}
use Rattle.communication_laws.proofs.Conversions.{wide_converted}
use Rattle.communication_laws.proofs.Indexes.{both, neither, indexes_within_name_positions}
use Rattle.communication_laws.proofs.IndexWords.{index_read, outside_is, word_within}
use Rattle.communication_laws.proofs.Storing.{stores}

-- the number of registers that have indexes which lie within extents of few positions
number_is : (extents registers rs : List ℕ) (indexes : List Operand) → are_positive extents ≡ true → position_count extents ≤ 2 ^ 20 → RegistersHaveIndexes registers rs indexes → are_within extents indexes 0 ≡ true
    → number_at extents (map (λ r. slice_index registers r) rs) ≡ named_by extents indexes 0
unfolding named_by are_within coordinates_of number_at
number_is [] registers rs indexes positive few has is = refl
number_is (extent ∷ extents) registers rs [] positive few has is = cc
number_is (extent ∷ extents) registers [] (index ∷ indexes) positive few has is = absurd has
number_is (extent ∷ extents) registers (r ∷ rs) (index ∷ indexes) positive few has is =
    let parts = both (is_within extent (index_at index 0)) (are_within extents indexes 0) is in
    let first : FirstOf (extent ∷ extents) extent extents = first_of (extent ∷ extents) extent extents refl positive in
    let room : extent ≤ position_count (extent ∷ extents) = extent_bound (extent ∷ extents) 0 positive (omega arith) in
    ap (λ n. n * position_count extents + number_at extents (map (λ r. slice_index registers r) rs)) (has.0.word ∙ word_within extent index 0 (omega (arith, room, few)) parts.0)
    ∙ ap (λ n. unsigned_abs (index_at index 0) * position_count extents + n) (number_is extents registers rs indexes first.positive (omega (arith, first.fewer, few)) has.1 parts.1)

pub scalar_addresses : ScalarAddressesAreTheLanguages
unfolding address_of
scalar_addresses extents registers rs indexes geometry has is =
    let parts = geometry_parts extents geometry in
    ap (λ n. n % 2 ^ 32) (number_is extents registers rs indexes parts.2 parts.3 has is)
    ∙ mod-eq_of_lt (omega (arith, indexes_within_name_positions extents indexes 0 is, parts.3))

-- a register is outside where the language says so
any_outside_is : (extents registers rs : List ℕ) (indexes : List Operand) → length indexes ≡ length extents → RegistersHaveIndexes registers rs indexes
    → any_register_outside extents (registers_with_signs indexes rs) registers ≡ not (are_within extents indexes 0)
unfolding are_within any_register_outside
any_outside_is [] registers rs indexes many has = refl
any_outside_is (extent ∷ extents) registers rs [] many has = absurd (omega (arith, many))
any_outside_is (extent ∷ extents) registers [] (index ∷ indexes) many has = absurd has
any_outside_is (extent ∷ extents) registers (r ∷ rs) (index ∷ indexes) many has =
    ap (λ z. is_outside extent z || any_register_outside extents (registers_with_signs indexes rs) registers) (ap (number_of 32 (is_signed index.elem)) has.0.word ∙ index_read index 0 has.0.small)
    ∙ ap (λ t. t || any_register_outside extents (registers_with_signs indexes rs) registers) (outside_is extent (index_at index 0))
    ∙ ap (λ t. not (is_within extent (index_at index 0)) || t) (any_outside_is extents registers rs indexes (omega (arith, many)) has.1)
    ∙ neither (is_within extent (index_at index 0)) (are_within extents indexes 0)

pub scalar_checks : ScalarChecksAreTheLanguages
unfolding failing
scalar_checks scope active of registers rs indexes many has = by (not (are_within (scope.extents of) indexes 0)) ∙ ap failing_nowhere (sym (any_outside_is (scope.extents of) registers rs indexes many has))
  where
    by : (t : Bool) → (if t then Some None else None) ≡ failing_nowhere t
    by true = refl
    by false = refl

pub reads_of_positions : ReadsOfPositionsAreTheLanguages
unfolding word_of_one whole_number read number
reads_of_positions shapes m args r processor a st x elem q long holds below =
    ap R.Value
    (ap (λ t. if t then residue 32 (number_of a.len elem.signed (field_number m a q)) else 0) (lt-ltb q (processors shapes a.set) below)
    ∙ ap (λ n. residue 32 (number_of n elem.signed (field_number m a q))) long ∙ ap (λ w. residue 32 (number_of elem.bits elem.signed w)) (holds q below refl)
    ∙ sym (wide_converted int_type elem (st.parallel x 0 q) refl))

pub writes_of_positions_store : WritesOfPositionsStore
unfolding after stored number
writes_of_positions_store shapes m args d processor r st active x elem q value long holds few p below all =
    stores (at_one d q word) m st x (λ k. k == q) (λ k. value) p refl (λ on. ap (λ n. word % 2 ^ n) long ∙ lowest) (holds p below refl)
  where
    word : ℕ
    word = converted int_type elem value

    lowest : word % 2 ^ elem.bits ≡ value
    lowest =
        ap (λ n. n % 2 ^ elem.bits) (wide_converted int_type elem value refl) ∙ residue_cut elem.bits (number_of elem.bits elem.signed value) (kind_bits elem.bits elem.signed elem.kind).1
        ∙ residue_of_number elem.bits elem.signed value few
