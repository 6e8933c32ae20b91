-- The machine's addresses and checks of left indexes are the language's.
use Rattle.std.proofs.Common.{◌≡◌, ℕ, ◌+◌, ◌*◌, ◌<◌, ◌≤◌, ◌^◌, Bool, true, false, not, List, [], ◌∷◌, length, ◌∙◌, sym, ap, subst, refl, arith}
use Rattle.std.specs.Prelude.{◌&&◌, ◌||◌, unsigned_abs}
use Rattle.vp_sets.specs.Positions.{are_positive, number_at, position_count}
use Rattle.vp_sets.proofs.PositionLaws.{FirstOf, extent_bound, first_of, geometry_parts}
use Rattle.cstar_base.specs.Numbers.{number_of}
use Rattle.cstar_base.specs.Orders.{least_below}
use Rattle.lower_base.specs.Operators.{is_signed}
use Rattle.paris_code.specs.declared.operands.Coordinate.{Coordinate}
use Rattle.paris_code.specs.declared.operands.Coordinate.TheVariants as C
use Rattle.paris_code.specs.Arguments.{behind_coordinate, coordinate_numbers, coordinate_whole}
use Rattle.paris_code.specs.Checking.{any_outside, is_outside}
use Rattle.paris_code.specs.Memory.{BitMemory, field_number, is_active, processors, whole_number}
use Rattle.paris_code.specs.Shapes.{extents_at}
use Rattle.source_meaning.specs.Gets.{Operand, are_within, coordinates_of, index_at, is_within, named_by}
use Rattle.communication_laws.specs.Indexes.{AddressesAreTheLanguages, ChecksOfIndexesAreTheLanguages, HasIndex, HasIndexes, IndexesWithinNamePositions, failing_at, with_signs}
use Rattle.communication_laws.proofs.IndexWords.{index_read, outside_is, within_number, word_within}
use Rattle.communication_laws.proofs.Failing.{fails_alike}
use Rattle.std.proofs.lemmas.Nat.{mul-add-lt}

pub both : (s t : Bool) → (s && t) ≡ true → (s ≡ true) × (t ≡ true)
both true t is = (refl, is)
both false t is = cc

pub indexes_within_name_positions : IndexesWithinNamePositions
unfolding named_by are_within coordinates_of number_at position_count
indexes_within_name_positions [] indexes p is = omega arith
indexes_within_name_positions (extent ∷ extents) [] p is = cc
indexes_within_name_positions (extent ∷ extents) (index ∷ indexes) p is =
    let parts = both (is_within extent (index_at index p)) (are_within extents indexes p) is in
    let rest : named_by extents indexes p < position_count extents = indexes_within_name_positions extents indexes p parts.1 in
    subst (λ (count : ℕ). named_by (extent ∷ extents) (index ∷ indexes) p < count) (turn (position_count extents) extent)
    (mul-add-lt (unsigned_abs (index_at index p)) (position_count extents) (named_by extents indexes p) extent (within_number extent (index_at index p) parts.0).1 rest)
  where
    turn : (a b : ℕ) → a * b ≡ b * a
    turn a b = grind arith

-- the number of coordinates that have indexes which lie within extents of few positions
number_is : (m : BitMemory) (p : ℕ) (extents args : List ℕ) (cs : List Coordinate) (indexes : List Operand) → are_positive extents ≡ true → position_count extents ≤ 2 ^ 20 → HasIndexes m args p cs indexes → are_within extents indexes p ≡ true
    → number_at extents (coordinate_numbers m cs args p) ≡ named_by extents indexes p
unfolding named_by are_within coordinates_of number_at
number_is m p [] args cs indexes positive few has is = refl
number_is m p (extent ∷ extents) args cs [] positive few has is = cc
number_is m p (extent ∷ extents) args [] (index ∷ indexes) positive few has is = absurd has
number_is m p (extent ∷ extents) args (c ∷ cs) (index ∷ indexes) positive few has is =
    let parts = both (is_within extent (index_at index p)) (are_within extents indexes p) is in
    let first : FirstOf (extent ∷ extents) extent extents = first_of (extent ∷ extents) extent extents refl positive in
    let room : extent ≤ position_count (extent ∷ extents) = extent_bound (extent ∷ extents) 0 positive (omega arith) in
    ap (λ n. n * position_count extents + number_at extents (coordinate_numbers m cs (behind_coordinate c args) p)) (has.0.word ∙ word_within extent index p (omega (arith, room, few)) parts.0)
    ∙ ap (λ n. unsigned_abs (index_at index p) * position_count extents + n) (number_is m p extents (behind_coordinate c args) cs indexes first.positive (omega (arith, first.fewer, few)) has.1 parts.1)

pub addresses : AddressesAreTheLanguages
addresses shapes m args d set coordinates indexes p geometry has is =
    let parts = geometry_parts (extents_at shapes set) geometry in
    number_is m p (extents_at shapes set) args coordinates.items indexes parts.2 parts.3 has is

pub neither : (s t : Bool) → (not s || not t) ≡ not (s && t)
neither true t = refl
neither false t = refl

-- a coordinate, read by the sign of its index, is the number of the index
whole_is : (m : BitMemory) (args : List ℕ) (p : ℕ) (c : Coordinate) (index : Operand) → HasIndex m args p c index → coordinate_whole m (is_signed index.elem) c args p ≡ index_at index p
unfolding whole_number
whole_is m args p (C.Field f) index h =
    ap (λ n. number_of n (is_signed index.elem) (field_number m f p)) h.wide ∙ ap (number_of 32 (is_signed index.elem)) h.word ∙ index_read index p h.small
whole_is m args p (C.Reg r) index h = ap (number_of 32 (is_signed index.elem)) h.word ∙ index_read index p h.small

-- so one is outside where the language says so
any_outside_is : (m : BitMemory) (p : ℕ) (extents args : List ℕ) (cs : List Coordinate) (indexes : List Operand) → length indexes ≡ length extents → HasIndexes m args p cs indexes
    → any_outside m extents (with_signs indexes cs) args p ≡ not (are_within extents indexes p)
unfolding are_within
any_outside_is m p [] args cs indexes many has = refl
any_outside_is m p (extent ∷ extents) args cs [] many has = absurd (omega (arith, many))
any_outside_is m p (extent ∷ extents) args [] (index ∷ indexes) many has = absurd has
any_outside_is m p (extent ∷ extents) args (c ∷ cs) (index ∷ indexes) many has =
    ap (λ z. is_outside extent z || any_outside m extents (with_signs indexes cs) (behind_coordinate c args) p) (whole_is m args p c index has.0)
    ∙ ap (λ t. t || any_outside m extents (with_signs indexes cs) (behind_coordinate c args) p) (outside_is extent (index_at index p))
    ∙ ap (λ t. not (is_within extent (index_at index p)) || t) (any_outside_is m p extents (behind_coordinate c args) cs indexes (omega (arith, many)) has.1)
    ∙ neither (is_within extent (index_at index p)) (are_within extents indexes p)

pub checks_of_indexes : ChecksOfIndexesAreTheLanguages
checks_of_indexes shapes m args scope active set of place checked coordinates indexes own targets many are of_set alike has =
    fails_alike shapes m scope active set (λ p. any_outside m (extents_at shapes of) checked.items args p) (λ p. not (are_within (scope.extents of) indexes p)) own alike
    (λ p b on. ap (λ list. any_outside m (extents_at shapes of) list args p) are ∙ ap (λ extents. any_outside m extents (with_signs indexes coordinates) args p) targets
    ∙ any_outside_is m p (scope.extents of) args coordinates indexes many (has p b on))
    ∙ ap (λ s. failing_at (least_below (λ p. is_active shapes m s p && any_outside m (extents_at shapes of) checked.items args p) (processors shapes s))) (sym of_set)
