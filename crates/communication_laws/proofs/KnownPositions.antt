-- The position of scalar indexes that are constants.
use Rattle.std.proofs.Common.{◌≡◌, ℕ, ◌+◌, ◌*◌, ◌≤◌, ◌^◌, Bool, true, false, List, [], ◌∷◌, Option, Some, None, ◌∙◌, sym, ap, refl, arith, mul_assoc, add-mul}
use Rattle.std.specs.Prelude.{◌&&◌, if◌then◌else◌, nat_lt, unsigned_abs}
use Rattle.vp_sets.specs.Positions.{are_positive, number_at, position_count}
use Rattle.vp_sets.proofs.PositionLaws.{FirstOf, extent_bound, first_of, geometry_parts}
use Rattle.cstar_tree.specs.declared.typed.TExpr.{TExpr}
use Rattle.lower_expr.specs.Positions.{position_from, with_coordinate, with_index}
use Rattle.lower_expr.specs.Steps.{register_word}
use Rattle.source_meaning.specs.Constants.{then_value}
use Rattle.source_meaning.specs.Gets.{Operand, are_within, coordinates_of, index_at, is_within, named_by}
use Rattle.communication_laws.specs.Indexes.{index_word}
use Rattle.communication_laws.specs.KnownPositions.{HaveTheirWords, KnownPositionsAreTheLanguages}
use Rattle.communication_laws.proofs.IndexWords.{index_is_within, word_within}

known : (extents : List ℕ) (es : List TExpr) (indexes : List Operand) (start position : ℕ) → are_positive extents ≡ true → position_count extents ≤ 2 ^ 20 → HaveTheirWords es indexes
    → position_from start extents es ≡ Some position → (are_within extents indexes 0 ≡ true) × (start * position_count extents + named_by extents indexes 0 ≡ position)
unfolding position_from with_index with_coordinate named_by are_within coordinates_of number_at position_count
known [] [] indexes start position positive few have is = (refl, (let e : start * 1 + 0 ≡ start = omega arith in e) ∙ (let e : start ≡ position = cc in e))
known [] (e ∷ es) indexes start position positive few have is = cc
known (extent ∷ extents) [] indexes start position positive few have is = cc
known (extent ∷ extents) (e ∷ es) [] start position positive few have is = absurd have
known (extent ∷ extents) (e ∷ es) (index ∷ indexes) start position positive few have is = by_word (λ next h. known extents es indexes next position first.positive (omega (arith, first.fewer, few)) have.1 h) (register_word e) refl is
  where
    first : FirstOf (extent ∷ extents) extent extents
    first = first_of (extent ∷ extents) extent extents refl positive

    room : extent ≤ 2 ^ 20
    room = let all : extent ≤ position_count (extent ∷ extents) = extent_bound (extent ∷ extents) 0 positive (omega arith) in omega (arith, all, few)

    spread : (a b c n : ℕ) → a * (extent * c) + (b * c + n) ≡ (a * extent + b) * c + n
    spread a b c n = omega (arith, add-mul (a * extent) b c, mul_assoc a extent c)

    Rest : Type 0
    Rest = (next : ℕ) → position_from next extents es ≡ Some position → (are_within extents indexes 0 ≡ true) × (next * position_count extents + named_by extents indexes 0 ≡ position)

    by_test : Rest → (w : ℕ) → index_word index 0 ≡ w → (t : Bool) → nat_lt w extent ≡ t → then_value (if t then Some (start * extent + w) else None) (λ next. position_from next extents es) ≡ Some position
        → ((is_within extent (index_at index 0) && are_within extents indexes 0) ≡ true) × (start * (extent * position_count extents) + (unsigned_abs (index_at index 0) * position_count extents + named_by extents indexes 0) ≡ position)
    by_test rest w word false test h = cc
    by_test rest w word true test h =
        let later = rest (start * extent + w) h in
        let within : is_within extent (index_at index 0) ≡ true = sym (index_is_within extent index 0 (omega (arith, room)) have.0.small) ∙ ap (λ n. nat_lt n extent) word ∙ test in
        let number : unsigned_abs (index_at index 0) ≡ w = sym (word_within extent index 0 (omega (arith, room)) within) ∙ word in (
          ap (λ t. t && are_within extents indexes 0) within ∙ later.0,
          ap (λ n. start * (extent * position_count extents) + (n * position_count extents + named_by extents indexes 0)) number
              ∙ spread start w (position_count extents) (named_by extents indexes 0) ∙ later.1,
        )

    by_word : Rest → (o : Option ℕ) → register_word e ≡ o
        → then_value (then_value o (λ c. if nat_lt c extent then Some (start * extent + c) else None)) (λ next. position_from next extents es) ≡ Some position
        → ((is_within extent (index_at index 0) && are_within extents indexes 0) ≡ true) × (start * (extent * position_count extents) + (unsigned_abs (index_at index 0) * position_count extents + named_by extents indexes 0) ≡ position)
    by_word rest None known_word h = cc
    by_word rest (Some w) known_word h = by_test rest w (have.0.word w known_word) (nat_lt w extent) refl h

pub known_positions : KnownPositionsAreTheLanguages
known_positions extents es indexes position geometry have is =
    let parts = geometry_parts extents geometry in
    let all = known extents es indexes 0 position parts.2 parts.3 have is in
    (all.0, (let e : named_by extents indexes 0 ≡ 0 * position_count extents + named_by extents indexes 0 = omega arith in e) ∙ all.1)
