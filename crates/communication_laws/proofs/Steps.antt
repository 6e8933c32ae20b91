-- The machine's checks of steps to neighbours are the language's of the indexes that lead there.
use Rattle.std.proofs.Common.{◌≡◌, ℕ, suc, pos, ◌+ℤ◌, ◌-ℤ◌, ◌+◌, ◌-◌, ◌<◌, ◌^◌, ◌%◌, true, not, List, [], ◌∷◌, length, Option, Some, None, ◌∙◌, sym, ap, refl, inl, inr, arith}
use Rattle.std.specs.Prelude.{◌&&◌, ◌||◌, slice_index, unsigned_abs}
use Rattle.std.proofs.lemmas.Bool.{cases_lt}
use Rattle.std.proofs.lemmas.Int.{ints}
use Rattle.std.proofs.Math.Nat.{mod-eq_of_lt}
use Rattle.cstar_base.specs.Numbers.{number_of}
use Rattle.cstar_base.proofs.NumberLaws.{number_in_lower, number_in_upper}
use Rattle.paris_code.specs.Checking.{any_leaves, is_outside}
use Rattle.paris_code.specs.Shapes.{extents_at}
use Rattle.phase_meaning.proofs.Lines.{moved_is}
use Rattle.source_meaning.specs.Gets.{Operand, are_within, index_at, is_within}
use Rattle.communication_laws.specs.Steps.{AllLead, ChecksOfStepsAreTheLanguages, StepsWithinMove, SumsWithStepsAreRead, steps_from}
use Rattle.communication_laws.proofs.Failing.{fails_alike}
use Rattle.communication_laws.proofs.Indexes.{neither}
use Rattle.communication_laws.proofs.IndexWords.{outside_is, within_number}

pub sums_with_steps : SumsWithStepsAreRead
sums_with_steps own by few (word, inl on) =
    ap (number_of 32 true) (mod-eq_of_lt (let e : own + by < 2 ^ 32 = omega (arith, few, on) in e)) ∙ number_in_lower 32 (own + by) (omega (arith, few, on))
    ∙ (let e : pos (own + by) ≡ pos own +ℤ pos by = omega (arith, ints) in e) ∙ sym (ap (λ z. pos own +ℤ z) (number_in_lower 32 by (omega (arith, on))))
sums_with_steps own by few (word, inr back) = elim (cases_lt (own + by) (2 ^ 32)) [
  | inl below ↦
      ap (number_of 32 true) (mod-eq_of_lt below) ∙ number_in_upper 32 (own + by) (omega (arith, few, back))
      ∙ (let e : pos (own + by) -ℤ pos (2 ^ 32) ≡ pos own +ℤ (pos by -ℤ pos (2 ^ 32)) = omega (arith, ints) in e) ∙ sym (ap (λ z. pos own +ℤ z) (number_in_upper 32 by (omega (arith, back))))
  | inr past ↦
      ap (number_of 32 true) (let e : (own + by) % 2 ^ 32 ≡ own + by - 2 ^ 32 = omega (arith, few, past, word) in e) ∙ number_in_lower 32 (own + by - 2 ^ 32) (omega (arith, few, word))
      ∙ (let e : pos (own + by - 2 ^ 32) ≡ pos own +ℤ (pos by -ℤ pos (2 ^ 32)) = omega (arith, ints, past) in e) ∙ sym (ap (λ z. pos own +ℤ z) (number_in_upper 32 by (omega (arith, back))))
]

pub steps_within_move : StepsWithinMove
steps_within_move extent own step is =
    let within = within_number extent (pos own +ℤ step) is in
    sym (moved_is extent own (unsigned_abs (pos own +ℤ step)) step within.0 within.1)

-- a step leaves where the language says so, from an axis on
any_leaves_is : (extents : List ℕ) (p : ℕ) (args later : List ℕ) (axis : ℕ) (indexes : List Operand) (moves : List (Option ℕ)) → ((j : ℕ) → slice_index later j ≡ slice_index extents (axis + j)) → length indexes ≡ length later
    → AllLead extents p axis indexes moves → any_leaves extents (steps_from axis moves) args p ≡ not (are_within later indexes p)
unfolding are_within
any_leaves_is extents p args [] axis [] [] from many lead = refl
any_leaves_is extents p args [] axis [] (move ∷ moves) from many lead = absurd lead
any_leaves_is extents p args [] axis (index ∷ indexes) moves from many lead = absurd (omega (arith, many))
any_leaves_is extents p args (extent ∷ later) axis [] moves from many lead = absurd (omega (arith, many))
any_leaves_is extents p args (extent ∷ later) axis (index ∷ indexes) [] from many lead = absurd lead
any_leaves_is extents p args (extent ∷ later) axis (index ∷ indexes) (None ∷ moves) from many lead =
    any_leaves_is extents p args later (axis + 1) indexes moves (λ j. from (suc j) ∙ ap (slice_index extents) (omega arith)) (omega (arith, many)) lead.1
    ∙ sym (ap (λ t. not (t && are_within later indexes p)) (ap (λ n. is_within n (index_at index p)) (from 0 ∙ ap (slice_index extents) (let e : axis + 0 ≡ axis = omega arith in e)) ∙ lead.0))
any_leaves_is extents p args (extent ∷ later) axis (index ∷ indexes) (Some by ∷ moves) from many lead =
    ap (λ z. is_outside (slice_index extents axis) z || any_leaves extents (steps_from (axis + 1) moves) args p) (sym lead.0)
    ∙ ap (λ n. is_outside n (index_at index p) || any_leaves extents (steps_from (axis + 1) moves) args p) (sym (from 0 ∙ ap (slice_index extents) (let e : axis + 0 ≡ axis = omega arith in e)))
    ∙ ap (λ t. t || any_leaves extents (steps_from (axis + 1) moves) args p) (outside_is extent (index_at index p))
    ∙ ap (λ t. not (is_within extent (index_at index p)) || t) (any_leaves_is extents p args later (axis + 1) indexes moves (λ j. from (suc j) ∙ ap (slice_index extents) (omega arith)) (omega (arith, many)) lead.1)
    ∙ neither (is_within extent (index_at index p)) (are_within later indexes p)

pub checks_of_steps : ChecksOfStepsAreTheLanguages
checks_of_steps shapes m args scope active set place checked moves indexes own many are alike lead =
    fails_alike shapes m scope active set (λ p. any_leaves (extents_at shapes set) checked.items args p) (λ p. not (are_within (scope.extents set) indexes p)) own alike (λ p b on.
    ap (λ extents. any_leaves extents checked.items args p) own ∙ ap (λ steps. any_leaves (scope.extents set) steps args p) are
    ∙ any_leaves_is (scope.extents set) p args (scope.extents set) 0 indexes moves (λ j. ap (slice_index (scope.extents set)) (let e : j ≡ 0 + j = omega arith in e)) many (lead p b on))
