-- The machine's checks of steps to neighbours are the language's of the indexes that lead there.
use Rattle.std.specs.Prelude.{◌≡◌, ℕ, ℤ, pos, ◌+ℤ◌, ◌+◌, ◌<◌, ◌≤◌, ◌^◌, ◌%◌, ◌⊎◌, true, not, List, [], ◌∷◌, length, slice_index, unsigned_abs, Option, Some, None}
use Rattle.vp_sets.specs.Positions.{coordinate, moved}
use Rattle.cstar_base.specs.declared.operators.Place.{Place}
use Rattle.cstar_base.specs.Numbers.{number_of}
use Rattle.paris_code.specs.declared.instr.Instr.TheVariants as I
use Rattle.paris_code.specs.declared.operands.GridStep.{GridStep}
use Rattle.paris_code.specs.declared.operands.Konst.TheVariants as K
use Rattle.paris_code.specs.Checking.{least_failing}
use Rattle.paris_code.specs.Memory.{BitMemory, processors}
use Rattle.paris_code.specs.Shapes.{SetShape, extents_at}
use Rattle.source_meaning.specs.Gets.{Operand, are_within, index_at, is_within}
use Rattle.source_meaning.specs.Values.{Active, Scope, failing}
use Rattle.communication_laws.specs.Holding.{HasActive}
use Rattle.communication_laws.specs.Indexes.{failing_at}

-- a word is a step of at most 2^20 coordinates, in either direction
abbrev pub IsStep : ℕ → Type 0
IsStep by = (by < 2 ^ 32) × ((by ≤ 2 ^ 20) ⊎ (2 ^ 32 ≤ by + 2 ^ 20))

-- The sum of a coordinate and a step, as a word, is read as their sum.
abbrev pub SumsWithStepsAreRead : Type 0
SumsWithStepsAreRead =
    (own by : ℕ) → own ≤ 2 ^ 20 → IsStep by → number_of 32 true ((own + by) % 2 ^ 32) ≡ pos own +ℤ number_of 32 true by

-- An index that is such a sum and lies within its extent names the coordinate that the step leads to.
abbrev pub StepsWithinMove : Type 0
StepsWithinMove =
    (extent own : ℕ) (step : ℤ) → is_within extent (pos own +ℤ step) ≡ true → unsigned_abs (pos own +ℤ step) ≡ moved extent own step

-- the steps of a check, from an axis on: some axes have one
abbrev pub steps_from : ℕ → List (Option ℕ) → List GridStep
steps_from axis [] = []
steps_from axis (None ∷ moves) = steps_from (axis + 1) moves
steps_from axis (Some by ∷ moves) = record { axis = axis; step = K.Imm by } ∷ steps_from (axis + 1) moves

-- an index leads from a coordinate by a step, or else stays within its extent
abbrev pub Leads : ℕ → ℕ → Option ℕ → ℤ → Type 0
Leads extent own None index = is_within extent index ≡ true
Leads extent own (Some by) index = index ≡ pos own +ℤ number_of 32 true by

-- and so from an axis on
abbrev pub AllLead : List ℕ → ℕ → ℕ → List Operand → List (Option ℕ) → Type 0
AllLead extents p axis [] [] = Unit {0}
AllLead extents p axis (index ∷ indexes) (move ∷ moves) = Leads (slice_index extents axis) (coordinate extents p axis) move (index_at index p) × AllLead extents p (axis + 1) indexes moves
AllLead extents p axis _ _ = ⊥

-- Where the indexes lead by the steps from each active position, a check of the steps fails where an index of the
-- language does not lie within its extent, and nowhere where all do.
abbrev pub ChecksOfStepsAreTheLanguages : Type 0
ChecksOfStepsAreTheLanguages =
    (shapes : List SetShape) (m : BitMemory) (args : List ℕ) (scope : Scope) (active : Active) (set : ℕ) (place : Place) (checked : _) (moves : List (Option ℕ)) (indexes : List Operand)
    → extents_at shapes set ≡ scope.extents set → length indexes ≡ length (scope.extents set)
    → checked.items ≡ steps_from 0 moves → HasActive shapes m set (active set)
    → ((p : ℕ) → p < processors shapes set → active set p ≡ true → AllLead (scope.extents set) p 0 indexes moves)
    → failing scope active (Some set) (λ p. not (are_within (scope.extents set) indexes p)) ≡ failing_at (least_failing shapes (I.CheckGrid set place checked) args m)
