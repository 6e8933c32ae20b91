-- The instances of a program, as they are met by a walk over the bodies of those met before.
use Rattle.std.specs.Prelude.{◌≡◌, ◌≤◌, ℕ, zero, suc, List, [], ◌∷◌, slice_get, Option, Some, None}
use Rattle.cstar_tree.specs.Headers.{Placed, Reached}
use Rattle.cstar_tree.specs.Instances.{after_rounds, calls_of, reached_by}
use Rattle.type_expressions.specs.Meetings.{meeting}

-- the instances that a function under a current shape calls
abbrev pub called_by : List (List ℕ) → List Placed → Reached → List Reached
called_by shapes functions r = reached_by (calls_of shapes functions r)

abbrev pub with_called : (Reached → List Reached) → List Reached → Option Reached → List Reached
with_called called before None = before
with_called called before (Some r) = meeting before (called r)

-- the instances that were met when so many of them were walked over, the first first
unfoldable pub met_behind : (Reached → List Reached) → Reached → ℕ → List Reached
met_behind called main zero = main ∷ []
met_behind called main (suc n) = with_called called (met_behind called main n) (slice_get (met_behind called main n) n)

-- When none is left to be walked over, those that were met are the program's.
abbrev pub MetInstancesAreThePrograms : Type 0
MetInstancesAreThePrograms =
    (shapes : List (List ℕ)) (functions : List Placed) (main : Reached) (walked rounds : ℕ) → walked ≤ rounds → slice_get (met_behind (called_by shapes functions) main walked) walked ≡ None →
    after_rounds rounds shapes functions main ≡ met_behind (called_by shapes functions) main walked
