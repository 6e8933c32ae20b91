-- The steps of a grid check that name an axis more than once.
use Rattle.std.specs.Prelude.{◌≡◌, ◌≢◌, ℕ, ◌<◌, List, Some}
use Rattle.std.specs.List.{slice_get}
use Rattle.paris_code.specs.declared.operands.GridStep.{GridStep}
use Rattle.paris_code.specs.RuleSet.{axis_of}

-- no two of the first so many steps name one axis
abbrev pub AreDistinct : List GridStep → ℕ → Type 0
AreDistinct steps count =
    (j k : ℕ) (a b : GridStep) → j < k → k < count → slice_get steps j ≡ Some a → slice_get steps k ≡ Some b → axis_of a ≢ axis_of b
