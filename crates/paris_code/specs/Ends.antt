-- The ends of a unit's own entries, as the highest stacks under them have them.
use Rattle.std.specs.Prelude.{◌≡◌, ℕ, ◌+◌, ◌≤◌, ◌⊎◌, List, ◌∷◌, sum_by}
use Rattle.paris_code.specs.declared.program.Program.{Program}
use Rattle.paris_code.specs.declared.program.Unit.{Unit as CodeUnit}
use Rattle.paris_code.specs.Proper.{HeightWithin, IsBelow, IsOwn, IsStack, IsUnit, length_of}

-- each end is as long as the entry is above the greatest end of those below
pub record AreEnds (program : Program) (number : ℕ) (unit : CodeUnit) (ends : ℕ → ℕ) : Type 0 where
  pub above : (entry set len other : ℕ) → IsOwn unit entry set len → IsBelow program number unit set entry other → ends other + len ≤ ends entry
  pub exact : (entry set len : ℕ) → IsOwn unit entry set len → (ends entry ≡ len) ⊎ ((other : ℕ) × IsBelow program number unit set entry other × (ends entry ≡ ends other + len))

-- the end of an entry is the height of the highest stack that ends with it
abbrev pub EndsAreStacks : Program → Type 0
EndsAreStacks program =
    (number set entry len : ℕ) (unit : CodeUnit) (ends : ℕ → ℕ) → AreEnds program number unit ends → IsOwn unit entry set len
    → ((entries : List ℕ) → IsStack program number unit set (entry ∷ entries) → sum_by (length_of unit) (entry ∷ entries) ≤ ends entry)
    × ((entries : List ℕ) × IsStack program number unit set (entry ∷ entries) × (sum_by (length_of unit) (entry ∷ entries) ≡ ends entry))

-- no height is below the length of an own entry of the set, in whatever unit
abbrev pub HeightsHoldEntries : Program → Type 0
HeightsHoldEntries program =
    (set most number entry len : ℕ) (unit : CodeUnit) → HeightWithin program set most → IsUnit program number unit → IsOwn unit entry set len → len ≤ most
