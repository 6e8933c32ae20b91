-- What a sink takes, told by the lists of bytes that it agrees with before and after.
use Rattle.std.specs.Prelude.{ℕ, List, ◌++◌, take}

-- the sink took these bytes: where it agreed with a list, it agrees with that list followed by them
abbrev pub Takes : {S : Type 0} → (S → List ℕ → Type 0) → S → S → List ℕ → Type 0
Takes agrees old new bytes = (before : List ℕ) → agrees old before → agrees new (before ++ bytes)

-- the sink took the first of these bytes, however many
abbrev pub TakesPrefix : {S : Type 0} → (S → List ℕ → Type 0) → S → S → List ℕ → Type 0
TakesPrefix agrees old new bytes = (count : ℕ) × Takes agrees old new (take count bytes)

-- the sink took nothing
abbrev pub TakesNothing : {S : Type 0} → (S → List ℕ → Type 0) → S → S → Type 0
TakesNothing agrees old new = (before : List ℕ) → agrees old before → agrees new before
