-- What the sources, sinks and shelves in memory show.
use Rattle.std.specs.Prelude.{ℕ, ◌+◌, ◌-◌, ◌^◌, min, Bool, ◌==◌, if◌then◌else◌, List, [], ◌∷◌, Option, Some, None}
use Rattle.std.specs.List.{list_any}
use Rattle.std.specs.Cmp.Lexicographic.{pointwise}

-- whether the call behind this many is one of those that are to fail
abbrev pub next_is_listed : ℕ → List ℕ → Bool
next_is_listed made failing = list_any (λ number. number == made + 1) failing

-- a count of 64 bits that stops at its last value
abbrev pub one_more : ℕ → ℕ
one_more count = min (count + 1) (2 ^ 64 - 1)

-- the bytes under a name in a list of named entries: those of the first entry of this name
abbrev pub under : {X : Type 0} → List X → (X → List ℕ) → (X → List ℕ) → List ℕ → Option (List ℕ)
under [] name_of bytes_of name = None
under (x ∷ xs) name_of bytes_of name =
    if pointwise ◌==◌ (name_of x) name then Some (bytes_of x) else under xs name_of bytes_of name
