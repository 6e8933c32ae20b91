-- What a source gives of the bytes that it has left, where it tells them.
use Rattle.std.specs.Prelude.{◌≡◌, ℕ, List, [], ◌∷◌, ◌++◌, Option, Some, None, IfSome, option_map, Result, Ok, Err, drop, take}
use Rattle.std.specs.Io.KnownBytes.{prepend_known}

-- these bytes were taken from the front of what was left, and nothing else
abbrev pub Took : Option (List ℕ) → List ℕ → Option (List ℕ) → Type 0
Took old bytes new = old ≡ option_map (λ rest. bytes ++ rest) new

-- a byte is the first of what was left; at the end nothing was left, and there and after a failure nothing is taken
abbrev pub Gives : {E : Type 0} → Result (Option ℕ) E → Option (List ℕ) → Option (List ℕ) → Type 0
Gives (Ok (Some byte)) old new = Took old (byte ∷ []) new
Gives (Ok None) old new = (new ≡ old) × IfSome old (λ rest. rest ≡ [])
Gives (Err e) old new = new ≡ old

-- the bytes of a piece that was read ahead, from `at` to `end`, and then those that the reader has left
abbrev pub ahead : List ℕ → ℕ → ℕ → Option (List ℕ) → Option (List ℕ)
ahead piece at end rest = prepend_known (drop at (take end piece)) rest
