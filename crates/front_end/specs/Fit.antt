-- Which states of the front end fit an image.
use Rattle.std.specs.Prelude.{◌≡◌, ℕ, ◌+◌, ◌<◌, List, [], ◌∷◌, length}
use Rattle.paris_code.specs.declared.instr.Instr.TheVariants as I
use Rattle.paris_code.specs.declared.program.Image.{Image}
use Rattle.paris_code.specs.Units.{unit_of, IsAt, IsInUnitOf}

-- directly before the place, in its unit, stands a call of the unit `called`
abbrev pub IsBehindCall : Image → ℕ → ℕ → Type 0
IsBehindCall image place called =
    (call : ℕ) × (call + 1 ≡ place) × IsAt image call (I.FrontCall called) × IsInUnitOf image place call

-- each place stands behind a call: the first in the unit `unit`, each next one in the unit that the
-- one before it calls; and `at` stands in the unit that the last one calls, or in `unit`
abbrev pub IsChain : Image → ℕ → List ℕ → ℕ → Type 0
IsChain image unit [] at = unit_of image at ≡ unit
IsChain image unit (place ∷ places) at =
    (unit_of image place ≡ unit) × ((called : ℕ) × IsBehindCall image place called × IsChain image called places at)

-- a place of the code with the return places of the calls that are open there
abbrev pub IsPlace : Image → ℕ → List ℕ → Type 0
IsPlace image at returns = (at < length image.code.items) × IsChain image 0 returns at
