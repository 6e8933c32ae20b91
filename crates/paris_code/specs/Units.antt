-- Where the units of an image lie in its code, and which chains of calls there are.
use Rattle.std.specs.Prelude.{◌≡◌, ℕ, zero, suc, ◌-◌, ◌<◌, List, [], ◌∷◌, map, length, nat_le, if◌then◌else◌, Some}
use Rattle.std.specs.List.{slice_get, slice_index}
use Rattle.paris_code.specs.declared.instr.Instr.{Instr}
use Rattle.paris_code.specs.declared.instr.Instr.TheVariants as I
use Rattle.paris_code.specs.declared.program.Entry.{Entry}
use Rattle.paris_code.specs.declared.program.Image.{Image}

abbrev pub start_of : Entry → ℕ
start_of entry = entry.start

abbrev pub starts_of : Image → List ℕ
starts_of image = map start_of image.units.items

-- where a unit begins
abbrev pub start_at : Image → ℕ → ℕ
start_at image unit = slice_index (starts_of image) unit

-- how many of the units, whose starts are in order, begin at or before a place
unfoldable pub started : List ℕ → ℕ → ℕ
started [] place = 0
started (start ∷ starts) place = if nat_le start place then suc (started starts place) else 0

-- the unit in which an instruction stands
abbrev pub unit_of : Image → ℕ → ℕ
unit_of image place = started (starts_of image) place - 1

-- the instruction at a place
abbrev pub IsAt : Image → ℕ → Instr → Type 0
IsAt image place instr = slice_get image.code.items place ≡ Some instr

-- the place is one of the code, in the same unit as another place
abbrev pub IsInUnitOf : Image → ℕ → ℕ → Type 0
IsInUnitOf image place other =
    (place < length image.code.items) × (unit_of image place ≡ unit_of image other)

-- a chain of this many calls leads from one unit to another
abbrev pub Path : Image → ℕ → ℕ → ℕ → Type 0
Path image zero from to = from ≡ to
Path image (suc calls) from to =
    (place : ℕ) × IsAt image place (I.FrontCall to) × Path image calls from (unit_of image place)
