-- How many instructions a run can still begin.
use Rattle.std.specs.Prelude.{ℕ, zero, suc, ◌+◌, ◌*◌, Bool, true, false, ◌==◌, ◌&&◌, ◌||◌, nat_le, List, [], ◌∷◌, length, Option, Some}
use Rattle.std.specs.List.{slice_get}
use Rattle.paris_code.specs.declared.instr.Instr.{Instr}
use Rattle.paris_code.specs.declared.instr.Instr.TheVariants as I
use Rattle.paris_code.specs.declared.program.Image.{Image}
use Rattle.paris_code.specs.Units.{unit_of}

abbrev pub is_turn : Option Instr → Bool
is_turn (Some I.FrontTurn) = true
is_turn _ = false

-- a place stands at or behind one of these, in its unit
unfoldable pub is_behind : Image → List ℕ → ℕ → Bool
is_behind image [] place = false
is_behind image (x ∷ xs) place = (unit_of image x == unit_of image place && nat_le x place) || is_behind image xs place

-- before the next turn is spent only these can be begun: what stands at or behind where the code is
-- or will return to, and the turns
unfoldable pub is_ahead : Image → List ℕ → ℕ → Bool
is_ahead image places place = is_turn (slice_get image.code.items place) || is_behind image places place

abbrev pub one_if : Bool → ℕ
one_if true = 1
one_if false = 0

-- how many of the numbers below n pass
unfoldable pub count_below : (ℕ → Bool) → ℕ → ℕ
count_below passes zero = 0
count_below passes (suc n) = count_below passes n + one_if (passes n)

-- at most so many instructions can be begun from an instruction, with so many turns, in so long a
-- code, where so many places are ahead
abbrev pub most_from : Option Instr → ℕ → ℕ → ℕ → ℕ
most_from (Some I.FrontTurn) turns all ahead = turns * all + 1
most_from (Some (I.FrontCall unit)) turns all ahead = turns * all + all
most_from _ turns all ahead = turns * all + ahead

-- the same from a place with its open calls
unfoldable pub most_left : Image → ℕ → List ℕ → ℕ → ℕ
most_left image at returns turns =
    most_from (slice_get image.code.items at) turns (length image.code.items) (count_below (λ place. is_ahead image (at ∷ returns) place) (length image.code.items))
