-- The checks: which processors fail, and the least of the active ones that do.
use Rattle.std.specs.Prelude.{ℕ, ℤ, Bool, true, false, pos, ◌+ℤ◌, ◌==◌, ◌&&◌, ◌||◌, int_lt, int_le, List, [], ◌∷◌, slice_index, Option}
use Rattle.vp_sets.specs.Positions.{coordinate}
use Rattle.cstar_base.specs.Numbers.{number_of}
use Rattle.paris_code.specs.declared.operands.Coordinate.{Coordinate}
use Rattle.paris_code.specs.declared.operands.Coordinate.TheVariants as C
use Rattle.paris_code.specs.declared.operands.SignedCoordinate.{SignedCoordinate}
use Rattle.paris_code.specs.declared.operands.GridStep.{GridStep}
use Rattle.paris_code.specs.declared.instr.Instr.{Instr}
use Rattle.paris_code.specs.declared.instr.Instr.TheVariants as I
use Rattle.paris_code.specs.Arguments.{konst_number, behind_konst, coordinate_whole, behind_coordinate}
use Rattle.paris_code.specs.Memory.{BitMemory, field_number, is_active, processors}
use Rattle.paris_code.specs.Operands.{coordinate_of, konst_of}
use Rattle.cstar_base.specs.Orders.{least_below}
use Rattle.paris_code.specs.RuleSet.{axis_of}
use Rattle.paris_code.specs.Shapes.{SetShape, extents_at}

-- a whole number is no coordinate of an axis with this extent
unfoldable pub is_outside : ℕ → ℤ → Bool
is_outside extent number = int_lt number (pos 0) || int_le (pos extent) number

-- is a coordinate read in two's complement
abbrev pub is_signed : SignedCoordinate → Bool
is_signed c = c.signed

-- a coordinate of a processor is outside its extent
abbrev pub any_outside : BitMemory → List ℕ → List SignedCoordinate → List ℕ → ℕ → Bool
any_outside m [] list args p = false
any_outside m (extent ∷ extents) [] args p = false
any_outside m (extent ∷ extents) (c ∷ rest) args p =
    is_outside extent (coordinate_whole m (is_signed c) (coordinate_of c) args p)
    || any_outside m extents rest (behind_coordinate (coordinate_of c) args) p

-- a step from a processor leads out of the grid
abbrev pub any_leaves : List ℕ → List GridStep → List ℕ → ℕ → Bool
any_leaves extents [] args p = false
any_leaves extents (s ∷ rest) args p =
    is_outside (slice_index extents (axis_of s)) (pos (coordinate extents p (axis_of s)) +ℤ number_of 32 true (konst_number (konst_of s) args))
    || any_leaves extents rest (behind_konst (konst_of s) args) p

-- the set of a coordinate that is a field
abbrev pub set_or_later : Coordinate → ℕ → ℕ
set_or_later (C.Field f) later = f.set
set_or_later (C.Reg r) later = later

-- the set of the first field among coordinates, or else the target's
abbrev pub set_of_coordinates : ℕ → List SignedCoordinate → ℕ
set_of_coordinates target [] = target
set_of_coordinates target (c ∷ rest) = set_or_later (coordinate_of c) (set_of_coordinates target rest)

-- the set whose active processors are checked
abbrev pub checked_set : Instr → ℕ
checked_set (I.CheckTarget set place coordinates) = set_of_coordinates set coordinates.items
checked_set (I.CheckGrid set place steps) = set
checked_set (I.CheckDivisor place a) = a.set
checked_set _ = 0

-- the check fails at a processor
abbrev pub fails : List SetShape → Instr → List ℕ → BitMemory → ℕ → Bool
fails shapes (I.CheckTarget set place coordinates) args m p = any_outside m (extents_at shapes set) coordinates.items args p
fails shapes (I.CheckGrid set place steps) args m p = any_leaves (extents_at shapes set) steps.items args p
fails shapes (I.CheckDivisor place a) args m p = field_number m a p == 0
fails shapes _ args m p = false

-- the least active processor at which the check fails
abbrev pub least_failing : List SetShape → Instr → List ℕ → BitMemory → Option ℕ
least_failing shapes instr args m =
    least_below (λ p. is_active shapes m (checked_set instr) p && fails shapes instr args m p) (processors shapes (checked_set instr))
