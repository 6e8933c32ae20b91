-- The machine's addresses and checks of left indexes are the language's.
use Rattle.std.specs.Prelude.{◌≡◌, ℕ, ◌<◌, ◌^◌, true, not, List, [], ◌∷◌, length, Option, Some, None}
use Rattle.vp_sets.specs.Positions.{is_geometry, position_count}
use Rattle.cstar_base.specs.declared.operators.Place.{Place}
use Rattle.cstar_base.specs.Numbers.{converted}
use Rattle.lower_base.specs.Operators.{is_signed}
use Rattle.paris_code.specs.declared.instr.Instr.TheVariants as I
use Rattle.paris_code.specs.declared.operands.Coordinate.{Coordinate}
use Rattle.paris_code.specs.declared.operands.Coordinate.TheVariants as C
use Rattle.paris_code.specs.declared.operands.Field.{Field}
use Rattle.paris_code.specs.declared.operands.SignedCoordinate.{SignedCoordinate}
use Rattle.paris_code.specs.Arguments.{behind_coordinate, coordinate_number}
use Rattle.paris_code.specs.Checking.{least_failing, set_of_coordinates}
use Rattle.paris_code.specs.Elementwise.{element}
use Rattle.paris_code.specs.Memory.{BitMemory, processors}
use Rattle.paris_code.specs.Shapes.{SetShape, extents_at}
use Rattle.source_meaning.specs.Gets.{Operand, are_within, named_by}
use Rattle.source_meaning.specs.Reductions.{int_type}
use Rattle.source_meaning.specs.Values.{Active, Scope, at, failing}
use Rattle.communication_laws.specs.Holding.{HasActive}

-- Indexes that lie within their extents name a position.
abbrev pub IndexesWithinNamePositions : Type 0
IndexesWithinNamePositions = (extents : List ℕ) (indexes : List Operand) (p : ℕ) → are_within extents indexes p ≡ true → named_by extents indexes p < position_count extents

-- the word of an index at a position, which is promoted where its type is narrow
abbrev pub index_word : Operand → ℕ → ℕ
index_word index p = converted int_type index.elem (at index.value p)

-- a coordinate that is a field has 32 bits
abbrev pub IsWide : Coordinate → Type 0
IsWide (C.Field f) = f.len ≡ 32
IsWide (C.Reg r) = Unit {0}

-- a coordinate has an index of its type at a position
pub record HasIndex (m : BitMemory) (args : List ℕ) (p : ℕ) (c : Coordinate) (index : Operand) : Type 0 where
  pub wide : IsWide c
  pub word : coordinate_number m c args p ≡ index_word index p
  pub small : at index.value p < 2 ^ index.elem.bits

-- and so of as many
abbrev pub HasIndexes : BitMemory → List ℕ → ℕ → List Coordinate → List Operand → Type 0
HasIndexes m args p [] [] = Unit {0}
HasIndexes m args p (c ∷ cs) (index ∷ indexes) = HasIndex m args p c index × HasIndexes m (behind_coordinate c args) p cs indexes
HasIndexes m args p _ _ = ⊥

-- The machine makes of them the number of the position that they name, where they lie within their extents.
abbrev pub AddressesAreTheLanguages : Type 0
AddressesAreTheLanguages =
    (shapes : List SetShape) (m : BitMemory) (args : List ℕ) (d : Field) (set : ℕ) (coordinates : _) (indexes : List Operand) (p : ℕ)
    → is_geometry (extents_at shapes set) ≡ true → HasIndexes m args p coordinates.items indexes → are_within (extents_at shapes set) indexes p ≡ true
    → element shapes (I.MakeAddress d set coordinates) args m p ≡ named_by (extents_at shapes set) indexes p

-- what is checked: each coordinate by the sign of its index, that of a narrow type too
abbrev pub with_signs : List Operand → List Coordinate → List SignedCoordinate
with_signs [] cs = []
with_signs (index ∷ indexes) [] = []
with_signs (index ∷ indexes) (c ∷ cs) = record { coordinate = c; signed = is_signed index.elem } ∷ with_signs indexes cs

-- where a check of a set fails, if it does
abbrev pub failing_at : Option ℕ → Option (Option ℕ)
failing_at None = None
failing_at (Some p) = Some (Some p)

-- Where the coordinates have the indexes at the active positions of the set that checks them, the check fails where an
-- index of the language does not lie within its extent, and nowhere where all do.
abbrev pub ChecksOfIndexesAreTheLanguages : Type 0
ChecksOfIndexesAreTheLanguages =
    (shapes : List SetShape) (m : BitMemory) (args : List ℕ) (scope : Scope) (active : Active) (set of : ℕ) (place : Place) (checked : _) (coordinates : List Coordinate) (indexes : List Operand)
    → extents_at shapes set ≡ scope.extents set → extents_at shapes of ≡ scope.extents of → length indexes ≡ length (scope.extents of)
    → checked.items ≡ with_signs indexes coordinates → set_of_coordinates of checked.items ≡ set → HasActive shapes m set (active set)
    → ((p : ℕ) → p < processors shapes set → active set p ≡ true → HasIndexes m args p coordinates indexes)
    → failing scope active (Some set) (λ p. not (are_within (scope.extents of) indexes p)) ≡ failing_at (least_failing shapes (I.CheckTarget of place checked) args m)
