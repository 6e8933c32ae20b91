-- Which entries are lent: an entry of some unit stands for them. The flags have a list for each unit.
use Rattle.std.specs.Prelude.{◌≡◌, ◌⊎◌, ℕ, ◌<◌, List, [], Bool, true, false, Some, Vec, length}
use Rattle.std.specs.List.{slice_get, slice_index_or}
use Rattle.std.specs.declared.alloc.Global.{Global}
use Rattle.paris_code.specs.declared.program.Owner.TheVariants as O
use Rattle.paris_code.specs.declared.program.Unit.{Unit as CodeUnit}
use Rattle.paris_code.specs.declared.program.Virtual.{Virtual}
use Rattle.paris_code.specs.Proper.{IsEntry}

abbrev pub flags_of : Vec Bool Global → List Bool
flags_of v = v.items

-- one of these entries stands for the entry of a unit
abbrev pub StandFor : List Virtual → ℕ → ℕ → Type 0
StandFor entries number entry =
    (index : ℕ) × ((virtual : Virtual) × (slice_get entries index ≡ Some virtual) × (virtual.owner ≡ O.Of number entry))

-- an entry of one of these units does; in the units of a program this is its `IsLent`
abbrev pub IsLentBy : List CodeUnit → ℕ → ℕ → Type 0
IsLentBy units number entry =
    (other : ℕ) × ((unit : CodeUnit) × ((index : ℕ) × ((virtual : Virtual) × (slice_get units other ≡ Some unit) × IsEntry unit index virtual × (virtual.owner ≡ O.Of number entry))))

-- the flag of an entry is set; that of an entry of a unit is
abbrev pub HasFlag : List Bool → ℕ → Type 0
HasFlag flags entry = slice_index_or flags entry false ≡ true

abbrev pub IsFlagged : List (List Bool) → ℕ → ℕ → Type 0
IsFlagged flags number entry = HasFlag (slice_index_or flags number []) entry

-- the flags of the named entries were set, and no others
pub record AreMarked (Named : ℕ → ℕ → Type 0) (before after : List (List Bool)) : Type 0 where
  pub long : (number : ℕ) → length (slice_index_or after number []) ≡ length (slice_index_or before number [])
  pub kept : (number entry : ℕ) → IsFlagged before number entry → IsFlagged after number entry
  pub marked : (number entry : ℕ) → Named number entry → entry < length (slice_index_or after number []) → IsFlagged after number entry
  pub only : (number entry : ℕ) → IsFlagged after number entry → IsFlagged before number entry ⊎ Named number entry

-- each unit has a flag for each entry, and none is set
pub record AreUnmarked (units : List CodeUnit) (flags : List (List Bool)) : Type 0 where
  pub long : (number : ℕ) (unit : CodeUnit) → slice_get units number ≡ Some unit → length (slice_index_or flags number []) ≡ length unit.fields.items
  pub none : (number entry : ℕ) → IsFlagged flags number entry → ⊥

-- the flags of the lent entries are set, and no others
pub record AreLentFlags (units : List CodeUnit) (flags : List (List Bool)) : Type 0 where
  pub lent : (number entry : ℕ) (unit : CodeUnit) → slice_get units number ≡ Some unit → entry < length unit.fields.items → IsLentBy units number entry → IsFlagged flags number entry
  pub only : (number entry : ℕ) → IsFlagged flags number entry → IsLentBy units number entry
