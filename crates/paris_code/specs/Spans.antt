-- How long the entries of a unit's fields are in use.
use Rattle.std.specs.Prelude.{◌≡◌, ℕ, ◌<◌, ◌≤◌, ◌⊎◌, List, [], ◌∷◌, Any, Some, option_to_list}
use Rattle.std.specs.List.{slice_get, flat_map}
use Rattle.paris_code.specs.declared.operands.Coordinate.{Coordinate}
use Rattle.paris_code.specs.declared.operands.Coordinate.TheVariants as C
use Rattle.paris_code.specs.declared.operands.Field.{Field}
use Rattle.paris_code.specs.declared.instr.Instr.{Instr}
use Rattle.paris_code.specs.declared.instr.Instr.TheVariants as I
use Rattle.paris_code.specs.declared.program.Owner.{Owner}
use Rattle.paris_code.specs.declared.program.Owner.TheVariants as Owns
use Rattle.paris_code.specs.declared.program.Unit.{Unit as CodeUnit}
use Rattle.paris_code.specs.Operands.{coordinate_of}
use Rattle.paris_code.specs.Rows.{Operand, row_of, target_of}
use Rattle.paris_code.specs.Rows as O

abbrev pub fields_of_coordinate : Coordinate → List Field
fields_of_coordinate (C.Field f) = f ∷ []
fields_of_coordinate (C.Reg r) = []

-- the fields of an operand, and those that an instruction names
abbrev pub fields_of_operand : Operand → List Field
fields_of_operand (O.Bits f length) = f ∷ []
fields_of_operand (O.Bit mode bit) = option_to_list bit
fields_of_operand (O.Coordinates set list) = flat_map fields_of_coordinate list
fields_of_operand (O.Checked set list) = flat_map (λ c. fields_of_coordinate (coordinate_of c)) list
fields_of_operand _ = []

abbrev pub fields_of : Instr → List Field
fields_of instr = flat_map fields_of_operand (row_of instr)

-- before placing, the offset of a field is the number of an entry
abbrev pub entry_of : Field → ℕ
entry_of f = f.offset

-- an instruction stands at a place of a unit; it names an entry there
abbrev pub StandsAt : CodeUnit → ℕ → Instr → Type 0
StandsAt unit at instr = slice_get unit.code.items at ≡ Some instr

abbrev pub IsNamedAt : CodeUnit → ℕ → ℕ → Type 0
IsNamedAt unit entry at = (instr : Instr) × StandsAt unit at instr × Any (λ f. entry_of f ≡ entry) (fields_of instr)

-- the instructions from the first to the last
pub record Span : Type 0 where
  pub first : ℕ
  pub last : ℕ

abbrev pub Holds : Span → ℕ → Type 0
Holds span at = (span.first ≤ at) × (at ≤ span.last)

abbrev pub Meet : Span → Span → Type 0
Meet one other = (one.first ≤ other.last) × (other.first ≤ one.last)

abbrev pub LiesWithin : Span → Span → Type 0
LiesWithin inner outer = (outer.first ≤ inner.first) × (inner.last ≤ outer.last)

-- the stretch of a jump that does not lead forward
abbrev pub JumpsTo : Instr → ℕ → Type 0
JumpsTo instr place = target_of instr ≡ Some place

abbrev pub IsStretch : CodeUnit → Span → Type 0
IsStretch unit span = (jump : Instr) × StandsAt unit span.last jump × JumpsTo jump span.first × (span.first ≤ span.last)

-- the first place at which an entry is named, and the first call of a unit behind a place
abbrev pub IsFirstNamed : CodeUnit → ℕ → ℕ → Type 0
IsFirstNamed unit entry at = IsNamedAt unit entry at × ((other : ℕ) → IsNamedAt unit entry other → at ≤ other)

abbrev pub IsNextCall : CodeUnit → ℕ → ℕ → ℕ → Type 0
IsNextCall unit called behind at =
    (behind < at) × StandsAt unit at (I.FrontCall called) × ((other : ℕ) → behind < other → StandsAt unit other (I.FrontCall called) → at ≤ other)

-- the entry of another unit is in use up to the call of that unit
abbrev pub LastsToCall : CodeUnit → ℕ → Owner → Span → Type 0
LastsToCall unit entry (Owns.Of called index) span = (first at : ℕ) → IsFirstNamed unit entry first → IsNextCall unit called first at → Holds span at
LastsToCall unit entry owner span = Unit {0}

-- A stretch of instructions in which an entry is in use: it holds each that names the entry, the
-- call, and each stretch of a jump back that it meets, unless it lies within that stretch.
pub record IsInUse (unit : CodeUnit) (entry : ℕ) (owner : Owner) (span : Span) : Type 0 where
  pub named : (at : ℕ) → IsNamedAt unit entry at → Holds span at
  pub called : LastsToCall unit entry owner span
  pub stretches : (stretch : Span) → IsStretch unit stretch → Meet span stretch → LiesWithin stretch span ⊎ LiesWithin span stretch

-- the span of an entry that is named is the least of them
pub record IsSpan (unit : CodeUnit) (entry : ℕ) (owner : Owner) (span : Span) : Type 0 where
  pub somewhere : (at : ℕ) × IsNamedAt unit entry at
  pub in_use : IsInUse unit entry owner span
  pub least : (other : Span) → IsInUse unit entry owner other → LiesWithin span other

-- both entries are named, and wherever the one is in use and wherever the other is, these meet; so
-- it is of the least of them
abbrev pub AreInUseTogether : CodeUnit → ℕ → ℕ → Type 0
AreInUseTogether unit one other =
    ((at : ℕ) × IsNamedAt unit one at) × ((at : ℕ) × IsNamedAt unit other at)
    × ((a b : Span) → IsInUse unit one Owns.Own a → IsInUse unit other Owns.Own b → Meet a b)
