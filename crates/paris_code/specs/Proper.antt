-- Programs that can be placed: which entries of a unit's fields live together, how high they reach,
-- and what a program over virtual fields keeps.
use Rattle.std.specs.Prelude.{◌≡◌, ◌≢◌, ℕ, ◌+◌, ◌<◌, ◌≤◌, ◌⊎◌, ◌==◌, if◌then◌else◌, List, [], ◌∷◌, length, sum_by, All, Option, Some, None}
use Rattle.std.specs.List.{flat_map, slice_get}
use Rattle.paris_code.specs.declared.operands.Field.{Field}
use Rattle.paris_code.specs.declared.instr.Instr.{Instr}
use Rattle.paris_code.specs.declared.instr.Instr.TheVariants as I
use Rattle.paris_code.specs.declared.program.Final.{Final}
use Rattle.paris_code.specs.declared.program.Owner.{Owner}
use Rattle.paris_code.specs.declared.program.Owner.TheVariants as O
use Rattle.paris_code.specs.declared.program.Program.{Program}
use Rattle.paris_code.specs.declared.program.Unit.{Unit as CodeUnit}
use Rattle.paris_code.specs.declared.program.Virtual.{Virtual}
use Rattle.paris_code.specs.Rows.{Operand, row_of}
use Rattle.paris_code.specs.Rows as Row
use Rattle.paris_code.specs.Spans.{fields_of, AreInUseTogether, StandsAt, Span, Holds, Meet, IsSpan}

-- a unit of the program, and an entry of it
abbrev pub IsUnit : Program → ℕ → CodeUnit → Type 0
IsUnit program number unit = slice_get program.units.items number ≡ Some unit

abbrev pub IsEntry : CodeUnit → ℕ → Virtual → Type 0
IsEntry unit entry virtual = slice_get unit.fields.items entry ≡ Some virtual

abbrev pub IsOwn : CodeUnit → ℕ → ℕ → ℕ → Type 0
IsOwn unit entry set len = IsEntry unit entry (record { set = set; len = len; owner = O.Own })

-- some unit names an entry of this one
abbrev pub IsLent : Program → ℕ → ℕ → Type 0
IsLent program number entry =
    (other : ℕ) × ((unit : CodeUnit) × ((index : ℕ) × ((virtual : Virtual) × IsUnit program other unit × IsEntry unit index virtual × (virtual.owner ≡ O.Of number entry))))

-- two entries of a unit live together: one of them is lent, or they are in use together
abbrev pub LiveTogether : Program → ℕ → CodeUnit → ℕ → ℕ → Type 0
LiveTogether program number unit one other =
    IsLent program number one ⊎ (IsLent program number other ⊎ AreInUseTogether unit one other)

-- an earlier entry of the same unit and set with bits of its own, which lives together with one: the
-- one stands above it
abbrev pub IsBelow : Program → ℕ → CodeUnit → ℕ → ℕ → ℕ → Type 0
IsBelow program number unit set entry other =
    (other < entry) × ((len : ℕ) × IsOwn unit other set len) × LiveTogether program number unit other entry

-- entries of a unit, the highest first, each of which stands above the next
abbrev pub IsStack : Program → ℕ → CodeUnit → ℕ → List ℕ → Type 0
IsStack program number unit set [] = Unit {0}
IsStack program number unit set (entry ∷ []) = Unit {0}
IsStack program number unit set (entry ∷ (other ∷ entries)) = IsBelow program number unit set entry other × IsStack program number unit set (other ∷ entries)

abbrev pub length_or_none : Option Virtual → ℕ
length_or_none None = 0
length_or_none (Some virtual) = virtual.len

-- how many bits an entry has
abbrev pub length_of : CodeUnit → ℕ → ℕ
length_of unit entry = length_or_none (slice_get unit.fields.items entry)

-- no stack of a unit's own entries of a set is higher than this
abbrev pub StacksWithin : Program → ℕ → ℕ → ℕ → Type 0
StacksWithin program set number top =
    (unit : CodeUnit) (entry len : ℕ) (entries : List ℕ) → IsUnit program number unit → IsOwn unit entry set len → IsStack program number unit set (entry ∷ entries) → sum_by (length_of unit) (entry ∷ entries) ≤ top

-- a unit calls another
abbrev pub Calls : Program → ℕ → ℕ → Type 0
Calls program caller called = (unit : CodeUnit) × ((at : ℕ) × IsUnit program caller unit × StandsAt unit at (I.FrontCall called))

-- units of which each calls the next
abbrev pub IsCallChain : Program → List ℕ → Type 0
IsCallChain program [] = Unit {0}
IsCallChain program (unit ∷ []) = Unit {0}
IsCallChain program (unit ∷ (next ∷ units)) = Calls program unit next × IsCallChain program (next ∷ units)

-- the bits of the file's fields of a set
abbrev pub bits_in : ℕ → Final → ℕ
bits_in set last = if last.field.set == set then last.field.len else 0

-- the height of a set is within this: the file's fields, and above them the units of each chain of
-- calls, of which each is as high as its stacks are at most
abbrev pub HeightWithin : Program → ℕ → ℕ → Type 0
HeightWithin program set most =
    (tops : ℕ → ℕ) × ((number : ℕ) → StacksWithin program set number (tops number))
    × ((chain : List ℕ) → IsCallChain program chain → sum_by (bits_in set) program.finals.items + sum_by tops chain ≤ most)

-- an entry has the set and the length of what it names: the file's field, or an own entry
abbrev pub OwnerFits : Program → Virtual → Owner → Type 0
OwnerFits program virtual (O.File file) = (last : Final) × (slice_get program.finals.items file ≡ Some last) × (last.field.set ≡ virtual.set) × (last.field.len ≡ virtual.len)
OwnerFits program virtual O.Own = Unit {0}
OwnerFits program virtual (O.Of other index) = (unit : CodeUnit) × IsUnit program other unit × IsOwn unit index virtual.set virtual.len

-- a field of an instruction names an entry of its set that is at least as long
abbrev pub NamesEntry : CodeUnit → Field → Type 0
NamesEntry unit f = (virtual : Virtual) × IsEntry unit f.offset virtual × (virtual.set ≡ f.set) × (f.len ≤ virtual.len)

-- an entry of another unit, with its span
abbrev pub IsBorrowed : CodeUnit → ℕ → ℕ → ℕ → Span → Type 0
IsBorrowed unit entry other index span =
    (virtual : Virtual) × IsEntry unit entry virtual × (virtual.owner ≡ O.Of other index) × IsSpan unit entry virtual.owner span

abbrev pub set_of : Virtual → ℕ
set_of virtual = virtual.set

abbrev pub owner_of : Virtual → Owner
owner_of virtual = virtual.owner

abbrev pub final_set : Final → ℕ
final_set last = last.field.set

-- the last of a list
abbrev pub EndsWith : ℕ → List ℕ → Type 0
EndsWith last [] = ⊥
EndsWith last (x ∷ []) = x ≡ last
EndsWith last (x ∷ (y ∷ ys)) = EndsWith last (y ∷ ys)

-- the sets that an instruction names itself, not by a field
abbrev pub sets_of_operand : Operand → List ℕ
sets_of_operand (Row.Set set) = set ∷ []
sets_of_operand _ = []

abbrev pub sets_of : Instr → List ℕ
sets_of instr = flat_map sets_of_operand (row_of instr)

-- what each unit keeps; each borrowed entry is named, so that it has a span, those of two units do
-- not live together, each lives round a call of its unit alone, and each call stands within the spans
-- of all entries that it lends
pub record IsProperUnit (program : Program) (unit : CodeUnit) : Type 0 where
  pub names : (at : ℕ) (instr : Instr) → StandsAt unit at instr → All (NamesEntry unit) (fields_of instr)
  pub named_sets : (at : ℕ) (instr : Instr) → StandsAt unit at instr → All (λ set. set < length program.shapes.items) (sets_of instr)
  pub sets : All (λ virtual. set_of virtual < length program.shapes.items) unit.fields.items
  pub owners : All (λ virtual. OwnerFits program virtual (owner_of virtual)) unit.fields.items
  pub calls : (at called : ℕ) → StandsAt unit at (I.FrontCall called) → called < length program.units.items
  pub borrowed : (entry other index : ℕ) (virtual : Virtual) → IsEntry unit entry virtual → virtual.owner ≡ O.Of other index → (span : Span) × IsBorrowed unit entry other index span
  pub apart : (one other u v i j : ℕ) (a b : Span) → IsBorrowed unit one u i a → IsBorrowed unit other v j b → u ≢ v → Meet a b → ⊥
  pub round_call : (entry other index : ℕ) (span : Span) → IsBorrowed unit entry other index span → (at : ℕ) × StandsAt unit at (I.FrontCall other) × Holds span at
  pub no_other_call : (entry other index at called : ℕ) (span : Span) → IsBorrowed unit entry other index span → StandsAt unit at (I.FrontCall called) → Holds span at → called ≡ other
  pub lends : (at called index : ℕ) → StandsAt unit at (I.FrontCall called) → IsLent program called index → (entry : ℕ) × ((span : Span) × IsBorrowed unit entry called index span × Holds span at)

-- the finals have the file's fields in order, and the calls have no cycle
pub record IsProper (program : Program) : Type 0 where
  pub units : (number : ℕ) (unit : CodeUnit) → IsUnit program number unit → IsProperUnit program unit
  pub final_sets : All (λ last. final_set last < length program.shapes.items) program.finals.items
  pub finals : (number : ℕ) (last : Final) → slice_get program.finals.items number ≡ Some last → last.field.offset ≡ number
  pub no_cycle : (unit next : ℕ) (units : List ℕ) → IsCallChain program (unit ∷ (next ∷ units)) → EndsWith unit (next ∷ units) → ⊥
