-- At which instructions of a unit an entry is in use.
use Rattle.std.specs.Prelude.{◌≡◌, ◌≢◌, ◌⊎◌, ℕ, ◌+◌, ◌<◌, ◌≤◌, List, [], Bool, Option, Some, None, length}
use Rattle.std.specs.List.{slice_get, slice_index, slice_index_or}
use Rattle.paris_code.specs.declared.instr.Instr.{Instr}
use Rattle.paris_code.specs.declared.instr.Instr.TheVariants as I
use Rattle.paris_code.specs.declared.program.Unit.{Unit as CodeUnit}
use Rattle.paris_code.specs.declared.program.Virtual.{Virtual}
use Rattle.paris_code.specs.Proper.{IsOwn}
use Rattle.field_alloc.specs.declared.spans.Span.{Span}
use Rattle.field_alloc.specs.Lent.{HasFlag, IsLentBy}
use Rattle.field_alloc.specs.Made.{IsHeldThrough}
use Rattle.field_alloc.specs.Sweep.{EndsAt, HeldBy}

-- the span of an entry does
abbrev pub HeldAt : List (Option Span) → ℕ → ℕ → Type 0
HeldAt spans entry at = HeldBy (slice_index_or spans entry None) at

-- it ends there
abbrev pub EndedAt : List (Option Span) → ℕ → ℕ → Type 0
EndedAt spans entry at = EndsAt (slice_index_or spans entry None) at

-- the flag of the entry is set, and so it is in use throughout, or it is held through the instruction
abbrev pub IsInUseAt : CodeUnit → List Bool → ℕ → ℕ → Type 0
IsInUseAt unit lent entry at = HasFlag lent entry ⊎ IsHeldThrough unit entry at

-- the same of an entry that one of these units lends
abbrev pub IsUsedAt : List CodeUnit → ℕ → CodeUnit → ℕ → ℕ → Type 0
IsUsedAt units number unit entry at = IsLentBy units number entry ⊎ IsHeldThrough unit entry at

-- two runs of bits have none in common
abbrev pub AreApart : ℕ → ℕ → ℕ → ℕ → Type 0
AreApart start len other over = (start + len ≤ other) ⊎ (other + over ≤ start)

-- own entries of a unit in one of so many sets that are in use at one instruction are apart
abbrev pub AreUnitApart : CodeUnit → (ℕ → ℕ → Type 0) → ℕ → List ℕ → Type 0
AreUnitApart unit InUse sets starts =
    (one other set len over at : ℕ) → one ≢ other → set < sets → IsOwn unit one set len → IsOwn unit other set over → at < length unit.code.items → InUse one at → InUse other at → AreApart (slice_index starts one) len (slice_index starts other) over

-- the own entries of all units are
abbrev pub AreAllApart : List CodeUnit → ℕ → List (List ℕ) → Type 0
AreAllApart units sets starts =
    (number : ℕ) (unit : CodeUnit) → slice_get units number ≡ Some unit → AreUnitApart unit (IsUsedAt units number unit) sets (slice_index_or starts number [])

-- entries stand by the starts, behind where their set's bits begin
abbrev pub AreLifted : List Virtual → List ℕ → List ℕ → List ℕ → Type 0
AreLifted entries base starts places =
    (entry : ℕ) (v : Virtual) → slice_get entries entry ≡ Some v → slice_index places entry ≡ slice_index base v.set + slice_index starts entry

-- the entries of a unit begin no lower than where the file's fields of their set end
abbrev pub IsUnitAbove : List ℕ → CodeUnit → List ℕ → Type 0
IsUnitAbove ends unit places =
    (entry : ℕ) (v : Virtual) → slice_get unit.fields.items entry ≡ Some v → v.set < length ends → slice_index ends v.set ≤ slice_index places entry

abbrev pub AreAllAbove : List CodeUnit → List ℕ → List (List ℕ) → Type 0
AreAllAbove units ends places =
    (number : ℕ) (unit : CodeUnit) → slice_get units number ≡ Some unit → IsUnitAbove ends unit (slice_index_or places number [])

-- own entries of a unit that are in use end within the end of their set
abbrev pub IsUnitUnder : CodeUnit → (ℕ → ℕ → Type 0) → ℕ → List ℕ → List ℕ → Type 0
IsUnitUnder unit InUse sets starts ends =
    (entry set len at : ℕ) → set < sets → IsOwn unit entry set len → at < length unit.code.items → InUse entry at → slice_index starts entry + len ≤ slice_index ends set

-- those of all units do
abbrev pub AreAllUnder : List CodeUnit → ℕ → List (List ℕ) → List (List ℕ) → Type 0
AreAllUnder units sets starts ends =
    (number : ℕ) (unit : CodeUnit) → slice_get units number ≡ Some unit → IsUnitUnder unit (IsUsedAt units number unit) sets (slice_index_or starts number []) (slice_index_or ends number [])

-- in each set the bits of one unit end, `tops` above their base, where those of another begin or before
abbrev pub IsBehind : ℕ → List ℕ → List ℕ → List ℕ → Type 0
IsBehind sets base tops called = (set : ℕ) → set < sets → slice_index base set + slice_index tops set ≤ slice_index called set

-- those of each unit that the code calls begin there
abbrev pub AreCallsBehind : List Instr → ℕ → List ℕ → List ℕ → List (List ℕ) → Type 0
AreCallsBehind code sets base tops bases =
    (at called : ℕ) → slice_get code at ≡ Some (I.FrontCall called) → IsBehind sets base tops (slice_index_or bases called [])

-- the same for the code of all units
abbrev pub AreAllBehind : List CodeUnit → ℕ → List (List ℕ) → List (List ℕ) → Type 0
AreAllBehind units sets bases tops =
    (number : ℕ) (unit : CodeUnit) → slice_get units number ≡ Some unit → AreCallsBehind unit.code.items sets (slice_index_or bases number []) (slice_index_or tops number []) bases

-- where own entries in use of a unit end, and own entries begin, by its base and tops of each set
pub record IsBased (unit : CodeUnit) (InUse : ℕ → ℕ → Type 0) (sets : ℕ) (tops places base : List ℕ) : Type 0 where
  pub under : (entry set len at : ℕ) → set < sets → IsOwn unit entry set len → at < length unit.code.items → InUse entry at → slice_index places entry + len ≤ slice_index base set + slice_index tops set
  pub above : (entry set len : ℕ) → IsOwn unit entry set len → slice_index base set ≤ slice_index places entry

-- There are bases and tops of all units such that own entries in use lie from their unit's base up to
-- its tops behind that, and the base of each unit that the unit calls is not below those.
pub record AreStackedUnits (units : List CodeUnit) (sets : ℕ) (places : List (List ℕ)) : Type 0 where
  pub bases : List (List ℕ)
  pub tops : List (List ℕ)
  pub behind : AreAllBehind units sets bases tops
  pub based : (number : ℕ) (unit : CodeUnit) → slice_get units number ≡ Some unit → IsBased unit (IsUsedAt units number unit) sets (slice_index_or tops number []) (slice_index_or places number []) (slice_index_or bases number [])
