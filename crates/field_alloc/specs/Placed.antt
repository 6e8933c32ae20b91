-- What placing makes of a program: each field stands at the bits of its entry, and all else is as it
-- was. `places` are the bits at which the entries of a unit begin, in the order of the entries.
use Rattle.std.specs.Prelude.{◌≡◌, ◌≢◌, ◌⊎◌, ℕ, ◌+◌, ◌<◌, ◌≤◌, List, [], ◌∷◌, length, Some}
use Rattle.std.specs.List.{AllZip, slice_get, slice_index, slice_index_or}
use Rattle.paris_code.specs.declared.instr.Instr.TheVariants as I
use Rattle.paris_code.specs.declared.program.Final.{Final}
use Rattle.paris_code.specs.declared.program.Owner.TheVariants as O
use Rattle.paris_code.specs.declared.program.Program.{Program}
use Rattle.paris_code.specs.declared.program.Unit.{Unit as CodeUnit}
use Rattle.paris_code.specs.declared.program.Virtual.{Virtual}
use Rattle.paris_code.specs.Moving.{IsMoved}
use Rattle.paris_code.specs.Proper.{EndsWith, IsCallChain, IsUnit, IsEntry, IsLent, IsOwn}
use Rattle.paris_code.specs.Spans.{StandsAt}
use Rattle.field_alloc.specs.Files.{AreFilesStacked}
use Rattle.field_alloc.specs.Made.{IsHeldThrough}
use Rattle.field_alloc.specs.Named.{AreApart}

-- a unit, and the same over bits
pub record IsPlacedUnit (p : List ℕ) (unit over : CodeUnit) : Type 0 where
  pub name : over.name ≡ unit.name
  pub regs : over.regs ≡ unit.regs
  pub homes : over.homes ≡ unit.homes
  pub fields : over.fields ≡ unit.fields
  pub code : AllZip (IsMoved p) unit.code.items over.code.items

-- the units from one of a number, and the same over bits; `places` has a list for each unit
unfoldable pub ArePlacedUnits : List (List ℕ) → ℕ → List CodeUnit → List CodeUnit → Type 0
ArePlacedUnits places number [] [] = Unit {0}
ArePlacedUnits places number (u ∷ us) (o ∷ os) = IsPlacedUnit (slice_index_or places number []) u o × ArePlacedUnits places (number + 1) us os
ArePlacedUnits places number _ _ = ⊥

-- a final, and the same over bits
abbrev pub IsPlacedFinal : Final → Final → Type 0
IsPlacedFinal last over =
    (over.name ≡ last.name) × (over.elem ≡ last.elem) × (over.field.set ≡ last.field.set) × (over.field.len ≡ last.field.len)

-- the bit at which an entry of a unit begins
abbrev pub begins : List (List ℕ) → ℕ → ℕ → ℕ
begins places number entry = slice_index (slice_index_or places number []) entry

-- an entry is lent, and so in use throughout its unit, or each span in which it is in use holds the
-- instruction, which does not make it: those between two that name it do, and with a loop that it does
-- not lie within the whole loop
abbrev pub IsUsed : Program → ℕ → CodeUnit → ℕ → ℕ → Type 0
IsUsed program number unit entry at = IsLent program number entry ⊎ IsHeldThrough unit entry at

-- what a list of each unit's numbers has for a set
abbrev pub of_set : List (List ℕ) → ℕ → ℕ → ℕ
of_set rows number set = slice_index (slice_index_or rows number []) set

-- A program, and the same over bits. An entry that stands for another unit's own one is at the bits
-- of that, and one that stands for a field of the file at the bits that the final has. Two own
-- entries have no bit in common if both are in use at some instruction. The file's fields are apart
-- from each other, and below all own entries. In each set the own entries of a unit begin at its base
-- or behind, those in use end at its top above the base or before, and there or behind is the base of
-- each unit that it calls.
pub record IsPlaced (before after : Program) : Type 0 where
  pub places : List (List ℕ)
  pub units : ArePlacedUnits places 0 before.units.items after.units.items
  pub borrowed : (number entry other index : ℕ) (unit owner : CodeUnit) (virtual own : Virtual) → IsUnit before number unit → IsEntry unit entry virtual → virtual.owner ≡ O.Of other index → IsUnit before other owner → IsEntry owner index own → own.owner ≡ O.Own → begins places number entry ≡ begins places other index
  pub files : (number entry file : ℕ) (unit : CodeUnit) (virtual : Virtual) (last : Final) → IsUnit before number unit → IsEntry unit entry virtual → virtual.owner ≡ O.File file → slice_get after.finals.items file ≡ Some last → begins places number entry ≡ last.field.offset
  pub finals : AllZip IsPlacedFinal before.finals.items after.finals.items
  pub apart : (number one other set len over at : ℕ) (unit : CodeUnit) → IsUnit before number unit → one ≢ other → set < length before.shapes.items → IsOwn unit one set len → IsOwn unit other set over → at < length unit.code.items → IsUsed before number unit one at → IsUsed before number unit other at → AreApart (begins places number one) len (begins places number other) over
  pub finals_apart : AreFilesStacked (length before.shapes.items) after.finals.items
  pub files_apart : (number entry file set len : ℕ) (unit : CodeUnit) (last : Final) → IsUnit before number unit → IsOwn unit entry set len → set < length before.shapes.items → slice_get after.finals.items file ≡ Some last → last.field.set ≡ set → last.field.offset + last.field.len ≤ begins places number entry
  pub bases : List (List ℕ)
  pub tops : List (List ℕ)
  pub above : (number entry set len : ℕ) (unit : CodeUnit) → IsUnit before number unit → set < length before.shapes.items → IsOwn unit entry set len → of_set bases number set ≤ begins places number entry
  pub under : (number entry set len at : ℕ) (unit : CodeUnit) → IsUnit before number unit → set < length before.shapes.items → IsOwn unit entry set len → at < length unit.code.items → IsUsed before number unit entry at → begins places number entry + len ≤ of_set bases number set + of_set tops number set
  pub behind : (caller called at set : ℕ) (unit : CodeUnit) → IsUnit before caller unit → StandsAt unit at (I.FrontCall called) → set < length before.shapes.items → of_set bases caller set + of_set tops caller set ≤ of_set bases called set

-- own entries of a unit that are in use end where all own entries of the last unit of each chain of
-- calls begin, or before
abbrev pub AreCallersBelow : Program → List (List ℕ) → Type 0
AreCallersBelow program places =
    (caller next last : ℕ) (chain : List ℕ) (unit owner : CodeUnit) → IsCallChain program (caller ∷ (next ∷ chain)) → EndsWith last (next ∷ chain) → IsUnit program caller unit → IsUnit program last owner
    → (entry other set len over used : ℕ) → set < length program.shapes.items → IsOwn unit entry set len → IsOwn owner other set over → used < length unit.code.items → IsUsed program caller unit entry used → begins places caller entry + len ≤ begins places last other
