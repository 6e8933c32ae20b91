-- The bits of the file's fields: in each set one behind the other.
use Rattle.std.specs.Prelude.{◌≡◌, ℕ, ◌+◌, ◌<◌, ◌≤◌, List, Some, length}
use Rattle.std.specs.List.{slice_get, slice_index}
use Rattle.paris_code.specs.declared.program.Final.{Final}

-- none ends above where its set's last one does
abbrev pub AreFilesUnder : List Final → List ℕ → Type 0
AreFilesUnder finals ends =
    (file : ℕ) (last : Final) → slice_get finals file ≡ Some last → last.field.set < length ends → last.field.offset + last.field.len ≤ slice_index ends last.field.set

-- of two in one of so many sets, the later one is above the other
abbrev pub AreFilesStacked : ℕ → List Final → Type 0
AreFilesStacked sets finals =
    (one other : ℕ) (a b : Final) → one < other → slice_get finals one ≡ Some a → slice_get finals other ≡ Some b → a.field.set ≡ b.field.set → b.field.set < sets → a.field.offset + a.field.len ≤ b.field.offset
