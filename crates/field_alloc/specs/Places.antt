-- Where the entries of all units begin, once the finals and the units' own entries have their bits.
use Rattle.std.specs.Prelude.{ℕ, ◌+◌, List, [], ◌∷◌, Option, Some, None, Vec}
use Rattle.std.specs.List.{slice_get, slice_index, slice_index_or}
use Rattle.std.specs.declared.alloc.Global.{Global}
use Rattle.paris_code.specs.declared.program.Final.{Final}
use Rattle.paris_code.specs.declared.program.Owner.{Owner}
use Rattle.paris_code.specs.declared.program.Owner.TheVariants as O
use Rattle.paris_code.specs.declared.program.Unit.{Unit as CodeUnit}
use Rattle.paris_code.specs.declared.program.Virtual.{Virtual}

abbrev pub items_of : Vec ℕ Global → List ℕ
items_of v = v.items

abbrev pub final_offset : Option Final → ℕ
final_offset None = 0
final_offset (Some last) = last.field.offset

-- an entry of so many of a unit of so many begins at the bits of its owner
abbrev pub begin_of : List Final → List (List ℕ) → ℕ → ℕ → Owner → ℕ
begin_of finals own number entry (O.File file) = final_offset (slice_get finals file)
begin_of finals own number entry O.Own = slice_index (slice_index_or own number []) entry
begin_of finals own number entry (O.Of other index) = slice_index (slice_index_or own other []) index

-- the entries of a unit, from one of a number
unfoldable pub entries_from : List Final → List (List ℕ) → ℕ → ℕ → List Virtual → List ℕ
entries_from finals own number entry [] = []
entries_from finals own number entry (v ∷ vs) = begin_of finals own number entry v.owner ∷ entries_from finals own number (entry + 1) vs

-- the entries of the units, from one of a number
unfoldable pub units_from : List Final → List (List ℕ) → ℕ → List CodeUnit → List (List ℕ)
units_from finals own number [] = []
units_from finals own number (u ∷ us) = entries_from finals own number 0 u.fields.items ∷ units_from finals own (number + 1) us
