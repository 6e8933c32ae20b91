-- The place of a byte.
use Rattle.std.specs.Prelude.{ℕ, ◌+◌, ◌==◌, if◌then◌else◌, List, take}
use Rattle.std.specs.List.{fold}
use Rattle.cstar_base.specs.declared.operators.Place.{Place}
use Rattle.cstar_lexer.specs.declared.cursor.Cursor.{Cursor}

-- where a text begins
abbrev pub text_start : Place
text_start = record { line = 1; col = 1 }

-- the place of a reader
abbrev pub place_of : Cursor → Place
place_of cursor = record { line = cursor.line; col = cursor.column }

-- A newline ends its line. Every other byte takes one column.
unfoldable pub behind_byte : Place → ℕ → Place
behind_byte place byte = if byte == 10 then record { line = place.line + 1; col = 1 } else record { line = place.line; col = place.col + 1 }

-- the place behind some bytes that begin at a place
unfoldable pub behind : Place → List ℕ → Place
behind place bytes = fold behind_byte place bytes

-- the place of the byte at an offset, lines and columns counted from 1
unfoldable pub place_at : List ℕ → ℕ → Place
place_at bytes at = behind text_start (take at bytes)
