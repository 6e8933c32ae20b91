-- How the plain phases hold the sets.
use Rattle.std.specs.Prelude.{◌≡◌, ℕ, ◌+◌, ◌*◌, ◌/◌, ◌%◌, ◌<◌, ◌==◌, List, map, slice_index, Option, None, if◌then◌else◌}
use Rattle.vp_sets.specs.Positions.{position_count}
use Rattle.std.specs.Int.{bit_at}
use Rattle.std.specs.List.{slice_index_or}
use Rattle.cstar_base.specs.declared.operators.Winner.TheVariants as W
use Rattle.paris_code.specs.Memory.{BitMemory}
use Rattle.paris_code.specs.Shapes.{SetShape}
use Rattle.phase_gate.specs.declared.rows.Rows.{Rows}
use Rattle.phase_gate.specs.declared.row_phases.RowPhases.{RowPhases}

-- the set whose processors the rows are
abbrev pub shape_of_rows : Rows → SetShape
shape_of_rows rows = record { extents = rows.geometry; bits = rows.bits }

abbrev pub sets_of : RowPhases → List SetShape
sets_of p = map shape_of_rows p.sets.items

-- a bit of a processor: those of its row stand 32 to a word
unfoldable pub row_bit : Rows → ℕ → ℕ → ℕ
row_bit rows position index = bit_at (slice_index rows.cells.items (position * rows.words + index / 32)) (index % 32)

-- the word that is held for a processor, if any
unfoldable pub room_word : Rows → ℕ → Option ℕ
room_word rows position = slice_index_or rows.room.items position None

-- what stands for the bits of a set that does not exist
abbrev pub no_bits : ℕ → ℕ → ℕ
no_bits position index = 0

-- the words that are held for the processors of all sets
abbrev pub no_words : ℕ → Option ℕ
no_words position = None

unfoldable pub room_of : RowPhases → ℕ → ℕ → Option ℕ
room_of p set = slice_index_or (map room_word p.sets.items) set no_words

-- the bits of all sets
unfoldable pub memory_of : RowPhases → BitMemory
memory_of p = record {
  bit = λ set. slice_index_or (map row_bit p.sets.items) set no_bits;
  winner = p.winner;
}

-- rows whose fields and test flags are 0 and whose context flags are 1
abbrev pub IsFresh : Rows → Type 0
IsFresh rows = (p i : ℕ) → p < position_count rows.geometry → i < rows.bits + 2 → row_bit rows p i ≡ (if i == rows.bits then 1 else 0)

-- the sets of these rows, in the order of the shapes
unfoldable pub rows_memory : List Rows → BitMemory
rows_memory sets = record { bit = λ set. slice_index_or (map row_bit sets) set no_bits; winner = W.High }
