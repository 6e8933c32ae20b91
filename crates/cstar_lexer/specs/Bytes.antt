-- The classes of bytes.
use Rattle.std.specs.Prelude.{ℕ, Bool, ◌==◌, ◌&&◌, ◌||◌, nat_le, List, slice_index_or, ◌≡◌}

-- from the first byte of a range to the last
abbrev pub in_range : ℕ → ℕ → ℕ → Bool
in_range first last byte = nat_le first byte && nat_le byte last

-- a decimal digit
unfoldable pub is_figure : ℕ → Bool
is_figure byte = in_range 48 57 byte

-- `_` or a letter, which begin names and reserved words
unfoldable pub is_letter : ℕ → Bool
is_letter byte = byte == 95 || in_range 65 90 byte || in_range 97 122 byte

-- what names and reserved words go on with
unfoldable pub goes_on : ℕ → Bool
goes_on byte = is_letter byte || is_figure byte

-- space, tab, vertical tab, form feed or carriage return: a blank that does not end its line
unfoldable pub is_inner_blank : ℕ → Bool
is_inner_blank byte = byte == 32 || byte == 9 || in_range 11 13 byte

-- the line ends here, by a newline or with the text
abbrev pub LineEnds : List ℕ → ℕ → Type 0
LineEnds bytes at = slice_index_or bytes at 10 ≡ 10
