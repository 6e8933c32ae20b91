-- The numbers of the words.
use Rattle.std.specs.Prelude.{ℕ, Bool, ◌&&◌, ◌^◌, nat_lt, nat_le, List, length, Option, Some, None, if◌then◌else◌}
use Rattle.std.specs.Str.{all_ascii_digits}
use Rattle.std.specs.Str.Parse.{digits_value}

-- one decimal digit or more, and nothing else
abbrev pub is_number : List ℕ → Bool
is_number text = nat_lt 0 (length text) && all_ascii_digits text

-- the number that such digits write, where it lies between the bounds
abbrev pub number_in : ℕ → ℕ → List ℕ → Option ℕ
number_in low high text =
    if is_number text && (nat_le low (digits_value 10 text) && nat_le (digits_value 10 text) high)
    then Some (digits_value 10 text) else None
