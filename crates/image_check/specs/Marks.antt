-- Tables of marks.
use Rattle.std.specs.Prelude.{◌≡◌, ℕ, Bool, true, false, List, sum_by, if◌then◌else◌}
use Rattle.std.specs.List.{slice_index_or}

abbrev pub IsMarked : List Bool → ℕ → Type 0
IsMarked marks at = slice_index_or marks at false ≡ true

-- how many places have no mark
abbrev pub unmarked : List Bool → ℕ
unmarked marks = sum_by (λ b. if b then 0 else 1) marks
