-- The positions of a set, by the list of its extents: their numbers and their coordinates.
use Rattle.std.specs.Prelude.{ℕ, ℤ, pos, Bool, true, false, ◌+◌, ◌*◌, ◌/◌, ◌%◌, ◌^◌, ◌&&◌, nat_lt, nat_le, ◌+ℤ◌, unsigned_abs, List, [], ◌∷◌, length, slice_index, slice_set}
use Rattle.std.specs.Int.{int_rem_euclid}

-- how many positions there are: the product of the extents
unfoldable pub position_count : List ℕ → ℕ
position_count [] = 1
position_count (x ∷ xs) = x * position_count xs

-- no extent is 0
unfoldable pub are_positive : List ℕ → Bool
are_positive [] = true
are_positive (x ∷ xs) = nat_lt 0 x && are_positive xs

-- 1 to 4 axes
unfoldable pub rank_fits : List ℕ → Bool
rank_fits extents = nat_le 1 (length extents) && nat_le (length extents) 4

-- some position, and at most 2 ^ 20 of them
unfoldable pub positions_fit : List ℕ → Bool
positions_fit extents = are_positive extents && nat_le (position_count extents) (2 ^ 20)

-- the extents of a set
unfoldable pub is_geometry : List ℕ → Bool
is_geometry extents = rank_fits extents && positions_fit extents

-- the coordinates of a position by its number, row-major: the last axis is the fastest, and a
-- coordinate is the number's quotient by the positions of the later axes, modulo the extent
unfoldable pub coordinates : List ℕ → ℕ → List ℕ
coordinates [] n = []
coordinates (x ∷ xs) n = (n / position_count xs % x) ∷ coordinates xs n

unfoldable pub coordinate : List ℕ → ℕ → ℕ → ℕ
coordinate extents n axis = slice_index (coordinates extents n) axis

-- the number of the position with these coordinates
unfoldable pub number_at : List ℕ → List ℕ → ℕ
number_at [] _ = 0
number_at (x ∷ xs) [] = 0
number_at (x ∷ xs) (c ∷ cs) = c * position_count xs + number_at xs cs

-- one coordinate for each axis, each below its extent
unfoldable pub are_inside : List ℕ → List ℕ → Bool
are_inside [] [] = true
are_inside [] (c ∷ cs) = false
are_inside (x ∷ xs) [] = false
are_inside (x ∷ xs) (c ∷ cs) = nat_lt c x && are_inside xs cs

-- the position whose coordinate on the axis is c, and whose others are those of n
abbrev pub with_coordinate : List ℕ → ℕ → ℕ → ℕ → ℕ
with_coordinate extents n axis c = number_at extents (slice_set (coordinates extents n) axis c)

-- a coordinate moved by k, round the ends of its axis
unfoldable pub moved : ℕ → ℕ → ℤ → ℕ
moved extent own k = unsigned_abs (int_rem_euclid (pos own +ℤ k) (pos extent))

-- the position whose coordinate on the axis is moved by k, and whose others are those of n
unfoldable pub shifted : List ℕ → ℕ → ℕ → ℤ → ℕ
shifted extents n axis k =
    with_coordinate extents n axis (moved (slice_index extents axis) (coordinate extents n axis) k)
