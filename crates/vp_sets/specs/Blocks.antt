-- The blocks of a set: runs of 512 position numbers, of which the last may be cut short.
use Rattle.std.specs.Prelude.{ℕ, ◌+◌, ◌*◌, min, List}
use Rattle.std.specs.Int.{div_ceil}
use Rattle.vp_sets.specs.Positions.{position_count}

-- the positions of a block
abbrev pub block_size : ℕ
block_size = 512

-- how many blocks hold all positions
unfoldable pub block_count : List ℕ → ℕ
block_count extents = div_ceil (position_count extents) block_size

-- the first position number of block b, and the one past its last
unfoldable pub block_start : ℕ → ℕ
block_start b = b * block_size

unfoldable pub block_end : List ℕ → ℕ → ℕ
block_end extents b = min (block_start b + block_size) (position_count extents)
