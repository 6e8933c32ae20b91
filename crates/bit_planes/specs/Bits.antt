-- The bits of a plane.
use Rattle.std.specs.Prelude.{ℕ, ◌/◌, ◌%◌, ◌^◌, List, slice_index}

-- the bit of lane i: bit i % 64 of word i / 64
unfoldable pub bit : List ℕ → ℕ → ℕ
bit plane i = slice_index plane (i / 64) / 2 ^ (i % 64) % 2
