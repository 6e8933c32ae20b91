-- The bits of a set's positions, as its blocks hold them.
use Rattle.std.specs.Prelude.{ℕ, ◌/◌, ◌%◌, ◌≤◌, List, [], map, length, All, slice_index_or}
use Rattle.bit_planes.specs.declared.block.Block.{Block}
use Rattle.bit_planes.specs.declared.plane.Plane.{Plane}
use Rattle.bit_planes.specs.Bits.{bit}
use Rattle.bit_planes.specs.Planes.{plane_at}

abbrev pub planes_in : Block → List Plane
planes_in block = block.planes.items

-- the planes of block k
abbrev pub planes_at : List Block → ℕ → List Plane
planes_at blocks k = slice_index_or (map planes_in blocks) k []

-- a bit of a position: that of lane p % 512 in block p / 512
unfoldable pub block_bit : List Block → ℕ → ℕ → ℕ
block_bit blocks p i = bit (plane_at (planes_at blocks (p / 512)) i) (p % 512)

-- each block has so many planes at least
abbrev pub HasPlanes : ℕ → List Block → Type 0
HasPlanes most blocks = All (λ block. most ≤ length (planes_in block)) blocks
