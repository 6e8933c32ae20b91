-- The sets of a new store.
use Rattle.std.specs.Prelude.{◌≡◌, ℕ, ◌+◌, ◌*◌, ◌<◌, ◌==◌, ◌&&◌, nat_lt, List, length, slice_index_or, if◌then◌else◌}
use Rattle.vp_sets.specs.Blocks.{block_count}
use Rattle.vp_sets.specs.Positions.{position_count}
use Rattle.bit_planes.specs.declared.block.Block.{Block}
use Rattle.bit_planes.specs.declared.plane.Plane.{Plane}
use Rattle.bit_planes.specs.Bits.{bit}
use Rattle.bit_planes.specs.Planes.{plane_at}
use Rattle.paris_code.specs.Shapes.{SetShape, no_shape}
use Rattle.block_store.specs.declared.set.BlockSet.{BlockSet}
use Rattle.block_store.specs.Planes.{block_bit, HasPlanes}
use Rattle.block_store.specs.Stored.{blocks_at}

-- a bit of a new set: 0, but for the context flags of the positions that there are
abbrev pub fresh_bit : SetShape → ℕ → ℕ → ℕ
fresh_bit shape position index = if (index == shape.bits) && nat_lt position (position_count shape.extents) then 1 else 0

-- the planes of block k of a new set
pub record IsFreshBlock (shape : SetShape) (k : ℕ) (planes : List Plane) : Type 0 where
  pub long : length planes ≡ shape.bits + 2
  pub bits : (i lane : ℕ) → i < shape.bits + 2 → lane < 512 → bit (plane_at planes i) lane ≡ fresh_bit shape (512 * k + lane) i

-- the first blocks of a new set
pub record AreFresh (shape : SetShape) (blocks : List Block) : Type 0 where
  pub planes : HasPlanes (shape.bits + 2) blocks
  pub bits : (p i : ℕ) → p < 512 * length blocks → i < shape.bits + 2 → block_bit blocks p i ≡ fresh_bit shape p i

-- all blocks of a new set
pub record IsFreshSet (shape : SetShape) (blocks : List Block) : Type 0 where
  pub count : length blocks ≡ block_count shape.extents
  pub fresh : AreFresh shape blocks

-- the sets of these shapes, each new
pub record AreFreshSets (shapes : List SetShape) (sets : List BlockSet) : Type 0 where
  pub count : length sets ≡ length shapes
  pub each : (set : ℕ) → set < length shapes → IsFreshSet (slice_index_or shapes set no_shape) (blocks_at sets set)
