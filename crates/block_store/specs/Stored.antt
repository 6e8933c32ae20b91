-- The memory of the machine, as a store of blocks holds it.
use Rattle.std.specs.Prelude.{◌≡◌, ℕ, ◌+◌, ◌*◌, ◌<◌, ◌≤◌, List, [], map, length, All, slice_index, slice_index_or, nat_lt, ◌/◌, ◌%◌, if◌then◌else◌}
use Rattle.vp_sets.specs.Blocks.{block_count}
use Rattle.cstar_base.specs.declared.operators.Winner.{Winner}
use Rattle.bit_planes.specs.declared.block.Block.{Block}
use Rattle.paris_code.specs.Memory.{BitMemory, processors}
use Rattle.paris_code.specs.Shapes.{SetShape, bits_at, extents_at}
use Rattle.paris_code.specs.Sound.{IsShape}
use Rattle.block_store.specs.declared.set.SetPlan.{SetPlan}
use Rattle.block_store.specs.declared.set.BlockSet.{BlockSet}
use Rattle.block_store.specs.declared.set.Cell.{Cell}
use Rattle.block_store.specs.declared.store.Store.{Store}
use Rattle.block_store.specs.Planes.{block_bit, HasPlanes}

abbrev pub shape_of_plan : SetPlan → SetShape
shape_of_plan plan = record { extents = plan.geometry; bits = plan.bits }

-- the sets of a store
abbrev pub shapes_in : Store → List SetShape
shapes_in store = map shape_of_plan store.plans.items

abbrev pub blocks_in : BlockSet → List Block
blocks_in set = set.blocks.items

abbrev pub blocks_at : List BlockSet → ℕ → List Block
blocks_at sets set = slice_index_or (map blocks_in sets) set []

-- the memory, with the winner that the phases choose
unfoldable pub stored : List BlockSet → Winner → BitMemory
stored sets winner = record { bit = λ set position index. block_bit (blocks_at sets set) position index; winner = winner }

abbrev pub memory_in : Store → Winner → BitMemory
memory_in store winner = stored store.sets.items winner

-- a set has the blocks that hold its positions, with a plane for each bit and flag; and no position behind the last one is active
pub record IsWholeSet (shapes : List SetShape) (set : ℕ) (blocks : List Block) : Type 0 where
  pub count : length blocks ≡ block_count (extents_at shapes set)
  pub planes : HasPlanes (bits_at shapes set + 2) blocks
  pub padding : (p : ℕ) → processors shapes set ≤ p → p < 512 * block_count (extents_at shapes set) → block_bit blocks p (bits_at shapes set) ≡ 0

pub record AreWhole (shapes : List SetShape) (sets : List BlockSet) : Type 0 where
  pub count : length sets ≡ length shapes
  pub grids : All IsShape shapes
  pub each : (set : ℕ) → set < length shapes → IsWholeSet shapes set (blocks_at sets set)

abbrev pub IsWhole : Store → Type 0
IsWhole store = AreWhole (shapes_in store) store.sets.items

-- the store has a cell for each block of each set
abbrev pub HasRoom : Store → Type 0
HasRoom store = (set : ℕ) → set < length store.plans.items → length (blocks_at store.sets.items set) ≤ length store.room.cells.items

abbrev pub words_in : Cell → List ℕ
words_in cell = cell.words

-- the word that is held for a position
unfoldable pub word_at : List Cell → ℕ → ℕ
word_at room p = slice_index (slice_index_or (map words_in room) (p / 512) []) (p % 512)

-- the same, and 0 where there is no such position
abbrev pub word_or_zero : List Cell → ℕ → ℕ → ℕ
word_or_zero room count p = if nat_lt p count then word_at room p else 0
