-- What a batch does to one block.
use Rattle.std.specs.Prelude.{◌≡◌, ℕ, true, ◌+◌, ◌*◌, ◌/◌, ◌%◌, ◌^◌, ◌<◌, ◌≤◌, Option, Some, None, List, [], ◌∷◌, length, slice_index_or}
use Rattle.vp_sets.specs.Blocks.{block_count}
use Rattle.vp_sets.specs.Positions.{shifted}
use Rattle.cstar_base.specs.Numbers.{number_of}
use Rattle.bit_planes.specs.declared.plane.Plane.{Plane}
use Rattle.bit_planes.specs.Bits.{bit}
use Rattle.bit_planes.specs.Planes.{plane_at, number}
use Rattle.bit_planes.specs.declared.block.Block.{Block}
use Rattle.paris_code.specs.declared.instr.Instr.{Instr}
use Rattle.paris_code.specs.declared.operands.Field.{Field}
use Rattle.paris_code.specs.Elementwise.{elementwise}
use Rattle.paris_code.specs.Memory.{BitMemory, processors}
use Rattle.paris_code.specs.Shapes.{SetShape, bits_at, extents_at}
use Rattle.paris_code.specs.Writes.{Write, written}
use Rattle.phase_meaning.specs.Gathered.{gathered}
use Rattle.block_store.specs.Planes.{HasPlanes}
use Rattle.elementwise.specs.Blocks.{block_memory}
use Rattle.news_grid.specs.Steps.{number_held}
use Rattle.instruction_runs.specs.declared.deferring.Deferred.{Deferred}
use Rattle.instruction_runs.specs.declared.deferring.Work.{Work}
use Rattle.instruction_runs.specs.declared.deferring.Work.TheVariants as W

-- the numbers of a field that the room holds
abbrev pub held_in : List Plane → Field → ℕ → ℕ
held_in held f p = number_held held f.len p

-- the sets have room for a pass over the blocks of one: there are few blocks, and 32 held planes for each
pub record PassFits (shapes : List SetShape) (set : ℕ) (held : List Plane) : Type 0 where
  pub few : block_count (extents_at shapes set) < 2 ^ 16
  pub enough : 32 * block_count (extents_at shapes set) ≤ length held

-- a field lies in the planes of each block
abbrev pub IsFieldIn : Option Field → List Block → Type 0
IsFieldIn None blocks = Unit {0}
IsFieldIn (Some f) blocks = ((1 ≤ f.len) × (f.len ≤ 32)) × HasPlanes (f.offset + f.len) blocks

-- and its planes are held, those of a block side by side
abbrev pub IsHeldOf : Option Field → List Block → List Plane → Type 0
IsHeldOf None blocks held = Unit {0}
IsHeldOf (Some f) blocks held = (k i : ℕ) (other : Block) → k < length blocks
    → number held (k * f.len) f.len i ≡ number (slice_index_or blocks k other).planes.items f.offset f.len i

-- what an instruction writes, where a shift takes the numbers that are held of its source
abbrev pub write_of_work : List SetShape → (Field → ℕ → ℕ) → Instr → BitMemory → Work → Write
write_of_work shapes held instr m (W.Elementwise prepared) = elementwise shapes instr [] m
write_of_work shapes held instr m (W.Shift news step) =
    gathered shapes m news.dest news.always (λ p. held news.source (shifted (extents_at shapes news.source.set) p news.axis (number_of 32 true news.by)))

abbrev pub write_from : List SetShape → (Field → ℕ → ℕ) → Deferred → BitMemory → Write
write_from shapes held d m = write_of_work shapes held d.instr m d.work

-- the memory behind instructions that are done so one after another: at each position it rests on the bits of this position alone
abbrev pub done_from : List SetShape → (Field → ℕ → ℕ) → List Deferred → BitMemory → BitMemory
done_from shapes held [] m = m
done_from shapes held (d ∷ rest) m = done_from shapes held rest (written (write_from shapes held d m) m)

-- block k is as the instructions leave it one after another, at the positions of the set; and a lane
-- behind the last one stays where it is not active
pub record AllDoneInBlock (shapes : List SetShape) (held : Field → ℕ → ℕ) (set : ℕ) (ds : List Deferred) (k : ℕ) (old new : List Plane) : Type 0 where
  pub long : length new ≡ length old
  pub done : (p i : ℕ) → p / 512 ≡ k → p < processors shapes set → i < bits_at shapes set + 2
      → bit (plane_at new i) (p % 512) ≡ (done_from shapes held ds (block_memory old)).bit set p i
  pub padding : (p i : ℕ) → p / 512 ≡ k → processors shapes set ≤ p → bit (plane_at old (bits_at shapes set)) (p % 512) ≡ 0
      → bit (plane_at new i) (p % 512) ≡ bit (plane_at old i) (p % 512)
