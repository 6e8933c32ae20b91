-- What an elementwise instruction does to one block.
use Rattle.std.specs.Prelude.{ℕ, ◌%◌, List}
use Rattle.cstar_base.specs.declared.operators.Winner.TheVariants as W
use Rattle.bit_planes.specs.declared.plane.Plane.{Plane}
use Rattle.bit_planes.specs.Bits.{bit}
use Rattle.bit_planes.specs.Planes.{plane_at}
use Rattle.block_store.specs.Phases.{WrittenInBlock}
use Rattle.paris_code.specs.declared.instr.Instr.{Instr}
use Rattle.paris_code.specs.Elementwise.{elementwise}
use Rattle.paris_code.specs.Memory.{BitMemory}
use Rattle.paris_code.specs.Shapes.{SetShape}

-- The memory that the planes of one block are, whichever block it is: a position is the lane of its
-- number modulo 512. What an instruction gives a position rests on the bits of that position alone,
-- so it can be said by the planes of its block.
unfoldable pub block_memory : List Plane → BitMemory
block_memory planes = record { bit = λ set p i. bit (plane_at planes i) (p % 512); winner = W.High }

-- block k of the instruction's set is as its meaning has it
abbrev pub DoneInBlock : List SetShape → Instr → List ℕ → ℕ → List Plane → List Plane → Type 0
DoneInBlock shapes instr args k old new = WrittenInBlock shapes (elementwise shapes instr args (block_memory old)) k old new
