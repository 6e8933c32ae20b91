-- What a check finds in one block.
use Rattle.std.specs.Prelude.{◌≡◌, ℕ, ◌+◌, ◌*◌, ◌<◌, Bool, true, false, ◌&&◌, List}
use Rattle.bit_planes.specs.declared.plane.Plane.{Plane}
use Rattle.paris_code.specs.declared.instr.Instr.{Instr}
use Rattle.paris_code.specs.Checking.{checked_set, fails}
use Rattle.paris_code.specs.Memory.{BitMemory, is_active, processors}
use Rattle.paris_code.specs.Shapes.{SetShape}
use Rattle.elementwise.specs.Blocks.{block_memory}

-- an active processor fails
abbrev pub active_fails : List SetShape → Instr → List ℕ → BitMemory → ℕ → Bool
active_fails shapes instr args m p = is_active shapes m (checked_set instr) p && fails shapes instr args m p

-- the first lane of block k at whose position an active processor fails; from 512 on, there is none
pub record IsFirstFailing (shapes : List SetShape) (instr : Instr) (args : List ℕ) (k : ℕ) (planes : List Plane) (first : ℕ) : Type 0 where
  pub before : (i : ℕ) → i < 512 → i < first → 512 * k + i < processors shapes (checked_set instr) → active_fails shapes instr args (block_memory planes) (512 * k + i) ≡ false
  pub here : first < 512 → (512 * k + first < processors shapes (checked_set instr)) × (active_fails shapes instr args (block_memory planes) (512 * k + first) ≡ true)
