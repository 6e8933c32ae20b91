-- Fields whose bits are moved.
use Rattle.std.specs.Prelude.{◌≡◌, ℕ, ◌+◌, ◌%◌, ◌^◌, ◌<◌, ◌≤◌, false, List, length}
use Rattle.bit_planes.specs.declared.plane.Plane.{Plane}
use Rattle.bit_planes.specs.Planes.{number}
use Rattle.cstar_base.specs.Operators.{quotient_of}
use Rattle.lane_kernels.specs.declared.target.Target.{Target}
use Rattle.lane_kernels.specs.Kernels.{IsFieldReadable, IsReadableDown}
use Rattle.lane_kernels.specs.Numbers.{resized, shifted_left, shifted_right}
use Rattle.paris_code.specs.declared.instr.Instr.{Instr}
use Rattle.paris_code.specs.Elementwise.{destination, element}
use Rattle.paris_code.specs.Shapes.{SetShape, bits_at}
use Rattle.phase_meaning.specs.Apply.{active_set}
use Rattle.elementwise.specs.declared.moved.Moved.{Moved}
use Rattle.elementwise.specs.declared.moved.Moved.TheVariants as M
use Rattle.elementwise.specs.Blocks.{block_memory}

-- the number of n bits that a lane gets
abbrev pub moved_number : Moved → List Plane → ℕ → ℕ → ℕ
moved_number (M.Resized offset len unsigned) planes n i = resized unsigned len n (number planes offset len i)
moved_number (M.ShiftedLeft offset by) planes n i = shifted_left n by (number planes offset n i)
moved_number (M.ShiftedRight offset by unsigned) planes n i = shifted_right unsigned n by (number planes offset n i)
moved_number (M.Divided offset by) planes n i = quotient_of n false (number planes offset n i) (2 ^ by)

-- the field lies in the planes, and a divisor is above 0 as a signed number
abbrev pub IsMovedWithin : Moved → ℕ → List Plane → Type 0
IsMovedWithin (M.Resized offset len unsigned) n planes = (1 ≤ len) × (offset + len ≤ length planes)
IsMovedWithin (M.ShiftedLeft offset by) n planes = offset + n ≤ length planes
IsMovedWithin (M.ShiftedRight offset by unsigned) n planes = offset + n ≤ length planes
IsMovedWithin (M.Divided offset by) n planes = (by + 1 < n) × (offset + n ≤ length planes)

-- and it can be read while the target is written
abbrev pub IsMovable : Moved → Target → List Plane → Type 0
IsMovable (M.Resized offset len unsigned) to planes = (1 ≤ len) × IsFieldReadable offset len to planes
IsMovable (M.ShiftedLeft offset by) to planes = IsReadableDown offset to planes
IsMovable (M.ShiftedRight offset by unsigned) to planes = IsFieldReadable offset to.len to planes
IsMovable (M.Divided offset by) to planes = (by + 1 < to.len) × IsFieldReadable offset to.len to planes

-- the moved field gives each lane of a block what the instruction gives its position
pub record IsMovedFor (shapes : List SetShape) (instr : Instr) (args : List ℕ) (moved : Moved) : Type 0 where
  pub within : (planes : List Plane) → bits_at shapes (active_set instr) + 2 ≤ length planes → IsMovedWithin moved (destination shapes instr).len planes
  pub same : (planes : List Plane) (p : ℕ) → let n : ℕ = (destination shapes instr).len in
      moved_number moved planes n (p % 512) % 2 ^ n ≡ element shapes instr args (block_memory planes) p % 2 ^ n
