-- How an instruction is done in a block.
use Rattle.std.specs.Prelude.{◌≡◌, ℕ, ◌+◌, ◌%◌, ◌^◌, ◌≤◌, Bool, List}
use Rattle.bit_planes.specs.declared.plane.Plane.{Plane}
use Rattle.cstar_base.specs.Numbers.{residue}
use Rattle.lane_kernels.specs.declared.target.Operand.{Operand}
use Rattle.lane_kernels.specs.declared.target.Operand.TheVariants as O
use Rattle.paris_code.specs.declared.instr.Instr.{Instr}
use Rattle.paris_code.specs.declared.instr.Instr.TheVariants as I
use Rattle.paris_code.specs.declared.operands.Compare.{Compare}
use Rattle.paris_code.specs.declared.operands.Coordinate.{Coordinate}
use Rattle.paris_code.specs.declared.operands.Field.{Field}
use Rattle.paris_code.specs.declared.operands.Konst.{Konst}
use Rattle.paris_code.specs.declared.operands.Operation.{Operation}
use Rattle.paris_code.specs.Arguments.{konst_number}
use Rattle.paris_code.specs.Elementwise.{destination, element}
use Rattle.paris_code.specs.Memory.{whole_number}
use Rattle.paris_code.specs.Shapes.{SetShape, bits_at}
use Rattle.phase_meaning.specs.Apply.{CanApply, active_set}
use Rattle.elementwise.specs.Blocks.{block_memory}
use Rattle.elementwise.specs.declared.planar.Planar.{Planar}
use Rattle.elementwise.specs.declared.planar.Planar.TheVariants as L
use Rattle.elementwise.specs.declared.planar.Work.{Work}
use Rattle.elementwise.specs.declared.planar.Work.TheVariants as K
use Rattle.elementwise.specs.declared.ways.Way.{Way}
use Rattle.elementwise.specs.declared.ways.Way.TheVariants as W
use Rattle.elementwise.specs.Moved.{IsMovedFor}
use Rattle.elementwise.specs.Planar.{IsKernelOf}
use Rattle.elementwise.specs.Relations.{IsRelationOf}

-- by a kernel, and by one that has one operand
abbrev pub by_kernel : Work → Operand → Operand → Way
by_kernel op a b = W.Kernel (record { op = op; a = a; b = b })

abbrev pub by_one : Planar → Operand → Way
by_one op a = by_kernel (K.Planes op) a (O.Constant 0)

-- by the bits of a field that a mask has
abbrev pub by_mask : ℕ → ℕ → Way
by_mask offset mask = by_kernel (K.Planes L.And) (O.Field offset) (O.Constant mask)

-- by a relation
abbrev pub by_relation : Compare → ℕ → Operand → Operand → Way
by_relation relation len a b = W.Relation (record { relation = relation; len = len; a = a; b = b })

-- it is a way to do the instruction
abbrev pub IsWayOf : List SetShape → Instr → List ℕ → Way → Type 0
IsWayOf shapes instr args (W.Kernel kernel) = IsKernelOf shapes instr args kernel
IsWayOf shapes instr args (W.Relation relation) = IsRelationOf shapes instr args relation
IsWayOf shapes instr args (W.Moved moved) = IsMovedFor shapes instr args moved
IsWayOf shapes instr args W.Elements = Unit {0}

-- the instruction moves a field of its set, read signed or not, to its destination
pub record IsMoveOf (shapes : List SetShape) (instr : Instr) (args : List ℕ) (signed : Bool) (dest source : Field) : Type 0 where
  pub made : destination shapes instr ≡ dest
  pub some : 1 ≤ source.len
  pub within : source.offset + source.len ≤ bits_at shapes (active_set instr) + 2
  pub same : (planes : List Plane) (p : ℕ) → element shapes instr args (block_memory planes) p % 2 ^ dest.len ≡ residue dest.len (whole_number (block_memory planes) signed source p) % 2 ^ dest.len

-- it is a way to do each such move
abbrev pub IsWayOfMove : List SetShape → List ℕ → Bool → Field → Field → Way → Type 0
IsWayOfMove shapes args signed dest source way = (instr : Instr) → IsMoveOf shapes instr args signed dest source → IsWayOf shapes instr args way

-- the instruction makes an address of these coordinates
abbrev pub IsAddressOf : Instr → Field → List Coordinate → Type 0
IsAddressOf (I.MakeAddress d set coordinates) dest list = (d ≡ dest) × (coordinates.items ≡ list)
IsAddressOf _ dest list = ⊥

-- it is a way to do each such instruction
abbrev pub IsWayOfAddress : List ℕ → Field → List Coordinate → Way → Type 0
IsWayOfAddress args dest list way = (shapes : List SetShape) (instr : Instr) → CanApply shapes instr args → IsAddressOf instr dest list → IsWayOf shapes instr args way

-- it is a way to do an operation with a constant
abbrev pub IsWayOfConstant : List SetShape → List ℕ → Operation → Field → Field → ℕ → Way → Type 0
IsWayOfConstant shapes args op dest left constant way =
    (k : Konst) → let operate = I.OperateConstant op dest left k in
    CanApply shapes operate args → konst_number k args % 2 ^ dest.len ≡ constant → IsWayOf shapes operate args way
