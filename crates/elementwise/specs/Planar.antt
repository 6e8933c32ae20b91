-- What is done plane by plane.
use Rattle.std.specs.Prelude.{◌≡◌, ℕ, ◌+◌, ◌%◌, ◌^◌, ◌≤◌, bit_and, bit_or, bit_xor, true, false, List, length, Option, Some, None}
use Rattle.bit_planes.specs.declared.plane.Plane.{Plane}
use Rattle.lane_kernels.specs.Kernels.{operand_of, IsWithin}
use Rattle.lane_kernels.specs.Numbers.{sum_of, difference_of, product_of, negative_of, complement_of, least_of, greatest_of}
use Rattle.paris_code.specs.declared.instr.Instr.{Instr}
use Rattle.paris_code.specs.declared.operands.Operation.{Operation}
use Rattle.paris_code.specs.declared.operands.Operation.TheVariants as P
use Rattle.cstar_base.specs.Operators.{outcome}
use Rattle.paris_code.specs.Operators.{operator_of}
use Rattle.paris_code.specs.Elementwise.{destination, element}
use Rattle.paris_code.specs.Shapes.{SetShape, bits_at}
use Rattle.phase_meaning.specs.Apply.{active_set}
use Rattle.elementwise.specs.declared.planar.Planar.{Planar}
use Rattle.elementwise.specs.declared.planar.Planar.TheVariants as L
use Rattle.elementwise.specs.declared.planar.Work.{Work}
use Rattle.elementwise.specs.declared.planar.Work.TheVariants as K
use Rattle.elementwise.specs.declared.planar.Kernel.{Kernel}
use Rattle.elementwise.specs.Blocks.{block_memory}

-- what a kernel gives on two numbers of n bits
abbrev pub gives : Planar → ℕ → ℕ → ℕ → ℕ
gives L.Same n x y = x
gives L.Complement n x y = complement_of n x
gives L.Negative n x y = negative_of n x
gives L.Add n x y = sum_of n x y
gives L.Subtract n x y = difference_of n x y
gives L.Multiply n x y = product_of n x y
gives L.And n x y = bit_and x y
gives L.Or n x y = bit_or x y
gives L.Xor n x y = bit_xor x y
gives (L.Min unsigned) n x y = least_of unsigned n x y
gives (L.Max unsigned) n x y = greatest_of unsigned n x y

-- and what one gives that is done either way
abbrev pub gives_work : Work → ℕ → ℕ → ℕ → ℕ
gives_work (K.Planes o) n x y = gives o n x y
gives_work (K.Values op) n x y = outcome (operator_of op).0 n (operator_of op).1 x y

-- the operation of instructions that is done so
abbrev pub operation_of : Work → Option Operation
operation_of (K.Planes L.Add) = Some P.SAdd
operation_of (K.Planes L.Subtract) = Some P.SSubtract
operation_of (K.Planes L.Multiply) = Some P.SMultiply
operation_of (K.Planes L.And) = Some P.Logand
operation_of (K.Planes L.Or) = Some P.Logior
operation_of (K.Planes L.Xor) = Some P.Logxor
operation_of (K.Planes (L.Min false)) = Some P.SMin
operation_of (K.Planes (L.Min true)) = Some P.UMin
operation_of (K.Planes (L.Max false)) = Some P.SMax
operation_of (K.Planes (L.Max true)) = Some P.UMax
operation_of (K.Planes _) = None
operation_of (K.Values op) = Some op

-- what a kernel gives a lane, at n bits
abbrev pub kernel_number : Kernel → List Plane → ℕ → ℕ → ℕ
kernel_number kernel planes n i = gives_work kernel.op n (operand_of kernel.a planes n i) (operand_of kernel.b planes n i)

-- the kernel gives each lane of a block what the instruction gives its position
pub record IsKernelOf (shapes : List SetShape) (instr : Instr) (args : List ℕ) (kernel : Kernel) : Type 0 where
  pub a : (planes : List Plane) → bits_at shapes (active_set instr) + 2 ≤ length planes → IsWithin kernel.a (destination shapes instr).len planes
  pub b : (planes : List Plane) → bits_at shapes (active_set instr) + 2 ≤ length planes → IsWithin kernel.b (destination shapes instr).len planes
  pub same : (planes : List Plane) (p : ℕ) → let n : ℕ = (destination shapes instr).len in
      kernel_number kernel planes n (p % 512) % 2 ^ n ≡ element shapes instr args (block_memory planes) p % 2 ^ n
