-- Relations of fields.
use Rattle.std.specs.Prelude.{◌≡◌, ℕ, ◌+◌, ◌%◌, ◌≤◌, List, length}
use Rattle.bit_planes.specs.declared.plane.Plane.{Plane}
use Rattle.cstar_base.specs.Operators.{outcome}
use Rattle.lane_kernels.specs.Kernels.{operand_of, IsWithin}
use Rattle.paris_code.specs.declared.instr.Instr.{Instr}
use Rattle.paris_code.specs.Elementwise.{destination, element}
use Rattle.paris_code.specs.Operators.{comparison_of}
use Rattle.paris_code.specs.Shapes.{SetShape, bits_at}
use Rattle.phase_meaning.specs.Apply.{active_set}
use Rattle.elementwise.specs.declared.relations.Relation.{Relation}
use Rattle.elementwise.specs.Blocks.{block_memory}

-- what a relation gives a lane: 1 where it holds, else 0
abbrev pub relation_number : Relation → List Plane → ℕ → ℕ
relation_number r planes i = outcome (comparison_of r.relation).0 r.len (comparison_of r.relation).1 (operand_of r.a planes r.len i) (operand_of r.b planes r.len i)

-- the instruction writes a flag, and the relation gives each lane of a block what the instruction gives its position
pub record IsRelationOf (shapes : List SetShape) (instr : Instr) (args : List ℕ) (r : Relation) : Type 0 where
  pub flag : (destination shapes instr).len ≡ 1
  pub len : (1 ≤ r.len) × (r.len ≤ 32)
  pub a : (planes : List Plane) → bits_at shapes (active_set instr) + 2 ≤ length planes → IsWithin r.a r.len planes
  pub b : (planes : List Plane) → bits_at shapes (active_set instr) + 2 ≤ length planes → IsWithin r.b r.len planes
  pub same : (planes : List Plane) (p : ℕ) → relation_number r planes (p % 512) ≡ element shapes instr args (block_memory planes) p
