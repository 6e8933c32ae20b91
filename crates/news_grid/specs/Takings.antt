-- What the blocks of a set take in a NEWS shift.
use Rattle.std.specs.Prelude.{◌≡◌, ℕ, ◌+◌, ◌*◌, ◌^◌, ◌<◌, ◌≤◌, true, List, length}
use Rattle.vp_sets.specs.Blocks.{block_count}
use Rattle.vp_sets.specs.Positions.{position_count, shifted}
use Rattle.cstar_base.specs.Numbers.{number_of}
use Rattle.bit_planes.specs.declared.plane.Plane.{Plane}
use Rattle.bit_planes.specs.Planes.{plane_at}
use Rattle.block_store.specs.Phases.{LanesWritten, TakesLanes}
use Rattle.news_grid.specs.declared.news.Taking.{Taking}
use Rattle.news_grid.specs.Steps.{Leads, number_held}

-- the destination lies in the bits of a position, there are held planes for each block, and the step is that of the shift
pub record TakingFits (taking : Taking) : Type 0 where
  pub len : (1 ≤ taking.shift.dest.len) × (taking.shift.dest.len ≤ 32)
  pub dest : taking.shift.dest.offset + taking.shift.dest.len ≤ taking.plan.now.bits
  pub blocks : taking.blocks ≡ block_count taking.plan.now.geometry
  pub few : taking.blocks < 2 ^ 16
  pub held : 32 * taking.blocks ≤ length taking.held.now
  pub leads : Leads taking.plan.now.geometry taking.shift.axis (number_of 32 true taking.shift.by) taking.step

-- the lanes of block k have taken the numbers that are held for the positions to which the steps along the axis lead
pub record Stepped (taking : Taking) (k : ℕ) (old new : List Plane) : Type 0 where
  pub mask : List ℕ
  pub lanes : TakesLanes taking.plan.now.geometry k taking.shift.always (plane_at old taking.plan.now.bits) mask
  pub numbers : ℕ → ℕ
  pub written : LanesWritten taking.shift.dest.offset taking.shift.dest.len mask numbers old new
  pub there : (i : ℕ) → i < 512 → 512 * k + i < position_count taking.plan.now.geometry
      → numbers i ≡ number_held taking.held.now taking.shift.dest.len (shifted taking.plan.now.geometry (512 * k + i) taking.shift.axis (number_of 32 true taking.shift.by))
