-- The words of a send, as a block takes them.
use Rattle.std.specs.Prelude.{◌≡◌, ℕ, ◌+◌, ◌*◌, ◌%◌, ◌^◌, ◌<◌, true, List, slice_index}
use Rattle.vp_sets.specs.Positions.{position_count}
use Rattle.bit_planes.specs.declared.plane.Plane.{Plane}
use Rattle.bit_planes.specs.Planes.{plane_at}
use Rattle.cstar_base.specs.Numbers.{converted}
use Rattle.paris_code.specs.Sending.{word_kind}
use Rattle.block_store.specs.Phases.{LanesWritten, TakesLanes}
use Rattle.combine_send.specs.declared.send.Send.{Send}

-- the lanes of block k that hold a position have taken its word, converted to the type of the destination
pub record HasTaken (extents : List ℕ) (context : ℕ) (send : Send) (words : List ℕ) (k : ℕ) (old new : List Plane) : Type 0 where
  pub mask : List ℕ
  pub numbers : ℕ → ℕ
  pub lanes : TakesLanes extents k true (plane_at old context) mask
  pub written : LanesWritten send.dest.offset send.dest.len mask numbers old new
  pub gives : (i : ℕ) → i < 512 → 512 * k + i < position_count extents
      → numbers i ≡ converted send.kind word_kind (slice_index words (512 * k + i)) % 2 ^ send.dest.len
