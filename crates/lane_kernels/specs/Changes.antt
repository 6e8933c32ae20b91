-- What a write of one plane changes.
use Rattle.std.specs.Prelude.{ℕ, ◌≡◌, ◌≢◌, ◌<◌, List, length}
use Rattle.bit_planes.specs.declared.plane.Plane.{Plane}
use Rattle.bit_planes.specs.Bits.{bit}
use Rattle.bit_planes.specs.Planes.{plane_at}

-- in the lanes of the mask, the plane at this place has become the value; all else is as it was
pub record Writes (at : ℕ) (value lanes : List ℕ) (old new : List Plane) : Type 0 where
  pub long : length new ≡ length old
  pub written : (i : ℕ) → i < 512 → bit lanes i ≡ 1 → bit (plane_at new at) i ≡ bit value i
  pub kept : (i : ℕ) → i < 512 → bit lanes i ≡ 0 → bit (plane_at new at) i ≡ bit (plane_at old at) i
  pub others : (j : ℕ) → j ≢ at → plane_at new j ≡ plane_at old j

-- every lane is 1
abbrev pub HasAllLanes : List ℕ → Type 0
HasAllLanes lanes = (i : ℕ) → i < 512 → bit lanes i ≡ 1
