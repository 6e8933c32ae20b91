-- Numbers that stand across planes: one plane for each bit, one lane for each number.
use Rattle.std.specs.Prelude.{ℕ, zero, suc, ◌≢◌, ◌%◌, ◌+◌, ◌*◌, ◌^◌, ◌<◌, ◌≤◌, ◌≡◌, ◌⊎◌, List, [], length, slice_index_or}
use Rattle.bit_planes.specs.declared.plane.Plane.{Plane}
use Rattle.bit_planes.specs.Bits.{bit}

-- the bits of plane j
abbrev pub plane_at : List Plane → ℕ → List ℕ
plane_at planes j = (slice_index_or planes j (record { bits = [] })).bits

-- the number of n bits in lane i whose lowest bit stands in the plane at the offset
unfoldable pub number : List Plane → ℕ → ℕ → ℕ → ℕ
number planes offset zero i = 0
number planes offset (suc n) i = number planes offset n i + 2 ^ n * bit (plane_at planes (offset + n)) i

-- the field of n bits at the offset has become these planes, and each other plane is as it was
pub record SetsField (offset n : ℕ) (field old new : List Plane) : Type 0 where
  pub long : length new ≡ length old
  pub inside : (j : ℕ) → j < n → plane_at new (offset + j) ≡ plane_at field j
  pub outside : (j : ℕ) → (j < offset) ⊎ (offset + n ≤ j) → plane_at new j ≡ plane_at old j

-- the row's number in the field of n bits at the offset has become v modulo 2 ^ n, and each other bit is as it was
pub record SetsNumber (offset n row v : ℕ) (old new : List Plane) : Type 0 where
  pub long : length new ≡ length old
  pub number : number new offset n row ≡ v % 2 ^ n
  pub other_planes : (j : ℕ) → (j < offset) ⊎ (offset + n ≤ j) → plane_at new j ≡ plane_at old j
  pub other_rows : (j i : ℕ) → i < 512 → i ≢ row → bit (plane_at new j) i ≡ bit (plane_at old j) i
