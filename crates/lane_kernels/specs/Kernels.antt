-- What the kernels read and write.
use Rattle.std.specs.Prelude.{ℕ, ◌≡◌, ◌<◌, ◌≤◌, ◌+◌, ◌%◌, ◌^◌, ◌⊎◌, List, length}
use Rattle.std.specs.Int.{bit_at}
use Rattle.bit_planes.specs.declared.plane.Plane.{Plane}
use Rattle.bit_planes.specs.Bits.{bit}
use Rattle.bit_planes.specs.Planes.{plane_at, number}
use Rattle.lane_kernels.specs.declared.target.Target.{Target}
use Rattle.lane_kernels.specs.declared.target.Operand.{Operand}
use Rattle.lane_kernels.specs.declared.target.Operand.TheVariants.{Field, Constant}

-- bit j of the operand in lane i
abbrev pub operand_bit : Operand → List Plane → ℕ → ℕ → ℕ
operand_bit (Field offset) planes j i = bit (plane_at planes (offset + j)) i
operand_bit (Constant k) planes j i = bit_at k j

-- the operand's number of n bits in lane i
abbrev pub operand_of : Operand → List Plane → ℕ → ℕ → ℕ
operand_of (Field offset) planes n i = number planes offset n i
operand_of (Constant k) planes n i = k % 2 ^ n

-- the operand's n bits lie in the planes
abbrev pub IsWithin : Operand → ℕ → List Plane → Type 0
IsWithin (Field offset) n planes = offset + n ≤ length planes
IsWithin (Constant k) n planes = Unit {0}

-- the target lies in the planes
abbrev pub HasTarget : Target → List Plane → Type 0
HasTarget to planes = to.offset + to.len ≤ length planes

-- the field of n bits lies in the planes, and it does not begin below the target and reach into it, so that writing the
-- target from its lowest bit up destroys no bit that is still to be read
abbrev pub IsFieldReadable : ℕ → ℕ → Target → List Plane → Type 0
IsFieldReadable offset n to planes = (offset + n ≤ length planes) × ((to.offset ≤ offset) ⊎ (offset + n ≤ to.offset))

-- the same where the target is written from its highest bit down
abbrev pub IsReadableDown : ℕ → Target → List Plane → Type 0
IsReadableDown offset to planes = (offset + to.len ≤ length planes) × ((offset ≤ to.offset) ⊎ (to.offset + to.len ≤ offset))

-- the operand can be read while the target is written
abbrev pub IsReadable : Operand → Target → List Plane → Type 0
IsReadable (Field offset) to planes = IsFieldReadable offset to.len to planes
IsReadable (Constant k) to planes = Unit {0}

-- in the target's lanes, the target's field has become these numbers; each other bit is as it was
pub record Becomes (to : Target) (numbers : ℕ → ℕ) (old new : List Plane) : Type 0 where
  pub long : length new ≡ length old
  pub written : (i : ℕ) → i < 512 → bit to.lanes i ≡ 1 → number new to.offset to.len i ≡ numbers i
  pub kept : (j i : ℕ) → i < 512 → bit to.lanes i ≡ 0 → bit (plane_at new j) i ≡ bit (plane_at old j) i
  pub outside : (j : ℕ) → (j < to.offset) ⊎ (to.offset + to.len ≤ j) → plane_at new j ≡ plane_at old j
