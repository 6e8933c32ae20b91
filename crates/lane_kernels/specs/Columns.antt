-- Columns of numbers, as operands and results.
use Rattle.std.specs.Prelude.{ℕ, ◌≡◌, ◌<◌, ◌+◌, List, length}
use Rattle.bit_planes.specs.declared.plane.Plane.{Plane}
use Rattle.bit_planes.specs.declared.lanes.Lanes.{Lanes}
use Rattle.bit_planes.specs.Bits.{bit}
use Rattle.bit_planes.specs.Planes.{plane_at, number}
use Rattle.lane_kernels.specs.declared.target.Target.{Target}

-- the column's number in lane i
abbrev pub value_at : Lanes → ℕ → ℕ
value_at column i = number column.planes 0 column.len i

-- the column has n bits and these numbers, in every lane
pub record HasNumbers (column : Lanes) (n : ℕ) (numbers : ℕ → ℕ) : Type 0 where
  pub len : column.len ≡ n
  pub values : (i : ℕ) → i < 512 → value_at column i ≡ numbers i

-- 64 planes, of this column and of that
pub record IsBeside (a b : Lanes) (planes : List Plane) : Type 0 where
  pub long : length planes ≡ 64
  pub first : (j : ℕ) → j < 32 → plane_at planes j ≡ plane_at a.planes j
  pub second : (j : ℕ) → j < 32 → plane_at planes (32 + j) ≡ plane_at b.planes j

-- the first n planes in every lane
pub record IsWhole (n : ℕ) (to : Target) : Type 0 where
  pub offset : to.offset ≡ 0
  pub len : to.len ≡ n
  pub lanes : (i : ℕ) → i < 512 → bit to.lanes i ≡ 1
