-- Numbers of 32 bits, each in 32 lanes of one plane.
use Rattle.std.specs.Prelude.{ℕ, ◌*◌, ◌/◌, ◌%◌, ◌^◌, List, slice_index}
use Rattle.bit_planes.specs.declared.plane.Plane.{Plane}
use Rattle.bit_planes.specs.Planes.{plane_at}

-- the number in the 32 lanes of a plane among which lane i is: half of a word
unfoldable pub half : List ℕ → ℕ → ℕ
half plane i = slice_index plane (i / 64) / 2 ^ (32 * (i / 32 % 2)) % 2 ^ 32

-- the number that rows hold for lane i: plane i % 32 has it
abbrev pub held : List Plane → ℕ → ℕ
held rows i = half (plane_at rows (i % 32)) i
