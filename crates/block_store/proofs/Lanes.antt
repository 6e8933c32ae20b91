-- The numbers of a lane of a block, as runs of bits.
use Rattle.std.proofs.Common.{◌≡◌, ℕ, zero, suc, ◌+◌, ◌*◌, ◌^◌, List, refl, ap}
use Rattle.bit_planes.specs.declared.plane.Plane.{Plane}
use Rattle.bit_planes.specs.Bits.{bit}
use Rattle.bit_planes.specs.Planes.{plane_at, number}
use Rattle.paris_code.specs.Memory.{run_number}

-- the number of a lane is that of its run of bits
pub run_is : (planes : List Plane) (offset n lane : ℕ) → number planes offset n lane ≡ run_number (λ i. bit (plane_at planes i) lane) offset n
unfolding number run_number
run_is planes offset zero lane = refl
run_is planes offset (suc n) lane = ap (λ x. x + 2 ^ n * bit (plane_at planes (offset + n)) lane) (run_is planes offset n lane)
