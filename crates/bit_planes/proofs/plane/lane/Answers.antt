use Rattle.std.proofs.Common.{refl}
use Rattle.bit_planes.specs.Bits.{bit}
use Rattle.bit_planes.proofs.plane.lane.Goals as goal

pub returns : goal.returns
unfolding bit
returns c = refl
