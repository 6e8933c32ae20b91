use Rattle.bit_planes.proofs.Words.{bit-zeros}
use Rattle.bit_planes.proofs.plane.Plane.zero.Goals as goal

pub returns : goal.returns
returns c = bit-zeros
