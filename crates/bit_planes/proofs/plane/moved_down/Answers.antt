use Rattle.bit_planes.proofs.Words.{bit-moved_down}
use Rattle.bit_planes.proofs.plane.moved_down.Goals as goal

pub returns : goal.returns
returns c = bit-moved_down c.args.a c.args.by c.fits-a.0 c.fits-a.1 c.requires
