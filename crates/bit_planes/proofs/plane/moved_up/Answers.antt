use Rattle.bit_planes.proofs.Words.{bit-moved_up}
use Rattle.bit_planes.proofs.plane.moved_up.Goals as goal

pub returns : goal.returns
returns c = bit-moved_up c.args.a c.args.by c.fits-a.0 c.requires
