use Rattle.bit_planes.proofs.Words.{bit-opposite}
use Rattle.bit_planes.proofs.plane.opposite.Goals as goal

pub returns : goal.returns
returns c = bit-opposite c.args.a c.fits-a.0 c.fits-a.1
