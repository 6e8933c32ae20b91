use Rattle.bit_planes.proofs.Words.{bit-set_same, bit-set_other}
use Rattle.bit_planes.proofs.plane.with_lane.Goals as goal

pub returns-clause-lane : goal.returns-clause-lane
returns-clause-lane c = bit-set_same c.args.a c.fits-a.0 c.args.i c.requires c.with_bit.result _ c.with_bit.ensures.bit

pub returns-clause-others : goal.returns-clause-others
returns-clause-others c = bit-set_other c.args.a c.fits-a.0 c.args.i c.requires c.with_bit.result c.with_bit.ensures.others
