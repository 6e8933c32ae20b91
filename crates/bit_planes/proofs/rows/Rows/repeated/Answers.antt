use Rattle.bit_planes.proofs.Numbers.{held_repeated}
use Rattle.bit_planes.proofs.rows.Rows.repeated.Goals as goal

pub returns : goal.returns
returns c = held_repeated c.paired.result c.args.number c.paired.ensures c.ranges.number.fits
