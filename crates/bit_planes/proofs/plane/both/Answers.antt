use Rattle.bit_planes.proofs.Words.{bit-zip2}
use Rattle.std.proofs.Common.{min, bit_and}
use Rattle.std.proofs.lemmas.Nat.Bits.{bit_at_and}
use Rattle.bit_planes.proofs.plane.both.Goals as goal

pub returns : goal.returns
returns c = bit-zip2 bit_and min bit_at_and c.args.a c.args.b c.fits-a.0 c.fits-b.0
