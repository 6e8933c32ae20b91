use Rattle.bit_planes.proofs.Words.{bit-zip2}
use Rattle.std.proofs.Common.{max, bit_or}
use Rattle.std.proofs.lemmas.Nat.Bits.{bit_at_or}
use Rattle.bit_planes.proofs.plane.either.Goals as goal

pub returns : goal.returns
returns c = bit-zip2 bit_or max bit_at_or c.args.a c.args.b c.fits-a.0 c.fits-b.0
