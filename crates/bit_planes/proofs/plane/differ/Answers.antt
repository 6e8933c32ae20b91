use Rattle.bit_planes.proofs.Words.{bit-zip2}
use Rattle.std.proofs.Common.{◌+◌, ◌%◌}
use Rattle.std.specs.Int.Bits.{bit_xor}
use Rattle.std.proofs.lemmas.Nat.Bits.{bit_at_xor}
use Rattle.bit_planes.proofs.plane.differ.Goals as goal

pub returns : goal.returns
returns c = bit-zip2 bit_xor (λ x y. (x + y) % 2) bit_at_xor c.args.a c.args.b c.fits-a.0 c.fits-b.0
