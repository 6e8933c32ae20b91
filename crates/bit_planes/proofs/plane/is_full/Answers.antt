use Rattle.std.proofs.Common.{arith}
use Rattle.bit_planes.proofs.Words.{bit-lt}
use Rattle.bit_planes.proofs.plane.is_full.Goals as goal

pub returns : goal.returns
returns c = λ none i b. omega (arith, c.is_empty.ensures none i b, c.opposite.ensures i b, bit-lt c.args.a i)
