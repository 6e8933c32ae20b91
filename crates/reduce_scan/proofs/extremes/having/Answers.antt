use Rattle.std.proofs.Common.{◌∙◌}
use Rattle.bit_planes.specs.Bits.{bit}
use Rattle.bit_planes.proofs.Words.{bit-lt}
use Rattle.reduce_scan.proofs.ExtremeNumbers.{has_one, has_zero}
use Rattle.reduce_scan.proofs.extremes.having.Goals as goal

pub returns-then-one : goal.returns-then-one
returns-then-one c = λ i b. has_one (bit c.args.plane i) c.args.one (bit-lt c.args.plane i) c.if-one.true

pub returns : goal.returns
returns c = λ i b. c.opposite.ensures i b ∙ has_zero (bit c.args.plane i) c.args.one (bit-lt c.args.plane i) c.if-one.false
