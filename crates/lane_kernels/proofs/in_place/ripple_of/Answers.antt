use Rattle.std.proofs.Common.{arith}
use Rattle.lane_kernels.proofs.Rippling.{rippled, summed}
use Rattle.lane_kernels.proofs.in_place.ripple_of.Goals as goal

pub loop-j-preserved : goal.loop-j-preserved
loop-j-preserved c = rippled c.args.to.now c.args.a.now c.args.b.now c.args.inverted c.loop-j.j c.loop-j.carry c.repeated-flip.result c.plane-x.result c.plane.result c.differ-y.result c.sum_bit-sum.result c.carry_bit-carry.result
    c.args.planes.now c.loop-j.planes c.write.new.planes c.loop-j-test.true c.requires.a c.requires.b c.repeated-flip.ensures c.loop-j.invariant
    c.plane-x.ensures c.plane.ensures c.differ-y.ensures c.sum_bit-sum.ensures c.carry_bit-carry.ensures c.write.ensures

pub returns : goal.returns
returns c = summed c.args.to.now c.args.a.now c.args.b.now c.args.inverted c.loop-j.j c.loop-j.carry c.args.planes.now c.loop-j.planes (omega arith) c.loop-j.invariant
