use Rattle.std.proofs.Common.{◌+◌, ◌/◌, ◌^◌, arith}
use Rattle.bit_planes.specs.Planes.{number}
use Rattle.lane_kernels.specs.Numbers.{extended}
use Rattle.lane_kernels.proofs.Steps.{taken}
use Rattle.lane_kernels.proofs.Lifted.{all_written}
use Rattle.lane_kernels.proofs.in_place.from_bit.Goals as goal

pub loop-j-preserved : goal.loop-j-preserved
loop-j-preserved c = taken c.args.to.now c.args.offset c.args.len c.loop-j.j c.args.k c.args.unsigned c.above-sign.result c.plane_or-value.result c.args.planes.now c.loop-j.planes c.write.new.planes
    c.requires.len c.loop-j-test.true c.requires.field c.above-sign.ensures c.plane_or-value.ensures c.loop-j.invariant c.write.ensures

pub returns : goal.returns
returns c = all_written c.args.to.now c.loop-j.j (λ i. extended c.args.unsigned c.args.len (c.args.to.now.len + c.args.k) (number c.args.planes.now c.args.offset c.args.len i) / 2 ^ c.args.k) c.args.planes.now c.loop-j.planes (omega arith) c.loop-j.invariant
