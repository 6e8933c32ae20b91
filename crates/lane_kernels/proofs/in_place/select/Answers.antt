use Rattle.std.proofs.Common.{◌^◌, cond, nat_eq, arith}
use Rattle.bit_planes.specs.Bits.{bit}
use Rattle.lane_kernels.specs.Kernels.{operand_of}
use Rattle.lane_kernels.proofs.Steps.{combined, all_small}
use Rattle.lane_kernels.proofs.Lifted.{operand_of-lt}
use Rattle.lane_kernels.proofs.Arithmetic.{cond_bits, cond-lt}
use Rattle.lane_kernels.proofs.in_place.select.Goals as goal

pub loop-j-preserved : goal.loop-j-preserved
loop-j-preserved c = combined c.args.to.now c.args.a.now c.args.b.now c.loop-j.j (λ i. cond (nat_eq (bit c.args.first i) 1)) (λ i. cond (nat_eq (bit c.args.first i) 1) (operand_of c.args.a.now c.args.planes.now c.args.to.now.len i) (operand_of c.args.b.now c.args.planes.now c.args.to.now.len i))
    c.plane.result c.plane-in-loop-j.result c.choose-value.result c.args.planes.now c.loop-j.planes c.write.new.planes c.loop-j-test.true c.requires.a c.requires.b
    (λ i ib. cond_bits (nat_eq (bit c.args.first i) 1) (operand_of c.args.a.now c.args.planes.now c.args.to.now.len i) (operand_of c.args.b.now c.args.planes.now c.args.to.now.len i) c.loop-j.j)
    c.loop-j.invariant c.plane.ensures c.plane-in-loop-j.ensures c.choose-value.ensures c.write.ensures

pub returns : goal.returns
returns c = all_small c.args.to.now c.loop-j.j (λ i. cond (nat_eq (bit c.args.first i) 1) (operand_of c.args.a.now c.args.planes.now c.args.to.now.len i) (operand_of c.args.b.now c.args.planes.now c.args.to.now.len i)) c.args.planes.now c.loop-j.planes (omega arith)
    (λ i. cond-lt (nat_eq (bit c.args.first i) 1) (operand_of c.args.a.now c.args.planes.now c.args.to.now.len i) (operand_of c.args.b.now c.args.planes.now c.args.to.now.len i) (2 ^ c.args.to.now.len) (operand_of-lt c.args.a.now c.args.planes.now c.args.to.now.len i) (operand_of-lt c.args.b.now c.args.planes.now c.args.to.now.len i))
    c.loop-j.invariant
