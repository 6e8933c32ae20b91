use Rattle.std.proofs.Common.{sym, arith}
use Rattle.lane_kernels.specs.Kernels.{operand_of}
use Rattle.lane_kernels.proofs.Steps.{combined, all_small}
use Rattle.lane_kernels.proofs.Lifted.{operand_of-lt}
use Rattle.lane_kernels.specs.Gates.{gate_of, gate_bit}
use Rattle.lane_kernels.proofs.Arithmetic.{gate_bits, gate_of-lt}
use Rattle.lane_kernels.proofs.in_place.bitwise_of.Goals as goal

pub loop-j-preserved : goal.loop-j-preserved
loop-j-preserved c = combined c.args.to.now c.args.a.now c.args.b.now c.loop-j.j (λ i. gate_bit c.args.gate) (λ i. gate_of c.args.gate (operand_of c.args.a.now c.args.planes.now c.args.to.now.len i) (operand_of c.args.b.now c.args.planes.now c.args.to.now.len i))
    c.plane.result c.plane-in-loop-j.result c.through-value.result c.args.planes.now c.loop-j.planes c.write.new.planes c.loop-j-test.true c.requires.a c.requires.b
    (λ i ib. sym (gate_bits c.args.gate (operand_of c.args.a.now c.args.planes.now c.args.to.now.len i) (operand_of c.args.b.now c.args.planes.now c.args.to.now.len i) c.loop-j.j))
    c.loop-j.invariant c.plane.ensures c.plane-in-loop-j.ensures c.through-value.ensures c.write.ensures

pub returns : goal.returns
returns c = all_small c.args.to.now c.loop-j.j (λ i. gate_of c.args.gate (operand_of c.args.a.now c.args.planes.now c.args.to.now.len i) (operand_of c.args.b.now c.args.planes.now c.args.to.now.len i)) c.args.planes.now c.loop-j.planes (omega arith)
    (λ i. gate_of-lt c.args.gate c.args.to.now.len (operand_of c.args.a.now c.args.planes.now c.args.to.now.len i) (operand_of c.args.b.now c.args.planes.now c.args.to.now.len i) (operand_of-lt c.args.a.now c.args.planes.now c.args.to.now.len i) (operand_of-lt c.args.b.now c.args.planes.now c.args.to.now.len i))
    c.loop-j.invariant
