use Rattle.std.proofs.Common.{◌-◌, sym, arith}
use Rattle.lane_kernels.specs.Kernels.{operand_of}
use Rattle.lane_kernels.proofs.Steps.{combined, all_small}
use Rattle.lane_kernels.proofs.Lifted.{operand_of-lt}
use Rattle.lane_kernels.specs.Numbers.{complement_of}
use Rattle.lane_kernels.proofs.Arithmetic.{complement_bits}
use Rattle.std.proofs.lemmas.Nat.{pow_pos}
use Rattle.lane_kernels.proofs.in_place.not.Goals as goal

pub loop-j-preserved : goal.loop-j-preserved
loop-j-preserved c = combined c.args.to.now c.args.a.now c.args.a.now c.loop-j.j (λ i x y. 1 - x) (λ i. complement_of c.args.to.now.len (operand_of c.args.a.now c.args.planes.now c.args.to.now.len i))
    c.plane.result c.plane.result c.opposite-value.result c.args.planes.now c.loop-j.planes c.write.new.planes c.loop-j-test.true c.requires.a c.requires.a
    (λ i ib. sym (complement_bits c.args.to.now.len (operand_of c.args.a.now c.args.planes.now c.args.to.now.len i) c.loop-j.j (operand_of-lt c.args.a.now c.args.planes.now c.args.to.now.len i) c.loop-j-test.true))
    c.loop-j.invariant c.plane.ensures c.plane.ensures c.opposite-value.ensures c.write.ensures

pub returns : goal.returns
returns c = all_small c.args.to.now c.loop-j.j (λ i. complement_of c.args.to.now.len (operand_of c.args.a.now c.args.planes.now c.args.to.now.len i)) c.args.planes.now c.loop-j.planes (omega arith)
    (λ i. omega (arith, pow_pos c.args.to.now.len))
    c.loop-j.invariant
