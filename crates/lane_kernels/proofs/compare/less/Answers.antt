use Rattle.std.proofs.Common.{◌≡◌, ◌-◌, ◌%◌, ◌^◌, cond, nat_eq, nat_lt, refl, ◌∙◌, ap, arith}
use Rattle.std.specs.Int.{bit_at}
use Rattle.bit_planes.specs.Bits.{bit}
use Rattle.lane_kernels.specs.Kernels.{operand_of}
use Rattle.lane_kernels.proofs.Lifted.{operand_of-lt, operand_bit_is}
use Rattle.lane_kernels.proofs.Arithmetic.{less_none, less_more, less_result}
use Rattle.lane_kernels.proofs.compare.less.Goals as goal

pub loop-j-init : goal.loop-j-init
loop-j-init c = λ i ib. c.repeated-below.ensures i ib ∙ less_none (operand_of c.args.a.now c.args.planes.now c.args.len i) (operand_of c.args.b.now c.args.planes.now c.args.len i)

pub loop-j-preserved : goal.loop-j-preserved
loop-j-preserved c = λ i ib. c.decided-below.ensures i ib
    ∙ ap (λ n. cond (nat_eq n (bit c.plane-in-loop-j.result i)) (bit c.loop-j.below i) (bit c.plane-in-loop-j.result i)) (c.plane.ensures i ib ∙ operand_bit_is c.args.a.now c.args.planes.now c.args.len c.loop-j.j i (omega arith))
    ∙ ap (λ n. cond (nat_eq (bit_at (operand_of c.args.a.now c.args.planes.now c.args.len i) c.loop-j.j) n) (bit c.loop-j.below i) n) (c.plane-in-loop-j.ensures i ib ∙ operand_bit_is c.args.b.now c.args.planes.now c.args.len c.loop-j.j i (omega arith))
    ∙ ap (λ n. cond (nat_eq (bit_at (operand_of c.args.a.now c.args.planes.now c.args.len i) c.loop-j.j) (bit_at (operand_of c.args.b.now c.args.planes.now c.args.len i) c.loop-j.j)) n (bit_at (operand_of c.args.b.now c.args.planes.now c.args.len i) c.loop-j.j)) (c.loop-j.invariant i ib)
    ∙ less_more (operand_of c.args.a.now c.args.planes.now c.args.len i) (operand_of c.args.b.now c.args.planes.now c.args.len i) c.loop-j.j

pub returns : goal.returns
returns c = λ i ib. c.decided_at_top.ensures i ib
    ∙ less_result c.args.unsigned c.args.len (operand_of c.args.a.now c.args.planes.now c.args.len i) (operand_of c.args.b.now c.args.planes.now c.args.len i) (c.args.len - 1) (bit c.plane-x.result i) (bit c.plane-y.result i) (bit c.loop-j.below i) c.requires.len.0
    (operand_of-lt c.args.a.now c.args.planes.now c.args.len i) (operand_of-lt c.args.b.now c.args.planes.now c.args.len i) refl
    (c.plane-x.ensures i ib ∙ operand_bit_is c.args.a.now c.args.planes.now c.args.len (c.args.len - 1) i (omega arith))
    (c.plane-y.ensures i ib ∙ operand_bit_is c.args.b.now c.args.planes.now c.args.len (c.args.len - 1) i (omega arith))
    (c.loop-j.invariant i ib ∙ ap (λ t. cond (nat_lt (operand_of c.args.a.now c.args.planes.now c.args.len i % 2 ^ t) (operand_of c.args.b.now c.args.planes.now c.args.len i % 2 ^ t)) 1 0) (let e : c.loop-j.j ≡ c.args.len - 1 = omega arith in e))
