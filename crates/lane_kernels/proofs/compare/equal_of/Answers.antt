use Rattle.std.proofs.Common.{◌≡◌, ◌+◌, ◌-◌, ◌%◌, ◌^◌, cond, nat_eq, ◌∙◌, ap, max, min, ℕ, arith}
use Rattle.std.specs.Int.{bit_at}
use Rattle.bit_planes.specs.Bits.{bit}
use Rattle.lane_kernels.specs.Kernels.{operand_of}
use Rattle.lane_kernels.proofs.Lifted.{operand_of-lt, operand_bit_is}
use Rattle.lane_kernels.proofs.Arithmetic.{equal_none, equal_more, mod_small}
use Rattle.lane_kernels.proofs.compare.equal_of.Goals as goal

neither : (m n : ℕ) → 1 - max m n ≡ min (1 - m) (1 - n)
neither m n = omega arith

pub loop-j-init : goal.loop-j-init
loop-j-init c = λ i ib. ap (λ n. 1 - n) (c.repeated-apart.ensures i ib) ∙ equal_none (operand_of c.args.a.now c.args.planes.now c.args.len i) (operand_of c.args.b.now c.args.planes.now c.args.len i)

pub loop-j-preserved : goal.loop-j-preserved
loop-j-preserved c = λ i ib. ap (λ n. 1 - n) (c.either-apart.ensures i ib) ∙ neither (bit c.loop-j.apart i) (bit c.differ-change.result i)
    ∙ ap (λ n. min (1 - bit c.loop-j.apart i) (1 - n)) (c.differ-change.ensures i ib)
    ∙ ap (λ n. min (1 - bit c.loop-j.apart i) (1 - (n + bit c.plane-in-loop-j.result i) % 2)) (c.plane.ensures i ib ∙ operand_bit_is c.args.a.now c.args.planes.now c.args.len c.loop-j.j i c.loop-j-test.true)
    ∙ ap (λ n. min (1 - bit c.loop-j.apart i) (1 - (bit_at (operand_of c.args.a.now c.args.planes.now c.args.len i) c.loop-j.j + n) % 2)) (c.plane-in-loop-j.ensures i ib ∙ operand_bit_is c.args.b.now c.args.planes.now c.args.len c.loop-j.j i c.loop-j-test.true)
    ∙ ap (λ n. min n (1 - (bit_at (operand_of c.args.a.now c.args.planes.now c.args.len i) c.loop-j.j + bit_at (operand_of c.args.b.now c.args.planes.now c.args.len i) c.loop-j.j) % 2)) (c.loop-j.invariant i ib)
    ∙ equal_more (operand_of c.args.a.now c.args.planes.now c.args.len i) (operand_of c.args.b.now c.args.planes.now c.args.len i) c.loop-j.j

pub returns : goal.returns
returns c = λ i ib. c.opposite.ensures i ib ∙ c.loop-j.invariant i ib ∙ ap (λ j. cond (nat_eq (operand_of c.args.a.now c.args.planes.now c.args.len i % 2 ^ j) (operand_of c.args.b.now c.args.planes.now c.args.len i % 2 ^ j)) 1 0) (let e : c.loop-j.j ≡ c.args.len = omega arith in e)
    ∙ ap (λ n. cond (nat_eq n (operand_of c.args.b.now c.args.planes.now c.args.len i % 2 ^ c.args.len)) 1 0) (mod_small (operand_of c.args.a.now c.args.planes.now c.args.len i) (2 ^ c.args.len) (operand_of-lt c.args.a.now c.args.planes.now c.args.len i))
    ∙ ap (λ n. cond (nat_eq (operand_of c.args.a.now c.args.planes.now c.args.len i) n) 1 0) (mod_small (operand_of c.args.b.now c.args.planes.now c.args.len i) (2 ^ c.args.len) (operand_of-lt c.args.b.now c.args.planes.now c.args.len i))
