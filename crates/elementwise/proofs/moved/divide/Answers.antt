use Rattle.std.proofs.Common.{◌+◌, ◌-◌, ◌%◌, ◌^◌, min, cond, nat_eq, false, sym, ◌∙◌, ap, arith}
use Rattle.std.proofs.lemmas.Nat.{pow_pos}
use Rattle.std.proofs.Math.Nat.{mod-eq_of_lt}
use Rattle.bit_planes.specs.Bits.{bit}
use Rattle.bit_planes.specs.Planes.{number}
use Rattle.bit_planes.proofs.Planes.{number_is, number-lt, number-bits}
use Rattle.bit_planes.proofs.Words.{bit-lt}
use Rattle.cstar_base.specs.Operators.{quotient_of}
use Rattle.lane_kernels.specs.Numbers.{shifted_right}
use Rattle.lane_kernels.proofs.Lifted.{same_change}
use Rattle.elementwise.proofs.Division.{lane_divided}
use Rattle.elementwise.proofs.moved.divide.Goals as goal

pub returns : goal.returns
returns c =
    let to = c.args.to.now in
    let n = to.len in
    let k = c.args.k in
    let at = c.args.offset in
    let old = c.args.planes.now in
    let more = c.both-more.result in
    same_change to (λ i. (shifted_right false n k (number old at n i) + bit more i) % 2 ^ n) (λ i. quotient_of n false (number old at n i) (2 ^ k)) old c.shift_right_plus.new.planes
    (λ i ib. lane_divided n k (number old at n i) (bit c.sign-below_zero.result i) (bit c.equal-whole.result i) (bit more i) c.requires.positive (number-lt old at n i)
    (c.sign-below_zero.ensures i ib ∙ sym (number-bits old at n i (n - 1) (omega (arith, c.requires.positive)))) (bit-lt c.sign-below_zero.result i)
    (c.equal-whole.ensures i ib
    ∙ ap (λ x. cond (nat_eq x (0 % 2 ^ k)) 1 0) (number_is old at k i (number old at n i) (λ j h. sym (number-bits old at n i j (omega (arith, h, c.requires.positive)))))
    ∙ ap (λ z. cond (nat_eq (number old at n i % 2 ^ k) z) 1 0) (mod-eq_of_lt (pow_pos k)))
    (c.both-more.ensures i ib ∙ ap (min (bit c.sign-below_zero.result i)) (c.opposite.ensures i ib)))
    c.shift_right_plus.ensures
