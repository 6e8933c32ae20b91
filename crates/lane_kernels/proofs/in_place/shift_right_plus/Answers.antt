use Rattle.std.proofs.Common.{ℕ, false, ◌+◌, ◌/◌, ◌%◌, ◌^◌, sym, arith}
use Rattle.std.proofs.Math.Nat.{mod-add-mod}
use Rattle.bit_planes.specs.Bits.{bit}
use Rattle.bit_planes.specs.Planes.{number}
use Rattle.lane_kernels.specs.Numbers.{extended, shifted_right}
use Rattle.lane_kernels.proofs.Lifted.{all_written, same_change}
use Rattle.lane_kernels.proofs.Raising.{raised}
use Rattle.lane_kernels.proofs.Steps.{taken_bit}
use Rattle.lane_kernels.proofs.in_place.shift_right_plus.Goals as goal

pub loop-j-preserved : goal.loop-j-preserved
loop-j-preserved c =
    let to = c.args.to.now in
    let old = c.args.planes.now in
    let numbers : ℕ → ℕ = λ i. extended false to.len (to.len + c.args.k) (number old c.args.offset to.len i) / 2 ^ c.args.k in
    raised to numbers c.args.more c.loop-j.j c.loop-j.carry c.plane_or-value.result c.differ-sum.result c.both-carry.result old c.loop-j.planes c.write.new.planes c.loop-j.invariant
    (taken_bit to c.args.offset to.len c.loop-j.j c.args.k false c.above-sign.result c.plane_or-value.result (λ i. numbers i + bit c.args.more i) old c.loop-j.planes
    to.in_range.0 c.loop-j-test.true c.requires.field c.above-sign.ensures c.plane_or-value.ensures c.loop-j.invariant.written)
    c.differ-sum.ensures c.both-carry.ensures c.write.ensures

pub returns : goal.returns
returns c =
    let to = c.args.to.now in
    let old = c.args.planes.now in
    let more = c.args.more in
    let numbers : ℕ → ℕ = λ i. extended false to.len (to.len + c.args.k) (number old c.args.offset to.len i) / 2 ^ c.args.k in
    same_change to (λ i. (numbers i + bit more i) % 2 ^ to.len) (λ i. (shifted_right false to.len c.args.k (number old c.args.offset to.len i) + bit more i) % 2 ^ to.len) old c.loop-j.planes
    (λ i _. sym (mod-add-mod (numbers i) (2 ^ to.len) (bit more i)))
    (all_written to c.loop-j.j (λ i. numbers i + bit more i) old c.loop-j.planes (omega arith) c.loop-j.invariant.written)
