use Rattle.std.proofs.Common.{◌≡◌, ◌+◌, ◌∙◌, ap, sym, arith}
use Rattle.bit_planes.specs.Bits.{bit}
use Rattle.bit_planes.specs.Planes.{number, plane_at}
use Rattle.bit_planes.proofs.Planes.{number-lt, number-bits}
use Rattle.lane_kernels.proofs.Lifted.{one_up}
use Rattle.lane_kernels.proofs.Steps.{all_small}
use Rattle.lane_kernels.proofs.in_place.put_planes.Goals as goal

pub loop-j-preserved : goal.loop-j-preserved
loop-j-preserved c =
    let column = c.args.column.now in
    one_up c.args.to.now c.loop-j.j (λ i. number column 0 c.args.to.now.len i) c.args.planes.now c.loop-j.planes c.write.new.planes (plane_at column c.loop-j.j) c.loop-j.invariant c.write.ensures
    (λ i ib on. ap (λ k. bit (plane_at column k) i) (let e : c.loop-j.j ≡ 0 + c.loop-j.j = omega arith in e)
    ∙ sym (number-bits column 0 c.args.to.now.len i c.loop-j.j c.loop-j-test.true))

pub returns : goal.returns
returns c =
    let column = c.args.column.now in
    all_small c.args.to.now c.loop-j.j (λ i. number column 0 c.args.to.now.len i) c.args.planes.now c.loop-j.planes (omega arith)
    (λ i. number-lt column 0 c.args.to.now.len i) c.loop-j.invariant
