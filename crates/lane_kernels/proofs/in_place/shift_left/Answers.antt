use Rattle.std.proofs.Common.{◌≡◌, ◌-◌, ◌*◌, ◌^◌, subst, refl, arith}
use Rattle.bit_planes.specs.Planes.{number}
use Rattle.lane_kernels.proofs.Steps.{lifted}
use Rattle.lane_kernels.proofs.Lifted.{Becoming, all_written}
use Rattle.lane_kernels.proofs.in_place.shift_left.Goals as goal

pub loop-j-preserved : goal.loop-j-preserved
loop-j-preserved c = lifted c.args.to.now c.args.offset c.loop-j.j (c.loop-j.j - 1) c.args.k c.plane_before-value.result c.args.planes.now c.loop-j.planes c.write.new.planes
    (omega arith) c.requires.field c.plane_before-value.ensures (omega arith) c.loop-j.invariant c.write.ensures

pub returns : goal.returns
returns c = all_written c.args.to.now c.args.to.now.len (λ i. number c.args.planes.now c.args.offset c.args.to.now.len i * 2 ^ c.args.k) c.args.planes.now c.loop-j.planes refl
    (let e : c.loop-j.j ≡ 0 = omega arith in
    subst (λ j. Becoming c.args.to.now j c.args.to.now.len (λ i. number c.args.planes.now c.args.offset c.args.to.now.len i * 2 ^ c.args.k) c.args.planes.now c.loop-j.planes) e c.loop-j.invariant)
