use Rattle.std.proofs.Common.{ℕ, List, refl, sym, subst, arith}
use Rattle.bit_planes.specs.declared.plane.Plane.{Plane}
use Rattle.lane_kernels.specs.Kernels.{operand_of, Becomes}
use Rattle.block_store.specs.Phases.{LanesWritten}
use Rattle.block_store.proofs.Kernels.{refilled, put_at}
use Rattle.elementwise.specs.Planar.{gives}
use Rattle.elementwise.proofs.in_block.by_planes.Goals as goal

pub returns : goal.returns
returns c =
    let old = c.args.block.now.planes.items in
    let to = c.args.to.now in
    let given = λ (m : List Plane) (i : ℕ). gives c.args.op to.len (operand_of c.args.a.now m to.len i) (operand_of c.args.b.now m to.len i) in
    let f = given old in
    subst (λ (new : List Plane). LanesWritten to.offset to.len to.lanes f old new) (sym (refilled c.args.block.now.planes.len c.operate_in_place.new.planes old (omega (arith, c.operate_in_place.ensures.long, c.deref_mut.ensures.len))))
    (put_at to to.offset to.len to.lanes f old c.operate_in_place.new.planes refl refl refl
    (subst (λ (m : List Plane). Becomes to (given m) m c.operate_in_place.new.planes) c.deref_mut.ensures.value c.operate_in_place.ensures))
