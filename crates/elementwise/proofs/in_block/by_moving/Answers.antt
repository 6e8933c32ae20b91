use Rattle.std.proofs.Common.{List, refl, sym, subst, arith}
use Rattle.bit_planes.specs.declared.plane.Plane.{Plane}
use Rattle.lane_kernels.specs.Kernels.{Becomes}
use Rattle.block_store.specs.Phases.{LanesWritten}
use Rattle.block_store.proofs.Kernels.{refilled, put_at}
use Rattle.elementwise.specs.Moved.{moved_number}
use Rattle.elementwise.proofs.in_block.by_moving.Goals as goal

pub returns : goal.returns
returns c =
    let old = c.args.block.now.planes.items in
    let to = c.args.to.now in
    let given = λ (m : List Plane). moved_number c.args.moved.now m to.len in
    subst (λ (new : List Plane). LanesWritten to.offset to.len to.lanes (given old) old new) (sym (refilled c.args.block.now.planes.len c.put.new.planes old (omega (arith, c.put.ensures.long, c.deref_mut.ensures.len))))
    (put_at to to.offset to.len to.lanes (given old) old c.put.new.planes refl refl refl
    (subst (λ (m : List Plane). Becomes to (given m) m c.put.new.planes) c.deref_mut.ensures.value c.put.ensures))
