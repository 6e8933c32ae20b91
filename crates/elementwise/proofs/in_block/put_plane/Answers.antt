use Rattle.std.proofs.Common.{List, sym, subst, arith}
use Rattle.bit_planes.specs.Bits.{bit}
use Rattle.bit_planes.specs.declared.plane.Plane.{Plane}
use Rattle.block_store.specs.Phases.{LanesWritten}
use Rattle.block_store.proofs.Kernels.{refilled}
use Rattle.lane_kernels.specs.Changes.{Writes}
use Rattle.elementwise.proofs.Kernels.{plane_written}
use Rattle.elementwise.proofs.in_block.put_plane.Goals as goal

pub returns : goal.returns
returns c =
    let old = c.args.block.now.planes.items in
    subst (λ (new : List Plane). LanesWritten c.args.at 1 c.args.lanes (λ i. bit c.args.value i) old new) (sym (refilled c.args.block.now.planes.len c.write.new.planes old (omega (arith, c.write.ensures.long, c.deref_mut.ensures.len))))
    (plane_written c.args.at c.args.value c.args.lanes old c.write.new.planes
    (subst (λ (m : List Plane). Writes c.args.at c.args.value c.args.lanes m c.write.new.planes) c.deref_mut.ensures.value c.write.ensures))
