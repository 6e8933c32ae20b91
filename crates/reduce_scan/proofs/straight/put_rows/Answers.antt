use Rattle.std.proofs.Common.{ℕ, ◌%◌, ◌^◌, ap, sym, ◌∙◌, subst, List, arith}
use Rattle.bit_planes.specs.declared.plane.Plane.{Plane}
use Rattle.bit_planes.specs.Rows.{held}
use Rattle.lane_kernels.specs.Columns.{value_at}
use Rattle.lane_kernels.specs.Kernels.{Becomes}
use Rattle.lane_kernels.proofs.Lifted.{same_change}
use Rattle.block_store.specs.Phases.{LanesWritten}
use Rattle.block_store.proofs.Kernels.{refilled, put_at}
use Rattle.bit_planes.specs.Planes.{number}
use Rattle.reduce_scan.proofs.straight.put_rows.Goals as goal

pub returns : goal.returns
returns c =
    let old = c.args.block.now.planes.items in
    let to = c.at-to.result in
    let new = c.put.new.planes in
    let d = c.args.dest in
    let column = c.column.result in
    let f = λ (i : ℕ). held c.args.rows.planes i % 2 ^ d.len in
    subst (λ (new : List Plane). LanesWritten d.offset d.len c.args.lanes f old new) (sym (refilled c.args.block.now.planes.len new old (omega (arith, c.put.ensures.long, c.deref_mut.ensures.len))))
    (put_at to d.offset d.len c.args.lanes f old new c.at-to.ensures.offset c.at-to.ensures.len c.at-to.ensures.lanes
    (same_change to (λ i. value_at column i) f old new
    (λ i b. ap (λ n. number column.planes 0 n i) c.column.ensures.len ∙ c.column.ensures.numbers i b)
    (subst (λ (m : List Plane). Becomes to (λ i. value_at column i) m new) c.deref_mut.ensures.value c.put.ensures)))
