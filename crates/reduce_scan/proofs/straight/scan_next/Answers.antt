use Rattle.std.proofs.Common.{ℕ, ◌%◌, ◌^◌, subst, ap, ◌∙◌}
use Rattle.bit_planes.specs.Planes.{plane_at}
use Rattle.block_store.specs.Phases.{LanesWritten}
use Rattle.reduce_scan.specs.WithinBlocks.{fold_in, scanned_in}
use Rattle.reduce_scan.proofs.straight.scan_next.Goals as goal

pub returns-clause-written : goal.returns-clause-written
returns-clause-written c =
    let planes = c.args.block.now.planes.items in
    let t = c.args.task.now in
    subst (λ (s : ℕ). LanesWritten t.dest.offset t.dest.len (plane_at planes t.scan.context) (λ i. scanned_in planes t.scan t.lines.extent c.args.k s i % 2 ^ t.dest.len) planes c.scan_block.new.block.planes.items)
    c.start_from-start.ensures c.scan_block.ensures.written

pub returns-clause-total : goal.returns-clause-total
returns-clause-total c =
    let t = c.args.task.now in
    c.scan_block.ensures.total ∙ ap (λ s. fold_in c.args.block.now.planes.items t.scan t.lines.extent c.args.k s 512) c.start_from-start.ensures
