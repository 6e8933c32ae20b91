use Rattle.std.proofs.Common.{[], ◌+◌, ◌*◌, sym, ◌∙◌, ap}
use Rattle.phase_meaning.proofs.Entries.{entry}
use Rattle.block_store.specs.Planes.{planes_in}
use Rattle.reduce_scan.specs.Across.{previous}
use Rattle.reduce_scan.proofs.LineCuts.{begins_lane, behind_mark}
use Rattle.reduce_scan.proofs.WithinBlocks.{flag}
use Rattle.reduce_scan.proofs.cuts.segment_cuts.Goals as goal

pub returns-then-marks_behind : goal.returns-then-marks_behind
returns-then-marks_behind c = λ i b h first.
    let mark = behind_mark c.args.set.now.blocks.items c.args.scan.now c.args.lines.now c.requires.can.are_lines (512 * c.args.k + i) h first (sym c.marks_behind.ensures ∙ c.if-marks_behind.true) in
    c.marked_before.ensures i b mark.0 ∙ ap flag (sym mark.1)

pub returns : goal.returns
returns c = λ i b h first.
    let blocks = c.args.set.now.blocks.items in
    let block = c.index.result.now in
    let lines = c.args.lines.now in
    c.segment_starts.ensures i b
    ∙ ap flag (sym (begins_lane blocks c.args.k i b (planes_in block) (entry planes_in blocks c.args.k block [] c.requires.block.1 c.index.ensures) c.args.scan.now lines
    (previous lines.direction lines.apart (512 * c.args.k + i)) (sym c.marks_behind.ensures ∙ c.if-marks_behind.false)))
