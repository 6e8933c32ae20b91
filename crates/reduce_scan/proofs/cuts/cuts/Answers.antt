use Rattle.std.proofs.Common.{◌+◌, ◌*◌}
use Rattle.bit_planes.specs.Bits.{bit}
use Rattle.bit_planes.proofs.Words.{bit-lt}
use Rattle.reduce_scan.specs.Across.{begins_line, previous}
use Rattle.reduce_scan.specs.Parts.{begins_there}
use Rattle.reduce_scan.proofs.LineCuts.{either_cut}
use Rattle.reduce_scan.proofs.cuts.cuts.Goals as goal

pub returns : goal.returns
returns c = λ i b h.
    let lines = c.args.lines.now in
    let p = 512 * c.args.k + i in
    either_cut (bit c.line_cuts.result i) (bit c.segment_cuts.result i) (bit c.either.result i) (begins_line lines p)
    (begins_there c.args.set.now.blocks.items c.args.scan.now lines (previous lines.direction lines.apart p) p) (c.line_cuts.ensures i b h) (λ first. c.segment_cuts.ensures i b h first)
    (bit-lt c.segment_cuts.result i) (c.either.ensures i b)
