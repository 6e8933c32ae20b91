use Rattle.std.proofs.Common.{◌-◌, ◌*◌, arith}
use Rattle.reduce_scan.proofs.WithinBlocks.{line_within, begun_more}
use Rattle.reduce_scan.proofs.straight.line_starts.Goals as goal

pub overflow_sub-line : goal.overflow_sub-line
overflow_sub-line c =
    (line_within c.args.extent c.args.k (c.args.k * 512) c.requires.extent (omega arith) c.loop-line.line
    (omega (arith, c.loop-line.auto.line, c.div_ceil-line.ensures)) (omega (arith, c.loop-line-test.true, c.div_ceil-line-end.ensures))).0

pub loop-line-preserved : goal.loop-line-preserved
loop-line-preserved c =
    let line = c.loop-line.line in
    let from = c.args.k * 512 in
    let within = line_within c.args.extent c.args.k from c.requires.extent (omega arith) line
    (omega (arith, c.loop-line.auto.line, c.div_ceil-line.ensures)) (omega (arith, c.loop-line-test.true, c.div_ceil-line-end.ensures)) in
    begun_more c.args.extent c.args.k from c.requires.extent (omega arith) line (line * c.args.extent - from) (omega (arith, within.0)) c.loop-line.starts c.with_lane-starts.result
    c.loop-line.invariant c.with_lane-starts.ensures.lane c.with_lane-starts.ensures.others
