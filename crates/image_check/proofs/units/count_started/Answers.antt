use Rattle.std.proofs.Common.{arith}
use Rattle.image_check.proofs.Starts.{counted, all_counted, begun_more}
use Rattle.image_check.proofs.units.count_started.Goals as goal

pub returns-then-units-count-clause-count : goal.returns-then-units-count-clause-count
returns-then-units-count-clause-count c =
    counted c.args.units.now c.args.place c.loop-count.count c.index-units-count.result (omega (arith, c.loop-count-test.true)) c.if-units-count.true c.loop-count.invariant

pub loop-count-preserved : goal.loop-count-preserved
loop-count-preserved c =
    begun_more c.args.units.now c.args.place c.loop-count.count c.index-units-count.result (omega (arith, c.loop-count-test.true)) c.if-units-count.false c.loop-count.invariant

pub returns-clause-count : goal.returns-clause-count
returns-clause-count c =
    all_counted c.args.units.now c.args.place c.loop-count.count (omega (arith, c.loop-count-test.false)) c.loop-count.invariant
