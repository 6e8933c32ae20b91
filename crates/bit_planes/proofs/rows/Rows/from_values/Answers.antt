use Rattle.bit_planes.proofs.Numbers.{packed_more}
use Rattle.bit_planes.proofs.rows.Rows.from_values.Goals as goal

pub loop-row-preserved : goal.loop-row-preserved
loop-row-preserved c = packed_more c.loop-row.row c.loop-row-test.true c.args.v.now c.loop-row.planes c.packed.result c.loop-row.invariant c.packed.ensures
