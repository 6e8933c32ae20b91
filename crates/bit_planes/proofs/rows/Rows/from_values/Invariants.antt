use Rattle.bit_planes.proofs.Numbers.{RowsPacked}
use Rattle.bit_planes.proofs.rows.Rows.from_values.Given as goal

abbrev pub invariant-loop-row : goal.invariant-loop-row
invariant-loop-row l = RowsPacked l.row l.v l.planes
