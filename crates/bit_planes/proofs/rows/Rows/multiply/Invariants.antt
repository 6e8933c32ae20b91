use Rattle.bit_planes.proofs.Numbers.{RowsMultiplied}
use Rattle.bit_planes.proofs.rows.Rows.multiply.Given as goal

abbrev pub invariant-loop-row : goal.invariant-loop-row
invariant-loop-row l = RowsMultiplied l.row l.by.planes l.initial.self.planes l.self.planes
