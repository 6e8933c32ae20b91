use Rattle.std.proofs.Common.{◌≡◌, drop}
use Rattle.lower_expr.specs.Positions.{position_from}
use Rattle.lower_expr.proofs.positions.position.Given as goal

-- the coordinates that are left, from here on, give the whole
abbrev pub invariant-loop-axis : goal.invariant-loop-axis
invariant-loop-axis l = position_from l.position (drop l.axis l.extents) (drop l.axis l.indexes) ≡ position_from 0 l.extents l.indexes
