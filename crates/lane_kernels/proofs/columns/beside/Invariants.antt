use Rattle.lane_kernels.proofs.ColumnLemmas.{BesideBefore}
use Rattle.lane_kernels.proofs.columns.beside.Given as goal

abbrev pub invariant-loop-j : goal.invariant-loop-j
invariant-loop-j l = BesideBefore l.j l.a.planes l.b.planes l.planes
