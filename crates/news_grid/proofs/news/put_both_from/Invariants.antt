use Rattle.lane_kernels.proofs.Lifted.{Becoming}
use Rattle.news_grid.specs.Steps.{number_taken}
use Rattle.news_grid.proofs.news.put_both_from.Given as goal

abbrev pub invariant-loop-j : goal.invariant-loop-j
invariant-loop-j l = Becoming l.to 0 l.j (λ i. number_taken l.held l.turn l.to.len i) l.initial.planes l.planes
