use Rattle.std.proofs.Common.{◌≡◌, ◌+◌, ◌||◌, drop}
use Rattle.lower_expr.specs.Lengths.{news_moves, news_checked}
use Rattle.lower_expr.proofs.place_lengths.news_length.Given as goal

abbrev pub invariant-loop-axis : goal.invariant-loop-axis
invariant-loop-axis l =
    (l.moves + news_moves l.of l.axis (drop l.axis l.indexes) ≡ news_moves l.of 0 l.indexes) ×
    ((l.is_checked || news_checked l.of l.axis (drop l.axis l.indexes)) ≡ news_checked l.of 0 l.indexes)
