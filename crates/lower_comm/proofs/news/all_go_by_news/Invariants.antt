use Rattle.std.proofs.Common.{◌≡◌, drop}
use Rattle.lower_comm.specs.News.{all_go_by_news}
use Rattle.lower_comm.proofs.news.all_go_by_news.Given as goal

abbrev pub invariant-loop-axis : goal.invariant-loop-axis
invariant-loop-axis l = all_go_by_news l.of l.axis (drop l.axis l.indexes) ≡ all_go_by_news l.of 0 l.indexes
