use Rattle.std.proofs.Common.{◌≡◌, drop}
use Rattle.lower_expr.specs.Lengths.{params_length}
use Rattle.lower_expr.proofs.place_lengths.params_length.Given as goal

abbrev pub invariant-loop-param : goal.invariant-loop-param
invariant-loop-param l = params_length (drop l.param-index l.params) l.left l.sum ≡ params_length l.params l.given l.own
