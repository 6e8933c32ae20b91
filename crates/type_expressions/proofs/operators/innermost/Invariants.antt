use Rattle.std.proofs.Common.{◌≡◌, drop}
use Rattle.cstar_tree.specs.ExpressionFaults.{last_place}
use Rattle.type_expressions.proofs.operators.innermost.Given as goal

abbrev pub invariant-loop-cast : goal.invariant-loop-cast
invariant-loop-cast l = last_place (drop l.cast-index l.casts) l.place ≡ last_place l.casts l.fn.otherwise
