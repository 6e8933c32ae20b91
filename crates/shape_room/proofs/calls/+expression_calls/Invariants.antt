use Rattle.std.proofs.Common.{◌+◌, ◌*◌, map, drop}
use Rattle.cstar_tree.specs.TypedParts.{calls_in, concat}
use Rattle.shape_room.proofs.AddedCalls.{IsBegun}
use Rattle.shape_room.proofs.calls.+expression_calls.Given as goal

abbrev pub decreases-expression : goal.decreases-expression
decreases-expression l = goal.size-expression l * 8

abbrev pub decreases-each_expression : goal.decreases-each_expression
decreases-each_expression l = goal.size-each_expression l * 8 + 1

abbrev pub invariant-each_expression-loop-e : goal.invariant-each_expression-loop-e
invariant-each_expression-loop-e l = IsBegun l.fn.called.items l.called.items (concat (map calls_in (drop l.e-index l.parts))) (concat (map calls_in l.parts))
