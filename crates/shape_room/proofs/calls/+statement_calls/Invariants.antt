use Rattle.std.proofs.Common.{◌+◌, ◌*◌, map, drop}
use Rattle.cstar_tree.specs.declared.typed.TStmt.{size-TStmt}
use Rattle.cstar_tree.specs.declared.typed.TStmt.TheShapes.{weighed-TStmt-If-2}
use Rattle.cstar_tree.specs.TypedParts.{calls_within, concat}
use Rattle.shape_room.proofs.AddedCalls.{IsBegun}
use Rattle.shape_room.proofs.calls.+statement_calls.Given as goal

abbrev pub decreases-statement : goal.decreases-statement
decreases-statement l = 4 * goal.size-statement l

abbrev pub decreases-optional_statement : goal.decreases-optional_statement
decreases-optional_statement l = 4 * weighed-TStmt-If-2.weight _ size-TStmt l.s.now + 1

abbrev pub decreases-each_statement : goal.decreases-each_statement
decreases-each_statement l = 4 * goal.size-each_statement l + 1

abbrev pub invariant-each_statement-loop-s : goal.invariant-each_statement-loop-s
invariant-each_statement-loop-s l = IsBegun l.fn.called.items l.called.items (concat (map calls_within (drop l.s-index l.statements))) (concat (map calls_within l.statements))
