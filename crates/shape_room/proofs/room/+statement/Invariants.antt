use Rattle.std.proofs.Common.{◌+◌, ◌*◌, map, drop}
use Rattle.cstar_tree.specs.declared.typed.TStmt.{size-TStmt}
use Rattle.cstar_tree.specs.declared.typed.TStmt.TheShapes.{weighed-TStmt-If-2}
use Rattle.cstar_tree.specs.Room.{greatest, statement_room}
use Rattle.shape_room.proofs.Counting.{IsGreatest}
use Rattle.shape_room.proofs.room.+statement.Given as goal

abbrev pub decreases-statement : goal.decreases-statement
decreases-statement l = 4 * goal.size-statement l

abbrev pub decreases-optional_statement : goal.decreases-optional_statement
decreases-optional_statement l = 4 * weighed-TStmt-If-2.weight _ size-TStmt l.s.now + 1

abbrev pub decreases-greatest_statement : goal.decreases-greatest_statement
decreases-greatest_statement l = 4 * goal.size-greatest_statement l + 1

abbrev pub invariant-greatest_statement-loop-s : goal.invariant-greatest_statement-loop-s
invariant-greatest_statement-loop-s l = IsGreatest l.greatest (greatest (map (statement_room l.shape) (drop l.s-index l.statements))) (greatest (map (statement_room l.shape) l.statements))
