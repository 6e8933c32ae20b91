use Rattle.std.proofs.Common.{◌≡◌, ◌+◌, ◌*◌, drop, max}
use Rattle.cstar_tree.specs.declared.typed.TStmt.{size-TStmt}
use Rattle.cstar_tree.specs.declared.typed.TStmt.TheShapes.{weighed-TStmt-If-2}
use Rattle.lower_base.specs.Drafts.{IsMade, draft}
use Rattle.lower_base.specs.Layouts.{layout}
use Rattle.lower_stmt.specs.Statements.{listed}
use Rattle.lower_stmt.proofs.statement.Body.+statement.Given as goal

-- a function that is handed the parts of a statement comes before those that it hands them on to
abbrev pub decreases-statement : goal.decreases-statement
decreases-statement l = 4 * goal.size-statement l

abbrev pub decreases-statements : goal.decreases-statements
decreases-statements l = 4 * goal.size-statements l + 1

abbrev pub decreases-block : goal.decreases-block
decreases-block l = 4 * goal.size-block l + 2

abbrev pub decreases-within : goal.decreases-within
decreases-within l = 4 * goal.size-within l + 1

abbrev pub decreases-turns : goal.decreases-turns
decreases-turns l = 4 * goal.size-turns l + 1

abbrev pub decreases-jump_over : goal.decreases-jump_over
decreases-jump_over l = 4 * goal.size-jump_over l + 1

abbrev pub decreases-repeat_while : goal.decreases-repeat_while
decreases-repeat_while l = 4 * size-TStmt l.body.now.value + 2

abbrev pub decreases-repeat_for : goal.decreases-repeat_for
decreases-repeat_for l = 4 * size-TStmt l.body.now.value + 2

abbrev pub decreases-branch : goal.decreases-branch
decreases-branch l = 4 * max (size-TStmt l.then.now.value) (weighed-TStmt-If-2.weight _ size-TStmt l.otherwise.now) + 2

abbrev pub decreases-narrow_and_run : goal.decreases-narrow_and_run
decreases-narrow_and_run l = 4 * max (size-TStmt l.then.now.value) (weighed-TStmt-If-2.weight _ size-TStmt l.otherwise.now) + 2

-- the statements that are left, from here on, have code, and give the whole, and the saved contexts are the same
abbrev pub invariant-statements-loop-inner : goal.invariant-statements-loop-inner
invariant-statements-loop-inner l = record {
  made : IsMade (listed l.view.typed.now (layout l.view.names) (drop l.inner-index l.statements) l.f l.self.contexts.items l.self.declared (draft l.self.unit));
  whole :
      listed l.view.typed.now (layout l.view.names) (drop l.inner-index l.statements) l.f l.self.contexts.items l.self.declared (draft l.self.unit)
      ≡ listed l.view.typed.now (layout l.view.names) l.statements l.f l.fn.self.contexts.items l.fn.self.declared (draft l.fn.self.unit);
  same : l.self.contexts.items ≡ l.fn.self.contexts.items;
}
