-- A body as it grows.
use Rattle.std.specs.Prelude.{ℕ}
use Rattle.cstar_tree.specs.declared.typed.TStmt.{TStmt}
use Rattle.lower_base.specs.Drafts.{Made, Makes, draft}
use Rattle.lower_base.specs.Layouts.{layout}
use Rattle.lower_base.specs.declared.view.View.{View}
use Rattle.lower_stmt.specs.declared.statement.Body.{Body}
use Rattle.lower_stmt.specs.declared.statement.Frame.{Frame}
use Rattle.lower_stmt.specs.Statements.{statement_of}

-- the code of a statement, which a body is to have next
abbrev pub code_in : View → TStmt → Frame → Body → Made ℕ
code_in view s f b = statement_of view.typed.now (layout view.names) s f b.contexts.items b.declared (draft b.unit)

-- what a body has become
abbrev pub grown : Body → Made ℕ
grown b = Makes b.declared (draft b.unit)
