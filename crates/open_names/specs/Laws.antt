-- The laws: what the rules of typing give names, of the variables of blocks, those that are open alone.
use Rattle.std.specs.Prelude.{Bool, []}
use Rattle.std.specs.List.{All}
use Rattle.cstar_tree.specs.declared.syntax.Expr.{Expr}
use Rattle.cstar_tree.specs.declared.syntax.Stmt.{Stmt}
use Rattle.cstar_tree.specs.declared.syntax.Tree.{Tree}
use Rattle.cstar_tree.specs.declared.typed.Instance.{Instance}
use Rattle.cstar_tree.specs.declared.typed.TExpr.{TExpr}
use Rattle.cstar_tree.specs.declared.typed.TStmt.{TStmt}
use Rattle.cstar_tree.specs.declared.typed.Typed.{Typed}
use Rattle.cstar_tree.specs.ExpressionTypes.{Types}
use Rattle.cstar_tree.specs.Headers.{Program, Returns}
use Rattle.cstar_tree.specs.ProgramTypes.{TypesFile}
use Rattle.cstar_tree.specs.Scopes.{Here}
use Rattle.cstar_tree.specs.StatementTypes.{TypesStatement}
use Rattle.open_names.specs.Opens.{KnowsOpen, NamesOpen, Open, StatementNamesOpen}

-- where the variables that a place knows are open, an expression names no others
abbrev pub TypedExpressionsNameOpen : Type 0
TypedExpressionsNameOpen = (program : Program) (blocks : Open) (here : Here) (e : Expr) (t : TExpr) (has_value : Bool) → KnowsOpen blocks here → Types program here e t has_value → NamesOpen blocks t

-- nor does a statement, but in its blocks their own
abbrev pub TypedStatementsNameOpen : Type 0
TypedStatementsNameOpen =
    (program : Program) (returns : Returns) (blocks : Open) (here : Here) (s : Stmt) (t : TStmt) → KnowsOpen blocks here → TypesStatement program returns here s t → StatementNamesOpen blocks here.locals t

-- no block is open around the body of an instance
abbrev pub HasOpenBody : Instance → Type 0
HasOpenBody instance = StatementNamesOpen [] 0 instance.body

abbrev pub TypedFilesNameOpen : Type 0
TypedFilesNameOpen = (tree : Tree) (typed : Typed) → TypesFile tree typed → All HasOpenBody typed.instances.items
