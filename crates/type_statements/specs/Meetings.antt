-- The instances that the calls of statements meet, where the statements are typed.
use Rattle.std.specs.Prelude.{◌≡◌, ◌++◌, ℕ, List, [], ◌∷◌, IfSome, Option, Some, Box}
use Rattle.std.specs.declared.alloc.Global.{Global}
use Rattle.cstar_tree.specs.declared.syntax.Block.{Block}
use Rattle.cstar_tree.specs.declared.syntax.Declaration.{Declaration}
use Rattle.cstar_tree.specs.declared.syntax.Declarator.{Declarator}
use Rattle.cstar_tree.specs.declared.syntax.Stmt.{Stmt}
use Rattle.cstar_tree.specs.declared.syntax.Stmt as S
use Rattle.cstar_tree.specs.declared.typed.TStmt.{TStmt}
use Rattle.cstar_tree.specs.declared.typed.ValueType.{ValueType}
use Rattle.cstar_tree.specs.Calls.{Call, calls_in_block, calls_in_declarations, calls_in_declarators, calls_in_each, calls_in_statement}
use Rattle.cstar_tree.specs.Headers.{Program}
use Rattle.cstar_tree.specs.Instances.{reached_by}
use Rattle.cstar_tree.specs.Scopes.{Here}
use Rattle.cstar_tree.specs.TypedParts.{optional}
use Rattle.type_scopes.specs.declared.file.File.{File}
use Rattle.type_scopes.specs.declared.sites.Site.{Site}
use Rattle.type_expressions.specs.Instances.{met}
use Rattle.type_expressions.specs.Meetings.{meeting}
use Rattle.type_expressions.specs.declared.found.Instances.{Instances}
use Rattle.type_statements.specs.Places.{HasItsShape, IsInScope, IsPlace}
use Rattle.type_statements.specs.Ready.{InBlock, InDeclarations, InDeclarator, InStatement, IsReady}
use Rattle.type_statements.specs.declared.scopes.Scopes.{Scopes}

-- what was met since is what these calls reach
abbrev pub AreMet : Instances → Instances → List Call → Type 0
AreMet old new calls = met new ≡ meeting (met old) (reached_by calls)

-- a statement that is typed has met, in a function, what the rules say that it calls at its place
abbrev pub MeetsCalls : Instances → Instances → File → Scopes → Site → Stmt → Type 0
MeetsCalls old new file scopes site s = (program : Program) (here : Here) (f : ℕ) → IsPlace file scopes site here → InStatement (IsReady new file program) here s → here.around ≡ Some f → AreMet old new (calls_in_statement s here)

abbrev pub MeetsCallsIf : Instances → Instances → File → Scopes → Site → Stmt → Option (Box TStmt Global) → Type 0
MeetsCallsIf old new file scopes site s t = IfSome t (λ _. MeetsCalls old new file scopes site s)

-- so has a block in its scope
abbrev pub MeetsCallsOf : Instances → Instances → File → Scopes → Site → ℕ → Block → Type 0
MeetsCallsOf old new file scopes site scope block = (program : Program) (here : Here) (f : ℕ) → IsInScope file scopes site scope here → InBlock (IsReady new file program) here block → here.around ≡ Some f → AreMet old new (calls_in_block block here)

-- so have declarations at its head
abbrev pub MeetsDeclared : Instances → Instances → File → Scopes → Site → ℕ → List Declaration → Type 0
MeetsDeclared old new file scopes site scope ds = (program : Program) (here : Here) (f : ℕ) → IsInScope file scopes site scope here → InDeclarations (IsReady new file program) here ds → here.around ≡ Some f → AreMet old new (calls_in_declarations here ds)

-- so has a declarator of a type that is written before
abbrev pub MeetsLocal : Instances → Instances → File → Scopes → Site → ℕ → Option ValueType → Declarator → Type 0
MeetsLocal old new file scopes site scope ty d =
    (program : Program) (here : Here) (f : ℕ) → IsInScope file scopes site scope here → IfSome ty (HasItsShape here) → InDeclarator (IsReady new file program) here ty d → here.around ≡ Some f → AreMet old new (calls_in_declarators here ty (d ∷ []))

-- the calls in the brackets of a `for`
abbrev pub heading_calls : Here → Stmt → List Call
heading_calls here (S.For' p first test step _ body) = calls_in_each here (optional first) ++ calls_in_each here (optional test) ++ calls_in_each here (optional step)
heading_calls here _ = []
