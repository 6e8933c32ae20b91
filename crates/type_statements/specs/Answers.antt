-- What is answered for a statement from its typed parts: the typed tree that it becomes, or a fault
-- that stands at it.
use Rattle.std.specs.Prelude.{◌≡◌, ℕ, true, Option, Some, None, MatchOption, Result, Ok, Err, Box, Vec}
use Rattle.std.specs.declared.alloc.Global.{Global}
use Rattle.cstar_base.specs.declared.operators.Place.{Place}
use Rattle.cstar_tree.specs.declared.syntax.Expr.{Expr}
use Rattle.cstar_tree.specs.declared.syntax.Stmt.{Stmt, Held-Stmt-If-3, None', Some'}
use Rattle.cstar_tree.specs.declared.syntax.Stmt as S
use Rattle.cstar_tree.specs.declared.typed.LocalVar.{LocalVar}
use Rattle.cstar_tree.specs.declared.typed.TExpr.{TExpr}
use Rattle.cstar_tree.specs.declared.typed.TStmt.{TStmt}
use Rattle.cstar_tree.specs.declared.typed.TStmt as T
use Rattle.cstar_tree.specs.BlockScopes.{behind}
use Rattle.cstar_tree.specs.ExpressionTypes.{Types}
use Rattle.cstar_tree.specs.Headers.{Program, Returns, unknown}
use Rattle.cstar_tree.specs.Scopes.{Here}
use Rattle.cstar_tree.specs.StatementFaults.{StatementFaultAt}
use Rattle.cstar_tree.specs.StatementTypes.{TypesEffectIf, TypesStatement, TypesValueIf}
use Rattle.type_scopes.specs.Answers.{IsRecorded}
use Rattle.type_scopes.specs.declared.faults.Untyped.{Untyped}
use Rattle.type_scopes.specs.declared.faults.Untyped.TheVariants as N
use Rattle.type_scopes.specs.declared.sites.Site.{Site}
use Rattle.type_scopes.specs.declared.standing.Standing.{Standing}
use Rattle.type_statements.specs.declared.branches.Branches.{Branches}
use Rattle.type_statements.specs.declared.forms.Heading.{Heading}

-- a statement that has no type though its parts have some: a fault stands at it
abbrev pub IsFault : Program → Returns → Here → Stmt → Untyped → Type 0
IsFault program returns here s (N.Fault standing) = StatementFaultAt program returns here s standing.fault standing.place
IsFault program returns here s N.Faulty = ⊥
IsFault program returns here s N.Memory = ⊥

abbrev pub IsAnswer : Program → Returns → Here → Stmt → Result TStmt Untyped → Type 0
IsAnswer program returns here s (Ok t) = TypesStatement program returns here s t
IsAnswer program returns here s (Err u) = IsFault program returns here s u

-- of a `return` memory can be wanting, and the type of the result is unknown where the header of the
-- function has a fault
abbrev pub IsReturnFault : Program → Returns → Here → Stmt → Untyped → Type 0
IsReturnFault program returns here s (N.Fault standing) = StatementFaultAt program returns here s standing.fault standing.place
IsReturnFault program returns here s N.Faulty = returns ≡ unknown
IsReturnFault program returns here s N.Memory = Unit {0}

abbrev pub IsReturnAnswer : Program → Returns → Here → Stmt → Result TStmt Untyped → Type 0
IsReturnAnswer program returns here s (Ok t) = TypesStatement program returns here s t
IsReturnAnswer program returns here s (Err u) = IsReturnFault program returns here s u

-- what stands behind `else`, if anything does, has become this
abbrev pub TypesElse : Program → Returns → Here → Held-Stmt-If-3 → Option (Box TStmt Global) → Type 0
TypesElse program returns here None' None = Unit {0}
TypesElse program returns here None' (Some t) = ⊥
TypesElse program returns here (Some' _ s) None = ⊥
TypesElse program returns here (Some' _ s) (Some t) = TypesStatement program returns here s t.value

-- the parts of an `if` or a `where` have become these
abbrev pub AreBranches : Program → Returns → Here → Stmt → Branches → Type 0
AreBranches program returns here (S.If' p test _ second third) parts =
    Types program here test parts.test.value true × TypesStatement program returns here second parts.then.value × TypesElse program returns (behind here second) third parts.otherwise
AreBranches program returns here (S.Where' p test _ second third) parts =
    Types program here test parts.test.value true × TypesStatement program returns here second parts.then.value × TypesElse program returns (behind here second) third parts.otherwise
AreBranches program returns here _ parts = ⊥

abbrev pub value_of : Option (Box TExpr Global) → Option TExpr
value_of None = None
value_of (Some e) = Some e.value

-- the three parts in the brackets of a `for` have become these
pub record IsHeading (program : Program) (here : Here) (first test step : Option Expr) (heading : Heading) : Type 0 where
  pub first_typed : TypesEffectIf program here first (value_of heading.first)
  pub test_typed : TypesValueIf program here test (value_of heading.test)
  pub step_typed : TypesEffectIf program here step (value_of heading.step)

-- what a statement comes to, and the least fault then, from that before
abbrev pub IsOutcome : Result TStmt Untyped → Option Standing → Option Standing → Option (Box TStmt Global) → Type 0
IsOutcome (Ok t) old new (Some b) = (b.value ≡ t) × (new ≡ old)
IsOutcome (Ok t) old new None = ⊥
IsOutcome (Err u) old new (Some b) = ⊥
IsOutcome (Err u) old new None = IsRecorded old u new

-- a block of its variables, if they are typed, and its statements
abbrev pub IsWholeBlock : Option (Vec LocalVar Global) → Vec TStmt Global → Option (Box TStmt Global) → Type 0
IsWholeBlock None statements b = b ≡ None
IsWholeBlock (Some locals) statements b = MatchOption b ⊥ (λ t. t.value ≡ T.Block locals statements)

-- what stands under a shape, if it is typed
abbrev pub IsUnder : ℕ → Option (Box TStmt Global) → Option (Box TStmt Global) → Type 0
IsUnder shape None s = s ≡ None
IsUnder shape (Some body) s = MatchOption s ⊥ (λ t. t.value ≡ T.With shape body)

-- what stands under `everywhere`, if it is typed
abbrev pub IsEverywhere : Site → Place → Option (Box TStmt Global) → Option Standing → Option Standing → Option (Box TStmt Global) → Type 0
IsEverywhere site p None old new s = (s ≡ None) × (new ≡ old)
IsEverywhere site p (Some body) old new s =
    (t : Result TStmt Untyped) × IsOutcome t old new s
    × ((program : Program) (returns : Returns) (here : Here) (written : Box Stmt Global) → here.current ≡ site.current → TypesStatement program returns here written.value body.value → IsAnswer program returns here (S.Everywhere p written) t)
