-- What the walk over a statement answers: the typed tree that the rules give it at its place.
use Rattle.std.specs.Prelude.{◌≡◌, ◌+◌, ◌++◌, ℕ, List, [], ◌∷◌, IfSome, Option, Some, None, Box, Vec}
use Rattle.std.specs.declared.alloc.Global.{Global}
use Rattle.cstar_tree.specs.declared.syntax.Block.{Block}
use Rattle.cstar_tree.specs.declared.syntax.Declaration.{Declaration}
use Rattle.cstar_tree.specs.declared.syntax.Declarator.{Declarator}
use Rattle.cstar_tree.specs.declared.syntax.Expr.{Expr}
use Rattle.cstar_tree.specs.declared.syntax.Stmt.{Stmt}
use Rattle.cstar_tree.specs.declared.syntax.Stmt as S
use Rattle.cstar_tree.specs.declared.typed.LocalVar.{LocalVar}
use Rattle.cstar_tree.specs.declared.typed.TExpr.{TExpr}
use Rattle.cstar_tree.specs.declared.typed.TStmt.{TStmt}
use Rattle.cstar_tree.specs.declared.typed.TStmt as T
use Rattle.cstar_tree.specs.declared.typed.ValueType.{ValueType}
use Rattle.cstar_tree.specs.BlockScopes.{behind_declarations, behind_declarator}
use Rattle.cstar_tree.specs.Headers.{Program}
use Rattle.cstar_tree.specs.Scopes.{Here, as_whole}
use Rattle.cstar_tree.specs.StatementTypes.{TypesBlock, TypesDeclarations, TypesEffectIf, TypesLocal, TypesStatement, TypesValueIf}
use Rattle.cstar_tree.specs.SyntaxParts.{declared_in, locals_in}
use Rattle.type_expressions.specs.declared.found.Instances.{Instances}
use Rattle.type_scopes.specs.Headers.{returned}
use Rattle.type_scopes.specs.declared.file.File.{File}
use Rattle.type_scopes.specs.declared.sites.Site.{Site}
use Rattle.type_statements.specs.Answers.{IsHeading, value_of}
use Rattle.type_statements.specs.Places.{HasItsShape, IsInScope, IsPlace}
use Rattle.type_statements.specs.Ready.{InBlock, InDeclarations, InDeclarator, InStatement, IsReady}
use Rattle.type_statements.specs.declared.forms.Heading.{Heading}
use Rattle.type_statements.specs.declared.scopes.Scopes.{Scopes}

-- a variable that its scope does not have yet is what the rules make of its declarator, and behind it
-- the place goes on being the one that is kept
pub record IsLocal (so_far : Instances) (file : File) (old new : Scopes) (site : Site) (scope : ℕ) (ty : Option ValueType) (d : Declarator) (local : LocalVar) : Type 0 where
  pub of : ValueType
  pub has_type : ty ≡ Some of
  pub typed : (program : Program) (here : Here) → IsInScope file old site scope here → HasItsShape here of → InDeclarator (IsReady so_far file program) here ty d → TypesLocal program here of d local × IsInScope file new site scope (behind_declarator here ty d)
  pub counted : new.count ≡ old.count + 1

-- so are the variables of declarations
pub record AreDeclared (so_far : Instances) (file : File) (old new : Scopes) (site : Site) (scope : ℕ) (ds : List Declaration) (locals : List LocalVar) : Type 0 where
  pub typed : (program : Program) (here : Here) → IsInScope file old site scope here → InDeclarations (IsReady so_far file program) here ds → TypesDeclarations program here ds locals × IsInScope file new site scope (behind_declarations here ds)
  pub counted : new.count ≡ old.count + declared_in ds

-- those of one declaration come behind those before
pub record AreMore (so_far : Instances) (file : File) (old new : Scopes) (site : Site) (scope : ℕ) (d : Declaration) (before locals : List LocalVar) : Type 0 where
  pub own : List LocalVar
  pub behind : locals ≡ before ++ own
  pub declared : AreDeclared so_far file old new site scope (d ∷ []) own

-- what a statement becomes is what the rules give it at its place, where these instances were met so
-- far, and its variables are counted
pub record IsTyped (so_far : Instances) (file : File) (old new : Scopes) (site : Site) (s : Stmt) (t : TStmt) : Type 0 where
  pub typed : (program : Program) (here : Here) → IsPlace file old site here → InStatement (IsReady so_far file program) here s → TypesStatement program (returned site.returns) here s t
  pub counted : new.count ≡ old.count + locals_in s

abbrev pub IsTypedIf : Instances → File → Scopes → Scopes → Site → Stmt → Option (Box TStmt Global) → Type 0
IsTypedIf so_far file old new site s t = IfSome t (λ b. IsTyped so_far file old new site s b.value)

-- so is a block in its scope
pub record IsTypedBlock (so_far : Instances) (file : File) (old new : Scopes) (site : Site) (scope : ℕ) (block : Block) (t : TStmt) : Type 0 where
  pub locals : Vec LocalVar Global
  pub statements : Vec TStmt Global
  pub is_block : t ≡ T.Block locals statements
  pub typed : (program : Program) (here : Here) → IsInScope file old site scope here → InBlock (IsReady so_far file program) here block → TypesBlock program (returned site.returns) here block locals.items statements.items
  pub counted : new.count ≡ old.count + locals_in (S.Block block)

-- an expression that may be left out: the outer Option tells of a fault
abbrev pub IsValueIf : Instances → File → Scopes → Site → Option Expr → Option (Option (Box TExpr Global)) → Type 0
IsValueIf so_far file scopes site e None = Unit {0}
IsValueIf so_far file scopes site e (Some t) = (program : Program) (here : Here) → IsPlace file scopes site here → IfSome e (IsReady so_far file program here) → TypesValueIf program here e (value_of t)

abbrev pub IsEffectIf : Instances → File → Scopes → Site → Option Expr → Option (Option (Box TExpr Global)) → Type 0
IsEffectIf so_far file scopes site e None = Unit {0}
IsEffectIf so_far file scopes site e (Some t) = (program : Program) (here : Here) → IsPlace file scopes site here → IfSome e (IsReady so_far file program (as_whole here)) → TypesEffectIf program here e (value_of t)

-- the parts in the brackets of a `for`
abbrev pub IsHeadingOf : Program → Here → Stmt → Heading → Type 0
IsHeadingOf program here (S.For' p first test step _ body) heading = IsHeading program here first test step heading
IsHeadingOf program here _ heading = ⊥

abbrev pub IsTypedHeading : Instances → File → Scopes → Site → Stmt → Option Heading → Type 0
IsTypedHeading so_far file scopes site s None = Unit {0}
IsTypedHeading so_far file scopes site s (Some heading) = (program : Program) (here : Here) → IsPlace file scopes site here → InStatement (IsReady so_far file program) here s → IsHeadingOf program here s heading
