-- What is asked of the expressions of a statement, each at its own place.
use Rattle.std.specs.Prelude.{◌≡◌, ℕ, List, [], ◌∷◌, IfSome, Option, Some}
use Rattle.cstar_tree.specs.declared.syntax.Block.{Block}
use Rattle.cstar_tree.specs.declared.syntax.Declaration.{Declaration}
use Rattle.cstar_tree.specs.declared.syntax.Declarator.{Declarator}
use Rattle.cstar_tree.specs.declared.syntax.Expr.{Expr}
use Rattle.cstar_tree.specs.declared.syntax.Initializer.{Initializer}
use Rattle.cstar_tree.specs.declared.syntax.Stmt.{Stmt, Row_of-Stmt, end_of-Stmt, more_of-Stmt, Held-Stmt-If-3, None', Some'}
use Rattle.cstar_tree.specs.declared.syntax.Stmt as S
use Rattle.cstar_tree.specs.declared.typed.ValueType.{ValueType}
use Rattle.cstar_tree.specs.BlockScopes.{behind, behind_declarations, behind_declarator, behind_declarators, block_place, in_loop}
use Rattle.cstar_tree.specs.Headers.{Program}
use Rattle.cstar_tree.specs.Scopes.{Here, as_whole, shape_of, under, written_type}
use Rattle.type_scopes.specs.declared.file.File.{File}
use Rattle.type_expressions.specs.Programs.{HasItsCalls}
use Rattle.type_expressions.specs.Walks.{IsPlain}
use Rattle.type_expressions.specs.declared.found.Instances.{Instances}

-- an expression is plain, and the program knows of its calls
abbrev pub IsReady : Instances → File → Program → Here → Expr → Type 0
IsReady so_far file program here e = HasItsCalls so_far file program here e × IsPlain e

-- Each expression of it has this at its own place. The length of a declarator stands before its name,
-- its initialiser behind.
abbrev pub InDeclarator : (Here → Expr → Type 0) → Here → Option ValueType → Declarator → Type 0
InDeclarator P here ty d = IfSome d.length (P here) × IfSome d.initial (λ (i : Initializer). P (behind_declarator here ty d) i.value)

unfoldable pub InDeclarators : (Here → Expr → Type 0) → Here → Option ValueType → List Declarator → Type 0
InDeclarators P here ty [] = Unit {0}
InDeclarators P here ty (d ∷ ds) = InDeclarator P here ty d × InDeclarators P (behind_declarator here ty d) ty ds

unfoldable pub InDeclarations : (Here → Expr → Type 0) → Here → List Declaration → Type 0
InDeclarations P here [] = Unit {0}
InDeclarations P here (d ∷ ds) =
    InDeclarators P here (written_type here d.type_name) d.variables.items × InDeclarations P (behind_declarators here (written_type here d.type_name) d.variables.items) ds

-- So it is of a statement with all statements in it. Under a name that is no shape nothing is asked.
unfoldable mutual
  pub InStatement : (Here → Expr → Type 0) → Here → Stmt → Type 0
  InStatement P here (S.Block' p declarations _ statements) = InDeclarations P (block_place here) declarations.items × InRow P (behind_declarations (block_place here) declarations.items) statements
  InStatement P here (S.Expression p e) = P (as_whole here) e
  InStatement P here (S.If' p test _ second third) = P here test × InStatement P here second × InElse P (behind here second) third
  InStatement P here (S.While' p test _ body) = P here test × InStatement P (in_loop here) body
  InStatement P here (S.Do' p _ body test) = InStatement P (in_loop here) body × P here test
  InStatement P here (S.For' p first test step _ body) = IfSome first (P (as_whole here)) × IfSome test (P here) × IfSome step (P (as_whole here)) × InStatement P (in_loop here) body
  InStatement P here (S.Return p value) = IfSome value (P here)
  InStatement P here (S.With' p written _ body) = (shape : ℕ) → shape_of here written ≡ Some shape → InStatement P (under here shape) body
  InStatement P here (S.Everywhere' p _ body) = InStatement P here body
  InStatement P here (S.Where' p test _ second third) = P here test × InStatement P here second × InElse P (behind here second) third
  InStatement P here _ = Unit {0}

  pub InRow : {n : _} → (Here → Expr → Type 0) → Here → Row_of-Stmt n → Type 0
  InRow P here end_of-Stmt = Unit {0}
  InRow P here (more_of-Stmt s rest) = InStatement P here s × InRow P (behind here s) rest

  pub InElse : (Here → Expr → Type 0) → Here → Held-Stmt-If-3 → Type 0
  InElse P here None' = Unit {0}
  InElse P here (Some' _ s) = InStatement P here s

unfoldable pub InStatements : (Here → Expr → Type 0) → Here → List Stmt → Type 0
InStatements P here [] = Unit {0}
InStatements P here (s ∷ ss) = InStatement P here s × InStatements P (behind here s) ss

-- so it is of a block in the scope of this place
abbrev pub InBlock : (Here → Expr → Type 0) → Here → Block → Type 0
InBlock P here block = InDeclarations P here block.declarations.items × InStatements P (behind_declarations here block.declarations.items) block.statements.items
