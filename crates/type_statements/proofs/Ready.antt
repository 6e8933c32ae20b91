-- What is asked of the expressions of a statement is asked of those of its parts, and what was met
-- before begins what is met further on.
use Rattle.std.proofs.Common.{List, [], ◌∷◌, IfSome, Option, Some, None, subst}
use mathlib.Core.Former.{Count}
use Rattle.cstar_tree.specs.declared.syntax.Block.{Block}
use Rattle.cstar_tree.specs.declared.syntax.Declaration.{Declaration}
use Rattle.cstar_tree.specs.declared.syntax.Declarator.{Declarator}
use Rattle.cstar_tree.specs.declared.syntax.Expr.{Expr}
use Rattle.cstar_tree.specs.declared.syntax.Initializer.{Initializer}
use Rattle.cstar_tree.specs.declared.syntax.Stmt.{Stmt, Row_of-Stmt, end_of-Stmt, more_of-Stmt, items-the_row-Stmt, items_hidden-the_row-Stmt-0, Held-Stmt-If-3, None', Some'}
use Rattle.cstar_tree.specs.declared.syntax.Stmt as S
use Rattle.cstar_tree.specs.declared.typed.ValueType.{ValueType}
use Rattle.cstar_tree.specs.BlockScopes.{behind, behind_declarations, behind_declarator, behind_declarators, block_place, in_loop}
use Rattle.cstar_tree.specs.Headers.{Program}
use Rattle.cstar_tree.specs.Scopes.{Here, as_whole, under, written_type}
use Rattle.type_scopes.specs.declared.file.File.{File}
use Rattle.type_expressions.specs.Instances.{Grows}
use Rattle.type_expressions.specs.declared.found.Instances.{Instances}
use Rattle.type_expressions.proofs.CallsWithin as within
use Rattle.type_statements.specs.Ready.{InBlock, InDeclarations, InDeclarators, InElse, InRow, InStatement, InStatements, IsReady}

-- what is ready further on was ready before
pub earlier : {file : File} {first last : Instances} {program : Program} → Grows file first last → (here : Here) (e : Expr) → IsReady last file program here e → IsReady first file program here e
earlier later here e ready = (within.earlier later ready.0, ready.1)

-- ---- what holds of each expression in it

abbrev Brings : (Here → Expr → Type 0) → (Here → Expr → Type 0) → Type 0
Brings P Q = (here : Here) (e : Expr) → P here e → Q here e

pub some_brought : {P Q : Here → Expr → Type 0} → Brings P Q → (here : Here) (e : Option Expr) → IfSome e (P here) → IfSome e (Q here)
some_brought f here None h = tt
some_brought f here (Some e) h = f here e h

initial_brought : {P Q : Here → Expr → Type 0} → Brings P Q → (here : Here) (i : Option Initializer) → IfSome i (λ (i : Initializer). P here i.value) → IfSome i (λ (i : Initializer). Q here i.value)
initial_brought f here None h = tt
initial_brought f here (Some i) h = f here i.value h

pub declarators_brought : {P Q : Here → Expr → Type 0} → Brings P Q → (here : Here) (ty : Option ValueType) (ds : List Declarator) → InDeclarators P here ty ds → InDeclarators Q here ty ds
unfolding InDeclarators
declarators_brought f here ty [] h = tt
declarators_brought f here ty (d ∷ ds) h = ((some_brought f here d.length h.0.0, initial_brought f (behind_declarator here ty d) d.initial h.0.1), declarators_brought f (behind_declarator here ty d) ty ds h.1)

pub declarations_brought : {P Q : Here → Expr → Type 0} → Brings P Q → (here : Here) (ds : List Declaration) → InDeclarations P here ds → InDeclarations Q here ds
unfolding InDeclarations
declarations_brought f here [] h = tt
declarations_brought f here (d ∷ ds) h =
    (declarators_brought f here (written_type here d.type_name) d.variables.items h.0, declarations_brought f (behind_declarators here (written_type here d.type_name) d.variables.items) ds h.1)

mutual
  unfolding InStatement InRow InElse

  pub brought : {P Q : Here → Expr → Type 0} → Brings P Q → (here : Here) (s : Stmt) → InStatement P here s → InStatement Q here s
  brought f here (S.Block' p declarations _ statements) h = (declarations_brought f (block_place here) declarations.items h.0, row_brought f (behind_declarations (block_place here) declarations.items) _ statements h.1)
  brought f here (S.Expression p e) h = f (as_whole here) e h
  brought f here (S.If' p test _ second third) h = (f here test h.0, brought f here second h.1, else_brought f (behind here second) third h.2)
  brought f here (S.While' p test _ body) h = (f here test h.0, brought f (in_loop here) body h.1)
  brought f here (S.Do' p _ body test) h = (brought f (in_loop here) body h.0, f here test h.1)
  brought f here (S.For' p first test step _ body) h = (some_brought f (as_whole here) first h.0, some_brought f here test h.1, some_brought f (as_whole here) step h.2, brought f (in_loop here) body h.3)
  brought f here (S.Return p value) h = some_brought f here value h
  brought f here (S.With' p written _ body) h = λ shape is. brought f (under here shape) body (h shape is)
  brought f here (S.Everywhere' p _ body) h = brought f here body h
  brought f here (S.Where' p test _ second third) h = (f here test h.0, brought f here second h.1, else_brought f (behind here second) third h.2)
  brought f here (S.Break p) h = tt
  brought f here (S.Continue p) h = tt
  brought f here (S.Empty p) h = tt

  row_brought : {P Q : Here → Expr → Type 0} → Brings P Q → (here : Here) (n : Count) (row : Row_of-Stmt n) → InRow P here row → InRow Q here row
  row_brought f here n end_of-Stmt h = tt
  row_brought f here n (more_of-Stmt s rest) h = (brought f here s h.0, row_brought f (behind here s) _ rest h.1)

  else_brought : {P Q : Here → Expr → Type 0} → Brings P Q → (here : Here) (s : Held-Stmt-If-3) → InElse P here s → InElse Q here s
  else_brought f here None' h = tt
  else_brought f here (Some' _ s) h = brought f here s h

pub statements_brought : {P Q : Here → Expr → Type 0} → Brings P Q → (here : Here) (ss : List Stmt) → InStatements P here ss → InStatements Q here ss
unfolding InStatements
statements_brought f here [] h = tt
statements_brought f here (s ∷ ss) h = (brought f here s h.0, statements_brought f (behind here s) ss h.1)

-- ---- a block

abbrev statement_row : Stmt → (n : Count) × Row_of-Stmt n
statement_row (S.Block' _ _ _ row) = (_, row)
statement_row _ = (_, end_of-Stmt)

in_each : (P : Here → Expr → Type 0) (here : Here) (n : Count) (row : Row_of-Stmt n) → InRow P here row → InStatements P here (items-the_row-Stmt n row)
unfolding InRow InStatements
in_each P here n end_of-Stmt h = tt
in_each P here n (more_of-Stmt s rest) h = (h.0, in_each P (behind here s) _ rest h.1)

pub in_block : (P : Here → Expr → Type 0) (here : Here) (block : Block) → InStatement P here (S.Block block) → InBlock P (block_place here) block
unfolding InStatement
in_block P here block h =
    let row = statement_row (S.Block block) in
    let there = behind_declarations (block_place here) block.declarations.items in
    (h.0, subst (InStatements P there) (items_hidden-the_row-Stmt-0 block.statements) (in_each P there row.0 row.1 h.1))
