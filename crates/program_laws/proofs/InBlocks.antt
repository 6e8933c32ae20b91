-- What is asked of the expressions of a block, each at its own place: what follows from it, what is
-- asked beside it, and what all places have.
use Rattle.std.proofs.Common.{ℕ, List, [], ◌∷◌, IfSome, Option, Some, None, sym, subst}
use mathlib.Core.Former.{Count}
use Rattle.cstar_tree.specs.declared.syntax.Block.{Block}
use Rattle.cstar_tree.specs.declared.syntax.Declaration.{Declaration}
use Rattle.cstar_tree.specs.declared.syntax.Declarator.{Declarator}
use Rattle.cstar_tree.specs.declared.syntax.Expr.{Expr}
use Rattle.cstar_tree.specs.declared.syntax.Initializer.{Initializer}
use Rattle.cstar_tree.specs.declared.syntax.Stmt.{Stmt, Row_of-Stmt, end_of-Stmt, more_of-Stmt, items-the_row-Stmt, items_hidden-the_row-Stmt-0, Held-Stmt-If-3, None', Some'}
use Rattle.cstar_tree.specs.declared.syntax.Stmt as S
use Rattle.cstar_tree.specs.declared.typed.ValueType.{ValueType}
use Rattle.cstar_tree.specs.BlockScopes.{behind, behind_declarations, behind_declarator, behind_declarators, block_place, in_loop}
use Rattle.cstar_tree.specs.Scopes.{Here, as_whole, under, written_type}
use Rattle.type_statements.specs.Ready.{InBlock, InDeclarations, InDeclarators, InElse, InRow, InStatement, InStatements}
use Rattle.type_statements.proofs.Ready as ready

-- what follows for each expression at its place follows for a block
pub in_block_map : (P Q : Here → Expr → Type 0) → ((here : Here) (e : Expr) → P here e → Q here e) → (here : Here) (block : Block) → InBlock P here block → InBlock Q here block
in_block_map P Q f here block h =
    (ready.declarations_brought f here block.declarations.items h.0, ready.statements_brought f (behind_declarations here block.declarations.items) block.statements.items h.1)

-- ---- a block as a statement

abbrev statement_row : Stmt → (n : Count) × Row_of-Stmt n
statement_row (S.Block' _ _ _ row) = (_, row)
statement_row _ = (_, end_of-Stmt)

in_row : (P : Here → Expr → Type 0) (here : Here) (n : Count) (row : Row_of-Stmt n) → InStatements P here (items-the_row-Stmt n row) → InRow P here row
unfolding InRow InStatements
in_row P here n end_of-Stmt h = tt
in_row P here n (more_of-Stmt s rest) h = (h.0, in_row P (behind here s) _ rest h.1)

pub in_statement : (P : Here → Expr → Type 0) (here : Here) (block : Block) → InBlock P (block_place here) block → InStatement P here (S.Block block)
unfolding InStatement
in_statement P here block h =
    let row = statement_row (S.Block block) in
    let there = behind_declarations (block_place here) block.declarations.items in
    (h.0, in_row P there row.0 row.1 (subst (InStatements P there) (sym (items_hidden-the_row-Stmt-0 block.statements)) h.1))

-- ---- two things beside each other

module _ (P Q : Here → Expr → Type 0) where
  abbrev Both : Here → Expr → Type 0
  Both here e = P here e × Q here e

  some_both : (here : Here) (e : Option Expr) → IfSome e (P here) → IfSome e (Q here) → IfSome e (Both here)
  some_both here None p q = tt
  some_both here (Some e) p q = (p, q)

  initial_both : (here : Here) (i : Option Initializer) → IfSome i (λ (i : Initializer). P here i.value) → IfSome i (λ (i : Initializer). Q here i.value) → IfSome i (λ (i : Initializer). Both here i.value)
  initial_both here None p q = tt
  initial_both here (Some i) p q = (p, q)

  declarators_both : (here : Here) (ty : Option ValueType) (ds : List Declarator) → InDeclarators P here ty ds → InDeclarators Q here ty ds → InDeclarators Both here ty ds
  unfolding InDeclarators
  declarators_both here ty [] p q = tt
  declarators_both here ty (d ∷ ds) p q =
      ((some_both here d.length p.0.0 q.0.0, initial_both (behind_declarator here ty d) d.initial p.0.1 q.0.1), declarators_both (behind_declarator here ty d) ty ds p.1 q.1)

  declarations_both : (here : Here) (ds : List Declaration) → InDeclarations P here ds → InDeclarations Q here ds → InDeclarations Both here ds
  unfolding InDeclarations
  declarations_both here [] p q = tt
  declarations_both here (d ∷ ds) p q =
      (declarators_both here (written_type here d.type_name) d.variables.items p.0 q.0, declarations_both (behind_declarators here (written_type here d.type_name) d.variables.items) ds p.1 q.1)

  mutual
    unfolding InStatement InRow InElse

    both : (here : Here) (s : Stmt) → InStatement P here s → InStatement Q here s → InStatement Both here s
    both here (S.Block' p declarations _ statements) h k =
        (declarations_both (block_place here) declarations.items h.0 k.0, row_both (behind_declarations (block_place here) declarations.items) _ statements h.1 k.1)
    both here (S.Expression p e) h k = (h, k)
    both here (S.If' p test _ second third) h k = ((h.0, k.0), both here second h.1 k.1, else_both (behind here second) third h.2 k.2)
    both here (S.While' p test _ body) h k = ((h.0, k.0), both (in_loop here) body h.1 k.1)
    both here (S.Do' p _ body test) h k = (both (in_loop here) body h.0 k.0, (h.1, k.1))
    both here (S.For' p first test step _ body) h k = (some_both (as_whole here) first h.0 k.0, some_both here test h.1 k.1, some_both (as_whole here) step h.2 k.2, both (in_loop here) body h.3 k.3)
    both here (S.Return p value) h k = some_both here value h k
    both here (S.With' p written _ body) h k = λ shape is. both (under here shape) body (h shape is) (k shape is)
    both here (S.Everywhere' p _ body) h k = both here body h k
    both here (S.Where' p test _ second third) h k = ((h.0, k.0), both here second h.1 k.1, else_both (behind here second) third h.2 k.2)
    both here (S.Break p) h k = tt
    both here (S.Continue p) h k = tt
    both here (S.Empty p) h k = tt

    row_both : (here : Here) (n : Count) (row : Row_of-Stmt n) → InRow P here row → InRow Q here row → InRow Both here row
    row_both here n end_of-Stmt h k = tt
    row_both here n (more_of-Stmt s rest) h k = (both here s h.0 k.0, row_both (behind here s) _ rest h.1 k.1)

    else_both : (here : Here) (s : Held-Stmt-If-3) → InElse P here s → InElse Q here s → InElse Both here s
    else_both here None' h k = tt
    else_both here (Some' _ s) h k = both here s h k

  statements_both : (here : Here) (ss : List Stmt) → InStatements P here ss → InStatements Q here ss → InStatements Both here ss
  unfolding InStatements
  statements_both here [] h k = tt
  statements_both here (s ∷ ss) h k = (both here s h.0 k.0, statements_both (behind here s) ss h.1 k.1)

  pub in_block_both : (here : Here) (block : Block) → InBlock P here block → InBlock Q here block → InBlock (λ (here : Here) (e : Expr). P here e × Q here e) here block
  in_block_both here block h k =
      (declarations_both here block.declarations.items h.0 k.0, statements_both (behind_declarations here block.declarations.items) block.statements.items h.1 k.1)

-- ---- what all places in a block have

-- the step from a place to the next keeps it
pub record IsKept (P : Here → Type 0) : Type 0 where
  pub declared : (here : Here) (ty : Option ValueType) (d : Declarator) → P here → P (behind_declarator here ty d)
  pub block : (here : Here) → P here → P (block_place here)
  pub behind : (here : Here) (s : Stmt) → P here → P (behind here s)
  pub in_loop : (here : Here) → P here → P (in_loop here)
  pub under : (here : Here) (shape : ℕ) → P here → P (under here shape)
  pub whole : (here : Here) → P here → P (as_whole here)

module _ (P : Here → Type 0) (kept : IsKept P) where
  abbrev At : Here → Expr → Type 0
  At here e = P here

  some_at : (here : Here) (e : Option Expr) → P here → IfSome e (At here)
  some_at here None p = tt
  some_at here (Some e) p = p

  initial_at : (here : Here) (i : Option Initializer) → P here → IfSome i (λ (i : Initializer). At here i.value)
  initial_at here None p = tt
  initial_at here (Some i) p = p

  behind_all : (here : Here) (ty : Option ValueType) (ds : List Declarator) → P here → P (behind_declarators here ty ds)
  unfolding behind_declarators
  behind_all here ty [] p = p
  behind_all here ty (d ∷ ds) p = behind_all (behind_declarator here ty d) ty ds (kept.declared here ty d p)

  behind_each : (here : Here) (ds : List Declaration) → P here → P (behind_declarations here ds)
  unfolding behind_declarations
  behind_each here [] p = p
  behind_each here (d ∷ ds) p =
      behind_each (behind_declarators here (written_type here d.type_name) d.variables.items) ds (behind_all here (written_type here d.type_name) d.variables.items p)

  declarators_at : (here : Here) (ty : Option ValueType) (ds : List Declarator) → P here → InDeclarators At here ty ds
  unfolding InDeclarators
  declarators_at here ty [] p = tt
  declarators_at here ty (d ∷ ds) p =
      let next = kept.declared here ty d p in
      ((some_at here d.length p, initial_at (behind_declarator here ty d) d.initial next), declarators_at (behind_declarator here ty d) ty ds next)

  declarations_at : (here : Here) (ds : List Declaration) → P here → InDeclarations At here ds
  unfolding InDeclarations
  declarations_at here [] p = tt
  declarations_at here (d ∷ ds) p =
      let ty = written_type here d.type_name in
      (declarators_at here ty d.variables.items p, declarations_at (behind_declarators here ty d.variables.items) ds (behind_all here ty d.variables.items p))

  mutual
    unfolding InStatement InRow InElse

    all_at : (here : Here) (s : Stmt) → P here → InStatement At here s
    all_at here (S.Block' p declarations _ statements) h =
        let inside = kept.block here h in
        (declarations_at (block_place here) declarations.items inside, row_at (behind_declarations (block_place here) declarations.items) _ statements (behind_each (block_place here) declarations.items inside))
    all_at here (S.Expression p e) h = kept.whole here h
    all_at here (S.If' p test _ second third) h = (h, all_at here second h, else_at (behind here second) third (kept.behind here second h))
    all_at here (S.While' p test _ body) h = (h, all_at (in_loop here) body (kept.in_loop here h))
    all_at here (S.Do' p _ body test) h = (all_at (in_loop here) body (kept.in_loop here h), h)
    all_at here (S.For' p first test step _ body) h = (some_at (as_whole here) first (kept.whole here h), some_at here test h, some_at (as_whole here) step (kept.whole here h), all_at (in_loop here) body (kept.in_loop here h))
    all_at here (S.Return p value) h = some_at here value h
    all_at here (S.With' p written _ body) h = λ shape is. all_at (under here shape) body (kept.under here shape h)
    all_at here (S.Everywhere' p _ body) h = all_at here body h
    all_at here (S.Where' p test _ second third) h = (h, all_at here second h, else_at (behind here second) third (kept.behind here second h))
    all_at here (S.Break p) h = tt
    all_at here (S.Continue p) h = tt
    all_at here (S.Empty p) h = tt

    row_at : (here : Here) (n : Count) (row : Row_of-Stmt n) → P here → InRow At here row
    row_at here n end_of-Stmt h = tt
    row_at here n (more_of-Stmt s rest) h = (all_at here s h, row_at (behind here s) _ rest (kept.behind here s h))

    else_at : (here : Here) (s : Held-Stmt-If-3) → P here → InElse At here s
    else_at here None' h = tt
    else_at here (Some' _ s) h = all_at here s h

  statements_at : (here : Here) (ss : List Stmt) → P here → InStatements At here ss
  unfolding InStatements
  statements_at here [] h = tt
  statements_at here (s ∷ ss) h = (all_at here s h, statements_at (behind here s) ss (kept.behind here s h))

  pub in_block_at : (here : Here) (block : Block) → P here → InBlock (λ (there : Here) (e : Expr). P there) here block
  in_block_at here block h =
      (declarations_at here block.declarations.items h, statements_at (behind_declarations here block.declarations.items) block.statements.items (behind_each here block.declarations.items h))
