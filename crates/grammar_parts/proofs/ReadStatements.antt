-- The statements of a text are read by their open parts.
use Rattle.std.proofs.Common.{◌≡◌, ℕ, Bool, false, List, [], ◌∷◌, ◌++◌, Option, Some, refl, sym, ap, subst, ◌∙◌, if◌then◌else◌}
use Rattle.cstar_base.specs.declared.operators.Place.{Place}
use Rattle.cstar_tree.specs.declared.token.Token.{Token}
use Rattle.cstar_tree.specs.declared.token.Kind.{Kind}
use Rattle.cstar_tree.specs.declared.token.Kind.TheVariants as K
use Rattle.cstar_tree.specs.declared.token.Mark.{Mark}
use Rattle.cstar_tree.specs.declared.token.Mark.TheVariants as M
use Rattle.cstar_tree.specs.declared.syntax.Expr.{Expr}
use Rattle.cstar_tree.specs.declared.syntax.Block.{Block}
use Rattle.cstar_tree.specs.declared.syntax.Stmt.{Stmt}
use Rattle.cstar_tree.specs.Positions.{StandsMark, token_kind}
use Rattle.cstar_tree.specs.Options as O
use Rattle.cstar_tree.specs.Statements.{AreStmts, IsBlock, IsPart, IsStmt, IsTest, NoElse}
use Rattle.cstar_tree.specs.Statements as S
use Rattle.grammar_parts.specs.Parts.{Part, Action, take_it, enter, skip, refuse, before, is_taken}
use Rattle.grammar_parts.specs.Parts as P
use Rattle.grammar_parts.specs.Actions.{IsReal, act, has, statement_action, type_action, unary_marks}
use Rattle.grammar_parts.specs.Readings.{reach}
use Rattle.grammar_parts.proofs.Reaching.{begins, opens, skipped, taken}
use Rattle.grammar_parts.proofs.ReadTypes.{Reads, read_shape}
use Rattle.grammar_parts.proofs.ReadExpressions.{mark_taken, read_expression, starts_expression}
use Rattle.grammar_parts.proofs.ReadDeclarations.{read_declarations, read_whole, start_expression}
use Rattle.grammar_parts.proofs.Words.{IsQuiet, apart, has_it, has_not, is_expression, no_type, quiet_at, quiet_paren, quiet_semicolon}

read_part : {tokens : List Token} {from to : ℕ} {e : Option Expr} (m : Mark) → IsQuiet m → is_taken (unary_marks m) ≡ false → IsPart tokens from e m to → Reads tokens from (P.part m) to
read_part m quiet other (S.no_part s) behind = taken (P.part m) behind s (ap (λ (b : Bool). if b then take_it 0 [] else enter P.expression (P.mark m ∷ [])) (has_it m))
read_part {tokens} {from} m quiet other (S.part e s) behind =
    begins tokens from (P.part m) P.expression behind (ap (λ (b : Bool). if b then take_it 0 [] else enter P.expression (P.mark m ∷ [])) (apart (token_kind tokens from) m other (starts_expression e))) (start_expression (token_kind tokens from) (starts_expression e))
    ∙ read_expression e (quiet_at s quiet) (P.mark m ∷ behind) ∙ mark_taken s behind

read_test : {tokens : List Token} {from to : ℕ} {e : Expr} → IsTest tokens from e to → Reads tokens from P.condition to
read_test (S.test open_it e close_it) behind = taken P.condition behind open_it refl ∙ read_whole e (quiet_at close_it quiet_paren) (P.mark M.RightParen ∷ behind) ∙ mark_taken close_it behind

skip_else : (tokens : List Token) (at : ℕ) (behind : List Part) → NoElse tokens at → reach tokens at (P.else_or_none ∷ P.ended ∷ behind) ≡ reach tokens at behind
skip_else tokens at behind none = skipped tokens at P.else_or_none (P.ended ∷ behind) (ap (λ (b : Bool). if b then take_it 0 (P.statement ∷ []) else skip) (has_not (token_kind tokens at) M.Else none)) ∙ skipped tokens at P.ended behind refl

-- neither a brace nor a type stands there
record Leads (kind : Option Kind) : Type 0 where
  pub no_brace : has kind M.RightBrace ≡ false
  pub no_type : is_taken (type_action kind) ≡ false

leads_at : {tokens : List Token} {at next : ℕ} {m : Mark} {place : Place} → StandsMark tokens at m place next → has (Some (K.Mark m)) M.RightBrace ≡ false → is_taken (type_action (Some (K.Mark m))) ≡ false → Leads (token_kind tokens at)
leads_at s b t = subst {0, 0} Leads (sym s.kind_is) (record { no_brace = b; no_type = t })

leads : {tokens : List Token} {from to : ℕ} {s : Stmt} → IsStmt tokens from s to → Leads (token_kind tokens from)
leads (S.block_is (S.block b open_it ds ss close_it)) = leads_at open_it refl refl
leads {tokens} {from} (S.expression place (S.part e s)) = record { no_brace = apart (token_kind tokens from) M.RightBrace refl (starts_expression e); no_type = ap is_taken (no_type (token_kind tokens from) (starts_expression e)) }
leads (S.empty s) = leads_at s refl refl
leads (S.if_alone body m t s none) = leads_at m refl refl
leads (S.if_else body other m t s e o) = leads_at m refl refl
leads (S.where_alone body m t s none) = leads_at m refl refl
leads (S.where_else body other m t s e o) = leads_at m refl refl
leads (S.while body m t s) = leads_at m refl refl
leads (S.do_while body m s w t c) = leads_at m refl refl
leads (S.for body m b x y z s) = leads_at m refl refl
leads (S.break m c) = leads_at m refl refl
leads (S.continue m c) = leads_at m refl refl
leads (S.return m p) = leads_at m refl refl
leads (S.with body m shape s) = leads_at m refl refl
leads (S.everywhere body m s) = leads_at m refl refl

no_type_first : {tokens : List Token} {from to : ℕ} {list : List Stmt} → AreStmts tokens from list to → is_taken (type_action (token_kind tokens to)) ≡ false → is_taken (type_action (token_kind tokens from)) ≡ false
no_type_first S.no_stmt h = h
no_type_first (S.one_more list s) h = no_type_first list (leads s).no_type

pub statement_real : (kind : Option Kind) → IsReal (statement_action kind)
statement_real (Some (K.Mark M.LeftBrace)) = tt
statement_real other = tt

mutual
  pub read_statement : {tokens : List Token} {from to : ℕ} {s : Stmt} → IsStmt tokens from s to → Reads tokens from P.statement to
  read_statement {tokens} {to = to} (S.block_is b) behind = read_block P.statement (P.ended ∷ []) refl b behind ∙ skipped tokens to P.ended behind refl
  read_statement {tokens} {from} {to} (S.expression place (S.part e s)) behind = begins tokens from P.statement P.expression behind (is_expression (token_kind tokens from) (starts_expression e)) (start_expression (token_kind tokens from) (starts_expression e))
      ∙ read_expression e (quiet_at s quiet_semicolon) (P.mark M.Semicolon ∷ P.ended ∷ behind) ∙ mark_taken s (P.ended ∷ behind) ∙ skipped tokens to P.ended behind refl
  read_statement {tokens} {to = to} (S.empty s) behind = taken P.statement behind s refl ∙ skipped tokens to P.ended behind refl
  read_statement {tokens} {to = to} (S.if_alone body m t s none) behind = taken P.statement behind m refl ∙ read_test t (P.statement ∷ P.else_or_none ∷ P.ended ∷ behind) ∙ read_statement s (P.else_or_none ∷ P.ended ∷ behind) ∙ skip_else tokens to behind none
  read_statement {tokens} {to = to} (S.if_else body other m t s e o) behind = taken P.statement behind m refl ∙ read_test t (P.statement ∷ P.else_or_none ∷ P.ended ∷ behind) ∙ read_statement s (P.else_or_none ∷ P.ended ∷ behind) ∙ taken P.else_or_none (P.ended ∷ behind) e refl ∙ read_statement o (P.ended ∷ behind) ∙ skipped tokens to P.ended behind refl
  read_statement {tokens} {to = to} (S.where_alone body m t s none) behind = taken P.statement behind m refl ∙ read_test t (P.statement ∷ P.else_or_none ∷ P.ended ∷ behind) ∙ read_statement s (P.else_or_none ∷ P.ended ∷ behind) ∙ skip_else tokens to behind none
  read_statement {tokens} {to = to} (S.where_else body other m t s e o) behind = taken P.statement behind m refl ∙ read_test t (P.statement ∷ P.else_or_none ∷ P.ended ∷ behind) ∙ read_statement s (P.else_or_none ∷ P.ended ∷ behind) ∙ taken P.else_or_none (P.ended ∷ behind) e refl ∙ read_statement o (P.ended ∷ behind) ∙ skipped tokens to P.ended behind refl
  read_statement {tokens} {to = to} (S.while body m t s) behind = taken P.statement behind m refl ∙ read_test t (P.statement ∷ P.ended ∷ behind) ∙ read_statement s (P.ended ∷ behind) ∙ skipped tokens to P.ended behind refl
  read_statement {tokens} {to = to} (S.do_while body m s w t c) behind = taken P.statement behind m refl ∙ read_statement s (P.mark M.While ∷ P.condition ∷ P.mark M.Semicolon ∷ P.ended ∷ behind) ∙ mark_taken w (P.condition ∷ P.mark M.Semicolon ∷ P.ended ∷ behind) ∙ read_test t (P.mark M.Semicolon ∷ P.ended ∷ behind) ∙ mark_taken c (P.ended ∷ behind) ∙ skipped tokens to P.ended behind refl
  read_statement {tokens} {to = to} (S.for body m b x y z s) behind = taken P.statement behind m refl ∙ mark_taken b (P.part M.Semicolon ∷ P.part M.Semicolon ∷ P.part M.RightParen ∷ P.statement ∷ P.ended ∷ behind)
      ∙ read_part M.Semicolon quiet_semicolon refl x (P.part M.Semicolon ∷ P.part M.RightParen ∷ P.statement ∷ P.ended ∷ behind) ∙ read_part M.Semicolon quiet_semicolon refl y (P.part M.RightParen ∷ P.statement ∷ P.ended ∷ behind) ∙ read_part M.RightParen quiet_paren refl z (P.statement ∷ P.ended ∷ behind)
      ∙ read_statement s (P.ended ∷ behind) ∙ skipped tokens to P.ended behind refl
  read_statement {tokens} {to = to} (S.break m c) behind = taken P.statement behind m refl ∙ mark_taken c (P.ended ∷ behind) ∙ skipped tokens to P.ended behind refl
  read_statement {tokens} {to = to} (S.continue m c) behind = taken P.statement behind m refl ∙ mark_taken c (P.ended ∷ behind) ∙ skipped tokens to P.ended behind refl
  read_statement {tokens} {to = to} (S.return m p) behind = taken P.statement behind m refl ∙ read_part M.Semicolon quiet_semicolon refl p (P.ended ∷ behind) ∙ skipped tokens to P.ended behind refl
  read_statement {tokens} {to = to} (S.with body m (O.bracketed open_it shape close_it) s) behind = taken P.statement behind m refl ∙ mark_taken open_it (P.shape ∷ P.mark M.RightParen ∷ P.statement ∷ P.ended ∷ behind) ∙ read_shape shape (P.mark M.RightParen ∷ P.statement ∷ P.ended ∷ behind) ∙ mark_taken close_it (P.statement ∷ P.ended ∷ behind)
      ∙ read_statement s (P.ended ∷ behind) ∙ skipped tokens to P.ended behind refl
  read_statement {tokens} {to = to} (S.everywhere body m s) behind = taken P.statement behind m refl ∙ read_statement s (P.ended ∷ behind) ∙ skipped tokens to P.ended behind refl

  read_statements : {tokens : List Token} {from to : ℕ} {list : List Stmt} → AreStmts tokens from list to → (behind : List Part) → reach tokens from (P.statements ∷ behind) ≡ reach tokens to (P.statements ∷ behind)
  read_statements S.no_stmt behind = refl
  read_statements {tokens} (S.one_more {mid = mid} list s) behind = read_statements list behind
      ∙ opens tokens mid P.statements P.statement (P.statements ∷ []) behind (ap (λ (b : Bool). if b then take_it 0 [] else before (statement_action (token_kind tokens mid)) (P.statements ∷ [])) (leads s).no_brace) (statement_real (token_kind tokens mid))
      ∙ read_statement s (P.statements ∷ behind)

  pub read_block : {tokens : List Token} {from to : ℕ} {block : Block} (p : Part) (more : List Part) → act p (Some (K.Mark M.LeftBrace)) ≡ take_it 0 (P.declarations ∷ P.statements ∷ more) → IsBlock tokens from block to → (behind : List Part) → reach tokens from (p ∷ behind) ≡ reach tokens to (more ++ behind)
  read_block {tokens} p more is (S.block {b = b} block open_it ds ss close_it) behind = taken p behind open_it is ∙ read_declarations ds (P.statements ∷ more ++ behind)
      ∙ skipped tokens b P.declarations (P.statements ∷ more ++ behind) (ap (λ (t : Bool). if t then enter P.type (P.name ∷ P.length_or_none ∷ P.initial_or_none ∷ P.more_names ∷ P.declarations ∷ []) else skip) (no_type_first ss (ap (λ (k : Option Kind). is_taken (type_action k)) close_it.kind_is)))
      ∙ read_statements ss (more ++ behind) ∙ taken P.statements (more ++ behind) close_it refl
