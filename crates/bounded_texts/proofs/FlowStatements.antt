-- Texts go on behind statements and blocks within the bounds.
use Rattle.std.proofs.Common.{◌≡◌, ℕ, ◌+◌, ◌≤◌, Bool, false, List, [], ◌∷◌, ◌++◌, map, Option, Some, arith, refl, ◌∙◌, true, sym, ap, if◌then◌else◌}
use Rattle.cstar_tree.specs.declared.token.Token.{Token}
use Rattle.cstar_tree.specs.declared.token.Kind.{Kind}
use Rattle.cstar_tree.specs.declared.token.Kind.TheVariants as K
use Rattle.cstar_tree.specs.declared.token.Mark.{Mark}
use Rattle.cstar_tree.specs.declared.token.Mark.TheVariants as M
use Rattle.cstar_tree.specs.declared.syntax.Expr.{Expr}
use Rattle.cstar_tree.specs.declared.syntax.Block.{Block}
use Rattle.cstar_tree.specs.declared.syntax.Stmt.{Stmt}
use Rattle.cstar_tree.specs.Bounds.{among, in_block, in_statement, levels_in, operators_in}
use Rattle.cstar_tree.specs.Positions.{token_kind}
use Rattle.cstar_tree.specs.Options as O
use Rattle.cstar_tree.specs.Room.{greatest}
use Rattle.cstar_tree.specs.Statements.{AreStmts, IsBlock, IsPart, IsStmt, IsTest, NoElse}
use Rattle.cstar_tree.specs.Statements as S
use Rattle.cstar_tree.specs.TypedParts.{optional}
use Rattle.grammar_parts.specs.Parts.{Part, take_it, enter, skip, before, is_taken, levels}
use Rattle.grammar_parts.specs.Parts as P
use Rattle.grammar_parts.specs.Actions.{act, type_action, unary_marks}
use Rattle.grammar_parts.proofs.Judging.{levels-append}
use Rattle.grammar_parts.proofs.ReadExpressions.{starts_expression}
use Rattle.grammar_parts.proofs.ReadStatements.{statement_real}
use Rattle.grammar_parts.proofs.Words.{IsQuiet, apart, is_expression, quiet_at, quiet_paren, quiet_semicolon, takes_mark, false-true}
use Rattle.bounded_texts.proofs.Flowing.{Flow, begins, less, opens, plain, skipped}
use Rattle.bounded_texts.proofs.FlowDeclarations.{declarations_flow, whole_flows}
use Rattle.bounded_texts.proofs.FlowExpressions.{expression_flows}
use Rattle.bounded_texts.proofs.FlowTypes.{shape_flows}
use Rattle.bounded_texts.proofs.Sizes.{among_both, for_is, greatest_one, if_alone_is, if_else_is, where_alone_is, where_else_is}
use Rattle.cstar_parser.proofs.Fitting.{greatest_more}
use Rattle.cstar_parser.specs.Outside.{Passes, begins_statement}
use Rattle.cstar_parser.proofs.Outside.{begin_outside, no_statement, opened_outside, some_statement, expression_start, no_declaration, not_else, takes_part}
use Rattle.cstar_parser.proofs.StatementFitting as sizes

part_flows : {tokens : List Token} {from to : ℕ} {e : Option Expr} {behind : List Part} (m : Mark) → IsQuiet m → is_taken (unary_marks m) ≡ false → IsPart tokens from e m to → levels behind + among levels_in (optional e) ≤ 100 → among operators_in (optional e) ≤ 1000 → Flow tokens to behind 1000 → Flow tokens from (P.part m ∷ behind) 1000
part_flows m quiet other (S.no_part s) low few f = plain (P.part m) s (takes_part m) (omega arith) f
part_flows {tokens} {from} {behind = behind} m quiet other (S.part {e = e} x s) low few f =
    begins (P.part m) P.expression (P.mark m ∷ []) (ap (λ (b : Bool). if b then take_it 0 [] else enter P.expression (P.mark m ∷ [])) (apart (token_kind tokens from) m other (starts_expression x))) (expression_start (token_kind tokens from)) (omega arith)
    (expression_flows x (quiet_at s quiet) (P.mark m ∷ behind) 0 (omega (arith, greatest_one levels_in e)) (less (plain (P.mark m) s (takes_mark m) (omega arith) f) (omega (arith, greatest_one operators_in e))))

test_flows : {tokens : List Token} {from to : ℕ} {e : Expr} {behind : List Part} → IsTest tokens from e to → levels behind + among levels_in (e ∷ []) ≤ 100 → among operators_in (e ∷ []) ≤ 1000 → Flow tokens to behind 1000 → Flow tokens from (P.condition ∷ behind) 1000
test_flows {e = e} (S.test open_it x close_it) low few f = plain P.condition open_it refl (omega arith) (whole_flows x (quiet_at close_it quiet_paren) (omega (arith, greatest_one levels_in e)) (omega (arith, greatest_one operators_in e)) (plain (P.mark M.RightParen) close_it refl (omega arith) f))

skip_else : {tokens : List Token} {at : ℕ} {behind : List Part} → NoElse tokens at → Flow tokens at behind 1000 → Flow tokens at (P.else_or_none ∷ P.ended ∷ behind) 1000
skip_else {tokens} {at} none f = skipped P.else_or_none (not_else (token_kind tokens at) none) (skipped P.ended refl f)

-- a text is not read where a statement is wanted and none begins
none_begins : {tokens : List Token} {at n : ℕ} (parts more behind : List Part) → Passes tokens (levels behind) at parts at (P.statement ∷ more) → begins_statement (token_kind tokens at) ≡ false → Flow tokens at (parts ++ behind) n → ⊥
none_begins parts more behind passes none f =
    let unread = (no_statement more none passes).to behind refl in
    let is_read = f.on [] (parts ++ behind) 0 refl (omega arith) in
    absurd (cc)

-- a word of a type begins no statement
type_begins_none : (kind : Option Kind) → is_taken (type_action kind) ≡ true → begins_statement kind ≡ false
type_begins_none (Some (K.Mark M.Bool)) typed = refl
type_begins_none (Some (K.Mark M.Char)) typed = refl
type_begins_none (Some (K.Mark M.Short)) typed = refl
type_begins_none (Some (K.Mark M.Int)) typed = refl
type_begins_none (Some (K.Mark M.Long)) typed = refl
type_begins_none (Some (K.Mark M.Signed)) typed = refl
type_begins_none (Some (K.Mark M.Unsigned)) typed = refl
type_begins_none other typed = absurd (false-true typed)

-- so no declaration stands where statements do
untyped : {tokens : List Token} {at n : ℕ} {behind : List Part} → Flow tokens at (P.statements ∷ behind) n → is_taken (type_action (token_kind tokens at)) ≡ false
untyped {tokens} {at} {behind = behind} f = by (is_taken (type_action (token_kind tokens at))) refl where
  by : (typed : Bool) → is_taken (type_action (token_kind tokens at)) ≡ typed → typed ≡ false
  by true e = absurd (none_begins (P.statements ∷ []) (P.statements ∷ []) behind (opened_outside P.statements P.statement (P.statements ∷ []) [] (some_statement (token_kind tokens at) (λ brace. false-true (ap (λ (k : Option Kind). is_taken (type_action k)) (sym brace) ∙ e))) (statement_real (token_kind tokens at)) begin_outside) (type_begins_none (token_kind tokens at) e) f)
  by false e = refl

mutual
  statement_flows : {tokens : List Token} {from to : ℕ} {s : Stmt} → IsStmt tokens from s to → (behind : List Part) → levels behind + in_statement levels_in 1 s ≤ 100 → in_statement operators_in 0 s ≤ 1000 → Flow tokens to behind 1000 → Flow tokens from (P.statement ∷ behind) 1000
  statement_flows (S.block_is {block = block} b) behind low few f =
      let deep = sizes.block_is block refl levels_in 1 in let many = sizes.block_is block refl operators_in 0 in
      block_flows P.statement (P.ended ∷ []) refl b behind (omega arith) (omega arith) (skipped P.ended refl f)
  statement_flows {tokens} {from} (S.expression {p = p} {e = e} place (S.part x s)) behind low few f =
      let deep = sizes.expression_is {p = p} {e = e} refl levels_in 1 in let many = sizes.expression_is {p = p} {e = e} refl operators_in 0 in
      begins P.statement P.expression (P.mark M.Semicolon ∷ P.ended ∷ []) (is_expression (token_kind tokens from) (starts_expression x)) (expression_start (token_kind tokens from)) (omega arith)
      (expression_flows x (quiet_at s quiet_semicolon) (P.mark M.Semicolon ∷ P.ended ∷ behind) 0 (omega (arith, greatest_one levels_in e)) (less (plain (P.mark M.Semicolon) s refl (omega arith) (skipped P.ended refl f)) (omega (arith, greatest_one operators_in e))))
  statement_flows (S.empty {p = p} s) behind low few f =
      let deep = sizes.empty_is {p = p} refl levels_in 1 in
      plain P.statement s refl (omega arith) (skipped P.ended refl f)
  statement_flows (S.if_alone {p = p} {e = e} body m t s none) behind low few f =
      let deep = if_alone_is p e body levels_in 1 in let many = if_alone_is p e body operators_in 0 in
      plain P.statement m refl (omega arith) (test_flows t (omega arith) (omega arith) (statement_flows s (P.else_or_none ∷ P.ended ∷ behind) (omega arith) (omega arith) (skip_else none f)))
  statement_flows (S.if_else {p = p} {e = e} body other m t s word o) behind low few f =
      let deep = if_else_is p e body other levels_in 1 in let many = if_else_is p e body other operators_in 0 in
      plain P.statement m refl (omega arith) (test_flows t (omega arith) (omega arith) (statement_flows s (P.else_or_none ∷ P.ended ∷ behind) (omega arith) (omega arith)
      (plain P.else_or_none word refl (omega arith) (statement_flows o (P.ended ∷ behind) (omega arith) (omega arith) (skipped P.ended refl f)))))
  statement_flows (S.where_alone {p = p} {e = e} body m t s none) behind low few f =
      let deep = where_alone_is p e body levels_in 1 in let many = where_alone_is p e body operators_in 0 in
      plain P.statement m refl (omega arith) (test_flows t (omega arith) (omega arith) (statement_flows s (P.else_or_none ∷ P.ended ∷ behind) (omega arith) (omega arith) (skip_else none f)))
  statement_flows (S.where_else {p = p} {e = e} body other m t s word o) behind low few f =
      let deep = where_else_is p e body other levels_in 1 in let many = where_else_is p e body other operators_in 0 in
      plain P.statement m refl (omega arith) (test_flows t (omega arith) (omega arith) (statement_flows s (P.else_or_none ∷ P.ended ∷ behind) (omega arith) (omega arith)
      (plain P.else_or_none word refl (omega arith) (statement_flows o (P.ended ∷ behind) (omega arith) (omega arith) (skipped P.ended refl f)))))
  statement_flows (S.while {p = p} {e = e} body m t s) behind low few f =
      let deep = sizes.while_is {p = p} {e = e} {body = body} refl levels_in 1 in let many = sizes.while_is {p = p} {e = e} {body = body} refl operators_in 0 in
      plain P.statement m refl (omega arith) (test_flows t (omega arith) (omega arith) (statement_flows s (P.ended ∷ behind) (omega arith) (omega arith) (skipped P.ended refl f)))
  statement_flows (S.do_while {p = p} {e = e} body m s w t c) behind low few f =
      let deep = sizes.do_is {p = p} {body = body} {e = e} refl levels_in 1 in let many = sizes.do_is {p = p} {body = body} {e = e} refl operators_in 0 in
      plain P.statement m refl (omega arith) (statement_flows s (P.mark M.While ∷ P.condition ∷ P.mark M.Semicolon ∷ P.ended ∷ behind) (omega arith) (omega arith)
      (plain (P.mark M.While) w refl (omega arith) (test_flows t (omega arith) (omega arith) (plain (P.mark M.Semicolon) c refl (omega arith) (skipped P.ended refl f)))))
  statement_flows (S.for {p = p} {first = first} {test = test} {step = step} body m b x y z s) behind low few f =
      let deep = for_is p first test step body levels_in 1 in
      let many = for_is p first test step body operators_in 0 in
      let deep_parts = among_both levels_in (optional first ++ optional test) (optional step) in let many_parts = among_both operators_in (optional first ++ optional test) (optional step) in
      let deep_front = among_both levels_in (optional first) (optional test) in let many_front = among_both operators_in (optional first) (optional test) in
      plain P.statement m refl (omega arith) (plain (P.mark M.LeftParen) b refl (omega arith)
      (part_flows M.Semicolon quiet_semicolon refl x (omega arith) (omega arith) (part_flows M.Semicolon quiet_semicolon refl y (omega arith) (omega arith) (part_flows M.RightParen quiet_paren refl z (omega arith) (omega arith)
      (statement_flows s (P.ended ∷ behind) (omega arith) (omega arith) (skipped P.ended refl f))))))
  statement_flows (S.break {p = p} m c) behind low few f =
      let deep = sizes.break_is {p = p} refl levels_in 1 in
      plain P.statement m refl (omega arith) (plain (P.mark M.Semicolon) c refl (omega arith) (skipped P.ended refl f))
  statement_flows (S.continue {p = p} m c) behind low few f =
      let deep = sizes.continue_is {p = p} refl levels_in 1 in
      plain P.statement m refl (omega arith) (plain (P.mark M.Semicolon) c refl (omega arith) (skipped P.ended refl f))
  statement_flows (S.return {p = p} {value = value} m x) behind low few f =
      let deep = sizes.return_is {p = p} {value = value} refl levels_in 1 in let many = sizes.return_is {p = p} {value = value} refl operators_in 0 in
      plain P.statement m refl (omega arith) (part_flows M.Semicolon quiet_semicolon refl x (omega arith) (omega arith) (skipped P.ended refl f))
  statement_flows (S.with {p = p} {shape = shape} body m (O.bracketed open_it x close_it) s) behind low few f =
      let deep = sizes.with_is {p = p} {shape = shape} {body = body} refl levels_in 1 in let many = sizes.with_is {p = p} {shape = shape} {body = body} refl operators_in 0 in
      plain P.statement m refl (omega arith) (plain (P.mark M.LeftParen) open_it refl (omega arith) (shape_flows x (omega arith) (plain (P.mark M.RightParen) close_it refl (omega arith)
      (statement_flows s (P.ended ∷ behind) (omega arith) (omega arith) (skipped P.ended refl f)))))
  statement_flows (S.everywhere {p = p} body m s) behind low few f =
      let deep = sizes.everywhere_is {p = p} {body = body} refl levels_in 1 in let many = sizes.everywhere_is {p = p} {body = body} refl operators_in 0 in
      plain P.statement m refl (omega arith) (statement_flows s (P.ended ∷ behind) (omega arith) (omega arith) (skipped P.ended refl f))

  statements_flow : {tokens : List Token} {from to : ℕ} {list : List Stmt} → AreStmts tokens from list to → (behind : List Part) → levels behind + greatest (map (in_statement levels_in 1) list) ≤ 100 → greatest (map (in_statement operators_in 0) list) ≤ 1000 → Flow tokens to (P.statements ∷ behind) 1000 → Flow tokens from (P.statements ∷ behind) 1000
  statements_flow S.no_stmt behind low few f = f
  statements_flow {tokens} (S.one_more {mid = mid} {list = list} {s = statement} l s) behind low few f =
      let deep = greatest_more (in_statement levels_in 1) list statement in
      let many = greatest_more (in_statement operators_in 0) list statement in
      let here = statement_flows s (P.statements ∷ behind) (omega arith) (omega arith) f in
      statements_flow l behind (omega arith) (omega arith)
      (opens P.statements P.statement (P.statements ∷ []) (some_statement (token_kind tokens mid) (λ brace. none_begins (P.statement ∷ []) [] (P.statements ∷ behind) begin_outside (ap begins_statement brace) here)) (statement_real (token_kind tokens mid)) here)

  pub block_flows : {tokens : List Token} {from to : ℕ} {block : Block} (p : Part) (more : List Part) → act p (Some (K.Mark M.LeftBrace)) ≡ take_it 0 (P.declarations ∷ P.statements ∷ more) → IsBlock tokens from block to → (behind : List Part) → levels more + levels behind + in_block levels_in 1 block ≤ 100 → in_block operators_in 0 block ≤ 1000 → Flow tokens to (more ++ behind) 1000 → Flow tokens from (p ∷ behind) 1000
  block_flows {tokens} p more is (S.block block open_it ds ss close_it) behind low few f =
      let all = levels-append more behind in
      let inner = statements_flow ss (more ++ behind) (omega arith) (omega arith) (plain P.statements close_it refl (omega arith) f) in
      plain p open_it is (omega arith) (declarations_flow ds (omega arith) (omega arith) (skipped P.declarations (no_declaration _ (untyped inner)) inner))
