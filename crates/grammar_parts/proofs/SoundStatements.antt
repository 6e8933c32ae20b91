-- What the open parts of statements and declarations say at a token.
use Rattle.std.proofs.Common.{◌≡◌, ℕ, ◌+◌, ◌≤◌, ◌<◌, ◌^◌, Bool, true, false, List, [], ◌∷◌, ◌++◌, ◌&&◌, if◌then◌else◌, length, Option, Some, None, Box, arith, rules, lit≤, refl, sym, ap, subst, ◌∙◌}
use denote.Enum.Bare.{same_true}
use denote.RawPtr.{null_ptr}
use Rattle.std.proofs.lemmas.List.{length-append}
use Rattle.std.specs.declared.alloc.Global.{Global}
use Rattle.cstar_base.specs.declared.operators.Place.{Place}
use Rattle.cstar_tree.specs.contracts.token.Mark.{the_type}
use Rattle.cstar_tree.specs.declared.token.Token.{Token}
use Rattle.cstar_tree.specs.declared.token.Kind.{Kind}
use Rattle.cstar_tree.specs.declared.token.Kind.TheVariants as K
use Rattle.cstar_tree.specs.declared.token.Mark.{Mark}
use Rattle.cstar_tree.specs.declared.token.Mark.TheVariants as M
use Rattle.cstar_tree.specs.declared.syntax.Block.{Block}
use Rattle.cstar_tree.specs.declared.syntax.Declaration.{Declaration}
use Rattle.cstar_tree.specs.declared.syntax.Declarator.{Declarator}
use Rattle.cstar_tree.specs.declared.syntax.Expr.{Expr}
use Rattle.cstar_tree.specs.declared.syntax.Initializer.{Initializer}
use Rattle.cstar_tree.specs.declared.syntax.Stmt.{Stmt}
use Rattle.cstar_tree.specs.declared.syntax.Stmt as N
use Rattle.cstar_tree.specs.declared.syntax.TypeName.{TypeName}
use Rattle.cstar_tree.specs.Positions.{Stands, StandsMark}
use Rattle.cstar_tree.specs.Options as Q
use Rattle.cstar_tree.specs.Types.{IsType}
use Rattle.cstar_tree.specs.Declarations.{AreDeclarators, IsDeclaration, IsInitial, IsLength}
use Rattle.cstar_tree.specs.Declarations as D
use Rattle.cstar_tree.specs.Statements.{IsBlock, IsStmt, IsTest}
use Rattle.cstar_tree.specs.Statements as S
use Rattle.grammar_parts.specs.Parts.{Part, Action, take_it, enter, skip, refuse, before, is_taken}
use Rattle.grammar_parts.specs.Parts as P
use Rattle.grammar_parts.specs.Actions.{act, has, statement_action}
use Rattle.grammar_parts.proofs.Meanings.{Gives, MaybeElse, ahead, an_else, is_mild_mark, means, no_else}
use Rattle.grammar_parts.proofs.ReadStatements.{statement_real}
use Rattle.grammar_parts.proofs.SoundTypes.{followed, moved}
use Rattle.grammar_parts.proofs.SoundExpressions.{vec}
use Rattle.grammar_parts.proofs.Words.{false-true}

has_is : (kind : Kind) (m : Mark) → has (Some kind) m ≡ true → kind ≡ K.Mark m
has_is (K.Mark found) m e = ap (λ (x : Mark). K.Mark x) (same_true the_type (search rules) found m e)
has_is (K.Name w) m e = absurd (false-true e)
has_is (K.Num v u) m e = absurd (false-true e)
has_is (K.Text t) m e = absurd (false-true e)

mark_there : {tokens : List Token} {at next : ℕ} {place : Place} (kind : Kind) (m : Mark) → has (Some kind) m ≡ true → Stands tokens at kind place next → StandsMark tokens at m place next
mark_there {tokens} {at} {next} {place} kind m e s = subst {0, 0} (λ (k : Kind). Stands tokens at k place next) (has_is kind m e) s

pub sound_mark : (tokens : List Token) (at n : ℕ) (kind : Kind) (place : Place) (p : Part) (m : Mark) → means tokens p ≡ means tokens (P.mark m) → Stands tokens at kind place (at + 1) → Gives tokens at 1 p (if has (Some kind) m then take_it n [] else refuse)
sound_mark tokens at n kind place p m same s = by (has (Some kind) m) refl where
  by : (b : Bool) → has (Some kind) m ≡ b → Gives tokens at 1 p (if b then take_it n [] else refuse)
  by true e = (lit≤ tt, refl, λ to below rest. subst {1, 0} (λ (F : ℕ → ℕ → Type 0). F at to) (sym same) (place, moved rest (mark_there kind m e s)))
  by false e = tt

pub sound_part : (tokens : List Token) (at : ℕ) (kind : Kind) (place : Place) (m : Mark) → is_mild_mark m ≡ true → Stands tokens at kind place (at + 1) → Gives tokens at 2 (P.part m) (act (P.part m) (Some kind))
sound_part tokens at kind place m mild s = by (has (Some kind) m) refl where
  by : (b : Bool) → has (Some kind) m ≡ b → Gives tokens at 2 (P.part m) (if b then take_it 0 [] else enter P.expression (P.mark m ∷ []))
  by true e = (lit≤ tt, refl, λ to below rest. (None, S.no_part (moved rest (mark_there kind m e s))))
  by false e = (lit≤ tt, ap (λ (b : Bool). b && true) mild, λ to below rest. (Some rest.2.expr, S.part rest.2.spelled rest.3.1.1))

pub sound_condition : (tokens : List Token) (at : ℕ) (kind : Kind) (place : Place) → Stands tokens at kind place (at + 1) → Gives tokens at 2 P.condition (act P.condition (Some kind))
sound_condition tokens at (K.Mark M.LeftParen) place s = (lit≤ tt, refl, λ to below rest. (rest.2.expr, S.test s rest.2.spelled rest.3.1.1))
sound_condition tokens at other place s = tt

-- declarations
pub declared : {tokens : List Token} {from a b c to : ℕ} {word : List ℕ} {place : Place} {l : Option Expr} → Global → to ≤ 2 ^ 40 → (t : TypeName) → IsType tokens from t a → Stands tokens a (K.Name word) place b → IsLength tokens b l c → b ≤ c → (i : Option Initializer) (d : ℕ) → IsInitial tokens c i d → c ≤ d → means tokens P.more_names d to → (whole : Declaration) × IsDeclaration tokens from whole to
declared {a = a} {word = word} {place = place} {l = l} heap below t type name long first i d initial second more =
    let n = name.next_is in
    let all = more a (record { name = record { word = word; place = place }; length = l; initial = i } ∷ []) (D.first_name (D.declarator name long initial)) (omega arith) in
    let few : length all.0 < 2 ^ 41 = (let f = all.5 in omega arith) in
    (record { type_name = t; variables = vec Declarator heap all.0 few }, D.declaration type all.3 all.4)

pub sound_declarations : Global → (tokens : List Token) (at : ℕ) (b : Bool) → Gives tokens at 6 P.declarations (if b then enter P.type (P.name ∷ P.length_or_none ∷ P.initial_or_none ∷ P.more_names ∷ P.declarations ∷ []) else skip)
sound_declarations heap tokens at true = (
  lit≤ tt,
  refl,
  λ to below r0. λ begin list are few.
      let r1 = r0.3 in let r2 = r1.3 in let r3 = r2.3 in let r4 = r3.3 in let n = r1.2.2.next_is in
      let one = r0.1 in let two = r2.1 in let three = r3.1 in let four = r4.1 in let five = r4.3.0 in
      let whole = declared heap (omega arith) r0.2.0 r0.2.1 r1.2.2 r2.2.1 two r3.2.0 r3.0 r3.2.1 three r4.2 in
      r4.3.1 begin (list ++ whole.0 ∷ []) (D.one_more are whole.1) (omega (arith, length-append list (whole.0 ∷ []))),
)
sound_declarations heap tokens at false = λ begin list are few. (list, are, few)

pub sound_length : (tokens : List Token) (at : ℕ) (kind : Kind) (place : Place) → Stands tokens at kind place (at + 1) → Gives tokens at 2 P.length_or_none (act P.length_or_none (Some kind))
sound_length tokens at (K.Mark M.LeftBracket) place s = (lit≤ tt, refl, λ to below rest. (Some rest.2.expr, D.length_is s rest.2.spelled rest.3.1.1))
sound_length tokens at other place s = (None, D.no_length)

pub sound_initial : (tokens : List Token) (at : ℕ) (kind : Kind) (place : Place) → Stands tokens at kind place (at + 1) → Gives tokens at 1 P.initial_or_none (act P.initial_or_none (Some kind))
sound_initial tokens at (K.Mark M.Equal) place s = (lit≤ tt, refl, λ to below rest. (Some (record { place = place; value = rest.1.expr }), D.initial_is s rest.1.spelled))
sound_initial tokens at other place s = (None, D.no_initial)

pub sound_more_names : (tokens : List Token) (at : ℕ) (kind : Kind) (place : Place) → Stands tokens at kind place (at + 1) → Gives tokens at 4 P.more_names (act P.more_names (Some kind))
sound_more_names tokens at (K.Mark M.Comma) place s = (
  lit≤ tt,
  refl,
  λ to below r0. λ begin list are few.
      let r1 = r0.3 in let r2 = r1.3 in let n = r0.2.2.next_is in let one = r0.1 in let two = r1.1 in let three = r2.1 in
      let d : Declarator = record { name = record { word = r0.2.0; place = r0.2.1 }; length = r1.2.0; initial = r2.2.0 } in
      r2.3.1 begin (list ++ d ∷ []) (D.next_name are s (D.declarator r0.2.2 r1.2.1 r2.2.1)) (omega (arith, length-append list (d ∷ []))),
)
sound_more_names tokens at (K.Mark M.Semicolon) place s = (lit≤ tt, refl, λ to below rest. λ begin list are few. (list, at, place, are, moved rest s, omega (arith, rest)))
sound_more_names tokens at other place s = tt

-- statements
abbrev boxed : Global → Stmt → Box Stmt Global
boxed heap s = record { ptr = null_ptr; alloc = heap; value = s }

finished : {tokens : List Token} {at mid to : ℕ} (s : Stmt) → IsStmt tokens at s mid → mid ≡ to → at + 1 ≤ to → means tokens P.statement at to
finished {tokens} {at} s is e below = (s, subst {0, 0} (λ (i : ℕ). IsStmt tokens at s i) e is, omega arith)

an_if : {tokens : List Token} {at a mid to : ℕ} {place : Place} {e : Expr} → Global → StandsMark tokens at M.If place (at + 1) → IsTest tokens (at + 1) e a → (then_is : Stmt) → IsStmt tokens a then_is mid → MaybeElse tokens mid to → (s : Stmt) × IsStmt tokens at s to
an_if {place = place} {e = e} heap s t first is (no_else none) = (N.If place e (boxed heap first) None, S.if_alone (boxed heap first) s t is none)
an_if {place = place} {e = e} heap s t first is (an_else {s = other} q otherwise) = (N.If place e (boxed heap first) (Some (boxed heap other)), S.if_else (boxed heap first) (boxed heap other) s t is q otherwise)

a_where : {tokens : List Token} {at a mid to : ℕ} {place : Place} {e : Expr} → Global → StandsMark tokens at M.Where place (at + 1) → IsTest tokens (at + 1) e a → (then_is : Stmt) → IsStmt tokens a then_is mid → MaybeElse tokens mid to → (s : Stmt) × IsStmt tokens at s to
a_where {place = place} {e = e} heap s t first is (no_else none) = (N.Where place e (boxed heap first) None, S.where_alone (boxed heap first) s t is none)
a_where {place = place} {e = e} heap s t first is (an_else {s = other} q otherwise) = (N.Where place e (boxed heap first) (Some (boxed heap other)), S.where_else (boxed heap first) (boxed heap other) s t is q otherwise)

a_block : {tokens : List Token} {at mid to : ℕ} {place : Place} → Global → to ≤ 2 ^ 40 → StandsMark tokens at M.LeftBrace place (at + 1) → means tokens P.declarations (at + 1) mid → mid ≤ to → means tokens P.statements mid to → (b : Block) × IsBlock tokens at b to
a_block {at = at} {mid} {to} {place} heap below s ds forward ss =
    let d = ds (at + 1) [] D.no_declaration (omega arith) in let t = ss mid [] S.no_stmt (omega arith) in
    let few : length d.0 < 2 ^ 41 = (let f = d.2 in omega arith) in let few_more : length t.0 < 2 ^ 41 = (let f = t.5 in omega arith) in
    (record { place = place; declarations = vec Declaration heap d.0 few; statements = vec Stmt heap t.0 few_more }, S.block (record { place = place; declarations = vec Declaration heap d.0 few; statements = vec Stmt heap t.0 few_more }) s d.1 t.3 t.4)

pub sound_statement : Global → (tokens : List Token) (at : ℕ) (kind : Kind) (place : Place) → Stands tokens at kind place (at + 1) → Gives tokens at 6 P.statement (statement_action (Some kind))
sound_statement heap tokens at (K.Mark M.LeftBrace) place s = (
  lit≤ tt,
  refl,
  λ to below rest. let two = rest.3.1 in let three = rest.3.3.0 in let b = a_block heap (omega arith) s rest.2 two rest.3.2 in
      finished (N.Block b.0) (S.block_is b.1) rest.3.3.1 (ahead tokens (P.declarations ∷ P.statements ∷ P.ended ∷ []) (at + 1) to rest),
)
sound_statement heap tokens at (K.Mark M.Semicolon) place s = (lit≤ tt, refl, λ to below rest. finished (N.Empty place) (S.empty s) rest.1 rest.0)
sound_statement heap tokens at (K.Mark M.If) place s = (
  lit≤ tt,
  refl,
  λ to below rest. let r = rest.3.3 in let i = an_if heap s rest.2.1 rest.3.2.0 rest.3.2.1 r.2 in
      finished i.0 i.1 r.3.1 (ahead tokens (P.condition ∷ P.statement ∷ P.else_or_none ∷ P.ended ∷ []) (at + 1) to rest),
)
sound_statement heap tokens at (K.Mark M.Where) place s = (
  lit≤ tt,
  refl,
  λ to below rest. let r = rest.3.3 in let i = a_where heap s rest.2.1 rest.3.2.0 rest.3.2.1 r.2 in
      finished i.0 i.1 r.3.1 (ahead tokens (P.condition ∷ P.statement ∷ P.else_or_none ∷ P.ended ∷ []) (at + 1) to rest),
)
sound_statement heap tokens at (K.Mark M.While) place s = (lit≤ tt, refl, λ to below rest. finished (N.While place rest.2.0 (boxed heap rest.3.2.0)) (S.while (boxed heap rest.3.2.0) s rest.2.1 rest.3.2.1) rest.3.3.1 (ahead tokens (P.condition ∷ P.statement ∷ P.ended ∷ []) (at + 1) to rest))
sound_statement heap tokens at (K.Mark M.Do) place s = (lit≤ tt, refl, λ to below rest. let r = rest.3.3 in finished (N.Do place (boxed heap rest.2.0) r.2.0) (S.do_while (boxed heap rest.2.0) s rest.2.1 rest.3.2.1 r.2.1 r.3.2.1) r.3.3.1 (ahead tokens (P.statement ∷ P.mark M.While ∷ P.condition ∷ P.mark M.Semicolon ∷ P.ended ∷ []) (at + 1) to rest))
sound_statement heap tokens at (K.Mark M.For) place s = (
  lit≤ tt,
  refl,
  λ to below rest. let r1 = rest.3 in let r2 = r1.3 in let r3 = r2.3 in let r4 = r3.3 in
      finished (N.For place r1.2.0 r2.2.0 r3.2.0 (boxed heap r4.2.0)) (S.for (boxed heap r4.2.0) s rest.2.1 r1.2.1 r2.2.1 r3.2.1 r4.2.1) r4.3.1 (ahead tokens (P.mark M.LeftParen ∷ P.part M.Semicolon ∷ P.part M.Semicolon ∷ P.part M.RightParen ∷ P.statement ∷ P.ended ∷ []) (at + 1) to rest),
)
sound_statement heap tokens at (K.Mark M.Break) place s = (lit≤ tt, refl, λ to below rest. finished (N.Break place) (S.break s rest.2.1) rest.3.1 (ahead tokens (P.mark M.Semicolon ∷ P.ended ∷ []) (at + 1) to rest))
sound_statement heap tokens at (K.Mark M.Continue) place s = (lit≤ tt, refl, λ to below rest. finished (N.Continue place) (S.continue s rest.2.1) rest.3.1 (ahead tokens (P.mark M.Semicolon ∷ P.ended ∷ []) (at + 1) to rest))
sound_statement heap tokens at (K.Mark M.Return) place s = (lit≤ tt, refl, λ to below rest. finished (N.Return place rest.2.0) (S.return s rest.2.1) rest.3.1 (ahead tokens (P.part M.Semicolon ∷ P.ended ∷ []) (at + 1) to rest))
sound_statement heap tokens at (K.Mark M.With) place s = (
  lit≤ tt,
  refl,
  λ to below rest. let r1 = rest.3 in let r2 = r1.3 in let r3 = r2.3 in
      finished (N.With place r1.2.0 (boxed heap r3.2.0)) (S.with (boxed heap r3.2.0) s (Q.bracketed rest.2.1 r1.2.1 r2.2.1) r3.2.1) r3.3.1 (ahead tokens (P.mark M.LeftParen ∷ P.shape ∷ P.mark M.RightParen ∷ P.statement ∷ P.ended ∷ []) (at + 1) to rest),
)
sound_statement heap tokens at (K.Mark M.Everywhere) place s = (lit≤ tt, refl, λ to below rest. finished (N.Everywhere place (boxed heap rest.2.0)) (S.everywhere (boxed heap rest.2.0) s rest.2.1) rest.3.1 (ahead tokens (P.statement ∷ P.ended ∷ []) (at + 1) to rest))
sound_statement heap tokens at other place s = (lit≤ tt, refl, λ to below rest. let n = rest.3.2.1.next_is in let one = rest.1 in let last = rest.3.3.0 in finished (N.Expression place rest.2.expr) (S.expression s.place_is (S.part rest.2.spelled rest.3.2.1)) rest.3.3.1 (omega arith))

pub sound_else : (tokens : List Token) (at : ℕ) (kind : Kind) (place : Place) → Stands tokens at kind place (at + 1) → Gives tokens at 1 P.else_or_none (act P.else_or_none (Some kind))
sound_else tokens at (K.Mark M.Else) place s = (lit≤ tt, refl, λ to below rest. an_else s rest.1.1)
sound_else tokens at other place s = no_else (λ h. false-true (ap (λ (k : Option Kind). has k M.Else) (sym s.kind_is ∙ h)))

pub sound_block : Global → (tokens : List Token) (at : ℕ) (kind : Kind) (place : Place) → Stands tokens at kind place (at + 1) → Gives tokens at 2 P.block (act P.block (Some kind))
sound_block heap tokens at (K.Mark M.LeftBrace) place s = (lit≤ tt, refl, λ to below rest. a_block heap below s rest.2 rest.3.0 rest.3.1)
sound_block heap tokens at other place s = tt

pub sound_statements : Global → (tokens : List Token) (at : ℕ) (kind : Kind) (place : Place) → Stands tokens at kind place (at + 1) → Gives tokens at 7 P.statements (act P.statements (Some kind))
sound_statements heap tokens at (K.Mark M.RightBrace) place s = (lit≤ tt, refl, λ to below rest. λ begin list are few. (list, at, place, are, moved rest s, omega (arith, rest)))
sound_statements heap tokens at other place s = followed tokens at 6 P.statement P.statements (P.statements ∷ []) (statement_action (Some other)) (statement_real (Some other)) refl (sound_statement heap tokens at other place s)
    (λ mid to below here st rest. λ begin list are few. let more = st.2 in rest.1 begin (list ++ st.0 ∷ []) (S.one_more are st.1) (omega (arith, length-append list (st.0 ∷ []))))
