-- What the open parts of assignments, brackets, calls and intrinsics say at a token.
use Rattle.std.proofs.Common.{◌≡◌, ℕ, ◌+◌, ◌≤◌, ◌<◌, ◌^◌, true, List, [], ◌∷◌, ◌++◌, length, Option, Some, arith, lit≤, refl, sym, subst}
use Rattle.std.proofs.lemmas.List.{length-append}
use Rattle.std.specs.declared.alloc.Global.{Global}
use Rattle.cstar_base.specs.declared.operators.Place.{Place}
use Rattle.cstar_tree.specs.declared.token.Token.{Token}
use Rattle.cstar_tree.specs.declared.token.Kind.{Kind}
use Rattle.cstar_tree.specs.declared.token.Kind.TheVariants as K
use Rattle.cstar_tree.specs.declared.token.Mark.{Mark}
use Rattle.cstar_tree.specs.declared.token.Mark.TheVariants as M
use Rattle.cstar_tree.specs.declared.syntax.AssignOp.TheVariants as A
use Rattle.cstar_tree.specs.declared.syntax.Cast.{Cast}
use Rattle.cstar_tree.specs.declared.syntax.Expr.{Expr}
use Rattle.cstar_tree.specs.declared.syntax.Expr as E
use Rattle.cstar_tree.specs.declared.syntax.TypeName.{TypeName}
use Rattle.cstar_tree.specs.Positions.{Stands, StandsMark, token_kind}
use Rattle.cstar_tree.specs.Types.{IsType}
use Rattle.cstar_tree.specs.Types as T
use Rattle.cstar_tree.specs.Options.{IsListed, IsSomeListed, combiner_mark}
use Rattle.cstar_tree.specs.Options as Q
use Rattle.cstar_tree.specs.Expressions.{AreCasts, AreIndexes, GoesOn, IsExpr, IsRest, is_chain, strength_of}
use Rattle.cstar_tree.specs.Expressions as X
use Rattle.grammar_parts.specs.Parts.{Part, Action, take_it, enter, skip, refuse, before, or_else, unless_refused}
use Rattle.grammar_parts.specs.Parts as P
use Rattle.grammar_parts.specs.Actions.{IsReal, act, choice_action, expression_action, operands, operators_action, type_action, unary_action}
use Rattle.grammar_parts.proofs.Meanings.{AllMean, Bracketed, Gives, Spelt, Unary, are_mild, chain_length, means}
use Rattle.grammar_parts.proofs.SoundTypes.{either_of, followed, moved, sound_type, weaker}
use Rattle.grammar_parts.proofs.SoundExpressions.{an_operand, assigned, before_real, boxed, level_most, sound_choice_or_none, sound_operators, sound_unary, type_real, unary_real, vec}
use Rattle.grammar_parts.proofs.Words.{false-true}

-- what can stand behind a unary expression
from_choice : (tokens : List Token) (at most : ℕ) (a : Action) → Gives tokens at most P.choice_or_none a → Gives tokens at most P.behind_unary a
from_choice tokens at most (take_it n parts) g = (g.0, g.1, λ to below rest. λ begin e x strong. weak (g.2 to below rest begin e x (omega arith))) where
  weak : {from to : ℕ} → Spelt tokens from 1 to → Spelt tokens from 0 to
  weak s = record { expr = s.expr; spelled = s.spelled; strong = omega arith }
from_choice tokens at most (enter q parts) g = (g.0, g.1, λ to below rest. λ begin e x strong. weak (g.2 to below rest begin e x (omega arith))) where
  weak : {from to : ℕ} → Spelt tokens from 1 to → Spelt tokens from 0 to
  weak s = record { expr = s.expr; spelled = s.spelled; strong = omega arith }
from_choice tokens at most skip g = λ begin e x strong. record { expr = e; spelled = x; strong = omega arith }
from_choice tokens at most refuse g = tt

first_of_two : (tokens : List Token) (at most : ℕ) (p : Part) (a b : Action) → (IsReal a → Gives tokens at most p a) → Gives tokens at most p b → Gives tokens at most p (or_else a b)
first_of_two tokens at most p (take_it n parts) b g h = g tt
first_of_two tokens at most p (enter q parts) b g h = g tt
first_of_two tokens at most p refuse b g h = tt
first_of_two tokens at most p skip b g h = h

real_inside : (a : Action) (more : List Part) → IsReal (before a more) → IsReal a
real_inside (take_it n parts) more r = tt
real_inside (enter p parts) more r = tt
real_inside refuse more r = tt
real_inside skip more r = r

no_asop : Global → (tokens : List Token) (at : ℕ) (kind : Kind) (place : Place) → Stands tokens at kind place (at + 1) → Gives tokens at 3 P.behind_unary (or_else (before (operators_action 2 (Some kind)) (P.choice_or_none ∷ [])) (choice_action (Some kind)))
no_asop heap tokens at kind place s = first_of_two tokens at 3 P.behind_unary (before (operators_action 2 (Some kind)) (P.choice_or_none ∷ [])) (choice_action (Some kind))
    (λ real. followed tokens at 2 (P.operators 2) P.behind_unary (P.choice_or_none ∷ []) (operators_action 2 (Some kind)) (real_inside (operators_action 2 (Some kind)) (P.choice_or_none ∷ []) real) refl (sound_operators heap tokens at kind place 2 s)
    (λ mid to below here o rest. λ begin e x strong. let f = o (lit≤ tt) begin e x (omega arith) (let most = level_most (token_kind tokens at) in omega arith) in let g = rest.1 begin f.0.expr f.0.spelled f.0.strong in record { expr = g.expr; spelled = g.spelled; strong = omega arith }))
    (from_choice tokens at 3 (choice_action (Some kind)) (sound_choice_or_none heap tokens at kind place s))

pub sound_behind_unary : Global → (tokens : List Token) (at : ℕ) (kind : Kind) (place : Place) → Stands tokens at kind place (at + 1) → Gives tokens at 3 P.behind_unary (act P.behind_unary (Some kind))
sound_behind_unary heap tokens at (K.Mark M.Equal) place s = (lit≤ tt, refl, λ to below rest. assigned heap A.Set s rest)
sound_behind_unary heap tokens at (K.Mark M.PlusEqual) place s = (lit≤ tt, refl, λ to below rest. assigned heap A.Add s rest)
sound_behind_unary heap tokens at (K.Mark M.MinusEqual) place s = (lit≤ tt, refl, λ to below rest. assigned heap A.Sub s rest)
sound_behind_unary heap tokens at (K.Mark M.StarEqual) place s = (lit≤ tt, refl, λ to below rest. assigned heap A.Mul s rest)
sound_behind_unary heap tokens at (K.Mark M.SlashEqual) place s = (lit≤ tt, refl, λ to below rest. assigned heap A.Div s rest)
sound_behind_unary heap tokens at (K.Mark M.PercentEqual) place s = (lit≤ tt, refl, λ to below rest. assigned heap A.Rem s rest)
sound_behind_unary heap tokens at (K.Mark M.PercentPercentEqual) place s = (lit≤ tt, refl, λ to below rest. assigned heap A.Mod s rest)
sound_behind_unary heap tokens at (K.Mark M.AmpersandEqual) place s = (lit≤ tt, refl, λ to below rest. assigned heap A.And s rest)
sound_behind_unary heap tokens at (K.Mark M.PipeEqual) place s = (lit≤ tt, refl, λ to below rest. assigned heap A.Or s rest)
sound_behind_unary heap tokens at (K.Mark M.CaretEqual) place s = (lit≤ tt, refl, λ to below rest. assigned heap A.Xor s rest)
sound_behind_unary heap tokens at (K.Mark M.ShiftLeftEqual) place s = (lit≤ tt, refl, λ to below rest. assigned heap A.Shl s rest)
sound_behind_unary heap tokens at (K.Mark M.ShiftRightEqual) place s = (lit≤ tt, refl, λ to below rest. assigned heap A.Shr s rest)
sound_behind_unary heap tokens at (K.Mark M.LessQuestionEqual) place s = (lit≤ tt, refl, λ to below rest. assigned heap A.Min s rest)
sound_behind_unary heap tokens at (K.Mark M.GreaterQuestionEqual) place s = (lit≤ tt, refl, λ to below rest. assigned heap A.Max s rest)
sound_behind_unary heap tokens at other place s = no_asop heap tokens at other place s

pub sound_expression : Global → (tokens : List Token) (at : ℕ) (kind : Kind) (place : Place) → Stands tokens at kind place (at + 1) → Gives tokens at 5 P.expression (expression_action (Some kind))
sound_expression heap tokens at kind place s = followed tokens at 4 P.unary P.expression (P.behind_unary ∷ []) (unary_action (Some kind)) (unary_real (Some kind)) refl (sound_unary heap tokens at kind place s)
    (λ mid to below here u rest. rest.1 at u.found.expr u.found.spelled u.found.strong)

pub sound_choice : Global → (tokens : List Token) (at : ℕ) (kind : Kind) (place : Place) → Stands tokens at kind place (at + 1) → Gives tokens at 6 P.choice (act P.choice (Some kind))
sound_choice heap tokens at kind place s = followed tokens at 4 P.unary P.choice (P.operators 2 ∷ P.choice_or_none ∷ []) (unary_action (Some kind)) (unary_real (Some kind)) refl (sound_unary heap tokens at kind place s)
    (λ mid to below here u rest. let strong = u.found.strong in let f = rest.2 (lit≤ tt) at u.found.expr u.found.spelled (omega arith) (let most = level_most (token_kind tokens mid) in omega arith) in rest.3.1 at f.0.expr f.0.spelled f.0.strong)

pub sound_binary : Global → (tokens : List Token) (at : ℕ) (kind : Kind) (place : Place) (least : ℕ) → Stands tokens at kind place (at + 1) → Gives tokens at 5 (P.binary least) (act (P.binary least) (Some kind))
sound_binary heap tokens at kind place least s = followed tokens at 4 P.unary (P.binary least) (P.operators least ∷ []) (unary_action (Some kind)) (unary_real (Some kind)) refl (sound_unary heap tokens at kind place s)
    (λ mid to below here u rest. λ two most. let strong = u.found.strong in rest.1 two at u.found.expr u.found.spelled (omega arith) (let most = level_most (token_kind tokens mid) in omega arith))

-- casts
first_cast : {tokens : List Token} {from a b c to : ℕ} {casts : List Cast} {end : Place} (cast : Cast) → StandsMark tokens from M.LeftParen cast.place a → T.IsElement tokens a cast.elem b → StandsMark tokens b M.RightParen end c → AreCasts tokens c casts to → AreCasts tokens from (cast ∷ casts) to
first_cast cast open_it words close_it X.no_cast = X.one_more cast X.no_cast open_it words close_it
first_cast cast open_it words close_it (X.one_more other others o w c) = X.one_more other (first_cast cast open_it words close_it others) o w c

scalar_cast : {tokens : List Token} {from a b c to : ℕ} {end : Place} → Global → to ≤ 2 ^ 40 → (cast : Cast) → StandsMark tokens from M.LeftParen cast.place a → T.IsElement tokens a cast.elem b → a ≤ b → StandsMark tokens b M.RightParen end c → (e : Expr) → IsExpr tokens c e to → 13 ≤ strength_of e → chain_length e + c ≤ to → Unary tokens from to
scalar_cast {from = from} {a} {b} {c} {to} heap below cast open_it words forward close_it e (X.casts chain operand some casts o strong single) high short =
    let opened = open_it.next_is in let closed = close_it.next_is in
    let count : length chain.items + c ≤ to = short in
    let few : length (cast ∷ chain.items) < 2 ^ 41 = omega arith in record {
      found = record { expr = E.Casts (vec Cast heap (cast ∷ chain.items) few) operand; spelled = X.casts (vec Cast heap (cast ∷ chain.items) few) operand (omega arith) (first_cast cast open_it words close_it casts) o strong single; strong = lit≤ tt };
      short = omega arith;
    }
scalar_cast {from = from} {a} {b} {c} {to} heap below cast open_it words forward close_it e x high short =
    let opened = open_it.next_is in let closed = close_it.next_is in record {
      found = record { expr = E.Casts (vec Cast heap (cast ∷ []) (lit≤ tt)) (boxed heap e); spelled = X.casts (vec Cast heap (cast ∷ []) (lit≤ tt)) (boxed heap e) (lit≤ tt) (first_cast cast open_it words close_it X.no_cast) x high refl; strong = lit≤ tt };
      short = omega arith;
    }

cast_of : {tokens : List Token} {from a b c to : ℕ} {begin end : Place} → Global → to ≤ 2 ^ 40 → StandsMark tokens from M.LeftParen begin a → (t : TypeName) → IsType tokens a t b → a ≤ b → StandsMark tokens b M.RightParen end c → c ≤ to → Unary tokens c to → Unary tokens from to
cast_of {begin = begin} heap below open_it t (T.scalar {elem = elem} there words) forward close_it more u = scalar_cast heap below (record { place = begin; elem = elem }) open_it words forward close_it u.found.expr u.found.spelled u.found.strong u.short
cast_of {begin = begin} heap below open_it t (T.parallel there words colon shape) forward close_it more u = let opened = open_it.next_is in let closed = close_it.next_is in record {
  found = record { expr = E.ParallelCast begin t (boxed heap u.found.expr); spelled = X.parallel_cast (boxed heap u.found.expr) open_it (T.parallel there words colon shape) refl close_it u.found.spelled u.found.strong; strong = lit≤ tt };
  short = omega arith;
}

pub sound_behind_paren : Global → (tokens : List Token) (at : ℕ) (kind : Kind) (place : Place) → Stands tokens at kind place (at + 1) → Gives tokens at 7 P.behind_paren (act P.behind_paren (Some kind))
sound_behind_paren heap tokens at kind place s = either_of tokens at 7 P.behind_paren (before (type_action (Some kind)) (P.close M.RightParen ∷ P.unary ∷ [])) (before (expression_action (Some kind)) (P.close M.RightParen ∷ P.steps ∷ []))
    (weaker tokens at 4 7 P.behind_paren (before (type_action (Some kind)) (P.close M.RightParen ∷ P.unary ∷ [])) (lit≤ tt) (followed tokens at 2 P.type P.behind_paren (P.close M.RightParen ∷ P.unary ∷ []) (type_action (Some kind)) (type_real (Some kind)) refl (sound_type tokens at kind place s)
    (λ mid to below here t rest. λ begin p open_it forward. cast_of heap below open_it t.0 t.1 here rest.2.1 rest.3.0 rest.3.1)))
    (followed tokens at 5 P.expression P.behind_paren (P.close M.RightParen ∷ P.steps ∷ []) (expression_action (Some kind)) (before_real (unary_action (Some kind)) (P.behind_unary ∷ []) (unary_real (Some kind))) refl (sound_expression heap tokens at kind place s)
    (λ mid to below here e rest. λ begin p open_it forward. let f = rest.3.1 begin (E.Brackets p (boxed heap e.expr)) (X.brackets (boxed heap e.expr) open_it e.spelled rest.2.1) (lit≤ tt) in an_operand (let opened = open_it.next_is in omega arith) f))

-- lists of arguments
go_on : {tokens : List Token} {from next mid to : ℕ} {place : Place} {before grown list : List Expr} {e : Expr} → StandsMark tokens from M.Comma place next → IsExpr tokens next e mid → before ++ e ∷ [] ≡ grown → GoesOn tokens mid grown list to → GoesOn tokens from before list to
go_on {tokens} {from} {before = before} comma x same (X.no_more {from = to}) = subst {0, 0} (λ (list : List Expr). GoesOn tokens from before list to) same (X.more X.no_more comma x)
go_on comma x same (X.more g c y) = X.more (go_on comma x same g) c y

rest_behind : {tokens : List Token} {from next mid to : ℕ} {place : Place} {before list : List Expr} {e : Expr} → StandsMark tokens from M.Comma place next → IsExpr tokens next e mid → IsRest tokens mid (before ++ e ∷ []) list to → IsRest tokens from before list to
rest_behind comma x (X.rest g close_it) = X.rest (go_on comma x refl g) close_it

pub sound_arguments : Global → (tokens : List Token) (at : ℕ) (kind : Kind) (place : Place) → Stands tokens at kind place (at + 1) → Gives tokens at 6 P.arguments (act P.arguments (Some kind))
sound_arguments heap tokens at (K.Mark M.RightParen) place s = (lit≤ tt, refl, λ to below rest. λ begin p open_it. ([], X.no_arguments open_it (moved rest s), omega arith))
sound_arguments heap tokens at other place s = followed tokens at 5 P.expression P.arguments (P.more_arguments ∷ []) (expression_action (Some other)) (before_real (unary_action (Some other)) (P.behind_unary ∷ []) (unary_real (Some other))) refl (sound_expression heap tokens at other place s)
    (λ mid to below here e rest. λ begin p open_it. let r = rest.1 (e.expr ∷ []) (let opened = open_it.next_is in omega arith) in (r.0, X.some_arguments open_it e.spelled r.1, r.2))

pub sound_more_arguments : (tokens : List Token) (at : ℕ) (kind : Kind) (place : Place) → Stands tokens at kind place (at + 1) → Gives tokens at 2 P.more_arguments (act P.more_arguments (Some kind))
sound_more_arguments tokens at (K.Mark M.RightParen) place s = (lit≤ tt, refl, λ to below rest. λ list few. (list, X.rest X.no_more (moved rest s), omega (arith, rest)))
sound_more_arguments tokens at (K.Mark M.Comma) place s = (lit≤ tt, refl, λ to below rest. λ list few. let r = rest.3.1 (list ++ rest.2.expr ∷ []) (let one = rest.1 in omega (arith, length-append list (rest.2.expr ∷ []))) in (r.0, rest_behind s rest.2.spelled r.1, r.2))
sound_more_arguments tokens at other place s = tt

another_index : {tokens : List Token} {at to : ℕ} {place : Place} → StandsMark tokens at M.LeftBracket place (at + 1) → AllMean tokens (P.expression ∷ P.close M.RightBracket ∷ P.indexes ∷ []) (at + 1) to → Bracketed tokens at to
another_index s rest begin p list are few = rest.3.3.1 begin p (list ++ rest.2.expr ∷ []) (X.next_index are (X.index_is s rest.2.spelled rest.3.2.1)) (let one = rest.1 in let two = rest.3.1 in omega (arith, length-append list (rest.2.expr ∷ [])))

pub sound_indexes : (tokens : List Token) (at : ℕ) (kind : Kind) (place : Place) → Stands tokens at kind place (at + 1) → Gives tokens at 3 P.indexes (act P.indexes (Some kind))
sound_indexes tokens at (K.Mark M.LeftBracket) place s = (lit≤ tt, refl, λ to below rest. another_index s rest)
sound_indexes tokens at (K.Name word) place s = (lit≤ tt, refl, λ to below rest. λ begin p list are few. (list, at, word, place, are, moved rest s, omega (arith, rest)))
sound_indexes tokens at other place s = tt

pub sound_extents : (tokens : List Token) (at : ℕ) (kind : Kind) (place : Place) → Stands tokens at kind place (at + 1) → Gives tokens at 3 P.extents (act P.extents (Some kind))
sound_extents tokens at (K.Mark M.LeftBracket) place s = (lit≤ tt, refl, λ to below rest. another_index s rest)
sound_extents tokens at (K.Name word) place s = (lit≤ tt, refl, λ to below rest. λ begin p list are few. (list, at, word, place, are, moved rest s, omega (arith, rest)))
sound_extents tokens at other place s = tt

-- intrinsics
some_listed : {tokens : List Token} {from mid to : ℕ} {comma place : Place} (o : Option Mark) (m : Mark) → o ≡ Some m → StandsMark tokens from M.Comma comma mid → StandsMark tokens mid m place to → IsSomeListed tokens from o to
some_listed {tokens} {from} {to = to} o m e c s = subst {0, 0} (λ (k : Option Mark). IsSomeListed tokens from k to) (sym e) (Q.behind_comma c s)

bracketed : {tokens : List Token} {at to : ℕ} {place : Place} → Global → (m : Mark) → StandsMark tokens at M.LeftParen place (at + 1) → to ≤ 2 ^ 40 → AllMean tokens (operands m) (at + 1) to → means tokens (P.operands_of m) at to
bracketed heap M.Pcoord s below rest known begin p word = record { expr = E.Pcoord p (boxed heap rest.2.expr); spelled = X.pcoord (boxed heap rest.2.expr) word s rest.2.spelled rest.3.1.1; strong = lit≤ tt }
bracketed heap M.PositionsOf s below rest known begin p word = record { expr = E.PositionsOf p rest.2.0; spelled = X.positions_of word (Q.bracketed s rest.2.1 rest.3.1.1); strong = lit≤ tt }
bracketed heap M.RankOf s below rest known begin p word = record { expr = E.RankOf p rest.2.0; spelled = X.rank_of word (Q.bracketed s rest.2.1 rest.3.1.1); strong = lit≤ tt }
bracketed heap M.DimOf s below rest known begin p word = let e = rest.3.3.2 in record { expr = E.DimOf p rest.2.0 (boxed heap e.expr); spelled = X.dim_of (boxed heap e.expr) word s rest.2.1 rest.3.2.1 e.spelled rest.3.3.3.1.1; strong = lit≤ tt }
bracketed heap M.Scan s below r0 known begin p word =
    let r1 = r0.3 in let r2 = r1.3 in let r3 = r2.3 in let r4 = r3.3 in let r5 = r4.3 in let r6 = r5.3 in let r7 = r6.3 in let r8 = r7.3 in let r9 = r8.3 in let r10 = r9.3 in let r11 = r10.3 in let r12 = r11.3 in let r13 = r12.3 in
    let bit = r10.2 r8.0 r9.2.0 r9.2.1 in record {
      expr = E.Scan p (boxed heap r0.2.expr) (boxed heap r2.2.expr) r4.2.0 r6.2.0 r8.2.0 bit.0 r12.2.0;
      spelled = X.scan (boxed heap r0.2.expr) (boxed heap r2.2.expr) word s r0.2.spelled r1.2.1 r2.2.spelled (Q.scan_options (some_listed (combiner_mark r4.2.0) r4.2.1 r4.2.2 r3.2.1 r4.2.4) (Q.behind_comma r5.2.1 r6.2.2) (Q.behind_comma r7.2.1 r8.2.2) bit.1 (Q.behind_comma r11.2.1 r12.2.2) r13.1.1);
      strong = lit≤ tt;
    }
bracketed heap M.Enumerate s below r0 known begin p word =
    let r1 = r0.3 in let r2 = r1.3 in let r3 = r2.3 in let r4 = r3.3 in let r5 = r4.3 in let r6 = r5.3 in let r7 = r6.3 in let r8 = r7.3 in let r9 = r8.3 in
    let bit = r8.2 r6.0 r7.2.0 r7.2.1 in record {
      expr = E.Enumerate p (boxed heap r0.2.expr) r2.2.0 r4.2.0 r6.2.0 bit.0;
      spelled = X.enumerate (boxed heap r0.2.expr) word s r0.2.spelled (Q.enumerate_options (Q.behind_comma r1.2.1 r2.2.2) (Q.behind_comma r3.2.1 r4.2.2) (Q.behind_comma r5.2.1 r6.2.2) bit.1 r9.1.1);
      strong = lit≤ tt;
    }
bracketed heap M.Printf s below rest known begin p word = let r = rest.3.1 [] (omega arith) in let few : length r.0 < 2 ^ 41 = (let f = r.2 in omega arith) in record { expr = E.Printf p rest.2.0 (vec Expr heap r.0 few); spelled = X.printf (vec Expr heap r.0 few) word s rest.2.1 r.1; strong = lit≤ tt }
bracketed heap M.GetChar s below rest known begin p word = record { expr = E.GetChar p; spelled = X.getchar word s rest.1.1; strong = lit≤ tt }
bracketed heap other s below rest known begin p word = absurd (false-true known)

pub sound_operands_of : Global → (tokens : List Token) (at : ℕ) (kind : Kind) (place : Place) (m : Mark) → Stands tokens at kind place (at + 1) → Gives tokens at 14 (P.operands_of m) (act (P.operands_of m) (Some kind))
sound_operands_of heap tokens at (K.Mark M.LeftParen) place m s = (few m, mild m, λ to below rest. bracketed heap m s below rest) where
  few : (m : Mark) → length (operands m) ≤ 14
  few M.Scan = lit≤ tt
  few other = lit≤ tt

  mild : (m : Mark) → are_mild (operands m) ≡ true
  mild M.Scan = refl
  mild other = refl
sound_operands_of heap tokens at other place m s = tt
