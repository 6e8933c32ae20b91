-- Texts go on behind expressions within the bounds.
use Rattle.std.proofs.Common.{◌≡◌, ℕ, ◌+◌, ◌≤◌, ◌<◌, Bool, true, false, List, [], ◌∷◌, ◌++◌, Option, Some, None, Box, arith, lit≤, refl, ap, if◌then◌else◌}
use Rattle.std.specs.Prelude.{nat_lt}
use Rattle.std.specs.declared.alloc.Global.{Global}
use Rattle.cstar_base.specs.declared.operators.Place.{Place}
use Rattle.cstar_tree.specs.declared.token.Token.{Token}
use Rattle.cstar_tree.specs.declared.token.Kind.{Kind}
use Rattle.cstar_tree.specs.declared.token.Kind.TheVariants as K
use Rattle.cstar_tree.specs.declared.token.Mark.{Mark}
use Rattle.cstar_tree.specs.declared.token.Mark.TheVariants as M
use Rattle.cstar_tree.specs.declared.syntax.Expr.{Expr}
use Rattle.cstar_tree.specs.declared.syntax.Expr as E
use Rattle.cstar_tree.specs.declared.syntax.Cast.{Cast}
use Rattle.cstar_tree.specs.declared.syntax.AssignOp.{AssignOp}
use Rattle.cstar_tree.specs.declared.syntax.BinaryOp.{BinaryOp}
use Rattle.cstar_tree.specs.Bounds.{among, levels_in, operators_in}
use Rattle.cstar_tree.specs.Positions.{token_kind}
use Rattle.cstar_tree.specs.Operators.{binary_level, operator_level}
use Rattle.cstar_tree.specs.Expressions.{AreArguments, AreCasts, AreIndexes, GoesOn, IsExpr, IsIndex, IsRest, strength_of}
use Rattle.cstar_tree.specs.Expressions as X
use Rattle.cstar_tree.specs.Options as O
use Rattle.grammar_parts.specs.Parts.{Part, Action, take_it, enter, skip, refuse, before, or_else, unless_refused, is_taken, level_of, levels}
use Rattle.grammar_parts.specs.Parts as P
use Rattle.grammar_parts.specs.Actions.{act, assigns, has, type_action, unary_action}
use Rattle.grammar_parts.proofs.Judging.{levels-append}
use Rattle.grammar_parts.proofs.ReadExpressions.{starts_expression}
use Rattle.grammar_parts.proofs.ReadTypes.{at_token, ends_type, enumerate_options, paren_ends_type, scan_options, starts_type, starts_words}
use Rattle.grammar_parts.proofs.Words.{Calm, Quiet, Starts, apart, calm_assign, is_binary, no_type, quiet_at, quiet_bracket, quiet_colon, quiet_comma, quiet_paren, step_behind, takes_assign, takes_prefix, takes_step}
use Rattle.bounded_texts.proofs.Flowing.{Flow, less, opens, plain, same_act, skipped, taken, unskipped}
use Rattle.bounded_texts.proofs.FlowTypes.{enumerate_options_flow, scan_options_flow, shape_flows, type_flows, words_flow}
use Rattle.bounded_texts.proofs.Sizes.{greatest_one, total_one}
use Rattle.cstar_parser.specs.Fits.{operators_among}
use Rattle.cstar_parser.proofs.Fitting.{greatest_more, total_more}
use Rattle.cstar_parser.proofs.FollowingExpressions.{cast_behind, expression_real, takes_binary, type_real, unary_real, weaker}
use Rattle.cstar_parser.proofs.Sizes as sizes

-- where no assignment operator stands, these open parts go on as operators of at least this level do
record GoesAs (tokens : List Token) (least : ℕ) (p : Part) (parts behind : List Part) : Type 0 where
  pub levels_are : level_of p + levels parts ≡ levels behind
  pub on : (at n : ℕ) → assigns (token_kind tokens at) ≡ false → Flow tokens at (P.operators least ∷ behind) n → Flow tokens at (p ∷ parts) n

-- what stands behind an expression of a strength, and does not go on with it
record EndsAt (strength : ℕ) (kind : Option Kind) : Type 0 where
  pub calm : Calm kind
  pub no_assignment : assigns kind ≡ false
  pub level : operator_level kind ≤ strength

-- how a text goes on behind an operand, a unary expression, one with binary operators, and so on
abbrev OperandFlows : List Token → ℕ → Expr → ℕ → Type 0
OperandFlows tokens from e to = act P.behind_name (token_kind tokens to) ≡ skip → (behind : List Part) (n : ℕ) → levels behind + levels_in e ≤ 100 → Flow tokens to (P.steps ∷ behind) (n + operators_in e) → Flow tokens from (P.unary ∷ behind) n

abbrev UnaryFlows : List Token → ℕ → Expr → ℕ → Type 0
UnaryFlows tokens from e to = Calm (token_kind tokens to) → (behind : List Part) (n : ℕ) → levels behind + levels_in e ≤ 100 → Flow tokens to behind (n + operators_in e) → Flow tokens from (P.unary ∷ behind) n

abbrev BinaryFlows : List Token → ℕ → Expr → ℕ → ℕ → Type 0
BinaryFlows tokens from e to least = EndsAt (strength_of e) (token_kind tokens to) → (p : Part) (parts behind : List Part) (n : ℕ) → GoesAs tokens least p parts behind → levels behind + levels_in e ≤ 100 → Flow tokens to (P.operators least ∷ behind) (n + operators_in e) → Flow tokens from (P.unary ∷ p ∷ parts) n

abbrev ChoiceFlows : List Token → ℕ → Expr → ℕ → Type 0
ChoiceFlows tokens from e to = Quiet (token_kind tokens to) → (p : Part) (parts behind : List Part) (n : ℕ) → GoesAs tokens 2 p parts (P.choice_or_none ∷ behind) → levels behind + levels_in e ≤ 100 → Flow tokens to behind (n + operators_in e) → Flow tokens from (P.unary ∷ p ∷ parts) n

abbrev ExpressionFlows : List Token → ℕ → Expr → ℕ → Type 0
ExpressionFlows tokens from e to = Quiet (token_kind tokens to) → (behind : List Part) (n : ℕ) → levels behind + levels_in e ≤ 100 → Flow tokens to behind (n + operators_in e) → Flow tokens from (P.expression ∷ behind) n

-- the same by the strength of an expression
record Flows (tokens : List Token) (from : ℕ) (e : Expr) (to : ℕ) : Type 0 where
  pub operand : 14 ≤ strength_of e → OperandFlows tokens from e to
  pub unary : 13 ≤ strength_of e → UnaryFlows tokens from e to
  pub binary : (least : ℕ) → 2 ≤ least → least ≤ strength_of e → BinaryFlows tokens from e to least
  pub choice : 1 ≤ strength_of e → ChoiceFlows tokens from e to
  pub expression : ExpressionFlows tokens from e to

-- an expression begins as a unary one
opens_unary : {tokens : List Token} {at n : ℕ} {behind : List Part} (p : Part) (parts : List Part) → ((kind : Option Kind) → act p kind ≡ before (unary_action kind) parts) → Flow tokens at (P.unary ∷ parts ++ behind) n → Flow tokens at (p ∷ behind) n
opens_unary {tokens} {at} p parts is f = opens p P.unary parts (is (token_kind tokens at)) (unary_real (token_kind tokens at)) f

skip_operators : {tokens : List Token} {at n : ℕ} {behind : List Part} (least : ℕ) → operator_level (token_kind tokens at) < least → Flow tokens at behind n → Flow tokens at (P.operators least ∷ behind) n
skip_operators {tokens} {at} least low f = skipped (P.operators least) (weaker least (token_kind tokens at) low) f

skip_choice : {tokens : List Token} {at n : ℕ} {behind : List Part} → has (token_kind tokens at) M.Question ≡ false → Flow tokens at behind n → Flow tokens at (P.choice_or_none ∷ behind) n
skip_choice none f = skipped P.choice_or_none (ap (λ (b : Bool). if b then take_it 1 (P.expression ∷ P.operator M.Colon ∷ P.choice ∷ []) else skip) none) f

-- what can stand behind a unary expression, where none of the assignment operators does
no_assignment : (tokens : List Token) (behind : List Part) → GoesAs tokens 2 P.behind_unary behind (P.choice_or_none ∷ behind)
no_assignment tokens behind = record { levels_are = omega arith; on = on } where
  on : (at n : ℕ) → assigns (token_kind tokens at) ≡ false → Flow tokens at (P.operators 2 ∷ P.choice_or_none ∷ behind) n → Flow tokens at (P.behind_unary ∷ behind) n
  on at n none f = by (nat_lt (operator_level (token_kind tokens at)) 2) refl where
    by : (low : Bool) → nat_lt (operator_level (token_kind tokens at)) 2 ≡ low → Flow tokens at (P.behind_unary ∷ behind) n
    by true low = same_act P.behind_unary P.choice_or_none (rw (none, low) refl) (unskipped (P.operators 2) (ap (λ (b : Bool). if b then skip else take_it 1 (P.binary (operator_level (token_kind tokens at) + 1) ∷ P.operators 2 ∷ [])) low) f)
    by false low = opens P.behind_unary (P.operators 2) (P.choice_or_none ∷ []) (rw (none, low) refl) (rw low tt) f

-- ---- the stronger give the weaker

from_choice : {tokens : List Token} {from to : ℕ} (e : Expr) → ChoiceFlows tokens from e to → ExpressionFlows tokens from e to
from_choice {tokens} e choice quiet behind n low f = opens_unary P.expression (P.behind_unary ∷ []) (λ kind. refl) (choice quiet P.behind_unary behind behind n (no_assignment tokens behind) low f)

from_binary : {tokens : List Token} {from to : ℕ} (e : Expr) → BinaryFlows tokens from e to 2 → ChoiceFlows tokens from e to
from_binary e binary quiet p parts behind n goes low f =
    binary (record { calm = quiet.calm; no_assignment = quiet.no_assignment; level = let none = quiet.no_operator in omega arith }) p parts (P.choice_or_none ∷ behind) n goes (omega arith)
    (skip_operators 2 (let none = quiet.no_operator in omega arith) (skip_choice quiet.no_question f))

-- a unary expression
a_unary : {tokens : List Token} {from to : ℕ} (e : Expr) → 13 ≤ strength_of e → (14 ≤ strength_of e → OperandFlows tokens from e to) → UnaryFlows tokens from e to → Flows tokens from e to
a_unary {tokens} {from} {to} e strong operand unary = record {
  operand = operand;
  unary = λ high. unary;
  binary = λ least two low. binary least;
  choice = λ one. from_binary e (binary 2);
  expression = from_choice e (from_binary e (binary 2));
} where
  binary : (least : ℕ) → BinaryFlows tokens from e to least
  binary least ends p parts behind n goes low f = let same = goes.levels_are in unary ends.calm (p ∷ parts) n (omega arith) (goes.on to (n + operators_in e) ends.no_assignment f)

-- an operand, behind which `++` and `--` can stand
an_operand : {tokens : List Token} {from to : ℕ} (e : Expr) → 14 ≤ strength_of e → OperandFlows tokens from e to → Flows tokens from e to
an_operand e strong operand = a_unary e (omega arith) (λ high. operand) (λ calm behind n low f. operand calm.no_bracket behind n low (skipped P.steps calm.no_step f))

a_binary : {tokens : List Token} {from to : ℕ} (op : BinaryOp) (left right : Box Expr Global) (p : Place) → ((least : ℕ) → 2 ≤ least → least ≤ binary_level op → BinaryFlows tokens from (E.Binary p op left right) to least) → Flows tokens from (E.Binary p op left right) to
a_binary {tokens} {from} {to} op left right place binary = record {
  operand = λ high. absurd (let h : 14 ≤ binary_level op = high in let m = (is_binary op).most in omega arith);
  unary = λ high. absurd (let h : 13 ≤ binary_level op = high in let m = (is_binary op).most in omega arith);
  binary = binary;
  choice = λ one. choice;
  expression = from_choice (E.Binary place op left right) choice;
} where
  choice : ChoiceFlows tokens from (E.Binary place op left right) to
  choice = from_binary (E.Binary place op left right) (binary 2 (lit≤ tt) (is_binary op).least)

a_choice : {tokens : List Token} {from to : ℕ} (p : Place) (test second third : Box Expr Global) → ChoiceFlows tokens from (E.Choice p test second third) to → Flows tokens from (E.Choice p test second third) to
a_choice place test second third choice = record {
  operand = λ high. absurd (let h : 14 ≤ 1 = high in omega arith);
  unary = λ high. absurd (let h : 13 ≤ 1 = high in omega arith);
  binary = λ least two low. absurd (let h : least ≤ 1 = low in omega arith);
  choice = λ one. choice;
  expression = from_choice (E.Choice place test second third) choice;
}

an_assignment : {tokens : List Token} {from to : ℕ} (p : Place) (op : AssignOp) (target value : Box Expr Global) → ExpressionFlows tokens from (E.Assign p op target value) to → Flows tokens from (E.Assign p op target value) to
an_assignment place op target value expression = record {
  operand = λ high. absurd (let h : 14 ≤ 0 = high in omega arith);
  unary = λ high. absurd (let h : 13 ≤ 0 = high in omega arith);
  binary = λ least two low. absurd (let h : least ≤ 0 = low in omega arith);
  choice = λ one. absurd (let h : 1 ≤ 0 = one in omega arith);
  expression = expression;
}

-- ---- steps of their own

-- a `?` goes on with no binary operator
question_ends : (strength : ℕ) → EndsAt strength (Some (K.Mark M.Question))
question_ends strength = record { calm = record { no_step = refl; no_bracket = refl }; no_assignment = refl; level = omega arith }

-- a cast
paren_type : {tokens : List Token} {at n : ℕ} {behind : List Part} → is_taken (type_action (token_kind tokens at)) ≡ true → Flow tokens at (P.type ∷ P.close M.RightParen ∷ P.unary ∷ behind) n → Flow tokens at (P.behind_paren ∷ behind) n
paren_type {tokens} {at} starts f = opens P.behind_paren P.type (P.close M.RightParen ∷ P.unary ∷ []) (cast_behind (token_kind tokens at) starts) (type_real (token_kind tokens at) starts) f

-- brackets
paren_expression : {tokens : List Token} {at n : ℕ} {behind : List Part} → Starts (token_kind tokens at) → Flow tokens at (P.expression ∷ P.close M.RightParen ∷ P.steps ∷ behind) n → Flow tokens at (P.behind_paren ∷ behind) n
paren_expression {tokens} {at} starts f = opens P.behind_paren P.expression (P.close M.RightParen ∷ P.steps ∷ [])
    (ap (λ (a : Action). unless_refused (before a (P.close M.RightParen ∷ P.unary ∷ [])) (before (act P.expression (token_kind tokens at)) (P.close M.RightParen ∷ P.steps ∷ []))) (no_type (token_kind tokens at) starts))
    (expression_real (token_kind tokens at)) f

casts_flow : {tokens : List Token} {from to n : ℕ} {casts : List Cast} {behind : List Part} → AreCasts tokens from casts to → levels behind + 1 ≤ 100 → Flow tokens to (P.unary ∷ behind) n → Flow tokens from (P.unary ∷ behind) n
casts_flow X.no_cast low f = f
casts_flow (X.one_more cast before_it open_it words close_it) low f = casts_flow before_it low
    (plain P.unary open_it refl (omega arith) (paren_type (starts_words words) (words_flow words (at_token P.int_or_none close_it refl) (at_token P.width_or_none close_it refl) (omega arith)
    (skipped P.shape_or_none (at_token P.shape_or_none close_it refl) (plain (P.close M.RightParen) close_it refl (omega arith) f)))))

-- another argument begins
first_argument : {tokens : List Token} {at n : ℕ} {behind : List Part} → Starts (token_kind tokens at) → Flow tokens at (P.expression ∷ P.more_arguments ∷ behind) n → Flow tokens at (P.arguments ∷ behind) n
first_argument {tokens} {at} starts f = opens P.arguments P.expression (P.more_arguments ∷ [])
    (ap (λ (b : Bool). if b then take_it 0 [] else before (act P.expression (token_kind tokens at)) (P.more_arguments ∷ [])) (apart (token_kind tokens at) M.RightParen refl starts))
    (expression_real (token_kind tokens at)) f

quiet_more : {tokens : List Token} {from to : ℕ} {before list : List Expr} → GoesOn tokens from before list to → Quiet (token_kind tokens to) → Quiet (token_kind tokens from)
quiet_more X.no_more q = q
quiet_more (X.more g comma e) q = quiet_more g (quiet_at comma quiet_comma)

quiet_rest : {tokens : List Token} {from to : ℕ} {before list : List Expr} → IsRest tokens from before list to → Quiet (token_kind tokens from)
quiet_rest (X.rest g close) = quiet_more g (quiet_at close quiet_paren)

quiet_some : (tokens : List Token) (from to : ℕ) (m : Option Mark) → O.IsSomeListed tokens from m to → Quiet (token_kind tokens from)
quiet_some tokens from to None listed = absurd listed
quiet_some tokens from to (Some m) (O.behind_comma comma word) = quiet_at comma quiet_comma

-- a list that goes on nests no less
grows : {tokens : List Token} {from to : ℕ} {first list : List Expr} → GoesOn tokens from first list to → among levels_in first ≤ among levels_in list
grows X.no_more = omega arith
grows (X.more {list = list} {e = e} g comma x) = let h = grows g in omega (arith, greatest_more levels_in list e)

grows_rest : {tokens : List Token} {from to : ℕ} {first list : List Expr} → IsRest tokens from first list to → among levels_in first ≤ among levels_in list
grows_rest (X.rest g close) = grows g

-- ---- expressions

mutual
  flows : {tokens : List Token} {from to : ℕ} {e : Expr} → IsExpr tokens from e to → Flows tokens from e to
  flows {tokens} {from} (X.assign {p = p} {op = op} target value t strong m v) =
      let size = sizes.assign {p = p} {op = op} {target = target} {value = value} refl in let deep = size.deep in let many = size.many in
      an_assignment p op target value (λ quiet behind n low f. opens_unary P.expression (P.behind_unary ∷ []) (λ kind. refl)
      ((flows t).unary strong (rw m.kind_is (calm_assign op)) (P.behind_unary ∷ behind) n (omega arith) (taken P.behind_unary m (takes_assign op) (omega arith) ((flows v).expression quiet behind (n + operators_in target.value + 1) (omega arith) (less f (omega arith))))))
  flows {tokens} {from} (X.choice {d = d} {p = p} test second third t two q v colon o one) =
      let size = sizes.choice {p = p} {test = test} {then = second} {otherwise = third} refl in let deep = size.deep in let many = size.many in
      a_choice p test second third (λ quiet x parts behind n goes low f. (flows t).binary 2 (lit≤ tt) two (rw q.kind_is (question_ends (strength_of test.value))) x parts (P.choice_or_none ∷ behind) n goes (omega arith)
      (skip_operators 2 (let none = ap operator_level q.kind_is in omega arith) (taken P.choice_or_none q refl (omega arith)
      ((flows v).expression (quiet_at colon quiet_colon) (P.operator M.Colon ∷ P.choice ∷ behind) (n + operators_in test.value + 1) (omega arith) (taken (P.operator M.Colon) colon refl (omega arith)
      (opens_unary P.choice (P.operators 2 ∷ P.choice_or_none ∷ []) (λ kind. refl)
      ((flows o).choice one quiet (P.operators 2) (P.choice_or_none ∷ behind) behind (n + operators_in test.value + 1 + operators_in second.value + 1) (record { levels_are = omega arith; on = λ at k none g. g }) (omega arith) (less f (omega arith)))))))))
  flows {tokens} {from} {to} (X.binary {next = next} {p = p} {op = op} left right l weak m r strong) =
      let size = sizes.binary {p = p} {op = op} {left = left} {right = right} refl in let deep = size.deep in let many = size.many in
      a_binary op left right p (λ least two high ends x parts behind n goes low f. (flows l).binary least two (omega arith) (rw m.kind_is (record { calm = (is_binary op).calm; no_assignment = (is_binary op).no_assignment; level = weak })) x parts behind n goes (omega arith)
      (taken (P.operators least) m (takes_binary least op high) (omega arith) (opens_unary (P.binary (binary_level op + 1)) (P.operators (binary_level op + 1) ∷ []) (λ kind. refl)
      ((flows r).binary (binary_level op + 1) (omega arith) (omega arith) (record { calm = ends.calm; no_assignment = ends.no_assignment; level = let e = ends.level in omega arith }) (P.operators (binary_level op + 1)) (P.operators least ∷ behind) (P.operators least ∷ behind) (n + operators_in left.value + 1) (record { levels_are = omega arith; on = λ at k none g. g }) (omega arith)
      (skip_operators (binary_level op + 1) (let e = ends.level in omega arith) (less f (omega arith)))))))
  flows (X.prefix {p = p} {op = op} operand m o strong) =
      let size = sizes.prefix {p = p} {op = op} {operand = operand} refl in let deep = size.deep in let many = size.many in
      a_unary (E.Prefix p op operand) (lit≤ tt) (λ high. absurd (let h : 14 ≤ 13 = high in omega arith))
      (λ calm behind n low f. taken P.unary m (takes_prefix op) (omega arith) ((flows o).unary strong calm behind (n + 1) (omega arith) (less f (omega arith))))
  flows (X.casts chain operand some casts o strong single) =
      let size = sizes.casts {chain = chain} {operand = operand} refl in let deep = size.deep in let many = size.many in
      a_unary (E.Casts chain operand) (lit≤ tt) (λ high. absurd (let h : 14 ≤ 13 = high in omega arith))
      (λ calm behind n low f. casts_flow casts (omega arith) ((flows o).unary strong calm behind n (omega arith) (less f (omega arith))))
  flows {tokens} (X.parallel_cast {a = a} {p = p} {type_name = t} operand open_it type some close_it o strong) =
      let size = sizes.parallel_cast {p = p} {type_name = t} {operand = operand} refl in let deep = size.deep in let many = size.many in
      a_unary (E.ParallelCast p t operand) (lit≤ tt) (λ high. absurd (let h : 14 ≤ 13 = high in omega arith))
      (λ calm behind n low f. plain P.unary open_it refl (omega arith) (paren_type (starts_type type) (type_flows type (ends_type close_it paren_ends_type) (omega arith)
      (plain (P.close M.RightParen) close_it refl (omega arith) ((flows o).unary strong calm behind (n + 1) (omega arith) (less f (omega arith)))))))
  flows (X.postfix {p = p} {op = op} operand o strong m) =
      let size = sizes.postfix {p = p} {op = op} {operand = operand} refl in let deep = size.deep in let many = size.many in
      an_operand (E.Postfix p op operand) (lit≤ tt) (λ none behind n low f. (flows o).operand strong (at_token P.behind_name m (step_behind op)) behind n (omega arith) (taken P.steps m (takes_step op) (omega arith) (less f (omega arith))))
  flows (X.name {n = name} s) = an_operand (E.Name name) (lit≤ tt) (λ none behind n low f. plain P.unary s refl (omega arith) (skipped P.behind_name none (less f (omega arith))))
  flows (X.element {n = name} {bracket = bracket} index s i) =
      let size = sizes.element {n = name} {bracket = bracket} {index = index} refl in let deep = size.deep in let many = size.many in
      an_operand (E.Element name bracket index) (lit≤ tt) (λ none behind n low f. plain P.unary s refl (omega arith) (index_flows P.behind_name [] refl i (P.steps ∷ behind) n (omega arith) (less f (omega arith))))
  flows (X.number {value = value} {unsigned = u} {p = p} s) = an_operand (E.Number p value u) (lit≤ tt) (λ none behind n low f. plain P.unary s refl (omega arith) (less f (omega arith)))
  flows (X.dot {p = p} s) =
      let size = sizes.dot {p = p} refl in let many = size.many in
      an_operand (E.Dot p) (lit≤ tt) (λ none behind n low f. taken P.unary s refl (omega arith) (less f (omega arith)))
  flows {tokens} (X.brackets {a = a} {p = p} inner open_it x close_it) =
      let size = sizes.brackets {p = p} {inner = inner} refl in let deep = size.deep in let many = size.many in
      an_operand (E.Brackets p inner) (lit≤ tt) (λ none behind n low f. plain P.unary open_it refl (omega arith) (paren_expression (starts_expression x)
      ((flows x).expression (quiet_at close_it quiet_paren) (P.close M.RightParen ∷ P.steps ∷ behind) n (omega arith) (plain (P.close M.RightParen) close_it refl (omega arith) (less f (omega arith))))))
  flows (X.call {n = name} arguments s list) =
      let size = sizes.call {n = name} arguments refl in let deep = size.deep in let many = size.many in
      an_operand (E.Call name arguments) (lit≤ tt) (λ none behind n low f. plain P.unary s refl (omega arith) (arguments_flow list (P.steps ∷ behind) n (omega arith) (less f (omega arith))))
  flows (X.left_index {p = p} {n = name} indexes list s) =
      let size = sizes.left_index {p = p} indexes {n = name} refl in let deep = size.deep in let many = size.many in
      an_operand (E.LeftIndex p indexes name) (lit≤ tt) (λ none behind n low f. indexes_flow list behind n (omega arith) (plain P.indexes s refl (omega arith) (less f (omega arith))))
  flows (X.pcoord {p = p} axis word open_it x close_it) =
      let size = sizes.pcoord {p = p} {axis = axis} refl in let deep = size.deep in let many = size.many in
      an_operand (E.Pcoord p axis) (lit≤ tt) (λ none behind n low f. plain P.unary word refl (omega arith) (plain (P.operands_of M.Pcoord) open_it refl (omega arith)
      ((flows x).expression (quiet_at close_it quiet_paren) (P.close M.RightParen ∷ P.steps ∷ behind) n (omega arith) (plain (P.close M.RightParen) close_it refl (omega arith) (less f (omega arith))))))
  flows (X.positions_of {p = p} {shape = shape} word (O.bracketed open_it s close_it)) =
      let size = sizes.positions_of {p = p} {shape = shape} refl in let deep = size.deep in
      an_operand (E.PositionsOf p shape) (lit≤ tt) (λ none behind n low f. plain P.unary word refl (omega arith) (plain (P.operands_of M.PositionsOf) open_it refl (omega arith) (shape_flows s (omega arith) (plain (P.close M.RightParen) close_it refl (omega arith) (less f (omega arith))))))
  flows (X.rank_of {p = p} {shape = shape} word (O.bracketed open_it s close_it)) =
      let size = sizes.rank_of {p = p} {shape = shape} refl in let deep = size.deep in
      an_operand (E.RankOf p shape) (lit≤ tt) (λ none behind n low f. plain P.unary word refl (omega arith) (plain (P.operands_of M.RankOf) open_it refl (omega arith) (shape_flows s (omega arith) (plain (P.close M.RightParen) close_it refl (omega arith) (less f (omega arith))))))
  flows (X.dim_of {p = p} {shape = shape} axis word open_it s comma x close_it) =
      let size = sizes.dim_of {p = p} {shape = shape} {axis = axis} refl in let deep = size.deep in let many = size.many in
      an_operand (E.DimOf p shape axis) (lit≤ tt) (λ none behind n low f. plain P.unary word refl (omega arith) (plain (P.operands_of M.DimOf) open_it refl (omega arith) (shape_flows s (omega arith) (plain (P.mark M.Comma) comma refl (omega arith)
      ((flows x).expression (quiet_at close_it quiet_paren) (P.close M.RightParen ∷ P.steps ∷ behind) n (omega arith) (plain (P.close M.RightParen) close_it refl (omega arith) (less f (omega arith))))))))
  flows {tokens} (X.scan {p = p} source axis {combiner} {direction} {mode} {bit} {inclusion} word open_it x comma y (O.scan_options c d m b i close_it)) =
      let size = sizes.scan {p = p} {source = source} {axis = axis} {combiner = combiner} {direction = direction} {mode = mode} {bit = bit} {inclusion = inclusion} refl in let deep = size.deep in let many = size.many in
      an_operand (E.Scan p source axis combiner direction mode bit inclusion) (lit≤ tt) (λ none behind n low f. plain P.unary word refl (omega arith) (plain (P.operands_of M.Scan) open_it refl (omega arith)
      ((flows x).expression (quiet_at comma quiet_comma) (P.mark M.Comma ∷ P.expression ∷ scan_options ++ P.steps ∷ behind) n (omega arith) (plain (P.mark M.Comma) comma refl (omega arith)
      ((flows y).expression (quiet_some tokens _ _ (O.combiner_mark combiner) c) (scan_options ++ P.steps ∷ behind) (n + operators_in source.value) (omega arith) (scan_options_flow (O.scan_options c d m b i close_it) (omega arith) (less f (omega arith))))))))
  flows (X.enumerate {p = p} axis {direction} {inclusion} {mode} {bit} word open_it x (O.enumerate_options (O.behind_comma comma upward) i m b close_it)) =
      let size = sizes.enumerate {p = p} {axis = axis} {direction = direction} {inclusion = inclusion} {mode = mode} {bit = bit} refl in let deep = size.deep in let many = size.many in
      an_operand (E.Enumerate p axis direction inclusion mode bit) (lit≤ tt) (λ none behind n low f. plain P.unary word refl (omega arith) (plain (P.operands_of M.Enumerate) open_it refl (omega arith)
      ((flows x).expression (quiet_at comma quiet_comma) (enumerate_options ++ P.steps ∷ behind) n (omega arith) (enumerate_options_flow (O.enumerate_options (O.behind_comma comma upward) i m b close_it) (omega arith) (less f (omega arith))))))
  flows (X.printf {p = p} {text = text} arguments word open_it (O.text_is s) list) =
      let size = sizes.printf {p = p} {text = text} arguments refl in let deep = size.deep in let many = size.many in
      an_operand (E.Printf p text arguments) (lit≤ tt) (λ none behind n low f. plain P.unary word refl (omega arith) (plain (P.operands_of M.Printf) open_it refl (omega arith) (plain P.text s refl (omega arith) (less (rest_flows list (P.steps ∷ behind) n (omega arith) (less f (omega arith))) (omega arith)))))
  flows (X.getchar {p = p} word open_it close_it) =
      let size = sizes.getchar {p = p} refl in let deep = size.deep in
      an_operand (E.GetChar p) (lit≤ tt) (λ none behind n low f. plain P.unary word refl (omega arith) (plain (P.operands_of M.GetChar) open_it refl (omega arith) (plain (P.close M.RightParen) close_it refl (omega arith) (less f (omega arith)))))

  more_flow : {tokens : List Token} {from to : ℕ} {first list : List Expr} → GoesOn tokens from first list to → Quiet (token_kind tokens to) → (behind : List Part) (n : ℕ) → levels behind + 1 + among levels_in list ≤ 100 → Flow tokens to (P.more_arguments ∷ behind) (n + operators_among list) → Flow tokens from (P.more_arguments ∷ behind) (n + operators_among first)
  more_flow X.no_more q behind n low f = f
  more_flow (X.more {list = list} {e = e} g comma x) q behind n low f = more_flow g (quiet_at comma quiet_comma) behind n (omega (arith, greatest_more levels_in list e))
      (plain P.more_arguments comma refl (omega arith) ((flows x).expression q (P.more_arguments ∷ behind) (n + operators_among list) (omega (arith, greatest_more levels_in list e)) (less f (omega (arith, total_more operators_in list e)))))

  rest_flows : {tokens : List Token} {from to : ℕ} {first list : List Expr} → IsRest tokens from first list to → (behind : List Part) (n : ℕ) → levels behind + 1 + among levels_in list ≤ 100 → Flow tokens to behind (n + operators_among list) → Flow tokens from (P.more_arguments ∷ behind) (n + operators_among first)
  rest_flows (X.rest g close_it) behind n low f = more_flow g (quiet_at close_it quiet_paren) behind n low (plain P.more_arguments close_it refl (omega arith) f)

  arguments_flow : {tokens : List Token} {from to : ℕ} {list : List Expr} → AreArguments tokens from list to → (behind : List Part) (n : ℕ) → levels behind + 1 + among levels_in list ≤ 100 → Flow tokens to behind (n + operators_among list) → Flow tokens from (P.behind_name ∷ behind) n
  arguments_flow (X.no_arguments open_it close_it) behind n low f = plain P.behind_name open_it refl (omega arith) (plain P.arguments close_it refl (omega arith) (less f (omega arith)))
  arguments_flow (X.some_arguments {first = e} open_it first others) behind n low f =
      let least = grows_rest others in
      plain P.behind_name open_it refl (omega arith) (first_argument (starts_expression first) ((flows first).expression (quiet_rest others) (P.more_arguments ∷ behind) n (omega (arith, greatest_one levels_in e)) (less (rest_flows others behind n low f) (omega (arith, total_one e)))))

  index_flows : {tokens : List Token} {from to : ℕ} {place : Place} {e : Expr} (p : Part) (more : List Part) → act p (Some (K.Mark M.LeftBracket)) ≡ take_it 0 (P.expression ∷ P.close M.RightBracket ∷ more) → IsIndex tokens from place e to → (behind : List Part) (n : ℕ) → levels more + levels behind + 1 + levels_in e ≤ 100 → Flow tokens to (more ++ behind) (n + operators_in e) → Flow tokens from (p ∷ behind) n
  index_flows p more is (X.index_is open_it e close_it) behind n low f =
      let all = levels-append more behind in
      plain p open_it is (omega arith) ((flows e).expression (quiet_at close_it quiet_bracket) (P.close M.RightBracket ∷ more ++ behind) n (omega arith) (plain (P.close M.RightBracket) close_it refl (omega arith) f))

  indexes_flow : {tokens : List Token} {from to : ℕ} {place : Place} {list : List Expr} → AreIndexes tokens from place list to → (behind : List Part) (n : ℕ) → levels behind + 1 + among levels_in list ≤ 100 → Flow tokens to (P.indexes ∷ P.steps ∷ behind) (n + operators_among list) → Flow tokens from (P.unary ∷ behind) n
  indexes_flow (X.first_index {e = e} index) behind n low f = index_flows P.unary (P.indexes ∷ P.steps ∷ []) refl index behind n (omega (arith, greatest_one levels_in e)) (less f (omega (arith, total_one e)))
  indexes_flow (X.next_index {list = list} {e = e} others index) behind n low f = indexes_flow others behind n (omega (arith, greatest_more levels_in list e))
      (index_flows P.indexes (P.indexes ∷ []) refl index (P.steps ∷ behind) (n + operators_among list) (omega (arith, greatest_more levels_in list e)) (less f (omega (arith, total_more operators_in list e))))

pub expression_flows : {tokens : List Token} {from to : ℕ} {e : Expr} → IsExpr tokens from e to → Quiet (token_kind tokens to) → (behind : List Part) (n : ℕ) → levels behind + levels_in e ≤ 100 → Flow tokens to behind (n + operators_in e) → Flow tokens from (P.expression ∷ behind) n
expression_flows x = (flows x).expression
