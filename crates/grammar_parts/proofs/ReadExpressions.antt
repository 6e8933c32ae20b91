-- The expressions of a text are read by their open parts.
use Rattle.std.proofs.Common.{◌≡◌, ℕ, ◌+◌, ◌≤◌, ◌<◌, Bool, true, false, List, [], ◌∷◌, ◌++◌, Option, Some, None, Box, arith, lit≤, refl, sym, ap, subst, ◌∙◌, if◌then◌else◌}
use Rattle.std.proofs.lemmas.Bool.{lt-ltb, le-ltb, ltb-true}
use Rattle.std.specs.Prelude.{nat_lt}
use Rattle.std.specs.declared.alloc.Global.{Global}
use Rattle.cstar_base.specs.declared.operators.Place.{Place}
use Rattle.cstar_tree.specs.declared.token.Token.{Token}
use Rattle.cstar_tree.specs.declared.token.Kind.{Kind}
use Rattle.cstar_tree.specs.declared.token.Kind.TheVariants as K
use Rattle.cstar_tree.specs.declared.token.Mark.{Mark}
use Rattle.cstar_tree.specs.declared.token.Mark.TheVariants as M
use Rattle.cstar_tree.specs.declared.syntax.Expr.{Expr}
use Rattle.cstar_tree.specs.declared.syntax.Expr as E
use Rattle.cstar_tree.specs.declared.syntax.Cast.{Cast}
use Rattle.cstar_tree.specs.declared.syntax.AssignOp.{AssignOp}
use Rattle.cstar_tree.specs.declared.syntax.BinaryOp.{BinaryOp}
use Rattle.cstar_tree.specs.Positions.{Stands, StandsMark, token_kind}
use Rattle.cstar_tree.specs.Operators.{binary_mark, binary_level, operator_level}
use Rattle.cstar_tree.specs.Expressions.{AreArguments, AreCasts, AreIndexes, GoesOn, IsExpr, IsIndex, IsRest, strength_of}
use Rattle.cstar_tree.specs.Expressions as X
use Rattle.cstar_tree.specs.Options as O
use Rattle.grammar_parts.specs.Parts.{Part, Action, take_it, enter, skip, refuse, before, or_else, unless_refused, is_taken}
use Rattle.grammar_parts.specs.Parts as P
use Rattle.grammar_parts.specs.Actions.{IsReal, act, assigns, has, type_action, unary_action}
use Rattle.grammar_parts.specs.Readings.{reach}
use Rattle.grammar_parts.proofs.Reaching.{opens, same_act, skipped, taken}
use Rattle.grammar_parts.proofs.ReadTypes.{Reads, at_token, ends_type, enumerate_options, paren_ends_type, read_enumerate_options, read_scan_options, read_shape, read_type, read_words, scan_options, starts_type, starts_words}
use Rattle.grammar_parts.proofs.Words.{Calm, Quiet, Starts, apart, calm_assign, false-true, is_binary, no_type, quiet_at, quiet_bracket, quiet_colon, quiet_comma, quiet_paren, step_behind, takes_assign, takes_mark, takes_prefix, takes_step}

-- where no assignment operator stands, these open parts go on as operators of at least this level do
abbrev GoesAs : List Token → ℕ → Part → List Part → List Part → Type 0
GoesAs tokens least p parts behind = (at : ℕ) → assigns (token_kind tokens at) ≡ false → reach tokens at (p ∷ parts) ≡ reach tokens at (P.operators least ∷ behind)

-- what stands behind an expression of a strength, and does not go on with it
record EndsAt (strength : ℕ) (kind : Option Kind) : Type 0 where
  pub calm : Calm kind
  pub no_assignment : assigns kind ≡ false
  pub level : operator_level kind ≤ strength

-- how an expression is read, by its strength
record Readings (tokens : List Token) (from : ℕ) (e : Expr) (to : ℕ) : Type 0 where
  pub starts : Starts (token_kind tokens from)
  pub operand : 14 ≤ strength_of e → act P.behind_name (token_kind tokens to) ≡ skip → (behind : List Part) → reach tokens from (P.unary ∷ behind) ≡ reach tokens to (P.steps ∷ behind)
  pub unary : 13 ≤ strength_of e → Calm (token_kind tokens to) → Reads tokens from P.unary to
  pub binary : (least : ℕ) → 2 ≤ least → least ≤ strength_of e → EndsAt (strength_of e) (token_kind tokens to) → (p : Part) (parts behind : List Part) → GoesAs tokens least p parts behind → reach tokens from (P.unary ∷ p ∷ parts) ≡ reach tokens to (P.operators least ∷ behind)
  pub choice : 1 ≤ strength_of e → Quiet (token_kind tokens to) → (p : Part) (parts behind : List Part) → GoesAs tokens 2 p parts (P.choice_or_none ∷ behind) → reach tokens from (P.unary ∷ p ∷ parts) ≡ reach tokens to behind
  pub expression : Quiet (token_kind tokens to) → Reads tokens from P.expression to

real : (a : Action) → is_taken a ≡ true → IsReal a
real (take_it n parts) h = tt
real (enter p parts) h = tt
real refuse h = tt
real skip h = absurd (false-true h)

pub real_before : (a : Action) → is_taken a ≡ true → IsReal (before a (P.behind_unary ∷ []))
real_before (take_it n parts) h = tt
real_before (enter p parts) h = tt
real_before refuse h = tt
real_before skip h = absurd (false-true h)

-- an expression begins as a unary one
pub opens_unary : (tokens : List Token) (at : ℕ) (p : Part) (parts behind : List Part) → ((kind : Option Kind) → act p kind ≡ before (unary_action kind) parts) → Starts (token_kind tokens at) → reach tokens at (p ∷ behind) ≡ reach tokens at (P.unary ∷ parts ++ behind)
opens_unary tokens at p parts behind is starts = opens tokens at p P.unary parts behind (is (token_kind tokens at)) (real (unary_action (token_kind tokens at)) starts)

skip_operators : (tokens : List Token) (at : ℕ) (least : ℕ) (behind : List Part) → operator_level (token_kind tokens at) < least → reach tokens at (P.operators least ∷ behind) ≡ reach tokens at behind
skip_operators tokens at least behind low = skipped tokens at (P.operators least) behind
    (ap (λ (b : Bool). if b then skip else take_it 1 (P.binary (operator_level (token_kind tokens at) + 1) ∷ P.operators least ∷ [])) (lt-ltb (operator_level (token_kind tokens at)) least low))

skip_choice : (tokens : List Token) (at : ℕ) (behind : List Part) → has (token_kind tokens at) M.Question ≡ false → reach tokens at (P.choice_or_none ∷ behind) ≡ reach tokens at behind
skip_choice tokens at behind none = skipped tokens at P.choice_or_none behind (ap (λ (b : Bool). if b then take_it 1 (P.expression ∷ P.operator M.Colon ∷ P.choice ∷ []) else skip) none)

-- a binary operator that binds strongly enough is taken
take_operator : {tokens : List Token} {at next : ℕ} {place : Place} (op : BinaryOp) (least : ℕ) (behind : List Part) → least ≤ binary_level op → StandsMark tokens at (binary_mark op) place next → reach tokens at (P.operators least ∷ behind) ≡ reach tokens next (P.binary (binary_level op + 1) ∷ P.operators least ∷ behind)
take_operator op least behind low s = taken (P.operators least) behind s
    (ap (λ (b : Bool). if b then skip else take_it 1 (P.binary (binary_level op + 1) ∷ P.operators least ∷ [])) (le-ltb (binary_level op) least low))

-- what can stand behind a unary expression, where none of the assignment operators does
pub no_assignment : (tokens : List Token) (behind : List Part) → GoesAs tokens 2 P.behind_unary behind (P.choice_or_none ∷ behind)
no_assignment tokens behind at none = by (nat_lt (operator_level (token_kind tokens at)) 2) refl where
  by : (low : Bool) → nat_lt (operator_level (token_kind tokens at)) 2 ≡ low → reach tokens at (P.behind_unary ∷ behind) ≡ reach tokens at (P.operators 2 ∷ P.choice_or_none ∷ behind)
  by true low = same_act tokens at P.behind_unary P.choice_or_none behind (rw (none, low) refl) ∙ sym (skip_operators tokens at 2 (P.choice_or_none ∷ behind) (ltb-true (operator_level (token_kind tokens at)) 2 low))
  by false low = opens tokens at P.behind_unary (P.operators 2) (P.choice_or_none ∷ []) behind (rw (none, low) refl) (rw low tt)

-- the stronger readings give the weaker ones
from_choice : (tokens : List Token) (from to : ℕ) (e : Expr) → Starts (token_kind tokens from) → (Quiet (token_kind tokens to) → (p : Part) (parts behind : List Part) → GoesAs tokens 2 p parts (P.choice_or_none ∷ behind) → reach tokens from (P.unary ∷ p ∷ parts) ≡ reach tokens to behind) → Quiet (token_kind tokens to) → Reads tokens from P.expression to
from_choice tokens from to e starts choice quiet behind = opens_unary tokens from P.expression (P.behind_unary ∷ []) behind (λ kind. refl) starts ∙ choice quiet P.behind_unary behind behind (no_assignment tokens behind)

from_binary : (tokens : List Token) (from to : ℕ) (strength : ℕ) → (EndsAt strength (token_kind tokens to) → (p : Part) (parts behind : List Part) → GoesAs tokens 2 p parts behind → reach tokens from (P.unary ∷ p ∷ parts) ≡ reach tokens to (P.operators 2 ∷ behind)) → Quiet (token_kind tokens to) → (p : Part) (parts behind : List Part) → GoesAs tokens 2 p parts (P.choice_or_none ∷ behind) → reach tokens from (P.unary ∷ p ∷ parts) ≡ reach tokens to behind
from_binary tokens from to strength binary quiet p parts behind goes =
    binary (record { calm = quiet.calm; no_assignment = quiet.no_assignment; level = let none = quiet.no_operator in omega arith }) p parts (P.choice_or_none ∷ behind) goes
    ∙ skip_operators tokens to 2 (P.choice_or_none ∷ behind) (let none = quiet.no_operator in omega arith) ∙ skip_choice tokens to behind quiet.no_question

-- a unary expression
a_unary : {tokens : List Token} {from to : ℕ} (e : Expr) → 13 ≤ strength_of e → Starts (token_kind tokens from) → (14 ≤ strength_of e → act P.behind_name (token_kind tokens to) ≡ skip → (behind : List Part) → reach tokens from (P.unary ∷ behind) ≡ reach tokens to (P.steps ∷ behind)) → (Calm (token_kind tokens to) → Reads tokens from P.unary to) → Readings tokens from e to
a_unary {tokens} {from} {to} e strong starts operand unary = record {
  starts = starts;
  operand = operand;
  unary = λ high. unary;
  binary = λ least two low. binary least;
  choice = λ one. choice;
  expression = from_choice tokens from to e starts choice;
} where
  binary : (least : ℕ) → EndsAt (strength_of e) (token_kind tokens to) → (p : Part) (parts behind : List Part) → GoesAs tokens least p parts behind → reach tokens from (P.unary ∷ p ∷ parts) ≡ reach tokens to (P.operators least ∷ behind)
  binary least ends p parts behind goes = unary ends.calm (p ∷ parts) ∙ goes to ends.no_assignment

  choice : Quiet (token_kind tokens to) → (p : Part) (parts behind : List Part) → GoesAs tokens 2 p parts (P.choice_or_none ∷ behind) → reach tokens from (P.unary ∷ p ∷ parts) ≡ reach tokens to behind
  choice = from_binary tokens from to (strength_of e) (binary 2)

-- an operand, behind which `++` and `--` can stand
an_operand : {tokens : List Token} {from to : ℕ} (e : Expr) → 14 ≤ strength_of e → Starts (token_kind tokens from) → (act P.behind_name (token_kind tokens to) ≡ skip → (behind : List Part) → reach tokens from (P.unary ∷ behind) ≡ reach tokens to (P.steps ∷ behind)) → Readings tokens from e to
an_operand {tokens} {from} {to} e strong starts operand = a_unary e (omega arith) starts (λ high. operand) (λ calm behind. operand calm.no_bracket behind ∙ skipped tokens to P.steps behind calm.no_step)

a_binary : {tokens : List Token} {from to : ℕ} (op : BinaryOp) (left right : Box Expr Global) (p : Place) → Starts (token_kind tokens from) → ((least : ℕ) → 2 ≤ least → least ≤ binary_level op → EndsAt (binary_level op) (token_kind tokens to) → (p : Part) (parts behind : List Part) → GoesAs tokens least p parts behind → reach tokens from (P.unary ∷ p ∷ parts) ≡ reach tokens to (P.operators least ∷ behind)) → Readings tokens from (E.Binary p op left right) to
a_binary {tokens} {from} {to} op left right place starts binary = record {
  starts = starts;
  operand = λ high. absurd (let h : 14 ≤ binary_level op = high in let m = (is_binary op).most in omega arith);
  unary = λ high. absurd (let h : 13 ≤ binary_level op = high in let m = (is_binary op).most in omega arith);
  binary = binary;
  choice = λ one. choice;
  expression = from_choice tokens from to (E.Binary place op left right) starts choice;
} where
  choice : Quiet (token_kind tokens to) → (p : Part) (parts behind : List Part) → GoesAs tokens 2 p parts (P.choice_or_none ∷ behind) → reach tokens from (P.unary ∷ p ∷ parts) ≡ reach tokens to behind
  choice = from_binary tokens from to (binary_level op) (binary 2 (lit≤ tt) (is_binary op).least)

a_choice : {tokens : List Token} {from to : ℕ} (p : Place) (test second third : Box Expr Global) → Starts (token_kind tokens from) → (Quiet (token_kind tokens to) → (p : Part) (parts behind : List Part) → GoesAs tokens 2 p parts (P.choice_or_none ∷ behind) → reach tokens from (P.unary ∷ p ∷ parts) ≡ reach tokens to behind) → Readings tokens from (E.Choice p test second third) to
a_choice {tokens} {from} {to} place test second third starts choice = record {
  starts = starts;
  operand = λ high. absurd (let h : 14 ≤ 1 = high in omega arith);
  unary = λ high. absurd (let h : 13 ≤ 1 = high in omega arith);
  binary = λ least two low. absurd (let h : least ≤ 1 = low in omega arith);
  choice = λ one. choice;
  expression = from_choice tokens from to (E.Choice place test second third) starts choice;
}

an_assignment : {tokens : List Token} {from to : ℕ} (p : Place) (op : AssignOp) (target value : Box Expr Global) → Starts (token_kind tokens from) → (Quiet (token_kind tokens to) → Reads tokens from P.expression to) → Readings tokens from (E.Assign p op target value) to
an_assignment {tokens} {from} {to} place op target value starts expression = record {
  starts = starts;
  operand = λ high. absurd (let h : 14 ≤ 0 = high in omega arith);
  unary = λ high. absurd (let h : 13 ≤ 0 = high in omega arith);
  binary = λ least two low. absurd (let h : least ≤ 0 = low in omega arith);
  choice = λ one. absurd (let h : 1 ≤ 0 = one in omega arith);
  expression = expression;
}

starts_at : {tokens : List Token} {at next : ℕ} {kind : Kind} {place : Place} → Stands tokens at kind place next → Starts (Some kind) → Starts (token_kind tokens at)
starts_at s h = subst {0, 0} Starts (sym s.kind_is) h

-- a mark
pub mark_taken : {tokens : List Token} {at next : ℕ} {m : Mark} {place : Place} → StandsMark tokens at m place next → Reads tokens at (P.mark m) next
mark_taken {m = m} s behind = taken (P.mark m) behind s (takes_mark m)

-- a cast
behind_paren_type : (tokens : List Token) (at : ℕ) (behind : List Part) → is_taken (type_action (token_kind tokens at)) ≡ true → reach tokens at (P.behind_paren ∷ behind) ≡ reach tokens at (P.type ∷ P.close M.RightParen ∷ P.unary ∷ behind)
behind_paren_type tokens at behind starts = opens tokens at P.behind_paren P.type (P.close M.RightParen ∷ P.unary ∷ []) behind (kept (type_action (token_kind tokens at)) _ starts) (real (type_action (token_kind tokens at)) starts) where
  kept : (a other : Action) → is_taken a ≡ true → unless_refused (before a (P.close M.RightParen ∷ P.unary ∷ [])) other ≡ before a (P.close M.RightParen ∷ P.unary ∷ [])
  kept (take_it n parts) other h = refl
  kept (enter p parts) other h = refl
  kept skip other h = refl
  kept refuse other h = absurd (false-true h)

-- brackets
behind_paren_expression : (tokens : List Token) (at : ℕ) (behind : List Part) → Starts (token_kind tokens at) → reach tokens at (P.behind_paren ∷ behind) ≡ reach tokens at (P.expression ∷ P.close M.RightParen ∷ P.steps ∷ behind)
behind_paren_expression tokens at behind starts = opens tokens at P.behind_paren P.expression (P.close M.RightParen ∷ P.steps ∷ []) behind
    (ap (λ (a : Action). unless_refused (before a (P.close M.RightParen ∷ P.unary ∷ [])) (before (act P.expression (token_kind tokens at)) (P.close M.RightParen ∷ P.steps ∷ []))) (no_type (token_kind tokens at) starts))
    (real_before (unary_action (token_kind tokens at)) starts)

read_casts : {tokens : List Token} {from to : ℕ} {casts : List Cast} → AreCasts tokens from casts to → (behind : List Part) → reach tokens from (P.unary ∷ behind) ≡ reach tokens to (P.unary ∷ behind)
read_casts X.no_cast behind = refl
read_casts {tokens} (X.one_more cast before_it open_it words close_it) behind = read_casts before_it behind
    ∙ taken P.unary behind open_it refl ∙ behind_paren_type tokens _ behind (starts_words words) ∙ read_words words (at_token P.int_or_none close_it refl) (at_token P.width_or_none close_it refl) (P.close M.RightParen ∷ P.unary ∷ behind)
    ∙ skipped tokens _ P.shape_or_none (P.close M.RightParen ∷ P.unary ∷ behind) (at_token P.shape_or_none close_it refl) ∙ taken (P.close M.RightParen) (P.unary ∷ behind) close_it refl

calm_at : {tokens : List Token} {at next : ℕ} {m : Mark} {place : Place} → StandsMark tokens at m place next → Calm (Some (K.Mark m)) → Calm (token_kind tokens at)
calm_at s q = subst {0, 0} Calm (sym s.kind_is) q

ends_at : {tokens : List Token} {at next strength : ℕ} {m : Mark} {place : Place} → StandsMark tokens at m place next → EndsAt strength (Some (K.Mark m)) → EndsAt strength (token_kind tokens at)
ends_at {strength = strength} s q = subst {0, 0} (EndsAt strength) (sym s.kind_is) q

level_at : {tokens : List Token} {at next : ℕ} {m : Mark} {place : Place} → StandsMark tokens at m place next → operator_level (token_kind tokens at) ≡ operator_level (Some (K.Mark m))
level_at s = ap operator_level s.kind_is

-- another argument begins
first_argument : (tokens : List Token) (at : ℕ) (behind : List Part) → Starts (token_kind tokens at) → reach tokens at (P.arguments ∷ behind) ≡ reach tokens at (P.expression ∷ P.more_arguments ∷ behind)
first_argument tokens at behind starts = opens tokens at P.arguments P.expression (P.more_arguments ∷ []) behind
    (ap (λ (b : Bool). if b then take_it 0 [] else before (act P.expression (token_kind tokens at)) (P.more_arguments ∷ [])) (apart (token_kind tokens at) M.RightParen refl starts))
    (real_before (unary_action (token_kind tokens at)) starts)

quiet_more : {tokens : List Token} {from to : ℕ} {before list : List Expr} → GoesOn tokens from before list to → Quiet (token_kind tokens to) → Quiet (token_kind tokens from)
quiet_more X.no_more q = q
quiet_more (X.more g comma e) q = quiet_more g (quiet_at comma quiet_comma)

quiet_rest : {tokens : List Token} {from to : ℕ} {before list : List Expr} → IsRest tokens from before list to → Quiet (token_kind tokens from)
quiet_rest (X.rest g close) = quiet_more g (quiet_at close quiet_paren)

quiet_some : (tokens : List Token) (from to : ℕ) (m : Option Mark) → O.IsSomeListed tokens from m to → Quiet (token_kind tokens from)
quiet_some tokens from to None listed = absurd listed
quiet_some tokens from to (Some m) (O.behind_comma comma word) = quiet_at comma quiet_comma

starts_casts : {tokens : List Token} {from to : ℕ} {casts : List Cast} → AreCasts tokens from casts to → Starts (token_kind tokens to) → Starts (token_kind tokens from)
starts_casts X.no_cast h = h
starts_casts (X.one_more cast others open_it words close_it) h = starts_casts others (starts_at open_it refl)

starts_indexes : {tokens : List Token} {from to : ℕ} {p : Place} {list : List Expr} → AreIndexes tokens from p list to → Starts (token_kind tokens from)
starts_indexes (X.first_index (X.index_is open_it e close_it)) = starts_at open_it refl
starts_indexes (X.next_index others index) = starts_indexes others

mutual
  readings : {tokens : List Token} {from to : ℕ} {e : Expr} → IsExpr tokens from e to → Readings tokens from e to
  readings {tokens} {from} (X.assign {p = p} {op = op} target value t strong m v) = let first = readings t in let last = readings v in
      an_assignment p op target value first.starts (λ quiet behind. opens_unary tokens from P.expression (P.behind_unary ∷ []) behind (λ kind. refl) first.starts
      ∙ first.unary strong (calm_at m (calm_assign op)) (P.behind_unary ∷ behind) ∙ taken P.behind_unary behind m (takes_assign op) ∙ last.expression quiet behind)
  readings {tokens} {from} (X.choice {d = d} {p = p} test second third t two q v colon o one) = let first = readings t in let middle = readings v in let last = readings o in
      a_choice p test second third first.starts (λ quiet x parts behind goes. first.binary 2 (lit≤ tt) two (ends_at q (record { calm = record { no_step = refl; no_bracket = refl }; no_assignment = refl; level = omega arith })) x parts (P.choice_or_none ∷ behind) goes
      ∙ skip_operators tokens _ 2 (P.choice_or_none ∷ behind) (let none = level_at q in omega arith) ∙ taken P.choice_or_none behind q refl
      ∙ middle.expression (quiet_at colon quiet_colon) (P.operator M.Colon ∷ P.choice ∷ behind) ∙ taken (P.operator M.Colon) (P.choice ∷ behind) colon refl
      ∙ opens_unary tokens d P.choice (P.operators 2 ∷ P.choice_or_none ∷ []) behind (λ kind. refl) last.starts ∙ last.choice one quiet (P.operators 2) (P.choice_or_none ∷ behind) behind (λ at none. refl))
  readings {tokens} {from} {to} (X.binary {next = next} {p = p} {op = op} left right l low m r strong) = let first = readings l in let last = readings r in
      a_binary op left right p first.starts (λ least two high ends x parts behind goes. first.binary least two (omega arith) (ends_at m (record { calm = (is_binary op).calm; no_assignment = (is_binary op).no_assignment; level = low })) x parts behind goes
      ∙ take_operator op least behind high m ∙ opens_unary tokens next (P.binary (binary_level op + 1)) (P.operators (binary_level op + 1) ∷ []) (P.operators least ∷ behind) (λ kind. refl) last.starts
      ∙ last.binary (binary_level op + 1) (omega arith) (omega arith) (record { calm = ends.calm; no_assignment = ends.no_assignment; level = let e = ends.level in omega arith }) (P.operators (binary_level op + 1)) (P.operators least ∷ behind) (P.operators least ∷ behind) (λ at none. refl)
      ∙ skip_operators tokens to (binary_level op + 1) (P.operators least ∷ behind) (let e = ends.level in omega arith))
  readings (X.prefix {p = p} {op = op} operand m o strong) = let inner = readings o in
      a_unary (E.Prefix p op operand) (lit≤ tt) (starts_at m (ap is_taken (takes_prefix op))) (λ high. absurd (let h : 14 ≤ 13 = high in omega arith)) (λ calm behind. taken P.unary behind m (takes_prefix op) ∙ inner.unary strong calm behind)
  readings (X.casts chain operand some casts o strong single) = let inner = readings o in
      a_unary (E.Casts chain operand) (lit≤ tt) (starts_casts casts inner.starts) (λ high. absurd (let h : 14 ≤ 13 = high in omega arith)) (λ calm behind. read_casts casts behind ∙ inner.unary strong calm behind)
  readings {tokens} (X.parallel_cast {a = a} {p = p} {type_name = t} operand open_it type some close_it o strong) = let inner = readings o in
      a_unary (E.ParallelCast p t operand) (lit≤ tt) (starts_at open_it refl) (λ high. absurd (let h : 14 ≤ 13 = high in omega arith)) (λ calm behind. taken P.unary behind open_it refl ∙ behind_paren_type tokens a behind (starts_type type)
      ∙ read_type type (ends_type close_it paren_ends_type) (P.close M.RightParen ∷ P.unary ∷ behind) ∙ taken (P.close M.RightParen) (P.unary ∷ behind) close_it refl ∙ inner.unary strong calm behind)
  readings (X.postfix {p = p} {op = op} operand o strong m) = let inner = readings o in
      an_operand (E.Postfix p op operand) (lit≤ tt) inner.starts (λ none behind. inner.operand strong (at_token P.behind_name m (step_behind op)) behind ∙ taken P.steps behind m (takes_step op))
  readings {tokens} {to = to} (X.name {n = n} s) = an_operand (E.Name n) (lit≤ tt) (starts_at s refl) (λ none behind. taken P.unary behind s refl ∙ skipped tokens to P.behind_name (P.steps ∷ behind) none)
  readings (X.element {n = n} {bracket = bracket} index s i) = an_operand (E.Element n bracket index) (lit≤ tt) (starts_at s refl) (λ none behind. taken P.unary behind s refl ∙ read_index P.behind_name [] refl i (P.steps ∷ behind))
  readings (X.number {value = value} {unsigned = u} {p = p} s) = an_operand (E.Number p value u) (lit≤ tt) (starts_at s refl) (λ none behind. taken P.unary behind s refl)
  readings (X.dot {p = p} s) = an_operand (E.Dot p) (lit≤ tt) (starts_at s refl) (λ none behind. taken P.unary behind s refl)
  readings {tokens} (X.brackets {a = a} {p = p} inner open_it x close_it) = let r = readings x in
      an_operand (E.Brackets p inner) (lit≤ tt) (starts_at open_it refl) (λ none behind. taken P.unary behind open_it refl ∙ behind_paren_expression tokens a behind r.starts ∙ r.expression (quiet_at close_it quiet_paren) (P.close M.RightParen ∷ P.steps ∷ behind) ∙ taken (P.close M.RightParen) (P.steps ∷ behind) close_it refl)
  readings (X.call {n = n} arguments s list) = an_operand (E.Call n arguments) (lit≤ tt) (starts_at s refl) (λ none behind. taken P.unary behind s refl ∙ read_arguments list (P.steps ∷ behind))
  readings (X.left_index {p = p} {n = n} indexes list s) = an_operand (E.LeftIndex p indexes n) (lit≤ tt) (starts_indexes list) (λ none behind. read_indexes list behind ∙ taken P.indexes (P.steps ∷ behind) s refl)
  readings (X.pcoord {p = p} axis word open_it x close_it) = let r = readings x in
      an_operand (E.Pcoord p axis) (lit≤ tt) (starts_at word refl) (λ none behind. taken P.unary behind word refl ∙ taken (P.operands_of M.Pcoord) (P.steps ∷ behind) open_it refl ∙ r.expression (quiet_at close_it quiet_paren) (P.close M.RightParen ∷ P.steps ∷ behind) ∙ taken (P.close M.RightParen) (P.steps ∷ behind) close_it refl)
  readings (X.positions_of {p = p} {shape = shape} word (O.bracketed open_it s close_it)) = an_operand (E.PositionsOf p shape) (lit≤ tt) (starts_at word refl) (λ none behind. taken P.unary behind word refl ∙ taken (P.operands_of M.PositionsOf) (P.steps ∷ behind) open_it refl ∙ read_shape s (P.close M.RightParen ∷ P.steps ∷ behind) ∙ taken (P.close M.RightParen) (P.steps ∷ behind) close_it refl)
  readings (X.rank_of {p = p} {shape = shape} word (O.bracketed open_it s close_it)) = an_operand (E.RankOf p shape) (lit≤ tt) (starts_at word refl) (λ none behind. taken P.unary behind word refl ∙ taken (P.operands_of M.RankOf) (P.steps ∷ behind) open_it refl ∙ read_shape s (P.close M.RightParen ∷ P.steps ∷ behind) ∙ taken (P.close M.RightParen) (P.steps ∷ behind) close_it refl)
  readings (X.dim_of {p = p} {shape = shape} axis word open_it s comma x close_it) = let r = readings x in
      an_operand (E.DimOf p shape axis) (lit≤ tt) (starts_at word refl) (λ none behind. taken P.unary behind word refl ∙ taken (P.operands_of M.DimOf) (P.steps ∷ behind) open_it refl ∙ read_shape s (P.mark M.Comma ∷ P.expression ∷ P.close M.RightParen ∷ P.steps ∷ behind) ∙ mark_taken comma (P.expression ∷ P.close M.RightParen ∷ P.steps ∷ behind)
      ∙ r.expression (quiet_at close_it quiet_paren) (P.close M.RightParen ∷ P.steps ∷ behind) ∙ taken (P.close M.RightParen) (P.steps ∷ behind) close_it refl)
  readings {tokens} (X.scan {p = p} source axis {combiner} {direction} {mode} {bit} {inclusion} word open_it x comma y (O.scan_options c d m b i close_it)) = let r = readings x in let t = readings y in
      an_operand (E.Scan p source axis combiner direction mode bit inclusion) (lit≤ tt) (starts_at word refl) (λ none behind. taken P.unary behind word refl ∙ taken (P.operands_of M.Scan) (P.steps ∷ behind) open_it refl ∙ r.expression (quiet_at comma quiet_comma) (P.mark M.Comma ∷ P.expression ∷ scan_options ++ P.steps ∷ behind)
      ∙ mark_taken comma (P.expression ∷ scan_options ++ P.steps ∷ behind) ∙ t.expression (quiet_some tokens _ _ (O.combiner_mark combiner) c) (scan_options ++ P.steps ∷ behind) ∙ read_scan_options (O.scan_options c d m b i close_it) (P.steps ∷ behind))
  readings (X.enumerate {p = p} axis {direction} {inclusion} {mode} {bit} word open_it x (O.enumerate_options (O.behind_comma comma upward) i m b close_it)) = let r = readings x in
      an_operand (E.Enumerate p axis direction inclusion mode bit) (lit≤ tt) (starts_at word refl) (λ none behind. taken P.unary behind word refl ∙ taken (P.operands_of M.Enumerate) (P.steps ∷ behind) open_it refl
      ∙ r.expression (quiet_at comma quiet_comma) (enumerate_options ++ P.steps ∷ behind) ∙ read_enumerate_options (O.enumerate_options (O.behind_comma comma upward) i m b close_it) (P.steps ∷ behind))
  readings (X.printf {p = p} {text = text} arguments word open_it (O.text_is s) list) = an_operand (E.Printf p text arguments) (lit≤ tt) (starts_at word refl) (λ none behind. taken P.unary behind word refl ∙ taken (P.operands_of M.Printf) (P.steps ∷ behind) open_it refl ∙ taken P.text (P.more_arguments ∷ P.steps ∷ behind) s refl ∙ read_rest list (P.steps ∷ behind))
  readings (X.getchar {p = p} word open_it close_it) = an_operand (E.GetChar p) (lit≤ tt) (starts_at word refl) (λ none behind. taken P.unary behind word refl ∙ taken (P.operands_of M.GetChar) (P.steps ∷ behind) open_it refl ∙ taken (P.close M.RightParen) (P.steps ∷ behind) close_it refl)

  read_more : {tokens : List Token} {from to : ℕ} {before list : List Expr} → GoesOn tokens from before list to → Quiet (token_kind tokens to) → (behind : List Part) → reach tokens from (P.more_arguments ∷ behind) ≡ reach tokens to (P.more_arguments ∷ behind)
  read_more X.no_more q behind = refl
  read_more (X.more g comma e) q behind = read_more g (quiet_at comma quiet_comma) behind ∙ taken P.more_arguments behind comma refl ∙ (readings e).expression q (P.more_arguments ∷ behind)

  read_rest : {tokens : List Token} {from to : ℕ} {before list : List Expr} → IsRest tokens from before list to → Reads tokens from P.more_arguments to
  read_rest (X.rest g close_it) behind = read_more g (quiet_at close_it quiet_paren) behind ∙ taken P.more_arguments behind close_it refl

  read_arguments : {tokens : List Token} {from to : ℕ} {list : List Expr} → AreArguments tokens from list to → Reads tokens from P.behind_name to
  read_arguments (X.no_arguments open_it close_it) behind = taken P.behind_name behind open_it refl ∙ taken P.arguments behind close_it refl
  read_arguments {tokens} (X.some_arguments {a = a} open_it first others) behind = let r = readings first in
      taken P.behind_name behind open_it refl ∙ first_argument tokens a behind r.starts ∙ r.expression (quiet_rest others) (P.more_arguments ∷ behind) ∙ read_rest others behind

  read_index : {tokens : List Token} {from to : ℕ} {place : Place} {e : Expr} (p : Part) (more : List Part) → act p (Some (K.Mark M.LeftBracket)) ≡ take_it 0 (P.expression ∷ P.close M.RightBracket ∷ more) → IsIndex tokens from place e to → (behind : List Part) → reach tokens from (p ∷ behind) ≡ reach tokens to (more ++ behind)
  read_index p more is (X.index_is open_it e close_it) behind = taken p behind open_it is ∙ (readings e).expression (quiet_at close_it quiet_bracket) (P.close M.RightBracket ∷ more ++ behind) ∙ taken (P.close M.RightBracket) (more ++ behind) close_it refl

  read_indexes : {tokens : List Token} {from to : ℕ} {place : Place} {list : List Expr} → AreIndexes tokens from place list to → (behind : List Part) → reach tokens from (P.unary ∷ behind) ≡ reach tokens to (P.indexes ∷ P.steps ∷ behind)
  read_indexes (X.first_index index) behind = read_index P.unary (P.indexes ∷ P.steps ∷ []) refl index behind
  read_indexes (X.next_index others index) behind = read_indexes others behind ∙ read_index P.indexes (P.indexes ∷ []) refl index (P.steps ∷ behind)

pub read_expression : {tokens : List Token} {from to : ℕ} {e : Expr} → IsExpr tokens from e to → Quiet (token_kind tokens to) → Reads tokens from P.expression to
read_expression x = (readings x).expression

pub starts_expression : {tokens : List Token} {from to : ℕ} {e : Expr} → IsExpr tokens from e to → Starts (token_kind tokens from)
starts_expression x = (readings x).starts
