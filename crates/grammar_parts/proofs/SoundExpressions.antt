-- What the open parts of expressions say at a token.
use Rattle.std.proofs.Common.{◌≡◌, ℕ, ◌+◌, ◌≤◌, ◌<◌, ◌^◌, Bool, true, false, List, [], ◌∷◌, if◌then◌else◌, length, Option, Some, Box, Vec, arith, lit≤, refl, sym, subst}
use denote.RawPtr.{null_ptr}
use Rattle.std.proofs.lemmas.Bool.{ltb-true, ltb-false}
use Rattle.std.specs.Prelude.{nat_lt}
use Rattle.std.specs.declared.alloc.Global.{Global}
use Rattle.cstar_base.specs.declared.operators.Op.TheVariants as O
use Rattle.cstar_base.specs.declared.operators.Place.{Place}
use Rattle.cstar_tree.specs.declared.token.Token.{Token}
use Rattle.cstar_tree.specs.declared.token.Kind.{Kind}
use Rattle.cstar_tree.specs.declared.token.Kind.TheVariants as K
use Rattle.cstar_tree.specs.declared.token.Mark.{Mark}
use Rattle.cstar_tree.specs.declared.token.Mark.TheVariants as M
use Rattle.cstar_tree.specs.declared.syntax.AssignOp.{AssignOp}
use Rattle.cstar_tree.specs.declared.syntax.BinaryOp.{BinaryOp}
use Rattle.cstar_tree.specs.declared.syntax.BinaryOp.TheVariants as B
use Rattle.cstar_tree.specs.declared.syntax.Expr.{Expr}
use Rattle.cstar_tree.specs.declared.syntax.Expr as E
use Rattle.cstar_tree.specs.declared.syntax.PrefixOp.{PrefixOp}
use Rattle.cstar_tree.specs.declared.syntax.PrefixOp.TheVariants as F
use Rattle.cstar_tree.specs.declared.syntax.ReduceOp.TheVariants as R
use Rattle.cstar_tree.specs.declared.syntax.StepOp.{StepOp}
use Rattle.cstar_tree.specs.declared.syntax.StepOp.TheVariants as S
use Rattle.cstar_tree.specs.Positions.{Stands, StandsMark}
use Rattle.cstar_tree.specs.Operators.{assign_mark, binary_level, binary_mark, operator_level, prefix_mark, step_mark}
use Rattle.cstar_tree.specs.Expressions.{AreCasts, AreIndexes, GoesOn, IsExpr, IsRest, is_chain, strength_of}
use Rattle.cstar_tree.specs.Expressions as X
use Rattle.grammar_parts.specs.Parts.{Part, Action, take_it, enter, skip, refuse, before, or_else, unless_refused}
use Rattle.grammar_parts.specs.Parts as P
use Rattle.grammar_parts.specs.Actions.{IsReal, act, choice_action, operators_action, type_action, unary_action}
use Rattle.grammar_parts.proofs.Meanings.{AllMean, Behind, Gives, Intrinsic, Spelt, Unary, chain_length, means}
use Rattle.grammar_parts.proofs.Words.{is_binary}

abbrev pub boxed : Global → Expr → Box Expr Global
boxed heap e = record { ptr = null_ptr; alloc = heap; value = e }

abbrev pub vec : (A : Type 0) → Global → (es : List A) → length es < 2 ^ 41 → Vec A Global
vec A heap es few = record { items = es; ptr = null_ptr; len = length es; cap = length es; alloc = heap; ok = (refl, omega arith); small = omega arith }

chain_zero : (e : Expr) → 14 ≤ strength_of e → chain_length e ≡ 0
chain_zero (E.Casts' chain hidden operand) high = absurd (let h : 14 ≤ 13 = high in omega arith)
chain_zero other high = refl

pub an_operand : {tokens : List Token} {from to : ℕ} → from ≤ to → Spelt tokens from 14 to → Unary tokens from to
an_operand below s = let high = s.strong in record { found = record { expr = s.expr; spelled = s.spelled; strong = omega arith }; short = let none = chain_zero s.expr s.strong in omega arith }

-- a postfix chain behind an operand
stepped_from : {tokens : List Token} {from mid to : ℕ} → Spelt tokens from 14 mid → Behind tokens mid to 14 14 → Spelt tokens from 14 to
stepped_from {from = from} s steps = steps from s.expr s.spelled s.strong

prefixed : {tokens : List Token} {at to : ℕ} {place : Place} → Global → (op : PrefixOp) → StandsMark tokens at (prefix_mark op) place (at + 1) → (at + 1 ≤ to) × Unary tokens (at + 1) to → Unary tokens at to
prefixed {place = place} heap op s rest = let u = rest.1.found in let below = rest.0 in record {
  found = record { expr = E.Prefix place op (boxed heap u.expr); spelled = X.prefix (boxed heap u.expr) s u.spelled u.strong; strong = lit≤ tt };
  short = omega arith;
}

indexed : {tokens : List Token} {at to : ℕ} {place : Place} → Global → to ≤ 2 ^ 40 → StandsMark tokens at M.LeftBracket place (at + 1) → AllMean tokens (P.expression ∷ P.close M.RightBracket ∷ P.indexes ∷ P.steps ∷ []) (at + 1) to → Unary tokens at to
indexed {tokens} {at} {to} {place} heap below s rest =
    let e = rest.2 in let close = rest.3.2.1 in let more = rest.3.3.2 in let one = rest.1 in let two = rest.3.1 in let three = rest.3.3.1 in let four = rest.3.3.3.0 in
    let all = more at place (e.expr ∷ []) (X.first_index (X.index_is s e.spelled close)) (omega arith) in
    let few : length all.0 < 2 ^ 41 = (let f = all.6 in omega arith) in
    an_operand (omega arith) (stepped_from (record { expr = E.LeftIndex place (vec Expr heap all.0 few) (record { word = all.2; place = all.3 }); spelled = X.left_index (vec Expr heap all.0 few) all.4 all.5; strong = lit≤ tt }) rest.3.3.3.1)

intrinsic : {tokens : List Token} {at to : ℕ} {place : Place} (m : Mark) → Intrinsic m ≡ true → StandsMark tokens at m place (at + 1) → AllMean tokens (P.operands_of m ∷ P.steps ∷ []) (at + 1) to → Unary tokens at to
intrinsic {at = at} {place = place} m known s rest = let one = rest.1 in let two = rest.3.0 in an_operand (omega arith) (stepped_from (rest.2 known at place s) rest.3.1)

pub sound_unary : Global → (tokens : List Token) (at : ℕ) (kind : Kind) (place : Place) → Stands tokens at kind place (at + 1) → Gives tokens at 4 P.unary (unary_action (Some kind))
sound_unary heap tokens at (K.Name word) place s = (lit≤ tt, refl, λ to below rest. let one = rest.1 in let two = rest.3.0 in an_operand (omega arith) (stepped_from (rest.2 at word place s) rest.3.1))
sound_unary heap tokens at (K.Num v u) place s = (lit≤ tt, refl, λ to below rest. let one = rest.0 in an_operand (omega arith) (rest.1 at (E.Number place v u) (X.number s) (lit≤ tt)))
sound_unary heap tokens at (K.Mark M.Dot) place s = (lit≤ tt, refl, λ to below rest. let one = rest.0 in an_operand (omega arith) (rest.1 at (E.Dot place) (X.dot s) (lit≤ tt)))
sound_unary heap tokens at (K.Mark M.LeftParen) place s = (lit≤ tt, refl, λ to below rest. rest.1 at place s rest.0)
sound_unary heap tokens at (K.Mark M.LeftBracket) place s = (lit≤ tt, refl, λ to below rest. indexed heap below s rest)
sound_unary heap tokens at (K.Mark M.Pcoord) place s = (lit≤ tt, refl, λ to below rest. intrinsic M.Pcoord refl s rest)
sound_unary heap tokens at (K.Mark M.PositionsOf) place s = (lit≤ tt, refl, λ to below rest. intrinsic M.PositionsOf refl s rest)
sound_unary heap tokens at (K.Mark M.RankOf) place s = (lit≤ tt, refl, λ to below rest. intrinsic M.RankOf refl s rest)
sound_unary heap tokens at (K.Mark M.DimOf) place s = (lit≤ tt, refl, λ to below rest. intrinsic M.DimOf refl s rest)
sound_unary heap tokens at (K.Mark M.Scan) place s = (lit≤ tt, refl, λ to below rest. intrinsic M.Scan refl s rest)
sound_unary heap tokens at (K.Mark M.Enumerate) place s = (lit≤ tt, refl, λ to below rest. intrinsic M.Enumerate refl s rest)
sound_unary heap tokens at (K.Mark M.Printf) place s = (lit≤ tt, refl, λ to below rest. intrinsic M.Printf refl s rest)
sound_unary heap tokens at (K.Mark M.GetChar) place s = (lit≤ tt, refl, λ to below rest. intrinsic M.GetChar refl s rest)
sound_unary heap tokens at (K.Mark M.Plus) place s = (lit≤ tt, refl, λ to below rest. prefixed heap F.Plus s rest)
sound_unary heap tokens at (K.Mark M.Minus) place s = (lit≤ tt, refl, λ to below rest. prefixed heap F.Minus s rest)
sound_unary heap tokens at (K.Mark M.Tilde) place s = (lit≤ tt, refl, λ to below rest. prefixed heap F.Complement s rest)
sound_unary heap tokens at (K.Mark M.Exclamation) place s = (lit≤ tt, refl, λ to below rest. prefixed heap F.Not s rest)
sound_unary heap tokens at (K.Mark M.PlusPlus) place s = (lit≤ tt, refl, λ to below rest. prefixed heap (F.Step S.Increment) s rest)
sound_unary heap tokens at (K.Mark M.MinusMinus) place s = (lit≤ tt, refl, λ to below rest. prefixed heap (F.Step S.Decrement) s rest)
sound_unary heap tokens at (K.Mark M.PlusEqual) place s = (lit≤ tt, refl, λ to below rest. prefixed heap (F.Reduce R.Add) s rest)
sound_unary heap tokens at (K.Mark M.MinusEqual) place s = (lit≤ tt, refl, λ to below rest. prefixed heap (F.Reduce R.Sub) s rest)
sound_unary heap tokens at (K.Mark M.AmpersandEqual) place s = (lit≤ tt, refl, λ to below rest. prefixed heap (F.Reduce R.And) s rest)
sound_unary heap tokens at (K.Mark M.CaretEqual) place s = (lit≤ tt, refl, λ to below rest. prefixed heap (F.Reduce R.Xor) s rest)
sound_unary heap tokens at (K.Mark M.PipeEqual) place s = (lit≤ tt, refl, λ to below rest. prefixed heap (F.Reduce R.Or) s rest)
sound_unary heap tokens at (K.Mark M.LessQuestionEqual) place s = (lit≤ tt, refl, λ to below rest. prefixed heap (F.Reduce R.Min) s rest)
sound_unary heap tokens at (K.Mark M.GreaterQuestionEqual) place s = (lit≤ tt, refl, λ to below rest. prefixed heap (F.Reduce R.Max) s rest)
sound_unary heap tokens at other place s = tt

stepped_by : {tokens : List Token} {at to : ℕ} {place : Place} → Global → (op : StepOp) → StandsMark tokens at (step_mark op) place (at + 1) → (at + 1 ≤ to) × Behind tokens (at + 1) to 14 14 → Behind tokens at to 14 14
stepped_by {place = place} heap op s rest begin e x strong = rest.1 begin (E.Postfix place op (boxed heap e)) (X.postfix (boxed heap e) x strong s) (lit≤ tt)

pub sound_steps : Global → (tokens : List Token) (at : ℕ) (kind : Kind) (place : Place) → Stands tokens at kind place (at + 1) → Gives tokens at 1 P.steps (act P.steps (Some kind))
sound_steps heap tokens at (K.Mark M.PlusPlus) place s = (lit≤ tt, refl, λ to below rest. stepped_by heap S.Increment s rest)
sound_steps heap tokens at (K.Mark M.MinusMinus) place s = (lit≤ tt, refl, λ to below rest. stepped_by heap S.Decrement s rest)
sound_steps heap tokens at other place s = λ begin e x strong. record { expr = e; spelled = x; strong = strong }

pub sound_behind_name : Global → (tokens : List Token) (at : ℕ) (kind : Kind) (place : Place) → Stands tokens at kind place (at + 1) → Gives tokens at 2 P.behind_name (act P.behind_name (Some kind))
sound_behind_name heap tokens at (K.Mark M.LeftBracket) place s = (lit≤ tt, refl, λ to below rest. λ begin word p name. record { expr = E.Element (record { word = word; place = p }) place (boxed heap rest.2.expr); spelled = X.element (boxed heap rest.2.expr) name (X.index_is s rest.2.spelled rest.3.1.1); strong = lit≤ tt })
sound_behind_name heap tokens at (K.Mark M.LeftParen) place s = (
  lit≤ tt,
  refl,
  λ to below rest. λ begin word p name. let a = rest.1 at place s in let few : length a.0 < 2 ^ 41 = (let f = a.2 in omega arith) in
      record { expr = E.Call (record { word = word; place = p }) (vec Expr heap a.0 few); spelled = X.call (vec Expr heap a.0 few) name a.1; strong = lit≤ tt },
)
sound_behind_name heap tokens at other place s = λ begin word p name. record { expr = E.Name (record { word = word; place = p }); spelled = X.name name; strong = lit≤ tt }

-- operators
pub assigned : {tokens : List Token} {at to : ℕ} {place : Place} → Global → (op : AssignOp) → StandsMark tokens at (assign_mark op) place (at + 1) → (at + 1 ≤ to) × Spelt tokens (at + 1) 0 to → Behind tokens at to 13 0
assigned {place = place} heap op s rest begin e x strong = record { expr = E.Assign place op (boxed heap e) (boxed heap rest.1.expr); spelled = X.assign (boxed heap e) (boxed heap rest.1.expr) x strong s rest.1.spelled; strong = omega arith }

operated : {tokens : List Token} {at to least : ℕ} {place : Place} → Global → (op : BinaryOp) → StandsMark tokens at (binary_mark op) place (at + 1) → least ≤ binary_level op → AllMean tokens (P.binary (binary_level op + 1) ∷ P.operators least ∷ []) (at + 1) to → means tokens (P.operators least) at to
operated {tokens} {place = place} heap op s low rest two begin e x strong level =
    let b = is_binary op in let l = b.least in let m = b.most in
    let right = rest.2 (omega arith) (omega arith) in
    let here : binary_level op ≤ strength_of e = subst {0, 0} (λ (k : Option Kind). operator_level k ≤ strength_of e) s.kind_is level in
    let stronger : binary_level op < strength_of right.0.expr = (let r = right.0.strong in omega arith) in
    rest.3.1 two begin (E.Binary place op (boxed heap e) (boxed heap right.0.expr)) (X.binary (boxed heap e) (boxed heap right.0.expr) x here s right.0.spelled stronger) low (let r = right.1 in let same : strength_of (E.Binary place op (boxed heap e) (boxed heap right.0.expr)) ≡ binary_level op = refl in omega arith)

operator_of : (kind : Kind) → 1 ≤ operator_level (Some kind) → (op : BinaryOp) × (K.Mark (binary_mark op) ≡ kind)
operator_of (K.Mark M.OrOr) h = (B.LogicalOr, refl)
operator_of (K.Mark M.AndAnd) h = (B.LogicalAnd, refl)
operator_of (K.Mark M.Pipe) h = (B.Number O.Or, refl)
operator_of (K.Mark M.Caret) h = (B.Number O.Xor, refl)
operator_of (K.Mark M.Ampersand) h = (B.Number O.And, refl)
operator_of (K.Mark M.EqualEqual) h = (B.Number O.Eq, refl)
operator_of (K.Mark M.NotEqual) h = (B.Number O.Ne, refl)
operator_of (K.Mark M.Less) h = (B.Number O.Lt, refl)
operator_of (K.Mark M.Greater) h = (B.Number O.Gt, refl)
operator_of (K.Mark M.LessEqual) h = (B.Number O.Le, refl)
operator_of (K.Mark M.GreaterEqual) h = (B.Number O.Ge, refl)
operator_of (K.Mark M.LessQuestion) h = (B.Number O.Min, refl)
operator_of (K.Mark M.GreaterQuestion) h = (B.Number O.Max, refl)
operator_of (K.Mark M.ShiftLeft) h = (B.Number O.Shl, refl)
operator_of (K.Mark M.ShiftRight) h = (B.Number O.Shr, refl)
operator_of (K.Mark M.Plus) h = (B.Number O.Add, refl)
operator_of (K.Mark M.Minus) h = (B.Number O.Sub, refl)
operator_of (K.Mark M.Star) h = (B.Number O.Mul, refl)
operator_of (K.Mark M.Slash) h = (B.Number O.Div, refl)
operator_of (K.Mark M.Percent) h = (B.Number O.Rem, refl)
operator_of (K.Mark M.PercentPercent) h = (B.Number O.Mod, refl)
operator_of other h = absurd (let none : 1 ≤ 0 = h in omega arith)

pub level_most : (kind : Option Kind) → operator_level kind ≤ 12
level_most (Some (K.Mark M.OrOr)) = lit≤ tt
level_most other = lit≤ tt

pub sound_operators : Global → (tokens : List Token) (at : ℕ) (kind : Kind) (place : Place) (least : ℕ) → Stands tokens at kind place (at + 1) → Gives tokens at 2 (P.operators least) (operators_action least (Some kind))
sound_operators heap tokens at kind place least s = by (nat_lt (operator_level (Some kind)) least) refl where
  by : (low : Bool) → nat_lt (operator_level (Some kind)) least ≡ low → Gives tokens at 2 (P.operators least) (if low then skip else take_it 1 (P.binary (operator_level (Some kind) + 1) ∷ P.operators least ∷ []))
  by true low = λ two begin e x strong level. (record { expr = e; spelled = x; strong = strong }, subst {0, 0} (λ (k : Option Kind). operator_level k < least) (sym s.kind_is) (ltb-true (operator_level (Some kind)) least low))
  by false low = (
    lit≤ tt,
    refl,
    λ to below rest. λ two. (let high = ltb-false (operator_level (Some kind)) least low in
        let found = operator_of kind (omega arith) in
        subst {0, 0} (λ (k : Kind). Stands tokens at k place (at + 1) → least ≤ operator_level (Some k) → AllMean tokens (P.binary (operator_level (Some k) + 1) ∷ P.operators least ∷ []) (at + 1) to → means tokens (P.operators least) at to) found.1 (operated heap found.0) s high rest two),
  )

pub sound_choice_or_none : Global → (tokens : List Token) (at : ℕ) (kind : Kind) (place : Place) → Stands tokens at kind place (at + 1) → Gives tokens at 3 P.choice_or_none (choice_action (Some kind))
sound_choice_or_none heap tokens at (K.Mark M.Question) place s = (
  lit≤ tt,
  refl,
  λ to below rest. λ begin e x two. let v = rest.2 in let o = rest.3.3.1 in
      record { expr = E.Choice place (boxed heap e) (boxed heap v.expr) (boxed heap o.expr); spelled = X.choice (boxed heap e) (boxed heap v.expr) (boxed heap o.expr) x two s v.spelled rest.3.2.1 o.spelled o.strong; strong = lit≤ tt },
)
sound_choice_or_none heap tokens at other place s = λ begin e x two. record { expr = e; spelled = x; strong = omega arith }

pub unary_real : (kind : Option Kind) → IsReal (unary_action kind)
unary_real (Some (K.Mark M.Dot)) = tt
unary_real other = tt

pub type_real : (kind : Option Kind) → IsReal (type_action kind)
type_real (Some (K.Mark M.Bool)) = tt
type_real other = tt

pub before_real : (a : Action) (more : List Part) → IsReal a → IsReal (before a more)
before_real (take_it n parts) more r = tt
before_real (enter p parts) more r = tt
before_real refuse more r = tt
before_real skip more r = absurd r
