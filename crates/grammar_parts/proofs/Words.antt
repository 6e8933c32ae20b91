-- What the open parts do at the tokens of the grammar.
use Rattle.std.proofs.Common.{◌≡◌, ℕ, ◌≤◌, Bool, true, false, List, [], ◌∷◌, Option, Some, None, lit≤, refl, sym, ap, subst, ◌∙◌}
use denote.Enum.Bare.{true_same, false_same}
use Rattle.std.proofs.Common.{rules, if◌then◌else◌}
use Rattle.cstar_base.specs.declared.operators.Place.{Place}
use Rattle.cstar_base.specs.declared.operators.Op.TheVariants as O
use Rattle.cstar_tree.specs.contracts.token.Mark.{the_type}
use Rattle.cstar_tree.specs.declared.token.Token.{Token}
use Rattle.cstar_tree.specs.declared.token.Kind.{Kind}
use Rattle.cstar_tree.specs.declared.token.Kind.TheVariants as K
use Rattle.cstar_tree.specs.declared.token.Mark.{Mark}
use Rattle.cstar_tree.specs.declared.token.Mark.TheVariants as M
use Rattle.cstar_tree.specs.declared.syntax.AssignOp.{AssignOp}
use Rattle.cstar_tree.specs.declared.syntax.AssignOp.TheVariants as A
use Rattle.cstar_tree.specs.declared.syntax.BinaryOp.{BinaryOp}
use Rattle.cstar_tree.specs.declared.syntax.BinaryOp.TheVariants as B
use Rattle.cstar_tree.specs.declared.syntax.PrefixOp.{PrefixOp}
use Rattle.cstar_tree.specs.declared.syntax.PrefixOp.TheVariants as F
use Rattle.cstar_tree.specs.declared.syntax.StepOp.{StepOp}
use Rattle.cstar_tree.specs.declared.syntax.StepOp.TheVariants as S
use Rattle.cstar_tree.specs.declared.syntax.ReduceOp.TheVariants as R
use Rattle.cstar_tree.specs.Positions.{StandsMark, token_kind}
use Rattle.cstar_tree.specs.Operators.{assign_mark, binary_mark, binary_level, operator_level, prefix_mark, step_mark}
use Rattle.grammar_parts.specs.Parts.{Part, Action, take_it, enter, skip, refuse, is_taken}
use Rattle.grammar_parts.specs.Parts as P
use Rattle.grammar_parts.specs.Actions.{act, assigns, has, statement_action, type_action, unary_action, unary_marks}

-- a mark is itself, and another is another
pub has_it : (m : Mark) → has (Some (K.Mark m)) m ≡ true
has_it m = true_same the_type m m refl

pub has_not : (kind : Option Kind) (m : Mark) → (kind ≡ Some (K.Mark m) → ⊥) → has kind m ≡ false
has_not (Some (K.Mark found)) m not = false_same the_type (search rules) found m (λ e. not (ap (λ (x : Mark). Some (K.Mark x)) e))
has_not (Some (K.Name w)) m not = refl
has_not (Some (K.Num v u)) m not = refl
has_not (Some (K.Text t)) m not = refl
has_not None m not = refl

pub takes_mark : (m : Mark) → act (P.mark m) (Some (K.Mark m)) ≡ take_it 0 []
takes_mark m = ap (λ (b : Bool). if b then take_it 0 [] else refuse) (has_it m)

-- what stands behind an operand, and does not go on with it
pub record Calm (kind : Option Kind) : Type 0 where
  pub no_step : act P.steps kind ≡ skip
  pub no_bracket : act P.behind_name kind ≡ skip

-- what stands behind an expression, and does not go on with it
pub record Quiet (kind : Option Kind) : Type 0 where
  pub calm : Calm kind
  pub no_assignment : assigns kind ≡ false
  pub no_operator : operator_level kind ≡ 0
  pub no_question : has kind M.Question ≡ false

abbrev pub IsQuiet : Mark → Type 0
IsQuiet m = Quiet (Some (K.Mark m))

pub quiet_paren : IsQuiet M.RightParen
quiet_paren = record { calm = record { no_step = refl; no_bracket = refl }; no_assignment = refl; no_operator = refl; no_question = refl }

pub quiet_bracket : IsQuiet M.RightBracket
quiet_bracket = record { calm = record { no_step = refl; no_bracket = refl }; no_assignment = refl; no_operator = refl; no_question = refl }

pub quiet_comma : IsQuiet M.Comma
quiet_comma = record { calm = record { no_step = refl; no_bracket = refl }; no_assignment = refl; no_operator = refl; no_question = refl }

pub quiet_colon : IsQuiet M.Colon
quiet_colon = record { calm = record { no_step = refl; no_bracket = refl }; no_assignment = refl; no_operator = refl; no_question = refl }

pub quiet_semicolon : IsQuiet M.Semicolon
quiet_semicolon = record { calm = record { no_step = refl; no_bracket = refl }; no_assignment = refl; no_operator = refl; no_question = refl }

pub quiet_at : {tokens : List Token} {at next : ℕ} {m : Mark} {place : Place} → StandsMark tokens at m place next → IsQuiet m → Quiet (token_kind tokens at)
quiet_at s q = subst {0, 0} Quiet (sym s.kind_is) q

-- the marks of operators
abbrev calm : (kind : Option Kind) → act P.steps kind ≡ skip → act P.behind_name kind ≡ skip → Calm kind
calm kind s b = record { no_step = s; no_bracket = b }

pub calm_assign : (op : AssignOp) → Calm (Some (K.Mark (assign_mark op)))
calm_assign A.Set = calm _ refl refl
calm_assign A.Add = calm _ refl refl
calm_assign A.Sub = calm _ refl refl
calm_assign A.Mul = calm _ refl refl
calm_assign A.Div = calm _ refl refl
calm_assign A.Rem = calm _ refl refl
calm_assign A.Mod = calm _ refl refl
calm_assign A.And = calm _ refl refl
calm_assign A.Or = calm _ refl refl
calm_assign A.Xor = calm _ refl refl
calm_assign A.Shl = calm _ refl refl
calm_assign A.Shr = calm _ refl refl
calm_assign A.Min = calm _ refl refl
calm_assign A.Max = calm _ refl refl

pub takes_assign : (op : AssignOp) → act P.behind_unary (Some (K.Mark (assign_mark op))) ≡ take_it 1 (P.expression ∷ [])
takes_assign A.Set = refl
takes_assign A.Add = refl
takes_assign A.Sub = refl
takes_assign A.Mul = refl
takes_assign A.Div = refl
takes_assign A.Rem = refl
takes_assign A.Mod = refl
takes_assign A.And = refl
takes_assign A.Or = refl
takes_assign A.Xor = refl
takes_assign A.Shl = refl
takes_assign A.Shr = refl
takes_assign A.Min = refl
takes_assign A.Max = refl

-- a binary operator has a level from 2 on
pub record Binary (op : BinaryOp) : Type 0 where
  pub calm : Calm (Some (K.Mark (binary_mark op)))
  pub no_assignment : assigns (Some (K.Mark (binary_mark op))) ≡ false
  pub least : 2 ≤ binary_level op
  pub most : binary_level op ≤ 12

pub is_binary : (op : BinaryOp) → Binary op
is_binary B.LogicalOr = record { calm = calm _ refl refl; no_assignment = refl; least = lit≤ tt; most = lit≤ tt }
is_binary B.LogicalAnd = record { calm = calm _ refl refl; no_assignment = refl; least = lit≤ tt; most = lit≤ tt }
is_binary (B.Number O.Add) = record { calm = calm _ refl refl; no_assignment = refl; least = lit≤ tt; most = lit≤ tt }
is_binary (B.Number O.Sub) = record { calm = calm _ refl refl; no_assignment = refl; least = lit≤ tt; most = lit≤ tt }
is_binary (B.Number O.Mul) = record { calm = calm _ refl refl; no_assignment = refl; least = lit≤ tt; most = lit≤ tt }
is_binary (B.Number O.Div) = record { calm = calm _ refl refl; no_assignment = refl; least = lit≤ tt; most = lit≤ tt }
is_binary (B.Number O.Rem) = record { calm = calm _ refl refl; no_assignment = refl; least = lit≤ tt; most = lit≤ tt }
is_binary (B.Number O.Mod) = record { calm = calm _ refl refl; no_assignment = refl; least = lit≤ tt; most = lit≤ tt }
is_binary (B.Number O.And) = record { calm = calm _ refl refl; no_assignment = refl; least = lit≤ tt; most = lit≤ tt }
is_binary (B.Number O.Or) = record { calm = calm _ refl refl; no_assignment = refl; least = lit≤ tt; most = lit≤ tt }
is_binary (B.Number O.Xor) = record { calm = calm _ refl refl; no_assignment = refl; least = lit≤ tt; most = lit≤ tt }
is_binary (B.Number O.Min) = record { calm = calm _ refl refl; no_assignment = refl; least = lit≤ tt; most = lit≤ tt }
is_binary (B.Number O.Max) = record { calm = calm _ refl refl; no_assignment = refl; least = lit≤ tt; most = lit≤ tt }
is_binary (B.Number O.Shl) = record { calm = calm _ refl refl; no_assignment = refl; least = lit≤ tt; most = lit≤ tt }
is_binary (B.Number O.Shr) = record { calm = calm _ refl refl; no_assignment = refl; least = lit≤ tt; most = lit≤ tt }
is_binary (B.Number O.Eq) = record { calm = calm _ refl refl; no_assignment = refl; least = lit≤ tt; most = lit≤ tt }
is_binary (B.Number O.Ne) = record { calm = calm _ refl refl; no_assignment = refl; least = lit≤ tt; most = lit≤ tt }
is_binary (B.Number O.Lt) = record { calm = calm _ refl refl; no_assignment = refl; least = lit≤ tt; most = lit≤ tt }
is_binary (B.Number O.Le) = record { calm = calm _ refl refl; no_assignment = refl; least = lit≤ tt; most = lit≤ tt }
is_binary (B.Number O.Gt) = record { calm = calm _ refl refl; no_assignment = refl; least = lit≤ tt; most = lit≤ tt }
is_binary (B.Number O.Ge) = record { calm = calm _ refl refl; no_assignment = refl; least = lit≤ tt; most = lit≤ tt }

pub takes_prefix : (op : PrefixOp) → unary_action (Some (K.Mark (prefix_mark op))) ≡ take_it 1 (P.unary ∷ [])
takes_prefix F.Plus = refl
takes_prefix F.Minus = refl
takes_prefix F.Complement = refl
takes_prefix F.Not = refl
takes_prefix (F.Step S.Increment) = refl
takes_prefix (F.Step S.Decrement) = refl
takes_prefix (F.Reduce R.Add) = refl
takes_prefix (F.Reduce R.Sub) = refl
takes_prefix (F.Reduce R.And) = refl
takes_prefix (F.Reduce R.Xor) = refl
takes_prefix (F.Reduce R.Or) = refl
takes_prefix (F.Reduce R.Min) = refl
takes_prefix (F.Reduce R.Max) = refl

pub takes_step : (op : StepOp) → act P.steps (Some (K.Mark (step_mark op))) ≡ take_it 1 (P.steps ∷ [])
takes_step S.Increment = refl
takes_step S.Decrement = refl

pub step_behind : (op : StepOp) → act P.behind_name (Some (K.Mark (step_mark op))) ≡ skip
step_behind S.Increment = refl
step_behind S.Decrement = refl

-- a unary expression begins there
abbrev pub Starts : Option Kind → Type 0
Starts kind = is_taken (unary_action kind) ≡ true

pub false-true : false ≡ true → ⊥
false-true e = search (e, rules)

pub apart : (kind : Option Kind) (m : Mark) → is_taken (unary_marks m) ≡ false → Starts kind → has kind m ≡ false
apart kind m other starts = has_not kind m (λ e. false-true (sym other ∙ subst {0, 0} Starts e starts))

pub no_type : (kind : Option Kind) → Starts kind → type_action kind ≡ refuse
no_type (Some (K.Mark M.Bool)) s = absurd (false-true s)
no_type (Some (K.Mark M.Char)) s = absurd (false-true s)
no_type (Some (K.Mark M.Short)) s = absurd (false-true s)
no_type (Some (K.Mark M.Int)) s = absurd (false-true s)
no_type (Some (K.Mark M.Long)) s = absurd (false-true s)
no_type (Some (K.Mark M.Signed)) s = absurd (false-true s)
no_type (Some (K.Mark M.Unsigned)) s = absurd (false-true s)
no_type other s = refl

pub is_expression : (kind : Option Kind) → Starts kind → statement_action kind ≡ enter P.expression (P.mark M.Semicolon ∷ P.ended ∷ [])
is_expression (Some (K.Mark M.LeftBrace)) s = absurd (false-true s)
is_expression (Some (K.Mark M.Semicolon)) s = absurd (false-true s)
is_expression (Some (K.Mark M.If)) s = absurd (false-true s)
is_expression (Some (K.Mark M.Where)) s = absurd (false-true s)
is_expression (Some (K.Mark M.While)) s = absurd (false-true s)
is_expression (Some (K.Mark M.Do)) s = absurd (false-true s)
is_expression (Some (K.Mark M.For)) s = absurd (false-true s)
is_expression (Some (K.Mark M.Break)) s = absurd (false-true s)
is_expression (Some (K.Mark M.Continue)) s = absurd (false-true s)
is_expression (Some (K.Mark M.Return)) s = absurd (false-true s)
is_expression (Some (K.Mark M.With)) s = absurd (false-true s)
is_expression (Some (K.Mark M.Everywhere)) s = absurd (false-true s)
is_expression other s = refl
