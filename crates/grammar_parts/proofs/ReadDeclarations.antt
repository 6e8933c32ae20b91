-- The declarations of a text are read by their open parts.
use Rattle.std.proofs.Common.{◌≡◌, ℕ, Bool, true, false, List, [], ◌∷◌, Option, refl, sym, ap, subst, ◌∙◌, if◌then◌else◌}
use Rattle.cstar_base.specs.declared.operators.Place.{Place}
use Rattle.cstar_tree.specs.declared.token.Token.{Token}
use Rattle.cstar_tree.specs.declared.token.Kind.{Kind}
use Rattle.cstar_tree.specs.declared.token.Mark.{Mark}
use Rattle.cstar_tree.specs.declared.token.Mark.TheVariants as M
use Rattle.cstar_tree.specs.declared.syntax.Expr.{Expr}
use Rattle.cstar_tree.specs.declared.syntax.Initializer.{Initializer}
use Rattle.cstar_tree.specs.declared.syntax.Declarator.{Declarator}
use Rattle.cstar_tree.specs.declared.syntax.Declaration.{Declaration}
use Rattle.cstar_tree.specs.Positions.{StandsMark, token_kind}
use Rattle.cstar_tree.specs.Expressions.{IsExpr}
use Rattle.cstar_tree.specs.Declarations.{AreDeclarations, AreDeclarators, IsDeclaration, IsDeclarator, IsInitial, IsLength}
use Rattle.cstar_tree.specs.Declarations as D
use Rattle.grammar_parts.specs.Parts.{Part, Action, take_it, enter, skip, refuse, before, is_taken}
use Rattle.grammar_parts.specs.Parts as P
use Rattle.grammar_parts.specs.Actions.{IsStart, act, has, more_names_action, type_action, type_words, unary_action}
use Rattle.grammar_parts.specs.Readings.{reach}
use Rattle.grammar_parts.proofs.Reaching.{begins, same_act, skipped, taken}
use Rattle.grammar_parts.proofs.ReadTypes.{EndsType, Reads, StartsType, ends_type, name_ends_type, read_type, starts_type}
use Rattle.grammar_parts.proofs.ReadExpressions.{mark_taken, read_expression, starts_expression}
use Rattle.grammar_parts.proofs.Words.{Quiet, Starts, false-true, has_not, quiet_at, quiet_bracket}

pub start_expression : (kind : Option Kind) → Starts kind → IsStart (act P.expression kind)
start_expression kind starts = by (unary_action kind) starts where
  by : (a : Action) → is_taken a ≡ true → IsStart (before a (P.behind_unary ∷ []))
  by (take_it n parts) h = tt
  by refuse h = tt
  by (enter p parts) h = absurd (false-true h)
  by skip h = absurd (false-true h)

pub start_type : (kind : Option Kind) → StartsType kind → IsStart (act P.type kind)
start_type kind starts = by (type_action kind) starts where
  by : (a : Action) → is_taken a ≡ true → IsStart a
  by (take_it n parts) h = tt
  by refuse h = tt
  by (enter p parts) h = absurd (false-true h)
  by skip h = absurd (false-true h)

pub type_apart : (kind : Option Kind) (m : Mark) → is_taken (type_words m) ≡ false → StartsType kind → has kind m ≡ false
type_apart kind m other starts = has_not kind m (λ e. false-true (sym other ∙ subst {0, 0} StartsType e starts))

-- a whole expression
pub read_whole : {tokens : List Token} {from to : ℕ} {e : Expr} → IsExpr tokens from e to → Quiet (token_kind tokens to) → Reads tokens from P.whole to
read_whole {tokens} {from} x quiet behind = begins tokens from P.whole P.expression behind refl (start_expression (token_kind tokens from) (starts_expression x)) ∙ read_expression x quiet behind

-- what stands behind a declared name
pub record EndsName (kind : Option Kind) : Type 0 where
  pub quiet : Quiet kind
  pub no_bracket : act P.length_or_none kind ≡ skip
  pub no_equal : act P.initial_or_none kind ≡ skip
  pub typed : act P.behind_typed_name kind ≡ more_names_action kind

pub comma_ends : {tokens : List Token} {at next : ℕ} {place : Place} → StandsMark tokens at M.Comma place next → EndsName (token_kind tokens at)
comma_ends s = subst {0, 0} EndsName (sym s.kind_is) (record { quiet = record { calm = record { no_step = refl; no_bracket = refl }; no_assignment = refl; no_operator = refl; no_question = refl }; no_bracket = refl; no_equal = refl; typed = refl })

pub semicolon_ends : {tokens : List Token} {at next : ℕ} {place : Place} → StandsMark tokens at M.Semicolon place next → EndsName (token_kind tokens at)
semicolon_ends s = subst {0, 0} EndsName (sym s.kind_is) (record { quiet = record { calm = record { no_step = refl; no_bracket = refl }; no_assignment = refl; no_operator = refl; no_question = refl }; no_bracket = refl; no_equal = refl; typed = refl })

read_initial : {tokens : List Token} {from to : ℕ} {initial : Option Initializer} → IsInitial tokens from initial to → EndsName (token_kind tokens to) → Reads tokens from P.initial_or_none to
read_initial {tokens} {from} D.no_initial q behind = skipped tokens from P.initial_or_none behind q.no_equal
read_initial (D.initial_is equal e) q behind = taken P.initial_or_none behind equal refl ∙ read_whole e q.quiet behind

no_length_at : {tokens : List Token} {from to : ℕ} {initial : Option Initializer} → IsInitial tokens from initial to → EndsName (token_kind tokens to) → act P.length_or_none (token_kind tokens from) ≡ skip
no_length_at D.no_initial q = q.no_bracket
no_length_at (D.initial_is equal e) q = ap (act P.length_or_none) equal.kind_is

read_length : {tokens : List Token} {from to : ℕ} {length : Option Expr} → IsLength tokens from length to → act P.length_or_none (token_kind tokens to) ≡ skip → Reads tokens from P.length_or_none to
read_length {tokens} {from} D.no_length calm behind = skipped tokens from P.length_or_none behind calm
read_length (D.length_is open_it e close_it) calm behind = taken P.length_or_none behind open_it refl ∙ read_whole e (quiet_at close_it quiet_bracket) (P.mark M.RightBracket ∷ behind) ∙ mark_taken close_it behind

read_declarator : {tokens : List Token} {from to : ℕ} {d : Declarator} → IsDeclarator tokens from d to → EndsName (token_kind tokens to) → (behind : List Part) → reach tokens from (P.name ∷ P.length_or_none ∷ P.initial_or_none ∷ behind) ≡ reach tokens to behind
read_declarator (D.declarator name length initial) q behind = taken P.name (P.length_or_none ∷ P.initial_or_none ∷ behind) name refl ∙ read_length length (no_length_at initial q) (P.initial_or_none ∷ behind) ∙ read_initial initial q behind

-- the same where a function could stand
behind_typed : {tokens : List Token} {from mid to : ℕ} {length : Option Expr} {initial : Option Initializer} → IsLength tokens from length mid → IsInitial tokens mid initial to → EndsName (token_kind tokens to) → (behind : List Part) → reach tokens from (P.behind_typed_name ∷ behind) ≡ reach tokens to (P.more_names ∷ behind)
behind_typed (D.length_is open_it e close_it) initial q behind = taken P.behind_typed_name behind open_it refl ∙ read_whole e (quiet_at close_it quiet_bracket) (P.mark M.RightBracket ∷ P.initial_or_none ∷ P.more_names ∷ behind) ∙ mark_taken close_it (P.initial_or_none ∷ P.more_names ∷ behind) ∙ read_initial initial q (P.more_names ∷ behind)
behind_typed D.no_length (D.initial_is equal e) q behind = taken P.behind_typed_name behind equal refl ∙ read_whole e q.quiet (P.more_names ∷ behind)
behind_typed {tokens} {from} D.no_length D.no_initial q behind = same_act tokens from P.behind_typed_name P.more_names behind q.typed

read_names : {tokens : List Token} {from to : ℕ} {list : List Declarator} → AreDeclarators tokens from list to → EndsName (token_kind tokens to) → (behind : List Part) → reach tokens from (P.name ∷ P.length_or_none ∷ P.initial_or_none ∷ P.more_names ∷ behind) ≡ reach tokens to (P.more_names ∷ behind)
read_names (D.first_name d) q behind = read_declarator d q (P.more_names ∷ behind)
read_names (D.next_name list comma d) q behind = read_names list (comma_ends comma) behind ∙ taken P.more_names behind comma refl ∙ read_declarator d q (P.more_names ∷ behind)

pub read_typed_names : {tokens : List Token} {from to : ℕ} {list : List Declarator} → AreDeclarators tokens from list to → EndsName (token_kind tokens to) → (behind : List Part) → reach tokens from (P.name ∷ P.behind_typed_name ∷ behind) ≡ reach tokens to (P.more_names ∷ behind)
read_typed_names (D.first_name (D.declarator name length initial)) q behind = taken P.name (P.behind_typed_name ∷ behind) name refl ∙ behind_typed length initial q behind
read_typed_names (D.next_name list comma d) q behind = read_typed_names list (comma_ends comma) behind ∙ taken P.more_names behind comma refl ∙ read_declarator d q (P.more_names ∷ behind)

pub names_end_type : {tokens : List Token} {from to : ℕ} {list : List Declarator} → AreDeclarators tokens from list to → EndsType (token_kind tokens from)
names_end_type (D.first_name (D.declarator name _ _)) = ends_type name (name_ends_type _)
names_end_type (D.next_name list comma d) = names_end_type list

pub read_declarations : {tokens : List Token} {from to : ℕ} {list : List Declaration} → AreDeclarations tokens from list to → (behind : List Part) → reach tokens from (P.declarations ∷ behind) ≡ reach tokens to (P.declarations ∷ behind)
read_declarations D.no_declaration behind = refl
read_declarations {tokens} (D.one_more {mid = mid} list (D.declaration type names semicolon)) behind = read_declarations list behind
    ∙ begins tokens mid P.declarations P.type behind (ap (λ (b : Bool). if b then enter P.type (P.name ∷ P.length_or_none ∷ P.initial_or_none ∷ P.more_names ∷ P.declarations ∷ []) else skip) (starts_type type)) (start_type (token_kind tokens mid) (starts_type type))
    ∙ read_type type (names_end_type names) (P.name ∷ P.length_or_none ∷ P.initial_or_none ∷ P.more_names ∷ P.declarations ∷ behind) ∙ read_names names (semicolon_ends semicolon) (P.declarations ∷ behind) ∙ taken P.more_names (P.declarations ∷ behind) semicolon refl
