-- How expressions that are read follow the verdict.
use Rattle.std.proofs.Common.{◌≡◌, ℕ, ◌+◌, ◌≤◌, ◌<◌, Bool, true, false, List, [], ◌∷◌, ◌++◌, ◌||◌, if◌then◌else◌, Option, Some, None, Result, Ok, Err, arith, refl, sym, ap, subst, ◌∙◌}
use Rattle.std.proofs.lemmas.Bool.{le-ltb, lt-ltb}
use Rattle.std.specs.Prelude.{nat_lt}
use Rattle.cstar_base.specs.declared.operators.Place.{Place}
use Rattle.cstar_tree.specs.declared.token.Token.{Token}
use Rattle.cstar_tree.specs.declared.token.Kind.{Kind}
use Rattle.cstar_tree.specs.declared.token.Kind.TheVariants as K
use Rattle.cstar_tree.specs.declared.token.Mark.{Mark}
use Rattle.cstar_tree.specs.declared.token.Mark.TheVariants as M
use Rattle.cstar_tree.specs.declared.syntax.BinaryOp.{BinaryOp}
use Rattle.cstar_tree.specs.Operators.{binary_level, binary_mark, operator_level}
use Rattle.cstar_tree.specs.Options.{IsText, text_is}
use Rattle.cstar_tree.specs.Positions.{token_kind}
use Rattle.grammar_parts.specs.Actions.{IsReal, act, assigns, at_name, choice_action, expression_action, has, operands, operators_action, type_action, unary_marks}
use Rattle.grammar_parts.specs.Parts.{Part, Action, take_it, enter, skip, refuse, before, is_taken, levels, or_else, unless_refused}
use Rattle.grammar_parts.specs.Parts as P
use Rattle.grammar_parts.specs.Verdicts.{verdict_at}
use Rattle.grammar_parts.proofs.Judging.{levels-append, opens_as, skips}
use Rattle.grammar_parts.proofs.Words.{false-true, has_not, takes_mark}
use Rattle.cstar_parser.specs.declared.fault.ParseFault.{ParseFault}
use Rattle.cstar_parser.specs.declared.fault.ParseFault.TheVariants.{Syntax, Depth, Memory}
use Rattle.cstar_parser.specs.declared.spot.Spot.{Spot}
use Rattle.cstar_parser.specs.Fits.{Adds, Keeps, Opens}
use Rattle.cstar_parser.specs.Operands.{is_prefix, is_step}
use Rattle.cstar_parser.specs.Reading.{IsMark, IsRead, IsToken}
use Rattle.cstar_parser.specs.Following.{Blames, Follows, Goes, IsCast, IsLevelTooMany, StopsAt, plain_action}
use Rattle.cstar_parser.proofs.Following.{behind, deep_at, opened, stop, taken_at}

-- ---- steps

-- a bracket at which an open part goes on
pub entered : {tokens : List Token} {around open_levels at n : ℕ} {parts rest : List Part} {old new : Spot} {m : Mark} {place : Place} (p : Part) (more : List Part) → IsRead (IsMark m) (Opens open_levels) tokens old place new → act p (Some (K.Mark m)) ≡ take_it 0 rest → levels rest + (levels more + around) ≤ 100 → Goes tokens around at n parts old.at old.operators (p ∷ more) → Goes tokens around at n parts new.at new.operators (rest ++ more)
entered {new = new} p more r is few f = let kept = r.fits.1 in let most = new.few in taken_at p more r.spelled (omega arith) most is few f

-- an operator that was seen before
pub added : {tokens : List Token} {around at n : ℕ} {parts rest : List Part} {old new : Spot} {m : Mark} {place : Place} (p : Part) (more : List Part) → token_kind tokens old.at ≡ Some (K.Mark m) → IsRead IsToken (Adds 1) tokens old place new → act p (Some (K.Mark m)) ≡ take_it 1 rest → levels rest + (levels more + around) ≤ 100 → Goes tokens around at n parts old.at old.operators (p ∷ more) → Goes tokens around at n parts new.at new.operators (rest ++ more)
added {new = new} p more found r is few f = let most = new.few in taken_at p more (r.spelled _ found) r.fits most is few f

-- a token of any kind that was seen before
pub seen_kind : {tokens : List Token} {around at n : ℕ} {parts rest : List Part} {old new : Spot} {kind : Kind} {place : Place} (p : Part) (more : List Part) → token_kind tokens old.at ≡ Some kind → IsRead IsToken Keeps tokens old place new → act p (Some kind) ≡ take_it 0 rest → levels rest + (levels more + around) ≤ 100 → Goes tokens around at n parts old.at old.operators (p ∷ more) → Goes tokens around at n parts new.at new.operators (rest ++ more)
seen_kind {new = new} p more found r is few f = let kept = r.fits in let most = new.few in taken_at p more (r.spelled _ found) (omega arith) most is few f

text_at : {tokens : List Token} {around at n mid m next k : ℕ} {parts : List Part} {text : List ℕ} (more : List Part) → IsText tokens mid text next → k ≡ m → k ≤ 1000 → levels more + around ≤ 100 → Goes tokens around at n parts mid m (P.text ∷ more) → Goes tokens around at n parts next k more
text_at more (text_is s) kept most few f = taken_at P.text more s (omega arith) most refl (omega arith) f

-- a text
pub text_read : {tokens : List Token} {around at n : ℕ} {parts : List Part} {old new : Spot} {text : List ℕ} (more : List Part) → IsRead IsText Keeps tokens old text new → levels more + around ≤ 100 → Goes tokens around at n parts old.at old.operators (P.text ∷ more) → Goes tokens around at n parts new.at new.operators more
text_read {new = new} more r few f = let kept = r.fits in let most = new.few in text_at more r.spelled kept most few f

taken_refused : {n : ℕ} {parts : List Part} → take_it n parts ≡ refuse → ⊥
taken_refused e = false-true (sym (ap is_taken e))

-- a level too many, at a bracket at which an open part goes on
pub unentered : {tokens : List Token} {around open_levels at n mid m : ℕ} {parts rest : List Part} (fault : ParseFault) (p : Part) (mark : Mark) (more : List Part) → token_kind tokens mid ≡ Some (K.Mark mark) → act p (Some (K.Mark mark)) ≡ take_it 0 rest → StopsAt tokens (P.mark mark) (IsLevelTooMany tokens mark mid open_levels) mid fault → open_levels < levels rest + (levels more + around) → Goes tokens around at n parts mid m (p ∷ more) → Blames tokens around at n parts fault
unentered (Syntax k) p mark more found is s above f = absurd (taken_refused (sym (takes_mark mark) ∙ sym (ap (act (P.mark mark)) found) ∙ s.1))
unentered {around = around} {open_levels = open_levels} {m = m} {rest = rest} (Depth k) p mark more found is s above f = deep_at p more s.0 found is
    (λ inside outside h. let shown = levels-append more inside in let also = levels-append rest (more ++ inside) in let many = s.1.1 in ap (λ (b : Bool). b || nat_lt 1000 (m + 0)) (lt-ltb 100 (levels (rest ++ (more ++ inside)) + levels outside) (omega arith))) f
unentered Memory p mark more found is s above f = tt

-- what is read last, of the parts that are open
pub onward : {A : Type 0} {tokens : List Token} {around within : ℕ} {parts : List Part} (first left more : List Part) (old mid new : Spot) (result : Result A ParseFault) → Follows tokens within first left mid new result → Goes tokens around old.at old.operators parts mid.at mid.operators (first ++ more) → levels more + around ≡ within → Follows tokens around parts (left ++ more) old new result
onward first left more old mid new (Ok part) g f e = behind more g f e
onward first left more old mid new (Err fault) b f e = stop fault first more b f e

-- ---- parts that begin as others do

marks_real : (mark : Mark) → IsReal (unary_marks mark)
marks_real M.Dot = tt
marks_real other = tt

pub unary_real : (kind : Option Kind) → IsReal (act P.unary kind)
unary_real (Some (K.Mark mark)) = marks_real mark
unary_real (Some (K.Name word)) = tt
unary_real (Some (K.Num value unsigned)) = tt
unary_real (Some (K.Text text)) = tt
unary_real None = tt

before_real : (action : Action) (more : List Part) → IsReal action → IsReal (before action more)
before_real (take_it n parts) more real = tt
before_real (enter p parts) more real = tt
before_real skip more real = absurd real
before_real refuse more real = tt

pub expression_real : (kind : Option Kind) → IsReal (act P.expression kind)
expression_real kind = before_real (act P.unary kind) (P.behind_unary ∷ []) (unary_real kind)

real_mark : (b : Bool) → IsReal (if b then take_it 0 [] else refuse)
real_mark true = tt
real_mark false = tt

pub mark_real : (kind : Option Kind) (mark : Mark) → IsReal (act (P.mark mark) kind)
mark_real kind mark = real_mark (has kind mark)

pub name_real : (kind : Option Kind) → IsReal (act P.name kind)
name_real (Some (K.Name word)) = tt
name_real other = tt

real_taken : (action : Action) → is_taken action ≡ true → IsReal action
real_taken (take_it n parts) taken = tt
real_taken (enter p parts) taken = tt
real_taken skip taken = absurd (false-true taken)
real_taken refuse taken = tt

pub type_real : (kind : Option Kind) → is_taken (type_action kind) ≡ true → IsReal (act P.type kind)
type_real kind taken = real_taken (type_action kind) taken

-- ---- operators

pub takes_binary : (least : ℕ) (op : BinaryOp) → least ≤ binary_level op → act (P.operators least) (Some (K.Mark (binary_mark op))) ≡ take_it 1 (P.binary (binary_level op + 1) ∷ P.operators least ∷ [])
takes_binary least op strong = ap (λ (b : Bool). if b then skip else take_it 1 (P.binary (binary_level op + 1) ∷ P.operators least ∷ [])) (le-ltb (binary_level op) least strong)

pub weaker : (least : ℕ) (kind : Option Kind) → operator_level kind < least → act (P.operators least) kind ≡ skip
weaker least kind below = ap (λ (b : Bool). if b then skip else take_it 1 (P.binary (operator_level kind + 1) ∷ P.operators least ∷ [])) (lt-ltb (operator_level kind) least below)

pub no_question : (kind : Option Kind) → (kind ≡ Some (K.Mark M.Question) → ⊥) → act P.choice_or_none kind ≡ skip
no_question kind not = ap (λ (b : Bool). if b then take_it 1 (P.expression ∷ P.operator M.Colon ∷ P.choice ∷ []) else skip) (has_not kind M.Question not)

pub no_step : (kind : Option Kind) → is_step kind ≡ false → act P.steps kind ≡ skip
no_step (Some (K.Mark M.PlusPlus)) none = absurd (false-true (sym none))
no_step (Some (K.Mark M.MinusMinus)) none = absurd (false-true (sym none))
no_step other none = refl

behind_is : (kind : Option Kind) (action : Action) (q : Bool) → assigns kind ≡ false → operators_action 2 kind ≡ action → has kind M.Question ≡ q → act P.behind_unary kind ≡ or_else (before action (P.choice_or_none ∷ [])) (if q then take_it 1 (P.expression ∷ P.operator M.Colon ∷ P.choice ∷ []) else skip)
behind_is kind action q none is asked =
    ap (λ (b : Bool). if b then take_it 1 (P.expression ∷ []) else or_else (before (operators_action 2 kind) (P.choice_or_none ∷ [])) (choice_action kind)) none
    ∙ ap (λ (a : Action). or_else (before a (P.choice_or_none ∷ [])) (choice_action kind)) is
    ∙ ap (λ (b : Bool). or_else (before action (P.choice_or_none ∷ [])) (if b then take_it 1 (P.expression ∷ P.operator M.Colon ∷ P.choice ∷ []) else skip)) asked

behind_unary : (tokens : List Token) (at : ℕ) (inside : List Part) (n : ℕ) (outside : List Part) → assigns (token_kind tokens at) ≡ false → verdict_at tokens at (P.behind_unary ∷ inside) n outside ≡ verdict_at tokens at (P.operators 2 ∷ P.choice_or_none ∷ inside) n outside
behind_unary tokens at inside n outside none = by (operators_action 2 (token_kind tokens at)) (has (token_kind tokens at) M.Question) refl refl where
  by : (action : Action) (q : Bool) → operators_action 2 (token_kind tokens at) ≡ action → has (token_kind tokens at) M.Question ≡ q → verdict_at tokens at (P.behind_unary ∷ inside) n outside ≡ verdict_at tokens at (P.operators 2 ∷ P.choice_or_none ∷ inside) n outside
  by (take_it c parts) q is asked = opens_as tokens at P.behind_unary (P.operators 2) (P.choice_or_none ∷ []) inside n outside (behind_is (token_kind tokens at) (take_it c parts) q none is asked ∙ sym (ap (λ (a : Action). before a (P.choice_or_none ∷ [])) is)) (subst {0, 0} IsReal (sym is) tt)
  by (enter p parts) q is asked = opens_as tokens at P.behind_unary (P.operators 2) (P.choice_or_none ∷ []) inside n outside (behind_is (token_kind tokens at) (enter p parts) q none is asked ∙ sym (ap (λ (a : Action). before a (P.choice_or_none ∷ [])) is)) (subst {0, 0} IsReal (sym is) tt)
  by refuse q is asked = opens_as tokens at P.behind_unary (P.operators 2) (P.choice_or_none ∷ []) inside n outside (behind_is (token_kind tokens at) refuse q none is asked ∙ sym (ap (λ (a : Action). before a (P.choice_or_none ∷ [])) is)) (subst {0, 0} IsReal (sym is) tt)
  by skip true is asked =
      let choice : act P.choice_or_none (token_kind tokens at) ≡ take_it 1 (P.expression ∷ P.operator M.Colon ∷ P.choice ∷ []) = ap (λ (b : Bool). if b then take_it 1 (P.expression ∷ P.operator M.Colon ∷ P.choice ∷ []) else skip) asked in
      opens_as tokens at P.behind_unary P.choice_or_none [] inside n outside (behind_is (token_kind tokens at) skip true none is asked ∙ sym (ap (λ (a : Action). before a []) choice)) (subst {0, 0} IsReal (sym choice) tt)
      ∙ sym (skips tokens at (P.operators 2) (P.choice_or_none ∷ inside) n outside is)
  by skip false is asked =
      skips tokens at P.behind_unary inside n outside (behind_is (token_kind tokens at) skip false none is asked)
      ∙ sym (skips tokens at P.choice_or_none inside n outside (ap (λ (b : Bool). if b then take_it 1 (P.expression ∷ P.operator M.Colon ∷ P.choice ∷ []) else skip) asked))
      ∙ sym (skips tokens at (P.operators 2) (P.choice_or_none ∷ inside) n outside is)

-- behind a unary expression that no assignment operator follows
pub unassigned : {tokens : List Token} {around at n mid m : ℕ} {parts : List Part} (more : List Part) → assigns (token_kind tokens mid) ≡ false → Goes tokens around at n parts mid m (P.behind_unary ∷ more) → Goes tokens around at n parts mid m (P.operators 2 ∷ P.choice_or_none ∷ more)
unassigned {tokens} {mid = mid} {m = m} more none f = record { on = λ inside outside h. f.on inside outside h ∙ behind_unary tokens mid (more ++ inside) m outside none }

-- ---- operands

bracket_of : (b : Bool) (parts : List Part) → (if b then take_it 0 parts else refuse) ≡ before (if b then take_it 0 [] else refuse) parts
bracket_of true parts = refl
bracket_of false parts = refl

-- the bracket behind the word of an intrinsic
pub operands_opened : {tokens : List Token} {around at n mid m : ℕ} {parts : List Part} (word : Mark) (more : List Part) → Goes tokens around at n parts mid m (P.operands_of word ∷ more) → Goes tokens around at n parts mid m (P.mark M.LeftParen ∷ operands word ++ more)
operands_opened {tokens} {mid = mid} word more f = opened (P.operands_of word) (P.mark M.LeftParen) (operands word) more (bracket_of (has (token_kind tokens mid) M.LeftParen) (operands word)) (mark_real (token_kind tokens mid) M.LeftParen) f

unless_taken : (action other : Action) (more : List Part) → is_taken action ≡ true → unless_refused (before action more) other ≡ before action more
unless_taken (take_it n parts) other more taken = refl
unless_taken (enter p parts) other more taken = refl
unless_taken skip other more taken = refl
unless_taken refuse other more taken = absurd (false-true taken)

-- behind a `(` stand a type, or an expression
pub cast_behind : (kind : Option Kind) → is_taken (type_action kind) ≡ true → act P.behind_paren kind ≡ before (act P.type kind) (P.close M.RightParen ∷ P.unary ∷ [])
cast_behind kind taken = unless_taken (type_action kind) (before (expression_action kind) (P.close M.RightParen ∷ P.steps ∷ [])) (P.close M.RightParen ∷ P.unary ∷ []) taken

no_type : (kind : Option Kind) → is_taken (type_action kind) ≡ false → type_action kind ≡ refuse
no_type (Some (K.Mark M.Bool)) none = absurd (false-true (sym none))
no_type (Some (K.Mark M.Char)) none = absurd (false-true (sym none))
no_type (Some (K.Mark M.Short)) none = absurd (false-true (sym none))
no_type (Some (K.Mark M.Int)) none = absurd (false-true (sym none))
no_type (Some (K.Mark M.Long)) none = absurd (false-true (sym none))
no_type (Some (K.Mark M.Signed)) none = absurd (false-true (sym none))
no_type (Some (K.Mark M.Unsigned)) none = absurd (false-true (sym none))
no_type other none = refl

not_true : (b : Bool) → (b ≡ true → ⊥) → b ≡ false
not_true true not = absurd (not refl)
not_true false not = refl

untyped : (kind : Option Kind) → is_taken (type_action kind) ≡ false → act P.behind_paren kind ≡ before (act P.expression kind) (P.close M.RightParen ∷ P.steps ∷ [])
untyped kind none = ap (λ (a : Action). unless_refused (before a (P.close M.RightParen ∷ P.unary ∷ [])) (before (expression_action kind) (P.close M.RightParen ∷ P.steps ∷ []))) (no_type kind none)

pub brackets_behind : (tokens : List Token) (at next : ℕ) → token_kind tokens at ≡ Some (K.Mark M.LeftParen) → (IsCast tokens at → ⊥) → next ≡ at + 1 → act P.behind_paren (token_kind tokens next) ≡ before (act P.expression (token_kind tokens next)) (P.close M.RightParen ∷ P.steps ∷ [])
brackets_behind tokens at next found not is = rw is (untyped (token_kind tokens (at + 1)) (not_true (is_taken (type_action (token_kind tokens (at + 1)))) (λ e. not (found, e))))

pub nothing_behind_name : (kind : Option Kind) → (kind ≡ Some (K.Mark M.LeftParen) → ⊥) → (kind ≡ Some (K.Mark M.LeftBracket) → ⊥) → act P.behind_name kind ≡ skip
nothing_behind_name kind paren bracket =
    ap (λ (b : Bool). if b then take_it 0 (P.expression ∷ P.close M.RightBracket ∷ []) else if has kind M.LeftParen then take_it 0 (P.arguments ∷ []) else skip) (has_not kind M.LeftBracket bracket)
    ∙ ap (λ (b : Bool). if b then take_it 0 (P.arguments ∷ []) else skip) (has_not kind M.LeftParen paren)

pub some_arguments : (kind : Option Kind) → (kind ≡ Some (K.Mark M.RightParen) → ⊥) → act P.arguments kind ≡ before (act P.expression kind) (P.more_arguments ∷ [])
some_arguments kind not = ap (λ (b : Bool). if b then take_it 0 [] else before (expression_action kind) (P.more_arguments ∷ [])) (has_not kind M.RightParen not)

none_behind : (b : Bool) → (if b then take_it 0 [] else refuse) ≡ before (if b then take_it 0 [] else refuse) []
none_behind true = refl
none_behind false = refl

pub last_argument : (kind : Option Kind) → (kind ≡ Some (K.Mark M.Comma) → ⊥) → act P.more_arguments kind ≡ before (act (P.mark M.RightParen) kind) []
last_argument kind not = ap (λ (b : Bool). if has kind M.RightParen then take_it 0 [] else if b then take_it 0 (P.expression ∷ P.more_arguments ∷ []) else refuse) (has_not kind M.Comma not) ∙ none_behind (has kind M.RightParen)

name_alone : (kind : Option Kind) → act P.name kind ≡ before (act P.name kind) []
name_alone (Some (K.Name word)) = refl
name_alone other = refl

pub last_index : (kind : Option Kind) → (kind ≡ Some (K.Mark M.LeftBracket) → ⊥) → act P.indexes kind ≡ before (act P.name kind) []
last_index kind not = ap (λ (b : Bool). if b then take_it 0 (P.expression ∷ P.close M.RightBracket ∷ P.indexes ∷ []) else at_name (take_it 0 []) refuse kind) (has_not kind M.LeftBracket not) ∙ name_alone kind

-- ---- operands by their first tokens

plain_kind : (kind : Kind) → ((value : ℕ) (unsigned : Bool) → kind ≡ K.Num value unsigned → ⊥) → (kind ≡ K.Mark M.Dot → ⊥) → (kind ≡ K.Mark M.PositionsOf → ⊥) → (kind ≡ K.Mark M.RankOf → ⊥) → plain_action (Some kind) ≡ before (act (P.mark M.GetChar) (Some kind)) (P.operands_of M.GetChar ∷ P.steps ∷ [])
plain_kind (K.Num value unsigned) a b c d = absurd (a value unsigned refl)
plain_kind (K.Mark M.Dot) a b c d = absurd (b refl)
plain_kind (K.Mark M.PositionsOf) a b c d = absurd (c refl)
plain_kind (K.Mark M.RankOf) a b c d = absurd (d refl)
plain_kind other a b c d = refl

pub plain_last : (there : Option Kind) (kind : Kind) → there ≡ Some kind → ((value : ℕ) (unsigned : Bool) → kind ≡ K.Num value unsigned → ⊥) → (kind ≡ K.Mark M.Dot → ⊥) → (kind ≡ K.Mark M.PositionsOf → ⊥) → (kind ≡ K.Mark M.RankOf → ⊥) → plain_action there ≡ before (act (P.mark M.GetChar) there) (P.operands_of M.GetChar ∷ P.steps ∷ [])
plain_last there kind found a b c d = subst {0, 0} (λ (k : Option Kind). plain_action k ≡ before (act (P.mark M.GetChar) k) (P.operands_of M.GetChar ∷ P.steps ∷ [])) (sym found) (plain_kind kind a b c d)

pub plain_end : (there : Option Kind) → there ≡ None → plain_action there ≡ before (act (P.mark M.GetChar) there) (P.operands_of M.GetChar ∷ P.steps ∷ [])
plain_end there none = subst {0, 0} (λ (k : Option Kind). plain_action k ≡ before (act (P.mark M.GetChar) k) (P.operands_of M.GetChar ∷ P.steps ∷ [])) (sym none) refl

first_kind : (kind : Kind) → is_prefix (Some kind) ≡ false → ((word : List ℕ) → kind ≡ K.Name word → ⊥) → (kind ≡ K.Mark M.LeftParen → ⊥) → (kind ≡ K.Mark M.LeftBracket → ⊥) → (kind ≡ K.Mark M.Pcoord → ⊥) → (kind ≡ K.Mark M.DimOf → ⊥) → (kind ≡ K.Mark M.Scan → ⊥) → (kind ≡ K.Mark M.Enumerate → ⊥) → (kind ≡ K.Mark M.Printf → ⊥) → act P.unary (Some kind) ≡ plain_action (Some kind)
first_kind (K.Name word) p a b c d e f g h = absurd (a word refl)
first_kind (K.Mark M.LeftParen) p a b c d e f g h = absurd (b refl)
first_kind (K.Mark M.LeftBracket) p a b c d e f g h = absurd (c refl)
first_kind (K.Mark M.Pcoord) p a b c d e f g h = absurd (d refl)
first_kind (K.Mark M.DimOf) p a b c d e f g h = absurd (e refl)
first_kind (K.Mark M.Scan) p a b c d e f g h = absurd (f refl)
first_kind (K.Mark M.Enumerate) p a b c d e f g h = absurd (g refl)
first_kind (K.Mark M.Printf) p a b c d e f g h = absurd (h refl)
first_kind (K.Mark M.Plus) p a b c d e f g h = absurd (false-true (sym p))
first_kind (K.Mark M.Minus) p a b c d e f g h = absurd (false-true (sym p))
first_kind (K.Mark M.Tilde) p a b c d e f g h = absurd (false-true (sym p))
first_kind (K.Mark M.Exclamation) p a b c d e f g h = absurd (false-true (sym p))
first_kind (K.Mark M.PlusPlus) p a b c d e f g h = absurd (false-true (sym p))
first_kind (K.Mark M.MinusMinus) p a b c d e f g h = absurd (false-true (sym p))
first_kind (K.Mark M.PlusEqual) p a b c d e f g h = absurd (false-true (sym p))
first_kind (K.Mark M.MinusEqual) p a b c d e f g h = absurd (false-true (sym p))
first_kind (K.Mark M.AmpersandEqual) p a b c d e f g h = absurd (false-true (sym p))
first_kind (K.Mark M.CaretEqual) p a b c d e f g h = absurd (false-true (sym p))
first_kind (K.Mark M.PipeEqual) p a b c d e f g h = absurd (false-true (sym p))
first_kind (K.Mark M.LessQuestionEqual) p a b c d e f g h = absurd (false-true (sym p))
first_kind (K.Mark M.GreaterQuestionEqual) p a b c d e f g h = absurd (false-true (sym p))
first_kind other p a b c d e f g h = refl

pub plain_first : (there : Option Kind) (kind : Kind) → there ≡ Some kind → is_prefix there ≡ false → ((word : List ℕ) → kind ≡ K.Name word → ⊥) → (kind ≡ K.Mark M.LeftParen → ⊥) → (kind ≡ K.Mark M.LeftBracket → ⊥) → (kind ≡ K.Mark M.Pcoord → ⊥) → (kind ≡ K.Mark M.DimOf → ⊥) → (kind ≡ K.Mark M.Scan → ⊥) → (kind ≡ K.Mark M.Enumerate → ⊥) → (kind ≡ K.Mark M.Printf → ⊥) → act P.unary there ≡ plain_action there
plain_first there kind found p a b c d e f g h = subst {0, 0} (λ (k : Option Kind). act P.unary k ≡ plain_action k) (sym found) (first_kind kind (sym (ap is_prefix found) ∙ p) a b c d e f g h)

pub none_first : (there : Option Kind) → there ≡ None → act P.unary there ≡ plain_action there
none_first there none = subst {0, 0} (λ (k : Option Kind). act P.unary k ≡ plain_action k) (sym none) refl
