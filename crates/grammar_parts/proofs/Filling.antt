-- The completion of an open part is spelled where it stands.
use Rattle.std.proofs.Common.{◌≡◌, ℕ, suc, ◌+◌, ◌≤◌, ◌^◌, Bool, true, false, List, [], ◌∷◌, ◌++◌, ◌&&◌, if◌then◌else◌, length, Option, Some, None, arith, refl, sym, ap, subst, ◌∙◌}
use Rattle.std.proofs.lemmas.List.{append_assoc, append-nil}
use Rattle.std.specs.Prelude.{nat_lt}
use Rattle.std.specs.Option.{option_map}
use Rattle.std.specs.List.{slice_get}
use Rattle.std.specs.declared.alloc.Global.{Global}
use Rattle.cstar_base.specs.declared.operators.Place.{Place}
use Rattle.cstar_tree.specs.declared.token.Token.{Token}
use Rattle.cstar_tree.specs.declared.token.Kind.{Kind}
use Rattle.cstar_tree.specs.declared.token.Kind.TheVariants as K
use Rattle.cstar_tree.specs.declared.token.Mark.{Mark}
use Rattle.cstar_tree.specs.declared.token.Mark.TheVariants as M
use Rattle.cstar_tree.specs.Positions.{Stands, token_kind, token_place}
use Rattle.cstar_tree.specs.Operators.{operator_level}
use Rattle.cstar_tree.specs.Statements.{NoElse}
use Rattle.grammar_parts.specs.Parts.{Part, Action, take_it, enter, skip, refuse}
use Rattle.grammar_parts.specs.Parts as P
use Rattle.grammar_parts.specs.Actions.{act}
use Rattle.grammar_parts.specs.Completions.{completion, shortest, shortest_operands}
use Rattle.grammar_parts.specs.Readings.{kinds_from}
use Rattle.grammar_parts.proofs.Meanings.{AllMean, Gives, ahead, are_mild, is_mild, is_mild_mark, joined, means}
use Rattle.grammar_parts.proofs.Reaching.{kinds_at, kinds_end, none_is, some_is}
use Rattle.grammar_parts.proofs.Sound.{sound}
use Rattle.grammar_parts.proofs.Words.{false-true}

-- a token that goes on with nothing before it
abbrev pub is_calm : Kind → Bool
is_calm (K.Mark M.Else) = false
is_calm kind = if nat_lt 0 (operator_level (Some kind)) then false else true

abbrev pub are_calm : List Kind → Bool
are_calm [] = true
are_calm (k ∷ ks) = is_calm k && are_calm ks

pub record Mild (tokens : List Token) (at : ℕ) : Type 0 where
  pub level : operator_level (token_kind tokens at) ≡ 0
  pub no_else_there : NoElse tokens at

pub both_left : (a b : Bool) → a && b ≡ true → a ≡ true
both_left true b h = refl
both_left false b h = absurd (false-true h)

pub both_right : (a b : Bool) → a && b ≡ true → b ≡ true
both_right true b h = h
both_right false b h = absurd (false-true h)

head_or : Kind → List Kind → Kind
head_or k [] = k
head_or k (h ∷ t) = h

tail_of : List Kind → List Kind
tail_of [] = []
tail_of (h ∷ t) = t

IsEmpty : List Kind → Type 0
IsEmpty [] = Unit {0}
IsEmpty (h ∷ t) = ⊥

-- what stands where kinds begin
pub kind_first : (tokens : List Token) (at : ℕ) (k : Kind) (ks : List Kind) → kinds_from tokens at ≡ k ∷ ks → (token_kind tokens at ≡ Some k) × (kinds_from tokens (at + 1) ≡ ks)
unfolding head_or tail_of IsEmpty
kind_first tokens at k ks e = by (token_kind tokens at) refl where
  by : (o : Option Kind) → token_kind tokens at ≡ o → (token_kind tokens at ≡ Some k) × (kinds_from tokens (at + 1) ≡ ks)
  by None h = absurd (subst {0, 0} IsEmpty (sym (kinds_end tokens at h) ∙ e) tt)
  by (Some found) h = let both : found ∷ kinds_from tokens (at + 1) ≡ k ∷ ks = sym (kinds_at tokens at found h) ∙ e in (h ∙ ap Some (ap (head_or found) both), ap tail_of both)

kind_none : (tokens : List Token) (at : ℕ) → kinds_from tokens at ≡ [] → token_kind tokens at ≡ None
unfolding IsEmpty
kind_none tokens at e = by (token_kind tokens at) refl where
  by : (o : Option Kind) → token_kind tokens at ≡ o → token_kind tokens at ≡ None
  by None h = h
  by (Some found) h = absurd (subst {0, 0} IsEmpty (sym e ∙ kinds_at tokens at found h) tt)

calm_level : (k : Kind) → is_calm k ≡ true → operator_level (Some k) ≡ 0
calm_level (K.Mark M.Else) h = absurd (false-true h)
calm_level (K.Mark M.OrOr) h = absurd (false-true h)
calm_level (K.Mark M.AndAnd) h = absurd (false-true h)
calm_level (K.Mark M.Pipe) h = absurd (false-true h)
calm_level (K.Mark M.Caret) h = absurd (false-true h)
calm_level (K.Mark M.Ampersand) h = absurd (false-true h)
calm_level (K.Mark M.EqualEqual) h = absurd (false-true h)
calm_level (K.Mark M.NotEqual) h = absurd (false-true h)
calm_level (K.Mark M.Less) h = absurd (false-true h)
calm_level (K.Mark M.Greater) h = absurd (false-true h)
calm_level (K.Mark M.LessEqual) h = absurd (false-true h)
calm_level (K.Mark M.GreaterEqual) h = absurd (false-true h)
calm_level (K.Mark M.LessQuestion) h = absurd (false-true h)
calm_level (K.Mark M.GreaterQuestion) h = absurd (false-true h)
calm_level (K.Mark M.ShiftLeft) h = absurd (false-true h)
calm_level (K.Mark M.ShiftRight) h = absurd (false-true h)
calm_level (K.Mark M.Plus) h = absurd (false-true h)
calm_level (K.Mark M.Minus) h = absurd (false-true h)
calm_level (K.Mark M.Star) h = absurd (false-true h)
calm_level (K.Mark M.Slash) h = absurd (false-true h)
calm_level (K.Mark M.Percent) h = absurd (false-true h)
calm_level (K.Mark M.PercentPercent) h = absurd (false-true h)
calm_level other h = refl

mild_at : (tokens : List Token) (at : ℕ) (ks : List Kind) → kinds_from tokens at ≡ ks → are_calm ks ≡ true → Mild tokens at
mild_at tokens at [] e calm = let none = kind_none tokens at e in record { level = ap operator_level none; no_else_there = λ h. none_is (sym none ∙ h) }
mild_at tokens at (k ∷ ks) e calm = let first = (kind_first tokens at k ks e).0 in let here = both_left (is_calm k) (are_calm ks) calm in record {
  level = ap operator_level first ∙ calm_level k here;
  no_else_there = λ h. false-true (subst {0, 0} (λ (kind : Kind). is_calm kind ≡ true) (some_is (sym first ∙ h)) here);
}

pub token_there : (tokens : List Token) (at : ℕ) (k : Kind) → token_kind tokens at ≡ Some k → (place : Place) × Stands tokens at k place (at + 1)
unfolding token_kind token_place
token_there tokens at k h = by (slice_get tokens at) refl where
  by : (o : Option Token) → slice_get tokens at ≡ o → (place : Place) × Stands tokens at k place (at + 1)
  by None e = absurd (none_is (sym (ap (option_map (λ (t : Token). t.kind)) e) ∙ h))
  by (Some t) e = (t.place, record { kind_is = h; place_is = ap (option_map (λ (u : Token). u.place)) e; next_is = refl })

-- where the shortest tokens of a part stand, it is there
pub record Filled (tokens : List Token) (at most : ℕ) (parts : List Part) (rest : List Kind) : Type 0 where
  pub to : ℕ
  pub meant : AllMean tokens parts at to
  pub left : kinds_from tokens to ≡ rest
  pub ends : to + length rest ≡ most

-- in tokens of at most 2^40, before a rest that is calm
unfoldable pub Fills : List Part → Type 0
Fills parts = (tokens : List Token) (at most : ℕ) (rest : List Kind) → kinds_from tokens at ≡ completion parts ++ rest → at + length (completion parts ++ rest) ≡ most → most ≤ 2 ^ 40 → are_calm rest ≡ true → Filled tokens at most parts rest

operand_calm : (m : Mark) → are_calm (shortest_operands m) ≡ true
operand_calm M.Scan = refl
operand_calm other = refl

mild_calm : (m : Mark) → is_mild_mark m ≡ true → is_calm (K.Mark m) && true ≡ true
mild_calm M.LeftParen h = refl
mild_calm M.RightParen h = refl
mild_calm M.RightBracket h = refl
mild_calm M.Comma h = refl
mild_calm M.Colon h = refl
mild_calm M.Semicolon h = refl
mild_calm M.While h = refl
mild_calm other h = absurd (false-true h)

part_calm : (p : Part) → is_mild p ≡ true → are_calm (shortest p) ≡ true
part_calm (P.mark m) h = mild_calm m h
part_calm (P.close m) h = mild_calm m h
part_calm (P.operator m) h = mild_calm m h
part_calm (P.part m) h = mild_calm m h
part_calm (P.operands_of m) h = operand_calm m
part_calm other h = refl

calm-append : (ks more : List Kind) → are_calm ks ≡ true → are_calm more ≡ true → are_calm (ks ++ more) ≡ true
calm-append [] more a b = b
calm-append (k ∷ ks) more a b = ap (λ (c : Bool). c && are_calm (ks ++ more)) (both_left (is_calm k) (are_calm ks) a) ∙ calm-append ks more (both_right (is_calm k) (are_calm ks) a) b

pub completion_calm : (parts : List Part) → are_mild parts ≡ true → are_calm (completion parts) ≡ true
completion_calm [] h = refl
completion_calm (p ∷ parts) h = calm-append (shortest p) (completion parts) (part_calm p (both_left (is_mild p) (are_mild parts) h)) (completion_calm parts (both_right (is_mild p) (are_mild parts) h))

pub nothing : Fills []
unfolding Fills
nothing tokens at most rest e ends small calm = record { to = at; meant = refl; left = e; ends = ends }

pub single : (p : Part) → Fills (p ∷ []) → (parts : List Part) → are_mild parts ≡ true → Fills parts → Fills (p ∷ parts)
unfolding Fills
single p f parts mild g tokens at most rest e ends small calm =
    let first = f tokens at most (completion parts ++ rest) (e ∙ append_assoc (shortest p) (completion parts) rest ∙ ap (λ (l : List Kind). l ++ (completion parts ++ rest)) (sym (append-nil (shortest p)))) (ap (λ (l : List Kind). at + length l) (ap (λ (l : List Kind). l ++ (completion parts ++ rest)) (append-nil (shortest p)) ∙ sym (append_assoc (shortest p) (completion parts) rest)) ∙ ends) small (calm-append (completion parts) rest (completion_calm parts mild) calm) in
    let more = g tokens first.to most rest first.left first.ends small calm in
    record { to = more.to; meant = joined tokens p parts at first.to more.to first.meant.0 first.meant.1 more.meant; left = more.left; ends = more.ends }

-- by its first token
pub by_token : (p : Part) (k : Kind) (n : ℕ) (parts : List Part) → Global → is_mild p ≡ true → act p (Some k) ≡ take_it n parts → shortest p ≡ k ∷ completion parts → Fills parts → Fills (p ∷ [])
unfolding Fills
by_token p k n parts heap mild is short f tokens at most rest e ends small calm =
    let all : kinds_from tokens at ≡ k ∷ (completion parts ++ rest) = e ∙ ap (λ (l : List Kind). l ++ rest) (append-nil (shortest p) ∙ short) in
    let first = kind_first tokens at k (completion parts ++ rest) all in
    let there = token_there tokens at k first.0 in
    let sum : at + 1 + length (completion parts ++ rest) ≡ most = (let same : length ((shortest p ++ []) ++ rest) ≡ suc (length (completion parts ++ rest)) = ap length (ap (λ (l : List Kind). l ++ rest) (append-nil (shortest p) ∙ short)) in omega arith) in
    let behind = f tokens (at + 1) most rest first.1 sum small calm in
    let g : Gives tokens at 16 p (take_it n parts) = subst {0, 0} (Gives tokens at 16 p) is (sound heap tokens at k there.0 p mild there.1) in
    record { to = behind.to; meant = (let forward = ahead tokens parts (at + 1) behind.to behind.meant in omega arith, g.2 behind.to (let s = behind.ends in omega arith) behind.meant); left = behind.left; ends = behind.ends }

-- by another part
pub by_part : (p q : Part) (k : Kind) (parts : List Part) → Global → is_mild p ≡ true → act p (Some k) ≡ enter q parts → (ks : List Kind) → completion (q ∷ parts) ≡ k ∷ ks → shortest p ≡ completion (q ∷ parts) → Fills (q ∷ parts) → Fills (p ∷ [])
unfolding Fills
by_part p q k parts heap mild is ks begin short f tokens at most rest e ends small calm =
    let same : (shortest p ++ []) ++ rest ≡ completion (q ∷ parts) ++ rest = ap (λ (l : List Kind). l ++ rest) (append-nil (shortest p) ∙ short) in
    let first = kind_first tokens at k (ks ++ rest) (e ∙ same ∙ ap (λ (l : List Kind). l ++ rest) begin) in
    let there = token_there tokens at k first.0 in
    let behind = f tokens at most rest (e ∙ same) (ap (λ (l : List Kind). at + length l) (sym same) ∙ ends) small calm in
    let g : Gives tokens at 16 p (enter q parts) = subst {0, 0} (Gives tokens at 16 p) is (sound heap tokens at k there.0 p mild there.1) in
    record { to = behind.to; meant = (ahead tokens (q ∷ parts) at behind.to behind.meant, g.2 behind.to (let s = behind.ends in omega arith) behind.meant); left = behind.left; ends = behind.ends }

-- by nothing
pub by_nothing : (p : Part) → shortest p ≡ [] → ((tokens : List Token) (at : ℕ) → Mild tokens at → means tokens p at at) → Fills (p ∷ [])
unfolding Fills
by_nothing p short idle tokens at most rest e ends small calm =
    let same : (shortest p ++ []) ++ rest ≡ rest = ap (λ (l : List Kind). l ++ rest) (append-nil (shortest p) ∙ short) in
    record { to = at; meant = (omega arith, idle tokens at (mild_at tokens at rest (e ∙ same) calm)); left = e ∙ same; ends = ap (λ (l : List Kind). at + length l) (sym same) ∙ ends }
