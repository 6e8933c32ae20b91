-- One piece stands at a place, and no fault in its place; a fault lies on the line that it begins on.
use Rattle.std.proofs.Common.{◌≡◌, ℕ, ◌+◌, ◌-◌, ◌<◌, ◌≤◌, inl, inr, Bool, false, List, [], ◌∷◌, length, take, drop, get_or, get_or-drop, arith, lit<, refl, sym, ap, ◌∙◌, subst}
use Rattle.std.specs.Prelude.{slice_index}
use Rattle.std.proofs.lemmas.Bool.{cases_lt, cases_order}
use Rattle.std.proofs.lemmas.List.{length-take-le}
use Rattle.cstar_base.specs.declared.faults.Fault.{Fault}
use Rattle.cstar_tree.specs.declared.token.Mark.TheVariants as M
use Rattle.cstar_tree.specs.declared.token.Token.{Token}
use Rattle.cstar_lexer.specs.Comments.{IsComment, OpensComment}
use Rattle.cstar_lexer.specs.Directives.{IsDirective, LineFault}
use Rattle.cstar_lexer.specs.Directives as D
use Rattle.cstar_lexer.specs.Marks.{HasNoMark}
use Rattle.cstar_lexer.specs.Names.{Names}
use Rattle.cstar_lexer.specs.Quoted.{CharacterFault, FaultInside, IsBad}
use Rattle.cstar_lexer.specs.Quoted as Q
use Rattle.cstar_lexer.specs.Numbers.{NumberFault}
use Rattle.cstar_lexer.specs.Numbers as N
use Rattle.cstar_lexer.specs.Reading.{IsBlank, IsLine, IsNext, Point}
use Rattle.cstar_lexer.specs.Reading as P
use Rattle.cstar_lexer.specs.Refusals.{FaultHere, TokenFault}
use Rattle.cstar_lexer.specs.Refusals as R
use Rattle.cstar_lexer.proofs.CharacterLemmas.{bad_at}
use Rattle.cstar_lexer.proofs.FirstBytes.{at_34, at_35, at_47, blank_class, character_fault_class, class_of, number_fault_class}
use Rattle.cstar_lexer.proofs.LineLemmas.{no_line_fault, one_directive}
use Rattle.cstar_lexer.proofs.OneToken.{no_token_fault, one_token, token_starts}
use Rattle.cstar_lexer.proofs.QuotedLemmas.{escape_on_line}
use Rattle.cstar_lexer.proofs.TextLemmas.{bad_here, here}
use Rattle.cstar_lexer.proofs.TokenLemmas.{constant_on_line, newline_ends, one_on_line}

pub one_comment : {bytes : List ℕ} {n m : ℕ} → IsComment bytes n → IsComment bytes m → n ≡ m
one_comment {bytes} {n} {m} a b = elim (cases_order n m) [
  | inl same ↦ same
  | inr apart ↦ elim apart [
    | inl less ↦ absurd (b.first (n - 2) (omega (arith, a.long)) (omega (arith, a.long)) a.closes)
    | inr more ↦ absurd (a.first (m - 2) (omega (arith, b.long)) (omega (arith, b.long)) b.closes)
  ]
]

pub one_line : {bytes : List ℕ} {n m : ℕ} → IsLine bytes n → IsLine bytes m → n ≡ m
one_line {bytes} {n} {m} a b = elim (cases_order n m) [
  | inl same ↦ same
  | inr apart ↦ elim apart [
    | inl less ↦ absurd (b.one_line n less (a.whole (omega (arith, b.within))))
    | inr more ↦ absurd (a.one_line m more (b.whole (omega (arith, a.within))))
  ]
]

-- the first byte, at its place in the text
first_blank : (bytes : List ℕ) (at : ℕ) → IsBlank (slice_index bytes at) → class_of (slice_index (drop at bytes) 0) ≡ 4
first_blank bytes at blank = ap (λ (x : ℕ). class_of x) (here bytes at) ∙ blank_class blank

moved : (at : ℕ) {n m : ℕ} {names : Names} {to other : Point} → n ≡ m → to ≡ record { at = at + n; fresh = false; names = names } → other ≡ record { at = at + m; fresh = false; names = names } → to ≡ other
moved at {n} {m} {names} e a b = a ∙ (ap (λ (i : ℕ). record { at = at + i; fresh = false; names = names }) e ∙ sym b)

pub one_next : {bytes : List ℕ} {from to other : Point} {ts us : List Token} → IsNext bytes from to ts → IsNext bytes from other us → to ≡ other
one_next (P.blank in_text blank is none) (P.blank within same so nor) = is ∙ sym so
one_next {bytes} {from} (P.blank in_text blank is none) (P.comment c so nor) = absurd (omega (arith, first_blank bytes from.at blank, at_47 _ c.slash))
one_next {bytes} {from} (P.blank in_text blank is none) (P.line fresh l d so nor) = absurd (omega (arith, first_blank bytes from.at blank, at_35 _ l.begins))
one_next {bytes} {from} (P.blank in_text blank is none) (P.token t bare token a b c so nor) = absurd ((token_starts token).0 (first_blank bytes from.at blank))
one_next {bytes} {from} (P.comment c is none) (P.blank within blank so nor) = absurd (omega (arith, first_blank bytes from.at blank, at_47 _ c.slash))
one_next {bytes} {from} (P.comment c is none) (P.comment d so nor) = moved from.at (one_comment c d) is so
one_next (P.comment c is none) (P.line fresh l d so nor) = absurd (omega (arith, at_47 _ c.slash, at_35 _ l.begins))
one_next (P.comment c is none) (P.token t bare token a b p so nor) = absurd (bare (c.slash, c.star))
one_next {bytes} {from} (P.line fresh l d is none) (P.blank within blank so nor) = absurd (omega (arith, first_blank bytes from.at blank, at_35 _ l.begins))
one_next (P.line fresh l d is none) (P.comment c so nor) = absurd (omega (arith, at_47 _ c.slash, at_35 _ l.begins))
one_next {bytes} {from} (P.line {n = n} {new = new} fresh l d is none) (P.line {n = m} {new = next} f k e so nor) =
    let long = one_line l k in
    let names : new ≡ next = one_directive d (subst (λ (i : ℕ). IsDirective from.names (take i (drop from.at bytes)) next) (sym long) e) in
    is ∙ (ap (λ (i : ℕ). record { at = from.at + i; fresh = false; names = new }) long ∙ (ap (λ (ns : Names). record { at = from.at + m; fresh = false; names = ns }) names ∙ sym so))
one_next (P.line fresh l d is none) (P.token t bare token a b c so nor) = absurd ((token_starts token).1 (at_35 _ l.begins))
one_next {bytes} {from} (P.token t bare token a b c is none) (P.blank within blank so nor) = absurd ((token_starts token).0 (first_blank bytes from.at blank))
one_next (P.token t bare token a b c is none) (P.comment d so nor) = absurd (bare (d.slash, d.star))
one_next (P.token t bare token a b c is none) (P.line fresh l d so nor) = absurd ((token_starts token).1 (at_35 _ l.begins))
one_next {bytes} {from} (P.token t bare token a b c is none) (P.token u other same d e f so nor) = moved from.at (one_token token same) is so

-- a fault in place of a token
slash_mark : (bytes : List ℕ) → slice_index bytes 0 ≡ 47 → HasNoMark bytes → ⊥
slash_mark [] e none = absurd (omega arith)
slash_mark (x ∷ bytes) e none = none 1 M.Slash (record { some = lit< tt; within = omega arith; spelled = rw e refl })

pub no_comment_fault : {bytes : List ℕ} {fault : Fault} {offset : ℕ} → OpensComment bytes → TokenFault bytes fault offset → ⊥
no_comment_fault c (R.constant f) = omega (arith, at_47 _ c.0, number_fault_class f)
no_comment_fault c (R.character f) = omega (arith, at_47 _ c.0, character_fault_class f)
no_comment_fault c (R.text f) = omega (arith, at_47 _ c.0, at_34 _ f.0)
no_comment_fault {bytes} c (R.byte b) = slash_mark bytes c.0 b.no_mark

-- where a piece stands no fault does
pub no_fault_here : {bytes : List ℕ} {from to : Point} {ts : List Token} {fault : Fault} {offset : ℕ} → IsNext bytes from to ts → FaultHere from.fresh from.names (drop from.at bytes) fault offset → ⊥
no_fault_here {bytes} {from} (P.blank within blank is none) (R.comment opens unclosed) = omega (arith, first_blank bytes from.at blank, at_47 _ opens.0)
no_fault_here {bytes} {from} (P.blank within blank is none) (R.line fresh l f) = omega (arith, first_blank bytes from.at blank, at_35 _ l.begins)
no_fault_here {bytes} {from} (P.blank within blank is none) (R.token no_blank no_line f) = no_blank (subst (λ (x : ℕ). IsBlank x) (sym (here bytes from.at)) blank)
no_fault_here (P.comment {n = n} c is none) (R.comment opens unclosed) = unclosed n c
no_fault_here (P.comment c is none) (R.line fresh l f) = omega (arith, at_47 _ c.slash, at_35 _ l.begins)
no_fault_here (P.comment c is none) (R.token no_blank no_line f) = no_comment_fault (c.slash, c.star) f
no_fault_here (P.line fresh l d is none) (R.comment opens unclosed) = omega (arith, at_35 _ l.begins, at_47 _ opens.0)
no_fault_here {bytes} {from} {to} {ts} {fault} {offset} (P.line fresh l d is none) (R.line f k e) = no_line_fault d (subst (λ (i : ℕ). LineFault from.names (take i (drop from.at bytes)) fault offset) (one_line k l) e)
no_fault_here (P.line fresh l d is none) (R.token no_blank no_line f) = no_line fresh l.begins
no_fault_here (P.token t bare token a b c is none) (R.comment opens unclosed) = bare opens
no_fault_here (P.token t bare token a b c is none) (R.line fresh l f) = (token_starts token).1 (at_35 _ l.begins)
no_fault_here (P.token t bare token a b c is none) (R.token no_blank no_line f) = no_token_fault token f

-- no newline stands between the beginning of a piece and a fault in its place
at_first : (bytes : List ℕ) (k : ℕ) {b : ℕ} → slice_index bytes 0 ≡ b → (b ≡ 10 → ⊥) → k ≡ 0 → get_or bytes k 0 ≡ 10 → ⊥
at_first bytes k {b} is other first e = other (sym is ∙ (ap (λ (i : ℕ). get_or bytes i 0) (sym first) ∙ e))

character_fault_on_line : {bytes : List ℕ} {fault : Fault} {offset : ℕ} → CharacterFault bytes fault offset → (k : ℕ) → k < offset → get_or bytes k 0 ≡ 10 → ⊥
character_fault_on_line (Q.ended q ends) k h e = absurd (omega arith)
character_fault_on_line (Q.cut q cut) k h e = absurd (omega arith)
character_fault_on_line (Q.unclosed q one ends) k h e = absurd (omega arith)
character_fault_on_line {bytes} (Q.empty q same) k h e = at_first bytes k q (λ x. absurd (omega arith)) (omega arith) e
character_fault_on_line {bytes} (Q.bad q bad) k h e = elim (cases_lt k 1) [
  | inl first ↦ at_first bytes k q (λ x. absurd (omega arith)) (omega arith) e
  | inr more ↦ absurd (let one : k ≡ 1 = omega arith in let at : get_or bytes 1 0 ≡ 10 = rw one at e in omega (arith, bad_at bytes bad))
]
character_fault_on_line {bytes} (Q.wide q escape large) k h e = at_first bytes k q (λ x. absurd (omega arith)) (omega arith) e
character_fault_on_line {bytes} (Q.other q one on unclosed) k h e = elim (cases_lt k 1) [
  | inl first ↦ at_first bytes k q (λ x. absurd (omega arith)) (omega arith) e
  | inr more ↦ one_on_line one k more (omega arith) e
]

bad_on_line : (bytes : List ℕ) (at : ℕ) → IsBad (drop at bytes) → get_or bytes (at + 1) 0 ≡ 10 → ⊥
bad_on_line bytes at bad e = bad.goes_on (bad.begins, inl (newline_ends (drop at bytes) 1 (get_or-drop at bytes 1 0 ∙ e)))

inside_fault_on_line : {bytes : List ℕ} {at offset : ℕ} {fault : Fault} → FaultInside bytes at fault offset → (k : ℕ) → at ≤ k → k < offset → get_or bytes k 0 ≡ 10 → ⊥
inside_fault_on_line (Q.ended ends) k from h e = absurd (omega arith)
inside_fault_on_line (Q.cut cut) k from h e = absurd (omega arith)
inside_fault_on_line {bytes} {at} (Q.bad bad is) k from h e = absurd (let same : k ≡ at = omega arith in let here : get_or bytes at 0 ≡ 10 = rw same at e in omega (arith, bad_here bytes at bad))
inside_fault_on_line (Q.wide escape large is) k from h e = absurd (omega arith)
inside_fault_on_line {bytes} {at} (Q.behind_plain p later) k from h e = elim (cases_lt at k) [
  | inl past ↦ inside_fault_on_line later k (omega arith) h e
  | inr first ↦ absurd (let same : k ≡ at = omega arith in p.on_line (newline_ends bytes at (rw same at e)))
]
inside_fault_on_line {bytes} {at} (Q.behind_escape {n = n} escape later) k from h e = elim (cases_lt k (at + n)) [
  | inl low ↦
      let there : get_or (drop at bytes) (k - at) 0 ≡ get_or bytes (at + (k - at)) 0 = get_or-drop at bytes (k - at) 0 in
      let same : at + (k - at) ≡ k = omega arith in
      escape_on_line escape (k - at) (omega arith) (there ∙ (ap (λ (i : ℕ). get_or bytes i 0) same ∙ e))
  | inr high ↦ inside_fault_on_line later k high h e
]
inside_fault_on_line {bytes} {at} (Q.behind_bad bad later) k from h e = elim (cases_lt k (at + 2)) [
  | inl low ↦ elim (cases_lt at k) [
    | inl past ↦ absurd (let same : k ≡ at + 1 = omega arith in bad_on_line bytes at bad (rw same at e))
    | inr first ↦ absurd (let same : k ≡ at = omega arith in let here : get_or bytes at 0 ≡ 10 = rw same at e in omega (arith, bad_here bytes at bad))
  ]
  | inr high ↦ inside_fault_on_line later k high h e
]

token_fault_on_line : {bytes : List ℕ} {fault : Fault} {offset : ℕ} → TokenFault bytes fault offset → (k : ℕ) → k < offset → get_or bytes k 0 ≡ 10 → ⊥
token_fault_on_line (R.constant (N.wide c large)) k h e = absurd (omega arith)
token_fault_on_line (R.constant (N.glued c glued)) k h e = constant_on_line c.constant k h e
token_fault_on_line (R.character f) k h e = character_fault_on_line f k h e
token_fault_on_line {bytes} (R.text f) k h e = elim (cases_lt k 1) [
  | inl first ↦ at_first bytes k f.0 (λ x. absurd (omega arith)) (omega arith) e
  | inr more ↦ inside_fault_on_line f.1 k more h e
]
token_fault_on_line (R.byte b) k h e = absurd (omega arith)

line_fault_within : {names : Names} {line : List ℕ} {fault : Fault} {offset : ℕ} → LineFault names line fault offset → offset ≤ length line
line_fault_within (D.unknown u) = omega arith
line_fault_within (D.other d old not) = omega arith
line_fault_within (D.wide d large) = omega (arith, d.place)

pub fault_on_line : {fresh : Bool} {names : Names} {bytes : List ℕ} {fault : Fault} {offset : ℕ} → FaultHere fresh names bytes fault offset → (k : ℕ) → k < offset → get_or bytes k 0 ≡ 10 → ⊥
fault_on_line (R.comment opens unclosed) k h e = absurd (omega arith)
fault_on_line {fresh} {names} {bytes} (R.line {n = n} fr l f) k h e = l.one_line k (omega (arith, line_fault_within f, length-take-le n bytes l.within)) e
fault_on_line (R.token no_blank no_line f) k h e = token_fault_on_line f k h e
