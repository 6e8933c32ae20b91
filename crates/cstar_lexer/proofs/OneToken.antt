-- One token stands at a place, and no fault in its place.
use Rattle.std.proofs.Common.{◌≡◌, ℕ, ◌+◌, List, arith, sym, ap, ◌∙◌, subst}
use Rattle.std.specs.Prelude.{slice_index}
use Rattle.cstar_base.specs.declared.faults.Fault.{Fault}
use Rattle.cstar_tree.specs.declared.token.Kind.{Kind}
use Rattle.cstar_lexer.specs.Names.{Names}
use Rattle.cstar_lexer.specs.declared.number.Number.{Number}
use Rattle.cstar_lexer.specs.Bytes.{LineEnds}
use Rattle.cstar_lexer.specs.Numbers.{IsNumber, NumberFault, is_glued}
use Rattle.cstar_lexer.specs.Numbers as N
use Rattle.cstar_lexer.specs.Quoted.{CharacterFault, FaultInside, IsCharacter, IsInside}
use Rattle.cstar_lexer.specs.Quoted as Q
use Rattle.cstar_lexer.specs.Refusals.{TokenFault}
use Rattle.cstar_lexer.specs.Refusals as R
use Rattle.cstar_lexer.specs.Tokens.{IsToken}
use Rattle.cstar_lexer.specs.Tokens as T
use Rattle.cstar_lexer.proofs.CharacterLemmas.{one_one, only_other}
use Rattle.cstar_lexer.proofs.FirstBytes.{at_34, at_39, character_fault_class, class_of, figure_first, letter_class, mark_class, number_fault_class, numeral_class}
use Rattle.cstar_lexer.proofs.Longest.{one_constant}
use Rattle.cstar_lexer.proofs.QuotedLemmas.{not_end, one_escape}
use Rattle.cstar_lexer.proofs.TextLemmas.{behind_escape, behind_plain, escape_here, no_fault_closed}

-- where a text closes is one place
pub one_inside : {bytes : List ℕ} {at end other : ℕ} {word rest : List ℕ} → IsInside bytes at end word → IsInside bytes at other rest → end ≡ other
one_inside (Q.closes q is a) (Q.closes p same b) = is ∙ sym same
one_inside (Q.closes q is a) (Q.plain p more b) = absurd (p.no_quote q)
one_inside {bytes} {at} (Q.closes q is a) (Q.escape e small more b) = absurd (omega (arith, escape_here bytes at e, q))
one_inside (Q.plain p more a) (Q.closes q is b) = absurd (p.no_quote q)
one_inside (Q.plain p more a) (Q.plain q other b) = one_inside more other
one_inside {bytes} {at} (Q.plain p more a) (Q.escape e small other b) = absurd (p.no_escape (escape_here bytes at e))
one_inside {bytes} {at} (Q.escape e small more a) (Q.closes q is b) = absurd (omega (arith, escape_here bytes at e, q))
one_inside {bytes} {at} (Q.escape e small more a) (Q.plain p other b) = absurd (p.no_escape (escape_here bytes at e))
one_inside {bytes} {at} {end} {other} (Q.escape e small more a) (Q.escape {rest = rest} f few next b) = one_inside more (subst (λ (i : ℕ). IsInside bytes (at + i) other rest) (sym (one_escape e f).0) next)

pub no_fault_inside : {bytes : List ℕ} {at end offset : ℕ} {word : List ℕ} {fault : Fault} → IsInside bytes at end word → FaultInside bytes at fault offset → ⊥
no_fault_inside (Q.closes q is a) f = no_fault_closed q f
no_fault_inside (Q.plain p more a) f = no_fault_inside more (behind_plain p f)
no_fault_inside (Q.escape e small more a) f = no_fault_inside more (behind_escape e small f)

pub token_class : (names : Names) (bytes : List ℕ) {n : ℕ} {kind : Kind} → IsToken names bytes n kind → ℕ
token_class names bytes (T.word w named) = 0
token_class names bytes (T.constant c) = 1
token_class names bytes (T.character c) = 2
token_class names bytes (T.text t) = 3
token_class names bytes (T.mark m) = 6

pub first_class : {names : Names} {bytes : List ℕ} {n : ℕ} {kind : Kind} → (t : IsToken names bytes n kind) → class_of (slice_index bytes 0) ≡ token_class names bytes t
unfolding token_class
first_class (T.word w named) = letter_class _ w.begins
first_class (T.constant c) = numeral_class c.constant.constant.numeral
first_class (T.character c) = at_39 _ c.begins
first_class (T.text t) = at_34 _ t.0
first_class {names} {bytes} {n} (T.mark {mark = mark} m) = mark_class bytes n mark m.is

pub one_token : {names : Names} {bytes : List ℕ} {n m : ℕ} {kind other : Kind} → IsToken names bytes n kind → IsToken names bytes m other → n ≡ m
unfolding token_class
one_token (T.word v a) (T.word w b) = v.run ∙ sym w.run
one_token (T.constant c) (T.constant d) = (one_constant c.constant d.constant).0
one_token (T.character c) (T.character d) = let e = one_one c.one d.one in omega (arith, e.0, c.long, d.long)
one_token (T.text t) (T.text u) = one_inside t.1 u.1
one_token (T.mark {mark = a} k) (T.mark {mark = b} l) = omega (arith, k.longest _ b l.is, l.longest _ a k.is)
one_token s t = absurd (omega (arith, first_class s, first_class t))

-- a token begins with no blank and no `#`
pub token_starts : {names : Names} {bytes : List ℕ} {n : ℕ} {kind : Kind} → IsToken names bytes n kind → (class_of (slice_index bytes 0) ≡ 4 → ⊥) × (class_of (slice_index bytes 0) ≡ 5 → ⊥)
unfolding token_class
token_starts (T.word w named) = (λ e. omega (arith, letter_class _ w.begins), λ e. omega (arith, letter_class _ w.begins))
token_starts t = (λ e. omega (arith, first_class t), λ e. omega (arith, first_class t))

no_number_fault : {bytes : List ℕ} {n : ℕ} {number : Number} {fault : Fault} {offset : ℕ} → IsNumber bytes n number → NumberFault bytes fault offset → ⊥
no_number_fault c (N.wide d large) = let e = one_constant c.constant d in omega (arith, e.1, c.stands_for.0)
no_number_fault {bytes} c (N.glued d glued) = let e = one_constant c.constant d in cc (ap (λ (i : ℕ). is_glued (slice_index bytes i)) e.0, c.apart)

no_character_fault : {bytes : List ℕ} {n : ℕ} {number : Number} {fault : Fault} {offset : ℕ} → IsCharacter bytes n number → CharacterFault bytes fault offset → ⊥
no_character_fault {bytes} c f =
    let on : LineEnds bytes (c.inner + 1) → ⊥ = not_end bytes (c.inner + 1) 39 c.closes (λ e. absurd (omega arith)) (λ e. absurd (omega arith)) in
    (only_other c.one c.small on f).2 c.closes

-- where a token stands no fault does
pub no_token_fault : {names : Names} {bytes : List ℕ} {n offset : ℕ} {kind : Kind} {fault : Fault} → IsToken names bytes n kind → TokenFault bytes fault offset → ⊥
unfolding token_class
no_token_fault (T.constant c) (R.constant f) = no_number_fault c f
no_token_fault (T.character c) (R.character f) = no_character_fault c f
no_token_fault (T.text t) (R.text f) = no_fault_inside t.1 f.1
no_token_fault (T.word w named) (R.byte b) = let e = b.no_word in cc (w.begins)
no_token_fault (T.constant c) (R.byte b) = let e = figure_first c.constant.constant.numeral in cc (b.no_constant)
no_token_fault (T.character c) (R.byte b) = b.no_character c.begins
no_token_fault (T.text t) (R.byte b) = b.no_text t.0
no_token_fault (T.mark {mark = mark} m) (R.byte b) = b.no_mark _ mark m.is
no_token_fault t (R.constant f) = absurd (omega (arith, first_class t, number_fault_class f))
no_token_fault t (R.character f) = absurd (omega (arith, first_class t, character_fault_class f))
no_token_fault t (R.text f) = absurd (omega (arith, first_class t, at_34 _ f.0))
