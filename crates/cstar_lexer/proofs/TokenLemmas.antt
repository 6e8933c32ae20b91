-- A token has a byte, and lies on one line of its text.
use Rattle.std.proofs.Common.{◌≡◌, ℕ, ◌+◌, ◌-◌, ◌<◌, ◌≤◌, ◌==◌, inl, inr, Bool, true, false, not, List, length, take, drop, get_or, get_or-drop, arith, refl, ap, ◌∙◌, subst}
use Rattle.std.specs.Prelude.{slice_index}
use Rattle.std.specs.List.{list_all}
use Rattle.std.proofs.lemmas.Bool.{cases_lt, cases_order}
use Rattle.std.proofs.lemmas.List.{get_or-take, get_or_default, length-take-le}
use Rattle.std.proofs.lemmas.List.Folds.{list_all_at}
use Rattle.std.proofs.lemmas.List.Sums.{prefix_len-le-length, prefix_len_passes}
use Rattle.cstar_tree.specs.declared.token.Kind.{Kind}
use Rattle.cstar_tree.specs.declared.token.Mark.{Mark}
use Rattle.cstar_tree.specs.declared.token.Mark.TheVariants as M
use Rattle.cstar_lexer.specs.Bytes.{LineEnds, goes_on, is_figure, is_letter}
use Rattle.cstar_lexer.specs.Constants.{IsConstant, IsSuffix, digit_of, is_digit, is_l, is_u, is_x}
use Rattle.cstar_lexer.specs.Constants as C
use Rattle.cstar_lexer.specs.Marks.{IsLongestMark, punctuator_bytes}
use Rattle.cstar_lexer.specs.Names.{Names}
use Rattle.cstar_lexer.specs.Quoted.{IsCharacter, IsEscape, IsInside, IsOne}
use Rattle.cstar_lexer.specs.Quoted as Q
use Rattle.cstar_lexer.specs.Tokens.{IsToken}
use Rattle.cstar_lexer.specs.Tokens as T
use Rattle.cstar_lexer.proofs.DirectiveLemmas.{word_some}
use Rattle.cstar_lexer.proofs.Longest.{byte_within, inner_bytes, is_inner, some_constant, within_constant}
use Rattle.cstar_lexer.proofs.QuotedLemmas.{escape_on_line}

pub newline_ends : (bytes : List ℕ) (k : ℕ) → get_or bytes k 0 ≡ 10 → LineEnds bytes k
newline_ends bytes k e = let within : k < length bytes = byte_within bytes k (λ z. absurd (omega arith)) in get_or_default bytes k 10 0 within ∙ e

-- words
goes_on_line : (x : ℕ) → goes_on x ≡ true → x ≡ 10 → ⊥
unfolding goes_on is_letter is_figure
goes_on_line x h e = absurd (let f = rw e at h in cc)

-- constants
inner_on_line : (x : ℕ) → is_inner x ≡ true → x ≡ 10 → ⊥
unfolding is_inner is_digit is_x digit_of
inner_on_line x h e = absurd (let f = rw e at h in cc)

u_on_line : (x : ℕ) → is_u x ≡ true → x ≡ 10 → ⊥
unfolding is_u
u_on_line x h e = absurd (let f = rw e at h in cc)

l_on_line : (x : ℕ) → is_l x ≡ true → x ≡ 10 → ⊥
unfolding is_l
l_on_line x h e = absurd (let f = rw e at h in cc)

two_bytes : (bytes : List ℕ) (k : ℕ) → k < 2 → (get_or bytes 0 0 ≡ 10 → ⊥) → (get_or bytes 1 0 ≡ 10 → ⊥) → get_or bytes k 0 ≡ 10 → ⊥
two_bytes bytes k h first second e = elim (cases_order k 0) [
  | inl same ↦ first (rw same at e)
  | inr apart ↦ let one : k ≡ 1 = elim apart [ inl less ↦ absurd (omega arith) | inr more ↦ omega arith ] in second (rw one at e)
]

suffix_on_line : {bytes : List ℕ} {n : ℕ} {s : Bool} → IsSuffix bytes n s → (k : ℕ) → k < n → get_or bytes k 0 ≡ 10 → ⊥
suffix_on_line C.none k h e = absurd (omega arith)
suffix_on_line (C.u a) k h e = let first : k ≡ 0 = omega arith in u_on_line _ a (rw first at e)
suffix_on_line (C.l a) k h e = let first : k ≡ 0 = omega arith in l_on_line _ a (rw first at e)
suffix_on_line {bytes} (C.ul a b) k h e = two_bytes bytes k h (u_on_line _ a) (l_on_line _ b) e
suffix_on_line {bytes} (C.lu a b) k h e = two_bytes bytes k h (l_on_line _ a) (u_on_line _ b) e

pub constant_on_line : {bytes : List ℕ} {n v : ℕ} {s : Bool} → IsConstant bytes n v s → (k : ℕ) → k < n → get_or bytes k 0 ≡ 10 → ⊥
constant_on_line {bytes} c k h e = elim (cases_lt k c.digits) [
  | inl low ↦ inner_on_line _ (inner_bytes c.numeral k low) e
  | inr high ↦
      let at : get_or (drop c.digits bytes) (k - c.digits) 0 ≡ get_or bytes (c.digits + (k - c.digits)) 0 = get_or-drop c.digits bytes (k - c.digits) 0 in
      let same : c.digits + (k - c.digits) ≡ k = omega arith in
      suffix_on_line c.suffix (k - c.digits) (omega (arith, c.whole)) (at ∙ (ap (λ (i : ℕ). get_or bytes i 0) same ∙ e))
]

-- character constants
pub one_on_line : {bytes : List ℕ} {n v : ℕ} → IsOne bytes n v → (k : ℕ) → 1 ≤ k → k ≤ n → get_or bytes k 0 ≡ 10 → ⊥
one_on_line {bytes} (Q.plain p long is) k some h e = let one : k ≡ 1 = omega arith in p.on_line (newline_ends bytes 1 (rw one at e))
one_on_line {bytes} (Q.escape escape) k some h e =
    let at : get_or (drop 1 bytes) (k - 1) 0 ≡ get_or bytes (1 + (k - 1)) 0 = get_or-drop 1 bytes (k - 1) 0 in
    let same : 1 + (k - 1) ≡ k = omega arith in
    escape_on_line escape (k - 1) (omega arith) (at ∙ (ap (λ (i : ℕ). get_or bytes i 0) same ∙ e))

character_on_line : {bytes : List ℕ} {n : ℕ} → (inner v : ℕ) → slice_index bytes 0 ≡ 39 → IsOne bytes inner v → slice_index bytes (inner + 1) ≡ 39 → n ≡ inner + 2 → (k : ℕ) → k < n → get_or bytes k 0 ≡ 10 → ⊥
character_on_line {bytes} inner v begins one closes long k h e = elim (cases_order k 0) [
  | inl first ↦ absurd (let f = rw first at e in omega arith)
  | inr apart ↦ elim (cases_order k (inner + 1)) [
    | inl last ↦ absurd (let f = rw last at e in omega arith)
    | inr before ↦ one_on_line one k (elim apart [ inl less ↦ absurd (omega arith) | inr more ↦ omega arith ]) (elim before [ inl less ↦ omega arith | inr more ↦ absurd (omega arith) ]) e
  ]
]

-- texts
pub inside_long : {bytes : List ℕ} {at end : ℕ} {word : List ℕ} → IsInside bytes at end word → (at < end) × (end ≤ length bytes)
inside_long {bytes} {at} (Q.closes closes is empty) = let within : at < length bytes = byte_within bytes at (λ z. absurd (omega arith)) in (omega arith, omega arith)
inside_long (Q.plain p more is) = let rest = inside_long more in (omega (arith, rest.0), rest.1)
inside_long (Q.escape escape small more is) = let rest = inside_long more in (omega (arith, rest.0), rest.1)

pub inside_on_line : {bytes : List ℕ} {at end : ℕ} {word : List ℕ} → IsInside bytes at end word → (k : ℕ) → at ≤ k → k < end → get_or bytes k 0 ≡ 10 → ⊥
inside_on_line {bytes} {at} (Q.closes closes is empty) k from h e = absurd (let same : k ≡ at = omega arith in let f = rw same at e in omega arith)
inside_on_line {bytes} {at} (Q.plain p more is) k from h e = elim (cases_order k at) [
  | inl same ↦ p.on_line (newline_ends bytes at (rw same at e))
  | inr apart ↦ inside_on_line more k (elim apart [ inl less ↦ absurd (omega arith) | inr past ↦ omega arith ]) h e
]
inside_on_line {bytes} {at} (Q.escape {n = n} escape small more is) k from h e = elim (cases_lt k (at + n)) [
  | inl low ↦
      let here : get_or (drop at bytes) (k - at) 0 ≡ get_or bytes (at + (k - at)) 0 = get_or-drop at bytes (k - at) 0 in
      let same : at + (k - at) ≡ k = omega arith in
      escape_on_line escape (k - at) (omega arith) (here ∙ (ap (λ (i : ℕ). get_or bytes i 0) same ∙ e))
  | inr high ↦ inside_on_line more k high h e
]

-- punctuators
marks_on_line : (mark : Mark) → list_all (λ x. not (x == 10)) (punctuator_bytes mark) ≡ true
marks_on_line M.LeftBrace = refl
marks_on_line _ = refl

mark_on_line : {bytes : List ℕ} {n : ℕ} {mark : Mark} → IsLongestMark bytes n mark → (k : ℕ) → k < n → get_or bytes k 0 ≡ 10 → ⊥
mark_on_line {bytes} {n} {mark} m k h e =
    let all = subst (λ (xs : List ℕ). list_all (λ x. not (x == 10)) xs ≡ true) m.is.spelled (marks_on_line mark) in
    let here : get_or (take n bytes) k 0 ≡ 10 = get_or-take n bytes k 0 h ∙ e in
    let long : length (take n bytes) ≡ n = length-take-le n bytes m.is.within in
    let none : list_all (λ x. not (x == 10)) (take n bytes) ≡ false = list_all_at (λ x. not (x == 10)) (take n bytes) k 0 (omega arith) (rw here refl) in
    cc

pub token_on_line : {names : Names} {bytes : List ℕ} {n : ℕ} {kind : Kind} → IsToken names bytes n kind → (k : ℕ) → k < n → get_or bytes k 0 ≡ 10 → ⊥
token_on_line {names} {bytes} (T.word w named) k h e = goes_on_line _ (prefix_len_passes goes_on bytes k 0 (omega (arith, w.run))) e
token_on_line (T.constant c) k h e = constant_on_line c.constant.constant k h e
token_on_line (T.character c) k h e = character_on_line c.inner c.byte c.begins c.one c.closes c.long k h e
token_on_line {names} {bytes} (T.text t) k h e = elim (cases_order k 0) [
  | inl first ↦ absurd (let f = rw first at e in omega (arith, t.0))
  | inr apart ↦ inside_on_line t.1 k (elim apart [ inl less ↦ absurd (omega arith) | inr more ↦ omega arith ]) h e
]
token_on_line (T.mark m) k h e = mark_on_line m k h e

pub token_some : {names : Names} {bytes : List ℕ} {n : ℕ} {kind : Kind} → IsToken names bytes n kind → 0 < n
token_some {names} {bytes} (T.word w named) = omega (arith, w.run, word_some bytes w.begins)
token_some (T.constant c) = some_constant c.constant.constant
token_some (T.character c) = omega (arith, c.long)
token_some (T.text t) = let long = inside_long t.1 in omega (arith, long.0)
token_some (T.mark m) = m.is.some

pub token_within : {names : Names} {bytes : List ℕ} {n : ℕ} {kind : Kind} → IsToken names bytes n kind → n ≤ length bytes
token_within {names} {bytes} (T.word w named) = omega (arith, w.run, prefix_len-le-length goes_on bytes)
token_within (T.constant c) = within_constant c.constant.constant
token_within {names} {bytes} (T.character c) = let within : c.inner + 1 < length bytes = byte_within bytes (c.inner + 1) (λ z. absurd (omega (arith, c.closes))) in omega (arith, c.long)
token_within (T.text t) = (inside_long t.1).1
token_within (T.mark m) = m.is.within
